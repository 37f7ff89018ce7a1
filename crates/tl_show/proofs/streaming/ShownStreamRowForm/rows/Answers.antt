use Rattle.std.proofs.Common.{◌++◌, [], ap, sym, subst, ◌∙◌}
use Rattle.std.specs.Prelude.{string_bytes}
use Rattle.std.specs.List.{flat_map}
use Rattle.std.proofs.lemmas.List.{take_all}
use Rattle.tl_check.specs.Notes.{IsNoted}
use Rattle.tl_check.specs.Output.{row_text}
use Rattle.tl_check.proofs.NoteLaws.{noted_nil}
use Rattle.tl_show.proofs.Noted.{rows_more}
use Rattle.tl_show.proofs.streaming.ShownStreamRowForm.rows.Goals as goal

pub loop-index-init : goal.loop-index-init
loop-index-init c = subst (IsNoted []) (sym c.new-text.ensures.bytes) noted_nil

pub loop-index-preserved : goal.loop-index-preserved
loop-index-preserved c =
    let text = string_bytes c.loop-index.text in
    subst (IsNoted _) (sym (c.in_ok-push_str.ensures.bytes ∙ ap (λ t. text ++ t) c.as_str.ensures.value))
    (rows_more c.args.topo.now c.args.rows.now c.loop-index.index _ text (string_bytes c.in_ok-own.own) c.loop-index-test.true c.loop-index.invariant c.in_ok-own.ensures)

pub returns : goal.returns
returns c = subst (λ rs. IsNoted (flat_map (row_text c.args.topo.now) rs) (string_bytes c.loop-index.text)) (take_all c.loop-index.index c.args.rows.now c.loop-index-test.false) c.loop-index.invariant
