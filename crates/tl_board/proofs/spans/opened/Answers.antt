use Rattle.std.proofs.Common.{◌≡◌, ap, ◌∙◌, List}
use Rattle.std.specs.Arc.{arc_value}
use Rattle.std.specs.Ordering.{nat_cmp}
use Rattle.std.specs.BTreeMap.{insert_entry}
use Rattle.tl_beats.specs.declared.Row.{Row}
use Rattle.tl_pieces.specs.Pieces.{Board, with_openings}
use Rattle.tl_check.specs.declared.state.SpanState.{SpanState}
use Rattle.tl_board.proofs.OpenLemmas.{one_more}
use Rattle.tl_board.proofs.spans.opened.Goals as goal

pub loop-manager-preserved : goal.loop-manager-preserved
loop-manager-preserved c =
    let old : Board SpanState (List Row) = c.loop-manager.map in
    let shared : arc_value c.in_ok-new.field-0 ≡ c.in_ok-state.state = c.in_ok-new.ensures.ok in (
      one_more c.args.topo.now c.loop-manager.manager old c.add_owner.new.self c.in_ok-state.state c.loop-manager.invariant.0 c.in_ok-state.ensures
          (c.in_ok-add_owner.ensures.ok ∙ ap (λ (s : SpanState). with_openings old (insert_entry nat_cmp old.openings c.loop-manager.manager s)) shared),
      ap (λ (b : Board SpanState (List Row)). b.pieces) c.in_ok-add_owner.ensures.ok ∙ c.loop-manager.invariant.1,
    )
