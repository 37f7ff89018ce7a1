use Rattle.std.proofs.Common.{◌≡◌, ◌<◌, Vec, sym, ap, subst, ◌∙◌}
use Rattle.std.specs.Prelude.{filter}
use Rattle.std.specs.List.{All}
use Rattle.std.proofs.lemmas.List.Elements.{All-filter}
use Rattle.tl_beats.specs.declared.Row.{Row}
use Rattle.tl_formats.specs.Picks.{is_left}
use Rattle.tl_formats.proofs.Kept.{kept, passed, whole}
use Rattle.tl_formats.proofs.pick.Pick.left.Goals as goal
use Rattle.tl_formats.proofs.pick.Pick.left.Goals.{then-is_left+in_ok-push, else-is_left}

pub loop-row-preserved : goal.loop-row-preserved
loop-row-preserved c =
    elim c.if-is_left.branch [
      | then-is_left+in_ok-push w ↦ kept (is_left c.args.self.now) c.args.rows.now c.loop-row.row-index _ c.if-is_left.left.items c.loop-row.left.items c.loop-row-test.true c.loop-row.invariant
          (sym c.is_left.ensures ∙ w.if-is_left.true) (ap (λ (v : Vec Row _). v.items) w.left-is ∙ w.in_ok-push.ensures.items)
      | else-is_left w ↦ passed (is_left c.args.self.now) c.args.rows.now c.loop-row.row-index _ c.if-is_left.left.items c.loop-row.left.items c.loop-row-test.true c.loop-row.invariant
          (sym c.is_left.ensures ∙ w.if-is_left.false) (ap (λ (v : Vec Row _). v.items) w.left-is)
    ]

pub returns-clause-links : goal.returns-clause-links
returns-clause-links c count all =
    let is : c.loop-row.left.items ≡ filter (is_left c.args.self.now) c.args.rows.now = whole (is_left c.args.self.now) c.args.rows.now c.loop-row.row-index c.loop-row.left.items c.loop-row-test.false c.loop-row.invariant in
    subst (All (λ row. row.link < count)) (sym is) (All-filter (is_left c.args.self.now) (λ row. row.link < count) c.args.rows.now all)
