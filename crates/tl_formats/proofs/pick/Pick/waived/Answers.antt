use Rattle.std.proofs.Common.{Vec, sym, ap, ◌∙◌}
use Rattle.tl_beats.specs.declared.Row.{Row}
use Rattle.tl_formats.specs.Picks.{is_waived}
use Rattle.tl_formats.proofs.Kept.{kept, passed}
use Rattle.tl_formats.proofs.pick.Pick.waived.Goals as goal
use Rattle.tl_formats.proofs.pick.Pick.waived.Goals.{then-is_waived+in_ok-push, else-is_waived}

pub loop-row-preserved : goal.loop-row-preserved
loop-row-preserved c =
    elim c.if-is_waived.branch [
      | then-is_waived+in_ok-push w ↦ kept (is_waived c.args.self.now) c.args.rows.now c.loop-row.row-index _ c.if-is_waived.waived.items c.loop-row.waived.items c.loop-row-test.true c.loop-row.invariant
          (sym c.is_waived.ensures ∙ w.if-is_waived.true) (ap (λ (v : Vec Row _). v.items) w.waived-is ∙ w.in_ok-push.ensures.items)
      | else-is_waived w ↦ passed (is_waived c.args.self.now) c.args.rows.now c.loop-row.row-index _ c.if-is_waived.waived.items c.loop-row.waived.items c.loop-row-test.true c.loop-row.invariant
          (sym c.is_waived.ensures ∙ w.if-is_waived.false) (ap (λ (v : Vec Row _). v.items) w.waived-is)
    ]
