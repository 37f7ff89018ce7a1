use Rattle.std.proofs.Common.{Vec, sym, ap, ◌∙◌}
use Rattle.tl_formats.specs.declared.pick.Waiver.{Waiver}
use Rattle.tl_formats.specs.Picks.{is_unused}
use Rattle.tl_formats.proofs.Kept.{kept, passed}
use Rattle.tl_formats.proofs.pick.unused_of.Goals as goal
use Rattle.tl_formats.proofs.pick.unused_of.Goals.{then-is_unused+in_ok-push, else-is_unused}

pub loop-waiver-preserved : goal.loop-waiver-preserved
loop-waiver-preserved c =
    elim c.if-is_unused.branch [
      | then-is_unused+in_ok-push w ↦ kept (is_unused c.args.rows.now) c.args.waivers.now c.loop-waiver.waiver-index _ c.if-is_unused.unused.items c.loop-waiver.unused.items c.loop-waiver-test.true c.loop-waiver.invariant
          (sym c.is_unused.ensures ∙ w.if-is_unused.true) (ap (λ (v : Vec Waiver _). v.items) w.unused-is ∙ w.in_ok-push.ensures.items)
      | else-is_unused w ↦ passed (is_unused c.args.rows.now) c.args.waivers.now c.loop-waiver.waiver-index _ c.if-is_unused.unused.items c.loop-waiver.unused.items c.loop-waiver-test.true c.loop-waiver.invariant
          (sym c.is_unused.ensures ∙ w.if-is_unused.false) (ap (λ (v : Vec Waiver _). v.items) w.unused-is)
    ]
