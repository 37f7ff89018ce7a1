use Rattle.std.proofs.Common.{◌++◌, Vec, map, sym, ap, ◌∙◌}
use Rattle.std.specs.Prelude.{filter}
use Rattle.tl_rows.specs.declared.telling.Told.{Told}
use Rattle.tl_rows.specs.States.{manager_with}
use Rattle.tl_rows.specs.Telling.{is_of, told_of}
use Rattle.tl_rows.proofs.TellingLaws.{row_told, row_passed, take_all}
use Rattle.tl_rows.proofs.telling.tell_beat.Goals as goal
use Rattle.tl_rows.proofs.telling.tell_beat.Goals.{then-is_of+in_ok-push, else-is_of}

pub loop-row-preserved : goal.loop-row-preserved
loop-row-preserved c exponent before stands =
    let m = manager_with c.args.topo.now exponent c.args.clients.now in
    let p = c.args.place.now in
    let known = c.loop-row.invariant exponent before stands in
    elim c.if-is_of.branch [
      | then-is_of+in_ok-push w ↦ ap (λ (v : Vec Told _). v.items) w.told-is ∙ w.in_ok-push.ensures.items
          ∙ row_told (told_of m before p) (is_of p) c.args.told.now.items c.loop-row.told.items c.args.rows.now c.loop-row.row-index _ c.loop-row-test.true known _ (sym c.is_of.ensures ∙ w.if-is_of.true)
          (ap (λ r. record { row = _; place = _; reason = r }) (w.reason-reason.ensures exponent before stands))
      | else-is_of w ↦ ap (λ (v : Vec Told _). v.items) w.told-is
          ∙ row_passed (told_of m before p) (is_of p) c.args.told.now.items c.loop-row.told.items c.args.rows.now c.loop-row.row-index _ c.loop-row-test.true known (sym c.is_of.ensures ∙ w.if-is_of.false)
    ]

pub returns : goal.returns
returns c exponent before stands =
    c.loop-row.invariant exponent before stands
    ∙ ap (λ rows. c.args.told.now.items ++ map (told_of (manager_with c.args.topo.now exponent c.args.clients.now) before c.args.place.now) (filter (is_of c.args.place.now) rows))
    (take_all c.args.rows.now c.loop-row.row-index c.loop-row-test.false)
