use Rattle.std.proofs.Common.{◌≡◌, ◌+◌, ◌≤◌, take, drop, length, sym, ap, ◌∙◌, arith}
use Rattle.std.specs.Prelude.{OnErr}
use Rattle.std.proofs.lemmas.Grind.{common_steps}
use Rattle.std.proofs.lemmas.List.{take-append-drop, take_all}
use Rattle.std.proofs.lemmas.Result.{err_from_is_err_and}
use Rattle.tl_definitions.specs.Passes.{rows_judged, left_after}
use Rattle.tl_definitions.specs.Tallies.{watching, kept_tally}
use Rattle.tl_monitor.specs.Held.{Held}
use Rattle.tl_monitor.proofs.CheckLaws.{held_more, found_more, is_pass, is_kept}
use Rattle.tl_monitor.proofs.check.monitor_check.Goals as goal
use Rattle.tl_monitor.proofs.check.monitor_check.Goals.{then-see+in_ok-push, else-see}

-- the beats up to this one were seen
pub returns-in_err-push-clause-err : goal.returns-in_err-push-clause-err
returns-in_err-push-clause-err g c =
    let i = c.loop-at.at-index in
    let beats = c.args.beats.now in
    let start = kept_tally c.args.monitor.now.watch c.args.tally in
    let p = err_from_is_err_and c.from_residual.result c.from_residual.ensures.1 in
    rw p.1 (
      take (i + 1) beats,
      drop (i + 1) beats,
      sym (take-append-drop (i + 1) beats),
      held_more c.args.number c.args.monitor.now c.loop-at.monitor c.see.new.self start beats i _ c.loop-at-test.true c.loop-at.invariant.held c.see.ensures.counts,
    )

pub loop-at-preserved : goal.loop-at-preserved
loop-at-preserved g c =
    let i = c.loop-at.at-index in
    let beats = c.args.beats.now in
    let start = kept_tally c.args.monitor.now.watch c.args.tally in
    record {
      held = held_more c.args.number c.args.monitor.now c.loop-at.monitor c.see.new.self start beats i _ c.loop-at-test.true c.loop-at.invariant.held c.see.ensures.counts;
      found = found_more c.args.number c.args.monitor.now c.loop-at.monitor c.see.new.self start beats i _ c.loop-at-test.true c.loop-at.invariant.held
          c.loop-at.rows.items c.if-see.rows.items c.see.result c.loop-at.invariant.found c.see.ensures.verdict
          (elim c.if-see.branch [ then-see+in_ok-push w ↦ grind (arith, common_steps) | else-see w ↦ grind (arith, common_steps) ]);
    }

pub returns-clause-pass : goal.returns-clause-pass
returns-clause-pass g c =
    let all = take_all c.loop-at.at-index c.args.beats.now c.loop-at-test.false in
    let w = c.args.monitor.now.watch in
    is_pass c.args.number w (kept_tally w c.args.tally) c.args.beats.now c.loop-at.rows.items c.tally.result c.requires.rises c.requires.link
    (c.loop-at.invariant.found ∙ ap (rows_judged (watching c.args.number w) (kept_tally w c.args.tally)) all)
    (c.tally.ensures ∙ ap (λ (m : Held). m.tally) c.loop-at.invariant.held ∙ ap (left_after (watching c.args.number w) (kept_tally w c.args.tally)) all)

pub returns-clause-kept : goal.returns-clause-kept
returns-clause-kept g c =
    let w = c.args.monitor.now.watch in
    let left = c.tally.ensures ∙ ap (λ (m : Held). m.tally) c.loop-at.invariant.held in
    ap (kept_tally w) left ∙ is_kept c.args.number w c.args.tally (take c.loop-at.at-index c.args.beats.now) ∙ sym left
