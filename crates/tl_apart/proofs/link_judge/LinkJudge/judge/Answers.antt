use Rattle.std.proofs.Common.{◌+◌, ◌-◌, ◌≤◌, length, take, drop, refl, sym, ap, subst, arith, length-drop}
use Rattle.std.specs.Prelude.{min}
use Rattle.tl_definitions.specs.Positions.{placed_beats, placed_from}
use Rattle.tl_capture.specs.Present.{recorded}
use Rattle.tl_capture.proofs.CursorLemmas.{from_on}
use Rattle.tl_apart.specs.LinkJudge.{HasRun}
use Rattle.tl_apart.proofs.FragmentLaws.{begins, goes_on, rows_end, shows_end, events_end, one_more, no_more}
use Rattle.tl_apart.proofs.RunLaws.{goes_past, after_run}
use Rattle.tl_apart.proofs.link_judge.LinkJudge.judge.Goals as goal

pub loop-place-init : goal.loop-place-init
loop-place-init c =
    let f = c.args.fragment.now in
    record {
      within = omega arith;
      formed = c.requires.formed;
      judged = λ m s serves shows. begins m s c.args.terms.now.exponent c.args.self.now c.args.found.now (placed_beats (recorded c.args.link f)) _ shows
          (ap (placed_from c.args.link f.number 2) c.beats-beats.ensures.exact);
    }

pub loop-place-preserved : goal.loop-place-preserved
loop-place-preserved c =
    let beats = c.beats-beats.result.now in
    let k = c.loop-place.place in
    let n = c.run-place.result in
    let few = c.run-place.ensures.within in
    let taken = ap length (from_on (k + 1) beats) in
    let dropped = length-drop (k + 1) beats in
    let below = c.loop-place-test.true in
    record {
      within = omega (arith, few, taken, dropped, below);
      formed = c.run-place.ensures.formed;
      judged = λ m s serves shows.
          let f = c.args.fragment.now in
          let exponent = c.args.terms.now.exponent in
          let on = c.loop-place.invariant.judged m s serves shows in
          let own = c.in_ok-step.ensures in
          let one = goes_on m s exponent c.loop-place.self c.step.new.self c.args.found.now c.loop-place.found c.step.new.found (placed_beats (recorded c.args.link f)) _ _ _ on
          (one_more c.args.link f.number c.number.result (k + 2) beats k _ below c.number.ensures)
          (own.rows m on.here serves on.shows) (own.next m on.here serves on.shows) (own.events m on.here serves on.shows) in
          let ran = subst (λ bs. HasRun m one.here exponent c.run-place.new.self (placed_from c.args.link f.number (k + 2 + 1) (take n bs))) (from_on (k + 1) beats)
          (c.run-place.ensures.run m one.here exponent c.args.link f.number (k + 2 + 1) one.shows) in
          goes_past m s exponent c.step.new.self c.run-place.new.self c.args.found.now c.step.new.found (placed_beats (recorded c.args.link f)) _ _ _ one
          (after_run c.args.link f.number k n beats) ran;
    }

pub returns-clause-rows : goal.returns-clause-rows
returns-clause-rows c m s serves shows =
    let f = c.args.fragment.now in
    let past = c.loop-place-test.false in
    rows_end m s c.args.terms.now.exponent c.loop-place.self c.args.found.now c.loop-place.found (placed_beats (recorded c.args.link f)) _ (c.loop-place.invariant.judged m s serves shows)
    (no_more c.args.link f.number (c.loop-place.place + 2) c.beats-beats.result.now c.loop-place.place (omega (arith, past)))

pub returns-clause-next : goal.returns-clause-next
returns-clause-next c m s serves shows =
    let f = c.args.fragment.now in
    let past = c.loop-place-test.false in
    shows_end m s c.args.terms.now.exponent c.loop-place.self c.args.found.now c.loop-place.found (placed_beats (recorded c.args.link f)) _ (c.loop-place.invariant.judged m s serves shows)
    (no_more c.args.link f.number (c.loop-place.place + 2) c.beats-beats.result.now c.loop-place.place (omega (arith, past)))

pub returns-clause-events : goal.returns-clause-events
returns-clause-events c m s serves shows =
    let f = c.args.fragment.now in
    let past = c.loop-place-test.false in
    events_end m s c.args.terms.now.exponent c.loop-place.self c.args.found.now c.loop-place.found (placed_beats (recorded c.args.link f)) _ (c.loop-place.invariant.judged m s serves shows)
    (no_more c.args.link f.number (c.loop-place.place + 2) c.beats-beats.result.now c.loop-place.place (omega (arith, past)))

pub returns-clause-formed : goal.returns-clause-formed
returns-clause-formed c = c.loop-place.invariant.formed
