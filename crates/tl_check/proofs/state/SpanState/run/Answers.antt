use Rattle.std.proofs.Common.{Some, length-take-le, take, refl, sym, ap, subst, ◌∙◌}
use Rattle.tl_link_rules.specs.Bursts.{IsRun, later_left}
use Rattle.tl_check.specs.Runs.{with_slot}
use Rattle.tl_check.specs.States.{burst_at, shown}
use Rattle.tl_check.specs.declared.links.LinkState.{LinkState}
use Rattle.tl_check.proofs.RunLaws.{run_left}
use Rattle.tl_check.proofs.RunStates.{run_next}
use Rattle.tl_check.proofs.StepLaws.{at_place, link_at, burst_here}
use Rattle.tl_check.proofs.state.SpanState.run.Goals as goal

pub returns-clause-run : goal.returns-clause-run
returns-clause-run c m fragment line of =
    let old = c.args.self.now in
    let k = c.args.link in
    let place = c.place-place.result in
    let link : LinkState = c.index_mut.result.now in
    let next : LinkState = record { bursts = c.run.new.self; flow = link.flow } in
    let n = c.run.result in
    let run = take n c.args.beats.now in
    let stood = at_place old k place link (Some place) (sym c.place-place.ensures.at) refl c.requires.link c.index_mut.ensures.value in
    let at = link_at old k place link stood.0 stood.1 in
    let slot = burst_at old k c.args.chan in
    let gone = run_next m old _ k place n c.args.chan link next of stood.0 stood.1 refl refl refl c.run.ensures.next in
    let runs : IsRun c.args.chan slot run = subst (λ s. IsRun c.args.chan s run) (sym (burst_here old k link c.args.chan at)) c.run.ensures.quiet in
    let left = run_left m k fragment c.args.chan (shown old) line run slot refl runs in
    record {
      quiet = left.0;
      is_of = gone.0;
      left = gone.1 ∙ ap (λ j. with_slot (shown old) k c.args.chan (later_left j slot)) (sym (length-take-le n c.args.beats.now c.run.ensures.within)) ∙ sym left.1;
    }
