use Rattle.std.specs.Prelude.{get_or, not}
use Rattle.std.proofs.Common.{sym, subst}
use Rattle.std.proofs.lemmas.List.Elements.{Contains-get_or}
use Rattle.tl_capture.specs.Present.{ends_by, IsPresent}
use Rattle.tl_capture.proofs.NumberLemmas.{present_kept}
use Rattle.tl_stream.proofs.CourseLemmas.{drop_more}
use Rattle.tl_stream.proofs.stream.drop_ended.Goals as goal

pub loop-link-preserved : goal.loop-link-preserved
loop-link-preserved c =
    let more = drop_more c.args.links.now (get_or c.args.links.now c.loop-link.link-index 0) c.args.cycle c.args.waiting.now c.loop-link.waiting c.drop_ended.new.self
    (Contains-get_or c.args.links.now c.loop-link.link-index 0 c.loop-link-test.true) c.loop-link.invariant.loses c.loop-link.invariant.ended c.drop_ended.ensures in
    record {
      loses = more.0;
      ended = more.1;
      present = λ is. subst IsPresent (sym c.drop_ended.ensures) (present_kept (λ f. not (ends_by (get_or c.args.links.now c.loop-link.link-index 0) c.args.cycle f)) c.loop-link.waiting (c.loop-link.invariant.present is));
    }
