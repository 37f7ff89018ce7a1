use Rattle.std.proofs.Common.{◌<◌, length, subst, arith}
use Rattle.std.proofs.lemmas.Bool.Decides.{nat_tests}
use Rattle.std.proofs.lemmas.List.Elements.{All-more}
use Rattle.tl_link_rules.specs.Bursts.{IsQuiet}
use Rattle.tl_link_rules.proofs.bursts.quiet_count.Goals as goal

pub loop-count-preserved : goal.loop-count-preserved
loop-count-preserved c =
    let beats = c.args.beats.now in
    let n = c.loop-count.count in
    let below = c.in-Some.ensures.lookup.0 in
    let within : n < length beats = grind (arith, nat_tests) in
    record {
      most = omega (arith, c.loop-count-test.true);
      within = omega (arith, within);
      quiet = All-more (IsQuiet c.args.chan c.args.head.now) beats n c.in-Some.beat.now within c.loop-count.invariant.quiet
          (subst (IsQuiet c.args.chan c.args.head.now) c.in-Some.ensures.lookup.1 (c.is_quiet.ensures.own c.if-is_quiet.true, c.is_quiet.ensures.rules c.if-is_quiet.true));
    }
