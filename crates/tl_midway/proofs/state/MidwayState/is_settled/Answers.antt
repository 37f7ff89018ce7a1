use Rattle.std.proofs.Common.{map, sym, ◌∙◌}
use Rattle.tl_definitions.specs.Readings.{is_due}
use Rattle.tl_midway.specs.Reading.{shown_reading}
use Rattle.tl_midway.specs.Readings.{shown_readings}
use Rattle.tl_midway.specs.Unjudged.{next_readings}
use Rattle.tl_midway.proofs.MemberLaws.{any_same, all_same}
use Rattle.tl_midway.proofs.StandingLaws.{must_may}
use Rattle.tl_midway.proofs.UnjudgedStandLaws.{settled_judged, plain_judged}
use Rattle.tl_midway.proofs.state.MidwayState.is_settled.Goals as goal

pub returns-then-must_begin : goal.returns-then-must_begin
returns-then-must_begin c h m start before r stands declared =
    let p = c.args.at.now in
    let next = next_readings m start before p in
    let own = shown_readings c.channel-readings.result.now in
    let on = c.channel-readings.ensures.stands m start before stands.readings in
    let must = sym c.must_begin.ensures ∙ c.if-must_begin.true in
    plain_judged m start before p r next (sym (all_same is_due own next on.members) ∙ must) (sym (any_same is_due own next on.members) ∙ must_may (shown_reading c.channel-readings.result.now.one) (map shown_reading c.channel-readings.result.now.others.items) must)
    (c.asks_nothing.ensures h m start before stands.pasts declared r)

pub returns : goal.returns
returns c h m start before r stands declared =
    let p = c.args.at.now in
    let sole = c.is_settled.ensures h in
    let on = c.channel-readings.ensures.stands m start before stands.readings in
    settled_judged m start before p r (shown_readings c.channel-readings.result.now) (next_readings m start before p) sole.0 sole.1 sole.2 on.members
