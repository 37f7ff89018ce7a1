use Rattle.std.proofs.Common.{◌||◌, sym, ap, ◌∙◌}
use Rattle.tl_topology.specs.Regions.{areas_of}
use Rattle.tl_definitions.specs.Readings.{is_due}
use Rattle.tl_definitions.specs.Heads.{message_of}
use Rattle.tl_definitions.specs.Rules.{format_rules}
use Rattle.tl_midway.specs.Asked.{head_may, is_among}
use Rattle.tl_midway.specs.Readings.{shown_readings}
use Rattle.tl_midway.specs.Unjudged.{next_readings}
use Rattle.tl_midway.proofs.AskedLaws.{strict_is}
use Rattle.tl_midway.proofs.MemberLaws.{any_same, all_same}
use Rattle.tl_midway.proofs.UnjudgedStandLaws.{open_same, format_same, later_unjudged, none_unjudged, head_unjudged, maybe_unjudged}
use Rattle.tl_midway.proofs.state.MidwayState.is_unjudged.Goals as goal

pub returns-then-is_of_later : goal.returns-then-is_of_later
returns-then-is_of_later c m start before stands serves =
    let p = c.args.at.now in
    let next = next_readings m start before p in
    let on = c.channel-readings.ensures.stands m start before stands.readings in
    c.leaves_open.ensures ∙ open_same m p c.args.link.now serves.declared c.args.rule (shown_readings c.channel-readings.result.now) next on.members
    ∙ later_unjudged m start before p next c.args.rule (sym c.is_of_later.ensures ∙ c.if-is_of_later.true)

pub returns-then-not-may_begin : goal.returns-then-not-may_begin
returns-then-not-may_begin c m start before stands serves =
    let p = c.args.at.now in
    let next = next_readings m start before p in
    let on = c.channel-readings.ensures.stands m start before stands.readings in
    none_unjudged m start before p next c.args.rule (sym c.is_of_later.ensures ∙ c.if-is_of_later.false)
    (sym (any_same is_due (shown_readings c.channel-readings.result.now) next on.members) ∙ sym c.may_begin.ensures ∙ c.if-not-may_begin.true)

pub returns-then-must_begin : goal.returns-then-must_begin
returns-then-must_begin c m start before stands serves =
    let p = c.args.at.now in
    let next = next_readings m start before p in
    let on = c.channel-readings.ensures.stands m start before stands.readings in
    c.leaves_open-then-must_begin.ensures m start before stands.pasts (c.past-past.ensures m start before stands.pasts) (strict_is m p.link c.args.link.now serves.declared)
    (ap (λ d. message_of d p.beat) serves.declared ∙ sym c.op_of-op.ensures)
    ∙ head_unjudged m start before p next c.args.rule (sym c.is_of_later.ensures ∙ c.if-is_of_later.false)
    (sym (all_same is_due (shown_readings c.channel-readings.result.now) next on.members) ∙ sym c.must_begin.ensures ∙ c.if-must_begin.true)
    (sym (any_same is_due (shown_readings c.channel-readings.result.now) next on.members) ∙ sym c.may_begin.ensures ∙ c.if-not-may_begin.false)

pub returns-then-may_break : goal.returns-then-may_break
returns-then-may_break c m start before stands serves =
    let p = c.args.at.now in
    let next = next_readings m start before p in
    let on = c.channel-readings.ensures.stands m start before stands.readings in
    let one = c.may_break.ensures m start before stands.pasts serves.declared in
    c.if-may_break.true
    ∙ ap (λ t. t || is_among (format_rules m.exponent m.regions (m.links p.link) p.beat (message_of (m.links p.link) p.beat)) c.args.rule) (sym c.if-may_break.true ∙ one)
    ∙ maybe_unjudged m start before p next c.args.rule (sym c.is_of_later.ensures ∙ c.if-is_of_later.false)
    (sym (all_same is_due (shown_readings c.channel-readings.result.now) next on.members) ∙ sym c.must_begin.ensures ∙ c.if-must_begin.false)
    (sym (any_same is_due (shown_readings c.channel-readings.result.now) next on.members) ∙ sym c.may_begin.ensures ∙ c.if-not-may_begin.false)

pub returns-else-may_break : goal.returns-else-may_break
returns-else-may_break c m start before stands serves =
    let p = c.args.at.now in
    let next = next_readings m start before p in
    let on = c.channel-readings.ensures.stands m start before stands.readings in
    let one = c.may_break.ensures m start before stands.pasts serves.declared in
    ap (λ t. t || c.breaks_format.result) (sym c.if-may_break.false ∙ one)
    ∙ ap (λ t. head_may m start before p c.args.rule || t)
    (c.breaks_format.ensures ∙ format_same m p c.args.link.now (areas_of c.args.regions.now) c.args.self.now.pasts.exponent serves.declared serves.regions stands.pasts.exponent c.args.rule)
    ∙ maybe_unjudged m start before p next c.args.rule (sym c.is_of_later.ensures ∙ c.if-is_of_later.false)
    (sym (all_same is_due (shown_readings c.channel-readings.result.now) next on.members) ∙ sym c.must_begin.ensures ∙ c.if-must_begin.false)
    (sym (any_same is_due (shown_readings c.channel-readings.result.now) next on.members) ∙ sym c.may_begin.ensures ∙ c.if-not-may_begin.false)
