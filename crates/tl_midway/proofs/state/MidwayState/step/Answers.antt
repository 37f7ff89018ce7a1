use Rattle.std.proofs.Common.{true, false, Result, Ok, [], append-nil, sym, subst}
use Rattle.tl_topology.specs.Regions.{areas_of}
use Rattle.tl_definitions.specs.Known.{readings_of}
use Rattle.tl_midway.specs.Standing.{IsStanding}
use Rattle.tl_midway.proofs.Results.{whatever, on_ok}
use Rattle.tl_midway.proofs.StateLaws.{begins, later_rows, both_stand, later_both}
use Rattle.tl_midway.proofs.state.MidwayState.step.Goals as goal

pub returns-in_ok-add_head-in-Head-clause-next : goal.returns-in_ok-add_head-in-Head-clause-next
returns-in_ok-add_head-in-Head-clause-next c m start before stands serves =
    let p = c.args.at.now in
    let link = c.args.link.now in
    let areas = areas_of c.args.regions.now in
    let took = c.take.ensures.stands m start before stands.readings serves.declared in
    let is = subst (IsStanding link p.beat (readings_of m start before p)) c.in-Head.is took.0 in
    both_stand m start before p link areas serves c.step.result c.take.new.self c.step.new.self took.1
    (c.step.ensures.stands m start before stands.pasts (begins m start before p link areas serves true is.0 is.1))

pub returns-in_ok-add_rows-in-Either-clause-rows : goal.returns-in_ok-add_rows-in-Either-clause-rows
returns-in_ok-add_rows-in-Either-clause-rows c m start before stands serves =
    let p = c.args.at.now in
    let link = c.args.link.now in
    let areas = areas_of c.args.regions.now in
    let took = c.take.ensures.stands m start before stands.readings serves.declared in
    let is = subst (IsStanding link p.beat (readings_of m start before p)) c.in-Either.is took.0 in
    whatever c.step-in-Either.result
    (later_rows m start before p link areas serves c.in-Either.later c.args.rows.now.items c.add_rows.new.rows.items is.0 is.2 c.in_ok-add_rows-in-Either.ensures)

pub returns-in_ok-add_rows-in-Either-clause-next : goal.returns-in_ok-add_rows-in-Either-clause-next
returns-in_ok-add_rows-in-Either-clause-next c m start before stands serves =
    let p = c.args.at.now in
    let link = c.args.link.now in
    let areas = areas_of c.args.regions.now in
    let took = c.take.ensures.stands m start before stands.readings serves.declared in
    let is = subst (IsStanding link p.beat (readings_of m start before p)) c.in-Either.is took.0 in
    both_stand m start before p link areas serves c.step-in-Either.result c.take.new.self c.step-in-Either.new.self took.1
    (c.step-in-Either.ensures.stands m start before stands.pasts (begins m start before p link areas serves false is.0 is.1))

pub returns-in-Later-clause-rows : goal.returns-in-Later-clause-rows
returns-in-Later-clause-rows c m start before stands serves =
    let p = c.args.at.now in
    let link = c.args.link.now in
    let areas = areas_of c.args.regions.now in
    let took = c.take.ensures.stands m start before stands.readings serves.declared in
    let is = subst (IsStanding link p.beat (readings_of m start before p)) c.in-Later.is took.0 in
    on_ok c.add_rows-in-Later.result
    (λ put. later_rows m start before p link areas serves c.in-Later.later c.args.rows.now.items c.add_rows-in-Later.new.rows.items is.0 is.2 put) c.add_rows-in-Later.ensures

pub returns-in-Later-clause-next : goal.returns-in-Later-clause-next
returns-in-Later-clause-next c m start before stands serves =
    let p = c.args.at.now in
    let link = c.args.link.now in
    let areas = areas_of c.args.regions.now in
    let took = c.take.ensures.stands m start before stands.readings serves.declared in
    let is = subst (IsStanding link p.beat (readings_of m start before p)) c.in-Later.is took.0 in
    later_both m start before p link areas serves c.add_rows-in-Later.result c.take.new.self c.args.self.now.pasts took.1 is.1 stands.pasts

pub returns-in-GoesOn-clause-rows : goal.returns-in-GoesOn-clause-rows
returns-in-GoesOn-clause-rows c m start before stands serves =
    let p = c.args.at.now in
    let link = c.args.link.now in
    let areas = areas_of c.args.regions.now in
    let took = c.take.ensures.stands m start before stands.readings serves.declared in
    let is = subst (IsStanding link p.beat (readings_of m start before p)) c.in-GoesOn.is took.0 in
    later_rows m start before p link areas serves [] c.args.rows.now.items c.args.rows.now.items is.0 is.2 (sym (append-nil c.args.rows.now.items))

-- Nothing is put, so nothing is refused.
abbrev done : Result (Unit {0}) (Unit {0})
done = Ok tt

pub returns-in-GoesOn-clause-next : goal.returns-in-GoesOn-clause-next
returns-in-GoesOn-clause-next c m start before stands serves =
    let p = c.args.at.now in
    let link = c.args.link.now in
    let areas = areas_of c.args.regions.now in
    let took = c.take.ensures.stands m start before stands.readings serves.declared in
    let is = subst (IsStanding link p.beat (readings_of m start before p)) c.in-GoesOn.is took.0 in
    later_both m start before p link areas serves done c.take.new.self c.args.self.now.pasts took.1 is.1 stands.pasts
