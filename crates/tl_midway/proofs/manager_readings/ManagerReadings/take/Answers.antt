use Rattle.std.proofs.Common.{refl, sym, ◌∙◌}
use Rattle.std.specs.Vec.{with_item}
use Rattle.tl_midway.proofs.ManagerReadingLaws.{own_known, all_known, same_numbers, all_stand}
use Rattle.tl_midway.proofs.manager_readings.ManagerReadings.take.Goals as goal

pub take-requires-clause-known : goal.take-requires-clause-known
take-requires-clause-known c =
    own_known c.args.at.now c.args.self.now c.unwrap-place.result c.index_mut.result.now (sym c.place.ensures ∙ c.unwrap-place.ensures) c.requires.own c.index_mut.ensures.value c.requires.known

pub returns-clause-stands : goal.returns-clause-stands
returns-clause-stands c =
    all_stand c.args.link.now c.args.at.now c.args.self.now (record { by_fields = c.args.self.now.by_fields; links = with_item c.args.self.now.links c.unwrap-place.result c.take.new.self; lead_ins = c.take.new.lead_ins }) c.unwrap-place.result c.index_mut.result.now c.take.new.self c.take.result (sym c.place.ensures ∙ c.unwrap-place.ensures) c.requires.own
    c.index_mut.ensures.value refl c.take.ensures.takes refl c.take.ensures.lead_ins

pub returns-clause-known : goal.returns-clause-known
returns-clause-known c =
    all_known c.args.link.now c.args.at.now c.args.self.now (record { by_fields = c.args.self.now.by_fields; links = with_item c.args.self.now.links c.unwrap-place.result c.take.new.self; lead_ins = c.take.new.lead_ins }) c.unwrap-place.result c.index_mut.result.now c.take.new.self c.take.result (sym c.place.ensures ∙ c.unwrap-place.ensures) c.requires.own
    c.index_mut.ensures.value refl c.take.ensures.takes c.requires.known

pub returns-clause-numbers : goal.returns-clause-numbers
returns-clause-numbers c =
    same_numbers c.args.link.now c.args.at.now c.args.self.now (record { by_fields = c.args.self.now.by_fields; links = with_item c.args.self.now.links c.unwrap-place.result c.take.new.self; lead_ins = c.take.new.lead_ins }) c.unwrap-place.result c.index_mut.result.now c.take.new.self c.take.result (sym c.place.ensures ∙ c.unwrap-place.ensures) c.requires.own
    c.index_mut.ensures.value refl c.take.ensures.takes
