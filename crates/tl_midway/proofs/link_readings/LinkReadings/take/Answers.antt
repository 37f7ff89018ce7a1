use Rattle.std.proofs.Common.{ℕ, sym, ap, ◌∙◌}
use Rattle.tl_tables.specs.declared.Chan.{Chan}
use Rattle.tl_definitions.specs.Readings.{in_lead_in}
use Rattle.tl_midway.specs.LeadIns.{with_beat}
use Rattle.tl_midway.specs.LinkReadings.{channel_of}
use Rattle.tl_midway.specs.Readings.{shown_readings}
use Rattle.tl_midway.specs.declared.link_readings.LinkReadings.{LinkReadings}
use Rattle.tl_midway.proofs.LinkReadingLaws.{takes_a, takes_b, takes_c, takes_d, takes_e}
use Rattle.tl_midway.proofs.link_readings.LinkReadings.take.Goals as goal
use Rattle.tl_tables.specs.declared.Chan.TheVariants as chan

abbrev counted_with : ℕ → LinkReadings → Chan → ℕ
counted_with count state k = with_beat (in_lead_in (shown_readings (channel_of state k))) count

pub take-requires-clause-known : goal.take-requires-clause-known
take-requires-clause-known c = c.requires.known chan.A

pub returns-in-A-clause-takes : goal.returns-in-A-clause-takes
returns-in-A-clause-takes c = takes_a c.args.link.now c.args.by_fields c.args.beat.now c.args.self.now c.take.result c.take.new.self c.in-A.is c.take.ensures.takes

pub take-requires-in-B-clause-known : goal.take-requires-in-B-clause-known
take-requires-in-B-clause-known c = c.requires.known chan.B

pub returns-in-B-clause-takes : goal.returns-in-B-clause-takes
returns-in-B-clause-takes c = takes_b c.args.link.now c.args.by_fields c.args.beat.now c.args.self.now c.take-in-B.result c.take-in-B.new.self c.in-B.is c.take-in-B.ensures.takes

pub take-requires-in-C-clause-known : goal.take-requires-in-C-clause-known
take-requires-in-C-clause-known c = c.requires.known chan.C

pub returns-in-C-clause-takes : goal.returns-in-C-clause-takes
returns-in-C-clause-takes c = takes_c c.args.link.now c.args.by_fields c.args.beat.now c.args.self.now c.take-in-C.result c.take-in-C.new.self c.in-C.is c.take-in-C.ensures.takes

pub take-requires-in-D-clause-known : goal.take-requires-in-D-clause-known
take-requires-in-D-clause-known c = c.requires.known chan.D

pub returns-in-D-clause-takes : goal.returns-in-D-clause-takes
returns-in-D-clause-takes c = takes_d c.args.link.now c.args.by_fields c.args.beat.now c.args.self.now c.take-in-D.result c.take-in-D.new.self c.in-D.is c.take-in-D.ensures.takes

pub take-requires-in-E-clause-known : goal.take-requires-in-E-clause-known
take-requires-in-E-clause-known c = c.requires.known chan.E

pub returns-in-E-clause-takes : goal.returns-in-E-clause-takes
returns-in-E-clause-takes c = takes_e c.args.link.now c.args.by_fields c.args.beat.now c.args.self.now c.take-in-E.result c.take-in-E.new.self c.in-E.is c.take-in-E.ensures.takes

pub returns-in-A-clause-lead_ins : goal.returns-in-A-clause-lead_ins
returns-in-A-clause-lead_ins c = c.take.ensures.lead_ins ∙ ap (λ k. counted_with c.args.lead_ins.now c.args.self.now k) (sym c.in-A.is)

pub returns-in-B-clause-lead_ins : goal.returns-in-B-clause-lead_ins
returns-in-B-clause-lead_ins c = c.take-in-B.ensures.lead_ins ∙ ap (λ k. counted_with c.args.lead_ins.now c.args.self.now k) (sym c.in-B.is)

pub returns-in-C-clause-lead_ins : goal.returns-in-C-clause-lead_ins
returns-in-C-clause-lead_ins c = c.take-in-C.ensures.lead_ins ∙ ap (λ k. counted_with c.args.lead_ins.now c.args.self.now k) (sym c.in-C.is)

pub returns-in-D-clause-lead_ins : goal.returns-in-D-clause-lead_ins
returns-in-D-clause-lead_ins c = c.take-in-D.ensures.lead_ins ∙ ap (λ k. counted_with c.args.lead_ins.now c.args.self.now k) (sym c.in-D.is)

pub returns-in-E-clause-lead_ins : goal.returns-in-E-clause-lead_ins
returns-in-E-clause-lead_ins c = c.take-in-E.ensures.lead_ins ∙ ap (λ k. counted_with c.args.lead_ins.now c.args.self.now k) (sym c.in-E.is)
