use Rattle.std.proofs.Common.{sym, ◌∙◌}
use Rattle.tl_midway.proofs.LeadInLaws.{own_leads_in}
use Rattle.tl_midway.proofs.manager_readings.ManagerReadings.in_lead_in.Goals as goal

pub returns : goal.returns
returns c m start before stands =
    own_leads_in m start before c.args.at.now c.args.self.now c.unwrap-place.result c.index.result.now c.in_lead_in.result (sym c.place.ensures ∙ c.unwrap-place.ensures) c.requires.own
    c.index.ensures c.in_lead_in.ensures stands
