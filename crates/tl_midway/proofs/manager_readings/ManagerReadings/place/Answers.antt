use Rattle.std.proofs.Common.{◌==◌, ap, ◌∙◌}
use Rattle.std.specs.List.{position}
use Rattle.tl_midway.specs.declared.link_readings.LinkReadings.{LinkReadings}
use Rattle.tl_midway.proofs.PlaceLaws.{place_mapped}
use Rattle.tl_midway.proofs.manager_readings.ManagerReadings.place.Goals as goal

pub returns : goal.returns
returns c =
    c.place_in.ensures ∙ ap (position (λ (own : LinkReadings). own.number == c.args.link)) c.deref.ensures.value
    ∙ place_mapped (λ (own : LinkReadings). own.number) c.args.link c.args.self.now.links.items
