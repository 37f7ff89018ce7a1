use Rattle.std.proofs.Common.{Some, subst}
use Rattle.tl_midway.specs.Midway.{beginning_of}
use Rattle.tl_stream.specs.Pasts.{StandsFor}
use Rattle.tl_stream.proofs.past.Past.lead_ins.Goals as goal

pub returns-in-Whole : goal.returns-in-Whole
returns-in-Whole c law m before stands = absurd (subst (λ s. StandsFor (Some law) m s before) c.in-Whole.is stands)

pub returns-in-Middle : goal.returns-in-Middle
returns-in-Middle c law m before stands =
    c.lead_ins.ensures m (beginning_of law m) before (subst (λ s. StandsFor (Some law) m s before) c.in-Middle.is stands).1
