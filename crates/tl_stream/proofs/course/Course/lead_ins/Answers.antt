use Rattle.std.proofs.Common.{◌≡◌, Some, None, sym, subst, ◌∙◌}
use Rattle.tl_stream.specs.Pasts.{StandsFor}
use Rattle.tl_stream.proofs.EndCounts.{one_state}
use Rattle.tl_stream.proofs.course.Course.lead_ins.Goals as goal

pub returns-in-Some : goal.returns-in-Some
returns-in-Some c law m before state is stands =
    c.lead_ins.ensures law m before (subst (λ s. StandsFor (Some law) m s before) (one_state state c.in-Some.state (sym is ∙ c.in-Some.is)) stands)

pub returns-in-None : goal.returns-in-None
returns-in-None c law m before state is stands = absurd (let never : None ≡ Some state = sym c.in-None.is ∙ is in cc)
