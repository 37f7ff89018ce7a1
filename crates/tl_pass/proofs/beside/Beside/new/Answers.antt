use Rattle.std.proofs.Common.{[], refl, subst, ◌∙◌}
use Rattle.tl_topology.specs.Topology.{Topology}
use Rattle.tl_apart.specs.Apart.{HasApart}
use Rattle.tl_pass.proofs.beside.Beside.new.Goals as goal

pub returns : goal.returns
returns c = record {
  on = c.in_ok-own.ensures.ok ∙ c.in_ok-copy.ensures;
  has = subst (λ (t : Topology). HasApart t [] c.in_ok-apart.apart) (c.in_ok-try_clone.ensures ∙ c.in_ok-own.ensures.ok ∙ c.in_ok-copy.ensures) c.in_ok-apart.ensures;
  long = refl;
}
