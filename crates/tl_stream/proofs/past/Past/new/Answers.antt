use Rattle.std.proofs.Common.{[], sym, subst}
use Rattle.tl_definitions.specs.Managers.{manager_at}
use Rattle.tl_stream.specs.Pasts.{StandsFor}
use Rattle.tl_stream.specs.declared.past.Past.TheVariants as past
use Rattle.tl_stream.proofs.past.Past.new.Goals as goal

pub returns-in_ok-opening-in-None : goal.returns-in_ok-opening-in-None
returns-in_ok-opening-in-None c areas =
    subst (λ midway. StandsFor midway (manager_at c.args.topo.now c.args.manager areas) (past.Whole c.in_ok-opening-in-None.field-0) []) (sym c.in-None.is) (c.in_ok-opening-in-None.ensures areas)
