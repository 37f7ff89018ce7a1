use Rattle.std.proofs.Common.{[], ◌∷◌, sym, subst}
use Rattle.tl_pass.specs.Reports.{IsTaken}
use Rattle.tl_turns.proofs.turns.taken_in_pieces.Goals as goal

pub returns-in_ok-taken-in-None : goal.returns-in_ok-taken-in-None
returns-in_ok-taken-in-None g c =
    let whole = c.in_ok-taken-in-None.ensures.2 in
    (whole.0 ∷ [], subst (λ midway. IsTaken midway c.args.sieve.topo.now (whole.0 ∷ []) c.in_ok-taken-in-None.taken) (sym c.in-None.is) whole.2)
