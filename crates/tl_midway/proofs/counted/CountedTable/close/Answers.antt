use Rattle.std.proofs.Common.{◌==◌, None, cond, sym, ap, subst, ◌∙◌}
use Rattle.tl_midway.specs.Known.{known_of, closed}
use Rattle.tl_midway.specs.CountedTable.{entry_known, HasBlock}
use Rattle.tl_midway.proofs.CountedLaws.{closed_has}
use Rattle.tl_midway.proofs.counted.CountedTable.close.Goals as goal

pub returns-clause-entries : goal.returns-clause-entries
returns-clause-entries g c f other =
    c.in_ok-set.ensures.entries f other
    ∙ ap (λ e. cond (c.args.key == other) e (entry_known c.args.self.now f other)) (c.closed.ensures ∙ ap (λ old. closed c.args.certain old) c.get-old.ensures)

pub returns-clause-counted : goal.returns-clause-counted
returns-clause-counted g c block_of first was =
    c.in_ok-set.ensures.counted block_of first (subst (HasBlock block_of None) (sym c.closed.ensures) (closed_has c.args.certain block_of (known_of c.get-old.result))) was
