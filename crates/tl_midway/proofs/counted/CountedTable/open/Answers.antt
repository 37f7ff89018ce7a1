use Rattle.std.proofs.Common.{◌==◌, cond, sym, ap, subst, ◌∙◌}
use Rattle.tl_midway.specs.Known.{known_of}
use Rattle.tl_midway.specs.CountedTable.{entry_known, HasBlock}
use Rattle.tl_midway.proofs.CountedLaws.{opened_has}
use Rattle.tl_midway.proofs.counted.CountedTable.open.Goals as goal

pub returns-clause-entries : goal.returns-clause-entries
returns-clause-entries g c f other =
    c.in_ok-set.ensures.entries f other ∙ ap (λ e. cond (c.args.key == other) e (entry_known c.args.self.now f other)) c.opened.ensures

pub returns-clause-counted : goal.returns-clause-counted
returns-clause-counted g c block_of first has was =
    c.in_ok-set.ensures.counted block_of first (subst (HasBlock block_of c.args.block) (sym c.opened.ensures) (opened_has c.args.certain block_of c.args.block (known_of c.args.made) has)) was
