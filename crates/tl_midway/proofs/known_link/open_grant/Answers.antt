use Rattle.std.proofs.Common.{◌==◌, cond, ap, ◌∙◌}
use Rattle.tl_midway.specs.Known.{opened}
use Rattle.tl_midway.specs.KnownTable.{known_at}
use Rattle.tl_midway.specs.CountedTable.{entry_known}
use Rattle.tl_midway.proofs.known_link.open_grant.Goals as goal

pub returns-clause-sinks : goal.returns-clause-sinks
returns-clause-sinks c f other =
    c.in_ok-set.ensures f other ∙ ap (λ v. cond (c.args.sink == other) v (known_at c.args.sinks.now f other)) c.opened.ensures

pub returns-clause-granted : goal.returns-clause-granted
returns-clause-granted c f other =
    c.in_ok-open.ensures.entries f other
    ∙ ap (λ made. cond (c.args.sink == other) (opened c.args.certain made) (entry_known c.args.granted.now f other)) c.known_block-made.ensures
