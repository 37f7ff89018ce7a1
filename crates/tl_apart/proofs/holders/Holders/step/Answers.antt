use Rattle.std.proofs.Common.{◌++◌, map, ap, ◌∙◌}
use Rattle.tl_definitions.specs.Breaks.{row_of}
use Rattle.tl_apart.proofs.HolderLaws.{rules_law, on_ok}
use Rattle.tl_apart.proofs.holders.Holders.step.Goals as goal

pub returns-clause-rows : goal.returns-clause-rows
returns-clause-rows c known is =
    on_ok c.learn.result (c.in_ok-judge.ensures
    ∙ ap (λ rules. c.args.rows.now.items ++ map (row_of c.args.event.now.place) rules) (rules_law c.args.self.now known c.args.event.now is))
