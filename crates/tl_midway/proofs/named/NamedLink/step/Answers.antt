use Rattle.std.proofs.Common.{sym, ◌∙◌}
use Rattle.tl_topology.specs.Regions.{areas_of}
use Rattle.tl_check.proofs.StepLaws.{on_ok}
use Rattle.tl_midway.proofs.NamedLaws.{named_rows, named_next}
use Rattle.tl_midway.proofs.named.NamedLink.step.Goals as goal

pub returns-then-is_named-clause-rows : goal.returns-then-is_named-clause-rows
returns-then-is_named-clause-rows c m start before stands served =
    on_ok c.step.result
    (λ one. named_rows m start before c.args.at.now c.args.self.now c.args.link.now c.args.exponent (areas_of c.args.regions.now) stands served c.requires.plain c.args.rows.now.items c.step.new.rows.items
    (sym c.is_named.ensures ∙ c.if-is_named.true) one)
    (c.step.ensures.rows stands.snapshot stands.shows)

pub returns-then-is_named-clause-next : goal.returns-then-is_named-clause-next
returns-then-is_named-clause-next c m start before stands served =
    on_ok c.step.result
    (λ one. named_next m start before c.args.at.now c.args.self.now c.args.link.now c.args.exponent (areas_of c.args.regions.now) stands served c.requires.plain c.step.new.self (sym c.is_named.ensures ∙ c.if-is_named.true) one)
    (c.step.ensures.next stands.snapshot stands.shows)
