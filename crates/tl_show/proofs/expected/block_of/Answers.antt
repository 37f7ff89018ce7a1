use Rattle.std.proofs.Common.{sym, ◌∙◌}
use Rattle.tl_show.proofs.Texts.{block_some, block_none}
use Rattle.tl_show.proofs.expected.block_of.Goals as goal

pub returns-in-Some : goal.returns-in-Some
returns-in-Some c = sym (block_some c.args.topo.now.managers c.args.decl.now.manager c.in-Some.exponent (sym c.block.ensures ∙ c.in-Some.is))

pub returns-in-None : goal.returns-in-None
returns-in-None c = sym (block_none c.args.topo.now.managers c.args.decl.now.manager (sym c.block.ensures ∙ c.in-None.is))
