use Rattle.std.proofs.Common.{rules}
use Rattle.tl_run.proofs.FrontLaws.{whole_first}
use Rattle.tl_run.proofs.coming.read_on.Goals as goal

pub returns-then-is_whole-clause-first : goal.returns-then-is_whole-clause-first
returns-then-is_whole-clause-first g c = whole_first c.loop.ahead (g.I.ByteIn.remaining c.loop.input) (search rules)

pub returns-then-is_whole-2-clause-first : goal.returns-then-is_whole-2-clause-first
returns-then-is_whole-2-clause-first g c = whole_first c.loop.ahead (g.I.ByteIn.remaining c.loop.input) (search rules)
