use Rattle.std.proofs.Common.{[], sym, subst}
use Rattle.tl_check.specs.Notes.{Tells}
use Rattle.tl_check.proofs.NoteLaws.{tells_nil}
use Rattle.tl_run.proofs.run.last_notes.Goals as goal

pub returns-in-None : goal.returns-in-None
returns-in-None g c = subst (Tells g.S.Runner.noted []) (sym c.new.ensures.bytes) (tells_nil g.S.Runner.noted)
