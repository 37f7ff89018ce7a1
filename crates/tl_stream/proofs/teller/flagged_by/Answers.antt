use Rattle.std.proofs.Common.{sym, subst}
use Rattle.tl_definitions.specs.Tallies.{AreOfOneLink}
use Rattle.tl_stream.proofs.teller.flagged_by.Goals as goal

pub judge-requires-clause-link : goal.judge-requires-clause-link
judge-requires-clause-link c = subst AreOfOneLink (sym c.deref.ensures.value) c.in_ok-beats.ensures.link
