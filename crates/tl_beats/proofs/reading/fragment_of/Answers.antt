use Rattle.std.proofs.Common.{rules}
use Rattle.tl_text.proofs.Cuts.{behind_all, behind_line, behind_on}
use Rattle.tl_beats.proofs.reading.fragment_of.Goals as goal

pub returns-clause-behind : goal.returns-clause-behind
returns-clause-behind c = behind_on c.args.bytes.now c.in-Some.rest.now c.in_ok-beats.rest.now (behind_line c.args.bytes.now c.args.bytes.now c.in-Some.first.now c.in-Some.rest.now (behind_all c.args.bytes.now) (search rules)) c.in_ok-beats.ensures.behind
