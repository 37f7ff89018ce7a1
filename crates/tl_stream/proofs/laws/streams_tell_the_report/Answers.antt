use Rattle.tl_stream.proofs.LawLemmas.{streams_tell_the_report}
use Rattle.tl_stream.proofs.laws.streams_tell_the_report.Goals as goal

pub returns : goal.returns
returns c = streams_tell_the_report
