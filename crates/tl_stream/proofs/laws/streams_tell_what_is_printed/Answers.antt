use Rattle.tl_stream.proofs.LawLemmas.{streams_tell_what_is_printed}
use Rattle.tl_stream.proofs.laws.streams_tell_what_is_printed.Goals as goal

pub returns : goal.returns
returns c = streams_tell_what_is_printed
