use Rattle.tl_stream.proofs.LawLemmas.{telling_is_whole}
use Rattle.tl_stream.proofs.laws.telling_is_whole.Goals as goal

pub returns : goal.returns
returns c = telling_is_whole
