use Rattle.tl_show.proofs.Noted.{unbroken_front}
use Rattle.tl_show.proofs.quote.front_of.Goals as goal

pub returns : goal.returns
returns c = unbroken_front c.min.result c.args.bytes.now c.requires
