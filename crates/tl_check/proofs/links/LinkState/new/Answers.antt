use Rattle.tl_definitions.specs.Positions.{no_link}
use Rattle.tl_check.proofs.links.LinkState.new.Goals as goal

pub returns : goal.returns
returns c = record { bursts = λ chan. (c.new.ensures no_link 0).slots chan; flow = c.new-2.ensures.shows }
