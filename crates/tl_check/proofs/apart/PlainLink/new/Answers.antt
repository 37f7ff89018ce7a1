use Rattle.std.proofs.Common.{◌≡◌, Some, None, sym, ◌∙◌}
use Rattle.tl_definitions.specs.Positions.{no_link}
use Rattle.tl_check.proofs.apart.PlainLink.new.Goals as goal

pub returns-clause-shows : goal.returns-clause-shows
returns-clause-shows c exponent = record { bursts = λ chan. (c.new.ensures no_link 0).slots chan; requests = λ source. c.new-2.ensures source }

pub returns-clause-formed : goal.returns-clause-formed
returns-clause-formed c chan burst h = let none : None ≡ Some burst = sym ((c.new.ensures no_link 0).slots chan) ∙ h in cc
