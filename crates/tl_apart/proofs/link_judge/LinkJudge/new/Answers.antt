use Rattle.std.proofs.Common.{◌≡◌, Some, None, sym, ◌∙◌}
use Rattle.tl_definitions.specs.Positions.{no_link}
use Rattle.tl_apart.proofs.link_judge.LinkJudge.new.Goals as goal

pub returns-clause-shows : goal.returns-clause-shows
returns-clause-shows c = record { bursts = λ chan. (c.new.ensures no_link 0).slots chan; flow = c.new-2.ensures.shows; client = c.new-3.ensures; granted = λ sink. c.new-4.ensures sink }

pub returns-clause-formed : goal.returns-clause-formed
returns-clause-formed c chan burst h = let none : None ≡ Some burst = sym ((c.new.ensures no_link 0).slots chan) ∙ h in cc
