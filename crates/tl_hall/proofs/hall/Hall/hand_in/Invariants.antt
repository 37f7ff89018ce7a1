use Rattle.tl_desk.specs.Steps.{outcome_for}
use Rattle.tl_hall.proofs.hall.Hall.hand_in.Given as goal

-- what the job came to
abbrev pub ghosts-hand_in_as : goal.ghosts-hand_in_as
ghosts-hand_in_as g a = record { found = outcome_for a.done }
