use Rattle.tl_hall.proofs.hall.Hall.submit.Given as goal

-- the change
abbrev pub ghosts-submit_as : goal.ghosts-submit_as
ghosts-submit_as g a = record { change = a.change }
