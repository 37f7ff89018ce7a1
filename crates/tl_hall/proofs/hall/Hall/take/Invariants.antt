use Rattle.tl_desk.specs.Steps.{take_of}
use Rattle.tl_hall.proofs.hall.Hall.take.Given as goal

-- the job that goes out
abbrev pub ghosts-leave_with : goal.ghosts-leave_with
ghosts-leave_with g a = record { call = take_of a._told.now }
