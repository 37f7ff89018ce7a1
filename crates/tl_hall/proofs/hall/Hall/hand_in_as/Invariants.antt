use Rattle.tl_desk.specs.declared.call.Call.TheVariants as call
use Rattle.tl_hall.proofs.hall.Hall.hand_in_as.Given as goal

-- the ticket, its window, and whether the result was taken
abbrev pub ghosts-leave_with : goal.ghosts-leave_with
ghosts-leave_with g a = record { call = call.HandIn a._told.now.0 a._told.now.1 g.C.Came.found a._told.now.2 }
