use Rattle.tl_desk.specs.declared.call.Call.TheVariants as call
use Rattle.tl_hall.proofs.hall.Hall.abandon.Given as goal

-- the ticket and its window
abbrev pub ghosts-leave_with : goal.ghosts-leave_with
ghosts-leave_with g a = record { call = call.Abandon a._told.now.0 a._told.now.1 }
