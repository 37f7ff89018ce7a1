use Rattle.tl_desk.specs.declared.call.Call.TheVariants as call
use Rattle.tl_hall.proofs.hall.Hall.recall.Given as goal

-- the ticket
abbrev pub ghosts-leave_with : goal.ghosts-leave_with
ghosts-leave_with g a = record { call = call.Recall a._told.now }
