use Rattle.tl_desk.specs.declared.call.Call.TheVariants as call
use Rattle.tl_hall.proofs.hall.Hall.attach.Given as goal

-- the number, the watch and the number of the edit
abbrev pub ghosts-leave_with : goal.ghosts-leave_with
ghosts-leave_with g a = record { call = call.Attach a._told.now.0 a._told.now.1 a._told.now.2 }
