use Rattle.tl_desk.specs.declared.call.Call.TheVariants as call
use Rattle.tl_hall.proofs.hall.Hall.publish.Given as goal

-- the version
abbrev pub ghosts-leave_with : goal.ghosts-leave_with
ghosts-leave_with g a = record { call = call.Publish a._told.now }
