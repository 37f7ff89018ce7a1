-- The number of each cause for which a script stops.
use Rattle.std.specs.Prelude.{ℕ}
use Rattle.tl_script.specs.declared.fault.ScriptFault.{ScriptFault}
use Rattle.tl_script.specs.declared.fault.ScriptFault.TheVariants as fault
use Rattle.tl_script.specs.declared.stop.StopCause.{StopCause}
use Rattle.tl_script.specs.declared.stop.StopCause.TheVariants as cause

abbrev pub code_of : StopCause → ℕ
code_of cause.Memory = 20
code_of cause.BadCommand = 41
code_of cause.Truncated = 42
code_of cause.WrongBox = 36

abbrev pub of_script : ScriptFault → StopCause
of_script fault.BadCommand = cause.BadCommand
of_script fault.Truncated = cause.Truncated
