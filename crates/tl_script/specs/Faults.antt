-- The refusals of a script, by number.
use Rattle.std.specs.Prelude.{ℕ}
use Rattle.tl_script.specs.declared.fault.ScriptFault.{ScriptFault}
use Rattle.tl_script.specs.declared.fault.ScriptFault.TheVariants as fault

abbrev pub code_of : ScriptFault → ℕ
code_of fault.BadCommand = 41
code_of fault.Truncated = 42
