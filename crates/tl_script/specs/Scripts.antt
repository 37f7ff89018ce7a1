-- All commands of a script.
use Rattle.std.specs.Prelude.{ℕ, zero, suc, ◌+◌, List, [], ◌∷◌, length, drop, Option, Some, None, Result, Ok, Err, option_map, filter_map}
use Rattle.tl_beats.specs.declared.watch.Watch.{Watch}
use Rattle.tl_script.specs.declared.command.Command.{Command}
use Rattle.tl_script.specs.declared.fault.ScriptFault.{ScriptFault}
use Rattle.tl_script.specs.Commands.{monitor_of}
use Rattle.tl_script.specs.Reading.{command_in}

-- The commands of a script in order, and the fault of the one after them, if the script does not end there.
pub record Script : Type 0 where
  pub commands : List Command
  pub fault : Option ScriptFault

-- a command before those of a script
abbrev pub onto_script : Command → Script → Script
onto_script c script = record { commands = c ∷ script.commands; fault = script.fault }

-- what a first reading makes of the readings after it
abbrev pub script_by : Result (Option (Command × ℕ)) ScriptFault → (ℕ → Script) → Script
script_by (Ok None) behind = record { commands = []; fault = None }
script_by (Ok (Some read)) behind = onto_script read.0 (behind read.1)
script_by (Err found) behind = record { commands = []; fault = Some found }

-- those within a number of commands
unfoldable pub commands_within : ℕ → List ℕ → Script
commands_within zero bytes = record { commands = []; fault = None }
commands_within (suc n) bytes = script_by (command_in bytes) (λ taken. commands_within n (drop taken bytes))

-- each command takes a byte at least
abbrev pub commands_of : List ℕ → Script
commands_of bytes = commands_within (length bytes) bytes

-- the fault of a script with the number of its command, from 1
abbrev pub fault_of : Script → Option (ℕ × ScriptFault)
fault_of script = option_map (λ found. (length script.commands + 1, found)) script.fault

-- the number and the watch of each monitor that is attached
abbrev pub attached : Script → List (ℕ × Watch)
attached script = filter_map monitor_of script.commands
