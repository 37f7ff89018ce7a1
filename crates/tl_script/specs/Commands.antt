-- What a command carries.
use Rattle.std.specs.Prelude.{ℕ, List, [], Option, Some, None}
use Rattle.tl_beats.specs.declared.watch.Watch.{Watch}
use Rattle.tl_script.specs.declared.command.Command.{Command}
use Rattle.tl_script.specs.declared.command.Command.TheVariants as command

-- the bytes that follow the line
abbrev pub bytes_of : Command → List ℕ
bytes_of (command.Add text) = text
bytes_of (command.Replace text) = text
bytes_of _ = []

-- the number and the watch of the monitor that it attaches
abbrev pub monitor_of : Command → Option (ℕ × Watch)
monitor_of (command.Attach number watch) = Some (number, watch)
monitor_of _ = None
