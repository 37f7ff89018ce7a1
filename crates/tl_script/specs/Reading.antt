-- The first command of a script, or why it is refused.
use Rattle.std.specs.Prelude.{ℕ, ◌+◌, List, [], ◌∷◌, length, take, codes, Option, Some, None, Result, Ok, Err, nat_lt, if◌then◌else◌}
use Rattle.std.specs.Str.{bytes_eq}
use Rattle.tl_text.specs.Words.{word_at, line_at}
use Rattle.tl_text.specs.Numbers.{number_at}
use Rattle.tl_text.specs.Readings.{◌>>>◌, or_fault}
use Rattle.tl_script.specs.declared.command.Command.{Command}
use Rattle.tl_script.specs.declared.command.Command.TheVariants as command
use Rattle.tl_script.specs.declared.fault.ScriptFault.{ScriptFault}
use Rattle.tl_script.specs.declared.fault.ScriptFault.TheVariants as fault
use Rattle.tl_script.specs.Commands.{bytes_of}
use Rattle.tl_script.specs.Lines.{order_at}

-- the bytes after a line, as many as a word says, which are at most 8,388,608
abbrev pub carried_at : List ℕ → List ℕ → Result (List ℕ) ScriptFault
carried_at number behind = or_fault (number_at 10 8388608 number) fault.BadCommand >>> λ count.
    if nat_lt (length behind) count then Err fault.Truncated else Ok (take count behind)

-- the command of a line, with the bytes that follow it
unfoldable pub command_behind : List ℕ → List ℕ → Result Command ScriptFault
command_behind line behind = if bytes_eq line (codes "publish") then Ok command.Publish
    else (or_fault (word_at line) fault.BadCommand >>> λ kind.
    if bytes_eq kind.0 (codes "add") then (carried_at kind.1 behind >>> λ text. Ok (command.Add text))
    else if bytes_eq kind.0 (codes "replace") then (carried_at kind.1 behind >>> λ text. Ok (command.Replace text))
    else or_fault (order_at kind.0 kind.1) fault.BadCommand)

-- The first command, and how many bytes it takes with its newline and what follows that; None at the end.
unfoldable pub command_in : List ℕ → Result (Option (Command × ℕ)) ScriptFault
command_in [] = Ok None
command_in (b ∷ bytes) = or_fault (line_at (b ∷ bytes)) fault.Truncated >>> λ line.
    command_behind line.0 line.1 >>> λ c. Ok (Some (c, length line.0 + 1 + length (bytes_of c)))
