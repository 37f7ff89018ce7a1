-- What scripts and the spellings of commands keep among themselves.
use Rattle.std.specs.Prelude.{◌≡◌, ◌↔◌, ℕ, ◌+◌, ◌<◌, ◌==◌, Bool, true, not, List, [], ◌∷◌, ◌++◌, length, drop, Option, Some, None, Ok, Err}
use Rattle.std.specs.List.{AllByRecursion, list_all}
use Rattle.tl_script.specs.declared.command.Command.{Command}
use Rattle.tl_script.specs.declared.fault.ScriptFault.{ScriptFault}
use Rattle.tl_script.specs.declared.fault.ScriptFault.TheVariants as fault
use Rattle.tl_script.specs.Commands.{bytes_of}
use Rattle.tl_script.specs.Reading.{command_in}
use Rattle.tl_script.specs.Scripts.{script_by, commands_of, fault_of}
use Rattle.tl_script.specs.Text.{command_text, script_text, line_of, IsCommand}

-- A command's spelling, whatever follows, is read as that command, and takes exactly its bytes.
abbrev pub SpellingsAreRead : Type 0
SpellingsAreRead = (c : Command) (rest : List ℕ) → IsCommand c → command_in (command_text c ++ rest) ≡ Ok (Some (c, length (command_text c)))

-- What is read was the spelling of it, at the front of the script.
abbrev pub ReadsAreSpelled : Type 0
ReadsAreSpelled = (bytes : List ℕ) (c : Command) (taken : ℕ) → command_in bytes ≡ Ok (Some (c, taken))
    → IsCommand c × (taken ≡ length (command_text c)) × ((rest : List ℕ) × (bytes ≡ command_text c ++ rest))

-- Two commands with one spelling are the same, and none goes on after another.
abbrev pub SpellingsTellCommandsApart : Type 0
SpellingsTellCommandsApart = (c d : Command) (rest : List ℕ) → IsCommand c → IsCommand d → command_text d ≡ command_text c ++ rest → (c ≡ d) × (rest ≡ [])

-- The commands of a script are the first of it and those of what follows.
abbrev pub FirstCommandThenOthers : Type 0
FirstCommandThenOthers = (bytes : List ℕ) → commands_of bytes ≡ script_by (command_in bytes) (λ taken. commands_of (drop taken bytes))

-- what is left of a script after its last command: nothing, or what is refused with the fault
abbrev pub IsLeft : List ℕ → Option ScriptFault → Type 0
IsLeft rest None = rest ≡ []
IsLeft rest (Some found) = command_in rest ≡ Err found

-- The spellings of commands, one after the other and before nothing or a refused rest, are a script of these commands.
abbrev pub CommandsAreRead : Type 0
CommandsAreRead = (commands : List Command) (rest : List ℕ) (found : Option ScriptFault) → AllByRecursion IsCommand commands → IsLeft rest found
    → commands_of (script_text commands ++ rest) ≡ record { commands = commands; fault = found }

-- Each script is the spellings of its commands, and after them what is refused with its fault, or nothing.
abbrev pub ScriptsAreCommands : Type 0
ScriptsAreCommands = (bytes : List ℕ) → AllByRecursion IsCommand (commands_of bytes).commands
    × ((rest : List ℕ) × (bytes ≡ script_text (commands_of bytes).commands ++ rest) × IsLeft rest (commands_of bytes).fault)

-- A fault is that of the command after those before it, counted from 1.
abbrev pub FaultsAreNumbered : Type 0
FaultsAreNumbered = (commands : List Command) (rest : List ℕ) (found : ScriptFault) → AllByRecursion IsCommand commands → command_in rest ≡ Err found
    → fault_of (commands_of (script_text commands ++ rest)) ≡ Some (length commands + 1, found)

-- ---- which fault is told

-- no newline stands in it
abbrev pub is_line : List ℕ → Bool
is_line bytes = list_all (λ b. not (b == 10)) bytes

-- What is left and has no newline ends inside a line, whatever it says.
abbrev pub LinesEnd : Type 0
LinesEnd = (b : ℕ) (bytes : List ℕ) → is_line (b ∷ bytes) ≡ true → command_in (b ∷ bytes) ≡ Err fault.Truncated

-- Behind the line of a command that fewer bytes follow than are its, the script ends inside these.
abbrev pub BytesEnd : Type 0
BytesEnd = (c : Command) (behind : List ℕ) → IsCommand c → length behind < length (bytes_of c) → command_in (line_of c ++ 10 ∷ behind) ≡ Err fault.Truncated

-- A line is bad exactly where it is the line of no command.
abbrev pub BadLines : Type 0
BadLines = (line behind : List ℕ) → is_line line ≡ true
    → (command_in (line ++ 10 ∷ behind) ≡ Err fault.BadCommand) ↔ ((c : Command) → IsCommand c → line ≡ line_of c → ⊥)
