-- Where the run of a script stops, and all that it writes.
use Rattle.std.specs.Prelude.{ℕ, Bool, ◌≡◌, ◌+◌, ◌-◌, ◌<◌, ◌≤◌, List, [], ◌++◌, length, take, codes, Option, Some, None, slice_get, String, string_bytes}
use Rattle.std.specs.Option.{option_map_or}
use Rattle.std.specs.Io.KnownBytes.{Appends}
use Rattle.tl_text.specs.Numbers.{numeral}
use Rattle.tl_text.specs.Words.{ended}
use Rattle.tl_beats.specs.declared.watch.Watch.{Watch}
use Rattle.tl_check.specs.Notes.{Tells, IsPut}
use Rattle.tl_script.specs.Scripts.{Script, commands_of, fault_of}
use Rattle.tl_script.specs.declared.command.Command.{Command}
use Rattle.tl_script.specs.declared.fault.ScriptFault.TheVariants as fault
use Rattle.tl_run.specs.declared.lines.LineFault.{LineFault}
use Rattle.tl_run.specs.declared.lines.LineFault.TheVariants as line
use Rattle.tl_run.specs.declared.session.CommandFault.{CommandFault}
use Rattle.tl_run.specs.declared.session.CommandFault.TheVariants as command
use Rattle.tl_script.specs.declared.stop.Outcome.{Outcome}
use Rattle.tl_script.specs.declared.stop.Stop.{Stop}
use Rattle.tl_script.specs.declared.stop.StopCause.{StopCause}
use Rattle.tl_script.specs.declared.stop.StopCause.TheVariants as cause
use Rattle.tl_script.specs.Asked.{asked, watches_of}
use Rattle.tl_run.specs.Output.{Progress, RunData, Setting, start, IsOutput, LacksBox}

-- why a command has no lines
abbrev pub of_command : CommandFault → LineFault
of_command command.WrongBox = line.WrongBox
of_command command.Memory = line.Memory

abbrev pub stop_front : StopCause → List ℕ
stop_front cause.Memory = codes "stopped 20 at "
stop_front cause.BadCommand = codes "stopped 41 at "
stop_front cause.Truncated = codes "stopped 42 at "
stop_front cause.WrongBox = codes "stopped 36 at "

-- the last line of a run that stops: the number of the refusal, and the command
abbrev pub stop_text : Stop → List ℕ
stop_text stop = stop_front stop.cause ++ ended (numeral 10 stop.command)

abbrev pub last_text : Option Stop → List ℕ
last_text stop = option_map_or stop_text stop []

-- The first of the monitors are those that these commands attach, in their order.
abbrev pub HaveBoxes : List Watch → List Command → Type 0
HaveBoxes boxes commands = (left : List Watch) × (boxes ≡ watches_of commands ++ left)

-- The command of this number attaches what the next of the monitors does not watch, or there is none.
pub record IsUnboxed (boxes : List Watch) (script : Script) (command : ℕ) : Type 0 where
  pub some : 0 < command
  pub it : Command
  pub at : slice_get script.commands (command - 1) ≡ Some it
  pub left : List Watch
  pub others : boxes ≡ watches_of (take (command - 1) script.commands) ++ left
  pub lacks : LacksBox left (asked it)

-- A run stops at the fault of its script, at a command that lacks its monitor, or at a command, or after the last, for want of memory.
abbrev pub StopsFor : List Watch → Script → StopCause → ℕ → Type 0
StopsFor boxes script cause.Memory command = (0 < command) × (command ≤ length script.commands + 1)
StopsFor boxes script cause.BadCommand command = fault_of script ≡ Some (command, fault.BadCommand)
StopsFor boxes script cause.Truncated command = fault_of script ≡ Some (command, fault.Truncated)
StopsFor boxes script cause.WrongBox command = IsUnboxed boxes script command

abbrev pub Stops : List Watch → Script → Option Stop → Type 0
Stops boxes script None = script.fault ≡ None
Stops boxes script (Some stop) = StopsFor boxes script stop.cause stop.command

-- the commands whose lines are written: those before the stop, or all
abbrev pub commands_before : Script → Option Stop → List Command
commands_before script None = script.commands
commands_before script (Some stop) = take (stop.command - 1) script.commands

-- What a run with these monitors writes, and what it comes to: the lines of its commands up to its end or its stop, and the line of the stop.
pub record IsRun (setting : Setting) (script : Script) (boxes : List Watch) (stop : Option Stop) (text : List ℕ) (next : Progress) : Type 0 where
  pub stops : Stops boxes script stop
  pub have : HaveBoxes boxes (commands_before script stop)
  pub lines : List ℕ
  pub output : IsOutput setting start (commands_before script stop) lines next
  pub text_is : text ≡ lines ++ last_text stop

abbrev pub IsOutcome : Setting → List ℕ → List Watch → Outcome → List ℕ → Type 0
IsOutcome setting bytes boxes outcome text = (next : Progress) × IsRun setting (commands_of bytes) boxes outcome.stop text next × (outcome.last_rows ≡ length next.rows)

-- All that the run of a script writes was written.
abbrev pub IsWritten : Setting → List ℕ → List Watch → Outcome → Option (List ℕ) → Option (List ℕ) → Type 0
IsWritten setting script boxes outcome old new = (text : List ℕ) × IsOutcome setting script boxes outcome text × Appends old new text

-- The same of what is written for it, with notes or without.
abbrev pub IsWrittenAs : Bool → Setting → List ℕ → List Watch → Outcome → Option (List ℕ) → Option (List ℕ) → Type 0
IsWrittenAs noted setting script boxes outcome old new = (text : List ℕ) × IsOutcome setting script boxes outcome text × IsPut noted old new text

-- What was written and what is gathered after it are these lines.
abbrev pub IsSaid : Option (List ℕ) → Option (List ℕ) → List ℕ → List ℕ → Type 0
IsSaid old now gathered lines = (written : List ℕ) × Appends old now written × (lines ≡ written ++ gathered)

-- They tell these lines, with notes or without.
abbrev pub AreSaid : Bool → Option (List ℕ) → Option (List ℕ) → List ℕ → List ℕ → Type 0
AreSaid noted old now gathered lines = (told : List ℕ) × Tells noted lines told × IsSaid old now gathered told

-- This holds of whatever lines were written since some output, or are gathered after it.
abbrev pub ForSaid : {T Z : Type 0} → (T → Option (List ℕ)) → T → String Z → (Option (List ℕ) → List ℕ → Type 0) → Type 0
ForSaid contents out gathered Holds = (old : Option (List ℕ)) (lines : List ℕ) → IsSaid old (contents out) (string_bytes gathered) lines → Holds old lines

-- Whatever lines were told before, these are told after them: they are written, or gathered.
abbrev pub SaysAs : {T Z : Type 0} → Bool → (T → Option (List ℕ)) → T → T → String Z → String Z → List ℕ → Type 0
SaysAs noted contents out next gathered gathering lines = (old : Option (List ℕ)) (before : List ℕ) → AreSaid noted old (contents out) (string_bytes gathered) before
    → AreSaid noted old (contents next) (string_bytes gathering) (before ++ lines)

-- A run came to its end or its stop: its lines were written or are gathered.
pub record HasCome (noted : Bool) (setting : Setting) (script : Script) (boxes : List Watch) (old now : Option (List ℕ)) (gathered : List ℕ) (outcome : Outcome) : Type 0 where
  pub stops : Stops boxes script outcome.stop
  pub have : HaveBoxes boxes (commands_before script outcome.stop)
  pub lines : List ℕ
  pub next : Progress
  pub output : IsOutput setting start (commands_before script outcome.stop) lines next
  pub rows : outcome.last_rows ≡ length next.rows
  pub said : AreSaid noted old now gathered lines

-- A run that began so did.
abbrev pub HasRun : Bool → RunData → List ℕ → Option (List ℕ) → Option (List ℕ) → List ℕ → Outcome → Type 0
HasRun noted run script old now gathered outcome = HasCome noted run.setting (commands_of script) run.boxes old now gathered outcome

-- A front of these lines was written.
abbrev pub IsFront : Option (List ℕ) → Option (List ℕ) → List ℕ → Type 0
IsFront old now lines = (n : ℕ) × (n ≤ length lines) × Appends old now (take n lines)

-- A front of what tells these lines was written.
abbrev pub IsFrontOf : Bool → Option (List ℕ) → Option (List ℕ) → List ℕ → Type 0
IsFrontOf noted old now lines = (told : List ℕ) × Tells noted lines told × IsFront old now told

-- One more write or read failed.
abbrev pub FailsOnce : {T : Type 0} → (T → ℕ) → T → T → Type 0
FailsOnce failures old new = failures new ≡ failures old + 1

-- Whatever lines were told before, a front of them and of these was written.
abbrev pub CutsAs : {T Z : Type 0} → Bool → (T → Option (List ℕ)) → T → T → String Z → List ℕ → Type 0
CutsAs noted contents out next gathered lines = (old : Option (List ℕ)) (before : List ℕ) → AreSaid noted old (contents out) (string_bytes gathered) before
    → IsFrontOf noted old (contents next) (before ++ lines)

-- the stop, if the run came to one, is after so many commands
abbrev pub IsBehind : List Watch → Script → ℕ → Option Stop → Type 0
IsBehind boxes script count None = Unit {0}
IsBehind boxes script count (Some stop) = StopsFor boxes script stop.cause stop.command × (stop.command ≡ count + 1)

-- A front of what a run writes: of the lines of so many commands, with the line of its stop or without.
pub record IsCutBy (Front : List ℕ → Type 0) (setting : Setting) (script : Script) (boxes : List Watch) : Type 0 where
  pub count : ℕ
  pub have : HaveBoxes boxes (take count script.commands)
  pub lines : List ℕ
  pub next : Progress
  pub output : IsOutput setting start (take count script.commands) lines next
  pub stop : Option Stop
  pub stops : IsBehind boxes script count stop
  pub front : Front (lines ++ last_text stop)

-- It was written; or it was with notes or without.
abbrev pub IsCut : Setting → Script → List Watch → Option (List ℕ) → Option (List ℕ) → Type 0
IsCut setting script boxes old new = IsCutBy (IsFront old new) setting script boxes

abbrev pub IsCutAs : Bool → Setting → Script → List Watch → Option (List ℕ) → Option (List ℕ) → Type 0
IsCutAs noted setting script boxes old new = IsCutBy (IsFrontOf noted old new) setting script boxes

-- A front of what a run that began so writes was written.
abbrev pub IsRunCut : {T : Type 0} → Bool → RunData → List ℕ → (T → Option (List ℕ)) → T → T → Type 0
IsRunCut noted run script contents old new = IsCutAs noted run.setting (commands_of script) run.boxes (contents old) (contents new)

-- A front of what any run writes was written, with notes or without.
abbrev pub IsAnyCut : {T : Type 0} → (T → Option (List ℕ)) → T → T → Type 0
IsAnyCut contents old new = (noted : Bool) (setting : Setting) (script : List ℕ) (boxes : List Watch)
    → IsCutAs noted setting (commands_of script) boxes (contents old) (contents new)
