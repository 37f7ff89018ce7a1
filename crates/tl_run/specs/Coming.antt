-- What the run of a script writes whose commands are carried out as they come.
use Rattle.std.specs.Prelude.{ℕ, Bool, true, false, ◌≡◌, ◌<◌, List, Option, Some, None, IfSome, Result, Ok, Err}
use Rattle.std.specs.Io.KnownBytes.{Consumes, Keeps}
use Rattle.tl_beats.specs.declared.watch.Watch.{Watch}
use Rattle.tl_check.specs.Notes.{IsPut}
use Rattle.tl_stream.specs.Feeds.{all_left}
use Rattle.tl_script.specs.Reading.{command_in}
use Rattle.tl_script.specs.Scripts.{commands_of}
use Rattle.tl_script.specs.declared.command.Command.{Command}
use Rattle.tl_script.specs.declared.fault.ScriptFault.{ScriptFault}
use Rattle.tl_script.specs.declared.fault.ScriptFault.TheVariants as fault
use Rattle.tl_script.specs.declared.stop.Outcome.{Outcome}
use Rattle.tl_script.specs.Asked.{watches_of}
use Rattle.tl_run.specs.Output.{Progress, RunData, Setting, start, IsOutput}
use Rattle.tl_run.specs.Stops.{IsWrittenAs, IsCutAs, HasCome}

-- the watches of the monitors that a script attaches, in their order
abbrev pub all_watches : List ℕ → List Watch
all_watches script = watches_of (commands_of script).commands

-- All that the run of the script writes was written, where the run has the monitors that the script attaches.
abbrev pub IsCarriedOut : Bool → Setting → Outcome → Option (List ℕ) → Option (List ℕ) → List ℕ → Type 0
IsCarriedOut noted setting outcome old new script = IsWrittenAs noted setting script (all_watches script) outcome old new

-- A front of it was written.
abbrev pub IsCutOff : Bool → Setting → Option (List ℕ) → Option (List ℕ) → List ℕ → Type 0
IsCutOff noted setting old new script = IsCutAs noted setting (commands_of script) (all_watches script) old new

-- Such a run came to its end or its stop: its lines were written or are gathered.
abbrev pub HasComeTo : Bool → Setting → Option (List ℕ) → Option (List ℕ) → List ℕ → Outcome → List ℕ → Type 0
HasComeTo noted setting old new gathered outcome script = HasCome noted setting (commands_of script) (all_watches script) old new gathered outcome

-- This was read of the script, the rest is left, and the lines of all commands that were read whole were written, and nothing else.
pub record KeepsUp (noted : Bool) (setting : Setting) (left old new : Option (List ℕ)) (script : List ℕ) : Type 0 where
  pub read : List ℕ
  pub consumed : Consumes (Some script) left read
  pub lines : List ℕ
  pub next : Progress
  pub output : IsOutput setting start (commands_of read).commands lines next
  pub put : IsPut noted old new lines

-- Where the input is known, a front of what its run writes was written.
abbrev pub CutsOff : {T : Type 0} → Bool → RunData → Option (List ℕ) → (T → Option (List ℕ)) → T → T → Type 0
CutsOff noted run input contents old new = IfSome input (IsCutOff noted run.setting (contents old) (contents new))

-- Where the input is known, the lines of all its commands that were read whole were written, and nothing else.
abbrev pub KeepsAll : {I O : Type 0} → Bool → RunData → (I → Option (List ℕ)) → I → I → (O → Option (List ℕ)) → O → O → Type 0
KeepsAll noted run remaining input left contents old new = IfSome (remaining input) (KeepsUp noted run.setting (remaining left) (contents old) (contents new))

-- More reads failed.
abbrev pub FailsMore : {T : Type 0} → (T → ℕ) → T → T → Type 0
FailsMore failures old new = failures old < failures new

-- All that is left of an input, of which some was read, stays.
abbrev pub KeepsLeft : {T : Type 0} → (T → Option (List ℕ)) → T → T → List ℕ → List ℕ → Type 0
KeepsLeft remaining old new ahead read = Keeps (all_left ahead (remaining old)) (all_left read (remaining new))

-- ---- the first command of what was read

-- It doesn't go on in what comes.
abbrev pub is_whole : Result (Option (Command × ℕ)) ScriptFault → Bool
is_whole (Ok None) = false
is_whole (Ok (Some read)) = true
is_whole (Err fault.BadCommand) = true
is_whole (Err fault.Truncated) = false

-- The first command of all that is left is the first of what was read of it.
abbrev pub IsFirstOf : List ℕ → List ℕ → Type 0
IsFirstOf read left = command_in left ≡ command_in read

-- The first command goes on in what comes.
abbrev pub IsPartial : List ℕ → Type 0
IsPartial read = is_whole (command_in read) ≡ false
