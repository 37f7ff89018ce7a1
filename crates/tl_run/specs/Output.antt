-- What the run of a script writes, command by command.
use Rattle.std.specs.Prelude.{ℕ, ◌≡◌, ◌+◌, Bool, true, false, List, [], ◌∷◌, ◌++◌, length, Option, Some, None, Result, Ok, Err, nat_lt}
use Rattle.tl_topology.specs.Topology.{Topology}
use Rattle.tl_beats.specs.Faults as fragment
use Rattle.tl_beats.specs.declared.Row.{Row}
use Rattle.tl_beats.specs.declared.watch.Watch.{Watch}
use Rattle.tl_definitions.specs.Report.{IsReport}
use Rattle.tl_edits.specs.Edits.{AnEdit, code_of, number_of}
use Rattle.tl_edits.specs.Log.{inputs_after}
use Rattle.tl_edits.specs.declared.fault.EditFault.{EditFault}
use Rattle.tl_edits.specs.Inputs.{InputData, refusal}
use Rattle.tl_check.specs.Captured.{captures_after}
use Rattle.tl_check.specs.Output.{report_bytes}
use Rattle.tl_midway.specs.declared.midway.Midway.{Midway}
use Rattle.tl_midway.specs.Report.{IsMidwayReport}
use Rattle.tl_script.specs.declared.command.Command.{Command}
use Rattle.tl_desk.specs.Core.{AreLinked, most_versions}
use Rattle.tl_edits.specs.declared.fault.EditFault.TheVariants as edit_fault
use Rattle.tl_run.specs.declared.answer.Answer.{Answer}
use Rattle.tl_run.specs.declared.answer.Answer.TheVariants as answer
use Rattle.tl_script.specs.Accepted.{accepted}
use Rattle.tl_script.specs.Replies.{edit_text, refused_text}
use Rattle.tl_script.specs.Asked.{Asking, an_edit, no_fragment, a_report, asked, attached_by}

-- What a run has come to: the edits that were accepted, how many reports were published, and the rows of the last one.
pub record Progress : Type 0 where
  pub edits : List AnEdit
  pub reports : ℕ
  pub rows : List Row

-- What a run is of: its topology, and by which law rows stand where its capture begins in the middle of another run.
pub record Setting : Type 0 where
  pub topo : Topology
  pub midway : Option Midway

-- one whose capture is a whole run's
abbrev pub whole : Topology → Setting
whole topo = record { topo = topo; midway = None }

-- a run, what it is of, and the watches of the monitors that no command has attached yet
pub record RunData : Type 0 where
  pub setting : Setting
  pub now : Progress
  pub boxes : List Watch

abbrev pub start : Progress
start = record { edits = []; reports = 0; rows = [] }

-- The lines of what came of a command.
abbrev pub text_of : Topology → Answer → List ℕ
text_of topo (answer.Edit number) = edit_text number
text_of topo (answer.Refused code number) = refused_text code number
text_of topo (answer.Report report) = report_bytes topo report

-- The topology has the links of its rows.
abbrev pub IsLinked : Topology → Answer → Type 0
IsLinked topo (answer.Report report) = AreLinked topo report.rows
IsLinked topo _ = Unit {0}

-- What came of an edit that was accepted with a number, or refused and not for want of memory.
abbrev pub IsAnswerTo : Result ℕ EditFault → Answer → Type 0
IsAnswerTo (Ok number) found = found ≡ answer.Edit number
IsAnswerTo (Err why) found = (why ≡ edit_fault.Memory → ⊥) × (found ≡ answer.Refused (code_of why) (number_of why))

-- An edit: why it is refused, if it is; its line; and what the run then comes to.
abbrev pub IsEdit : Progress → AnEdit → Option EditFault → List ℕ → Progress → Type 0
IsEdit now e None line next = (line ≡ edit_text (length now.edits + 1)) × (next ≡ record now { edits = now.edits ++ e ∷ [] })
IsEdit now e (Some why) line next = (line ≡ refused_text (code_of why) (number_of why)) × (next ≡ now)

-- The rows are those of a report of what edits leave: all that the definitions find, or those that stand by the law.
abbrev pub HasRows : Option Midway → InputData → List Row → Type 0
HasRows None now rows = IsReport (captures_after now) rows
HasRows (Some law) now rows = IsMidwayReport law now rows

-- The next report is of what the accepted edits leave.
abbrev pub IsRenewed : Setting → Progress → Progress → Type 0
IsRenewed setting now next = HasRows setting.midway (inputs_after setting.topo now.edits) next.rows × (next ≡ record now { reports = now.reports + 1; rows = next.rows })

-- A report of what the accepted edits leave, where more reports can be published; else a refusal.
abbrev pub IsPublish : Setting → Progress → Bool → List ℕ → Progress → Type 0
IsPublish setting now true line next = IsRenewed setting now next
    × (line ≡ report_bytes setting.topo (record { version = next.reports; edit = length next.edits; rows = next.rows }))
IsPublish setting now false line next = (line ≡ refused_text 32 None) × (next ≡ now)

-- One command: its lines, and what the run then comes to.
unfoldable pub IsStep : Setting → Progress → Asking → List ℕ → Progress → Type 0
IsStep setting now (an_edit e) line next = IsEdit now e (refusal (length now.edits) (inputs_after setting.topo now.edits) e) line next
IsStep setting now (no_fragment fault) line next = (line ≡ refused_text (fragment.code_of fault) (fragment.number_of fault)) × (next ≡ now)
IsStep setting now a_report line next = IsPublish setting now (nat_lt now.reports most_versions) line next

-- a run after what a command attaches was made ready, where that is done
abbrev pub supplied : Bool → Asking → RunData → RunData
supplied true asking run = record { setting = run.setting; now = run.now; boxes = run.boxes ++ attached_by asking }
supplied false asking run = run

-- The next of the monitors is the one that is attached, if one is, and these are left.
abbrev pub TakesBox : List Watch → Asking → List Watch → Type 0
TakesBox boxes asking left = boxes ≡ attached_by asking ++ left

-- There is no next monitor, or it watches something else than the one that is to be attached.
abbrev pub LacksBox : List Watch → Asking → Type 0
LacksBox boxes asking = (left : List Watch) → TakesBox boxes asking left → ⊥

-- One command takes its monitor, if it attaches one, and has lines of which this is true.
abbrev pub Advances : RunData → Command → RunData → (List ℕ → Type 0) → Type 0
Advances old c new IsTold = (line : List ℕ) × IsStep old.setting old.now (asked c) line new.now × TakesBox old.boxes (asked c) new.boxes × IsTold line

-- One command advances the run that is viewed so.
abbrev pub Steps : {R : Type 0} → (R → RunData) → R → R → Command → (List ℕ → Type 0) → Type 0
Steps so_far old new c IsTold = Advances (so_far old) c (so_far new) IsTold

-- The same, after what the command attaches was made ready.
abbrev pub StepsSupplied : {R : Type 0} → (R → RunData) → R → R → Command → (List ℕ → Type 0) → Type 0
StepsSupplied so_far old new c IsTold = Advances (supplied true (asked c) (so_far old)) c (so_far new) IsTold

-- Commands, one after the other.
abbrev pub IsOutput : Setting → Progress → List Command → List ℕ → Progress → Type 0
IsOutput setting now [] text next = (text ≡ []) × (next ≡ now)
IsOutput setting now (c ∷ cs) text next = (line : List ℕ) × (rest : List ℕ) × (then : Progress) × IsStep setting now (asked c) line then
    × IsOutput setting then cs rest next × (text ≡ line ++ rest)

-- Commands have one output.
abbrev pub OneOutput : Type 0
OneOutput = (setting : Setting) (now : Progress) (commands : List Command) (one two : List ℕ) (here there : Progress)
    → IsOutput setting now commands one here → IsOutput setting now commands two there → (one ≡ two) × (here ≡ there)

-- ---- the edits alone

-- They are those that a run comes to.
abbrev pub RunsKeepEdits : Type 0
RunsKeepEdits = (setting : Setting) (now : Progress) (commands : List Command) (text : List ℕ) (next : Progress)
    → IsOutput setting now commands text next → next.edits ≡ accepted setting.topo now.edits commands
