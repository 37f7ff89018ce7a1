-- What an audit tells.
use Rattle.std.specs.Prelude.{ℕ, ◌≡◌, ◌<◌, ◌≤◌, List, [], length, take, Option, Some, None}
use Rattle.tl_topology.specs.Topology.{Topology}
use Rattle.tl_beats.specs.declared.Row.{Row}
use Rattle.tl_definitions.specs.Report.{IsReport}
use Rattle.tl_edits.specs.Edits.{AnEdit}
use Rattle.tl_edits.specs.Log.{inputs_after}
use Rattle.tl_edits.specs.declared.fault.PastFault.{PastFault}
use Rattle.tl_edits.specs.declared.fault.PastFault.TheVariants as past
use Rattle.tl_check.specs.Captured.{captures_after}
use Rattle.tl_check.specs.Output.{audit_bytes}
use Rattle.tl_script.specs.Scripts.{commands_of, fault_of}
use Rattle.tl_script.specs.declared.fault.ScriptFault.{ScriptFault}
use Rattle.tl_script.specs.declared.audit.AuditFault.{AuditFault}
use Rattle.tl_script.specs.declared.audit.AuditFault.TheVariants as fault
use Rattle.tl_script.specs.declared.stop.Stop.{Stop}
use Rattle.tl_script.specs.Accepted.{accepted}
use Rattle.tl_script.specs.Causes.{code_of, of_script}

abbrev pub audit_code_of : AuditFault → ℕ
audit_code_of (fault.Stop stop) = code_of stop.cause
audit_code_of (fault.NoSuchEdit edit) = 43
audit_code_of fault.Memory = 20
audit_code_of fault.WriteFault = 19

-- the command of a stop, or the edit that was asked for
abbrev pub audit_number_of : AuditFault → Option ℕ
audit_number_of (fault.Stop stop) = Some stop.command
audit_number_of (fault.NoSuchEdit edit) = Some edit
audit_number_of fault.Memory = None
audit_number_of fault.WriteFault = None

abbrev pub of_past : PastFault → AuditFault
of_past (past.NoSuchEdit edit) = fault.NoSuchEdit edit
of_past past.Memory = fault.Memory

-- the edits of a script that are accepted
abbrev pub edits_of : Topology → List ℕ → List AnEdit
edits_of topo bytes = accepted topo [] (commands_of bytes).commands

-- The script is read to its end, so many of its edits are accepted, and these are the rows of what they leave.
pub record IsAudit (topo : Topology) (bytes : List ℕ) (edit : ℕ) (rows : List Row) : Type 0 where
  pub whole : (commands_of bytes).fault ≡ None
  pub within : edit ≤ length (edits_of topo bytes)
  pub report : IsReport (captures_after (inputs_after topo (take edit (edits_of topo bytes)))) rows

-- The audit has so many rows, and this holds of its text.
abbrev pub HasAudit : Topology → List ℕ → ℕ → ℕ → (List ℕ → Type 0) → Type 0
HasAudit topo bytes edit count Holds = (rows : List Row) × IsAudit topo bytes edit rows × (count ≡ length rows) × Holds (audit_bytes topo edit rows)

-- The audit has rows, and this holds of its text.
abbrev pub HasAuditText : Topology → List ℕ → ℕ → (List ℕ → Type 0) → Type 0
HasAuditText topo bytes edit Holds = (rows : List Row) × IsAudit topo bytes edit rows × Holds (audit_bytes topo edit rows)

-- The script is read to its end, and fewer edits are accepted.
abbrev pub IsBeyond : Topology → List ℕ → ℕ → Type 0
IsBeyond topo bytes edit = ((commands_of bytes).fault ≡ None) × (length (edits_of topo bytes) < edit)

-- The script stops there, and not for want of memory.
abbrev pub IsStopAt : List ℕ → Stop → Type 0
IsStopAt bytes stop = (found : ScriptFault) × (fault_of (commands_of bytes) ≡ Some (stop.command, found)) × (stop.cause ≡ of_script found)

-- what reading a script can end with: its stop, or want of memory
abbrev pub IsStopped : List ℕ → AuditFault → Type 0
IsStopped bytes (fault.Stop stop) = IsStopAt bytes stop
IsStopped bytes (fault.NoSuchEdit edit) = ⊥
IsStopped bytes fault.Memory = Unit {0}
IsStopped bytes fault.WriteFault = ⊥
