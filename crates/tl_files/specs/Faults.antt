-- The faults that end the program with one line.
use Rattle.std.specs.Prelude.{None}
use Rattle.tl_topology.specs.declared.fault.TopoFault.{TopoFault}
use Rattle.tl_topology.specs.Faults as topo
use Rattle.tl_beats.specs.declared.fault.FragmentFault.{FragmentFault}
use Rattle.tl_beats.specs.declared.fault.FragmentFault.TheVariants as fault
use Rattle.tl_beats.specs.Faults as fragment
use Rattle.tl_text.specs.declared.input.TextFault.{TextFault}
use Rattle.tl_text.specs.declared.input.TextFault.TheVariants as text
use Rattle.tl_check.specs.declared.once.OnceFault.{OnceFault}
use Rattle.tl_check.specs.declared.once.OnceFault.TheVariants as once
use Rattle.tl_script.specs.Audits.{audit_code_of, audit_number_of}
use Rattle.tl_script.specs.declared.audit.AuditFault.{AuditFault}
use Rattle.tl_files.specs.declared.fault.Fault.{Fault}

abbrev pub of_topology : TopoFault → Fault
of_topology found = record { code = topo.code_of found; number = topo.number_of found }

-- a read that fails is the file's fault
abbrev pub of_fragment : FragmentFault → Fault
of_fragment fault.ReadFault = record { code = 45; number = None }
of_fragment found = record { code = fragment.code_of found; number = fragment.number_of found }

abbrev pub of_text : TextFault → Fault
of_text text.ReadFault = record { code = 45; number = None }
of_text text.TooLong = record { code = 44; number = None }
of_text text.Memory = record { code = 20; number = None }

abbrev pub of_once : OnceFault → Fault
of_once (once.Refused code number) = record { code = code; number = number }
of_once once.Memory = record { code = 20; number = None }
of_once once.WriteFault = record { code = 19; number = None }

abbrev pub of_audit : AuditFault → Fault
of_audit found = record { code = audit_code_of found; number = audit_number_of found }
