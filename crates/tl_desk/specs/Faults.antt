-- The refusals of a publish and of a check of all, by number.
use Rattle.std.specs.Prelude.{ℕ, Option, Some, None}
use Rattle.tl_desk.specs.declared.fault.PublishFault.{PublishFault}
use Rattle.tl_desk.specs.declared.fault.PublishFault.TheVariants as fault
use Rattle.tl_desk.specs.declared.fault.RecheckFault.{RecheckFault}
use Rattle.tl_desk.specs.declared.fault.RecheckFault.TheVariants as refused

abbrev pub publish_code : PublishFault → ℕ
publish_code fault.NotReady = 31
publish_code fault.VersionFull = 32
publish_code fault.Memory = 20

abbrev pub recheck_code : RecheckFault → ℕ
recheck_code (refused.BoxOut number) = 33
recheck_code refused.Memory = 20

-- the monitor that is out
abbrev pub recheck_number : RecheckFault → Option ℕ
recheck_number (refused.BoxOut number) = Some number
recheck_number refused.Memory = None
