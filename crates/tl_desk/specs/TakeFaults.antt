-- The refusals of a take by number.
use Rattle.std.specs.Prelude.{ℕ}
use Rattle.tl_desk.specs.declared.take_fault.TakeFault.{TakeFault}
use Rattle.tl_desk.specs.declared.take_fault.TakeFault.TheVariants as fault

abbrev pub take_code : TakeFault → ℕ
take_code fault.TicketsSpent = 34
take_code fault.Memory = 20
