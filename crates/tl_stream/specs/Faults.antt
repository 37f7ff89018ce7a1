-- Refusals as numbers.
use Rattle.std.specs.Prelude.{ℕ, Option, Some, None}
use Rattle.tl_stream.specs.declared.fault.StreamFault.{StreamFault}
use Rattle.tl_stream.specs.declared.fault.StreamFault.TheVariants as fault

abbrev pub code_of : StreamFault → ℕ
code_of fault.UnknownLink = 21
code_of fault.NumberNotAbove = 22
code_of (fault.RangeNotAfter number) = 24
code_of fault.Memory = 20

abbrev pub number_of : StreamFault → Option ℕ
number_of (fault.RangeNotAfter number) = Some number
number_of _ = None
