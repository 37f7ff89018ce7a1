-- The refusals of a fragment text, by number.
use Rattle.std.specs.Prelude.{ℕ, Bool, true, false, Option, Some, None}
use Rattle.tl_text.specs.declared.input.TextFault.{TextFault}
use Rattle.tl_text.specs.declared.input.TextFault.TheVariants as text
use Rattle.tl_beats.specs.declared.fault.FragmentFault.{FragmentFault}
use Rattle.tl_beats.specs.declared.fault.FragmentFault.TheVariants as fault

abbrev pub code_of : FragmentFault → ℕ
code_of fault.BadHeader = 11
code_of (fault.BadField line) = 12
code_of (fault.NotRising line) = 13
code_of (fault.OutOfRange line) = 14
code_of (fault.Truncated line) = 15
code_of fault.TooManyBeats = 16
code_of fault.ReadFault = 17
code_of fault.TooLong = 18
code_of fault.WriteFault = 19
code_of fault.Memory = 20

-- the line that is printed with it
abbrev pub number_of : FragmentFault → Option ℕ
number_of (fault.BadField line) = Some line
number_of (fault.NotRising line) = Some line
number_of (fault.OutOfRange line) = Some line
number_of (fault.Truncated line) = Some line
number_of _ = None

abbrev pub is_memory : FragmentFault → Bool
is_memory fault.Memory = true
is_memory _ = false

-- a fault of reading that is not the text's
abbrev pub is_outside : FragmentFault → Bool
is_outside fault.ReadFault = true
is_outside fault.TooLong = true
is_outside fault.Memory = true
is_outside _ = false

-- why a text was not read to its end
abbrev pub of_text : TextFault → FragmentFault
of_text text.ReadFault = fault.ReadFault
of_text text.TooLong = fault.TooLong
of_text text.Memory = fault.Memory
