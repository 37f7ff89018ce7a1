-- Values that are known, or aren't, as the definitions have them, and what messages make known of an entry.
use Rattle.std.specs.Prelude.{Bool, false, Option, None, if◌then◌else◌}
use Rattle.tl_definitions.specs.Known.{Known, unknown, known, if_closed, if_shut}
use Rattle.tl_midway.specs.declared.known.Known as code
use Rattle.tl_midway.specs.declared.known.Known.TheVariants as value

abbrev pub known_of : {V : Type 0} → code.Known V → Known V
known_of value.Unknown = unknown
known_of (value.Sure v) = known v

-- After a message that opens an entry, and makes it this, or that may be a later beat.
abbrev pub opened : {T : Type 0} → Bool → Known T → Known T
opened certain made = if certain then made else unknown

-- After one that closes it, or may be a later beat.
abbrev pub closed : {V : Type 0} → Bool → Known (Option V) → Known (Option V)
closed certain old = if certain then known None else if_closed old

abbrev pub shut : Bool → Known Bool → Known Bool
shut certain old = if certain then known false else if_shut old
