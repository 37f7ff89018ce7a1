-- The messages of TileLink 1.8, by channel, opcode and level.
use Rattle.std.specs.Prelude.{ℕ, Bool, true, false, List, [], ◌∷◌, Option, Some, None, if◌then◌else◌, ◌==◌}
use Rattle.std.specs.Option.{option_and_then}
use Rattle.std.specs.List.{slice_get}
use Rattle.tl_tables.specs.declared.Chan.{Chan}
use Rattle.tl_tables.specs.declared.Chan.TheVariants as chan
use Rattle.tl_tables.specs.declared.Level.{Level}
use Rattle.tl_tables.specs.declared.Level.TheVariants as level
use Rattle.tl_tables.specs.declared.Op.{Op}
use Rattle.tl_tables.specs.declared.Op.TheVariants as op

-- The messages of a channel in the order of their opcodes; None is a code without a message.
-- [TileLink 1.8: message opcodes of the five channels]
abbrev pub codes : Chan → List (Option Op)
codes chan.A = Some op.PutFullData ∷ Some op.PutPartialData ∷ Some op.ArithmeticData ∷ Some op.LogicalData ∷ Some op.Get ∷ Some op.Intent ∷ Some op.AcquireBlock ∷ Some op.AcquirePerm ∷ []
codes chan.B = Some op.PutFullData ∷ Some op.PutPartialData ∷ Some op.ArithmeticData ∷ Some op.LogicalData ∷ Some op.Get ∷ Some op.Intent ∷ Some op.ProbeBlock ∷ Some op.ProbePerm ∷ []
codes chan.C = Some op.AccessAck ∷ Some op.AccessAckData ∷ Some op.HintAck ∷ None ∷ Some op.ProbeAck ∷ Some op.ProbeAckData ∷ Some op.Release ∷ Some op.ReleaseData ∷ []
codes chan.D = Some op.AccessAck ∷ Some op.AccessAckData ∷ Some op.HintAck ∷ None ∷ Some op.Grant ∷ Some op.GrantData ∷ Some op.ReleaseAck ∷ None ∷ []
codes chan.E = Some op.GrantAck ∷ []

-- The lowest level that has the message on the channel. [own profile: which codes belong to a level]
abbrev pub least_level : Chan → Op → Level
least_level chan.A op.PutFullData = level.Ul
least_level chan.A op.PutPartialData = level.Ul
least_level chan.A op.Get = level.Ul
least_level chan.D op.AccessAck = level.Ul
least_level chan.D op.AccessAckData = level.Ul
least_level chan.A op.ArithmeticData = level.Uh
least_level chan.A op.LogicalData = level.Uh
least_level chan.A op.Intent = level.Uh
least_level chan.D op.HintAck = level.Uh
least_level _ _ = level.C

-- The second level has all that the first has.
abbrev pub level_le : Level → Level → Bool
level_le level.Ul _ = true
level_le level.Uh level.Ul = false
level_le level.Uh _ = true
level_le level.C level.C = true
level_le level.C _ = false

-- The message of an opcode on a channel of a link of the level.
unfoldable pub op_at : Level → Chan → ℕ → Option Op
op_at l c code = option_and_then (λ found. option_and_then (λ o. if level_le (least_level c o) l then Some o else None) found) (slice_get (codes c) code)

-- Which messages carry data. [TileLink 1.8: serialization, messages with a payload]
abbrev pub carries_data_of : Op → Bool
carries_data_of op.PutFullData = true
carries_data_of op.PutPartialData = true
carries_data_of op.ArithmeticData = true
carries_data_of op.LogicalData = true
carries_data_of op.AccessAckData = true
carries_data_of op.ProbeAckData = true
carries_data_of op.ReleaseData = true
carries_data_of op.GrantData = true
carries_data_of _ = false

-- Which message answers which. [TileLink 1.8: operations and their responses; data for ProbePerm is the own profile's]
abbrev pub replies_to : Op → Op → Bool
replies_to op.PutFullData op.AccessAck = true
replies_to op.PutPartialData op.AccessAck = true
replies_to op.Get op.AccessAckData = true
replies_to op.ArithmeticData op.AccessAckData = true
replies_to op.LogicalData op.AccessAckData = true
replies_to op.Intent op.HintAck = true
replies_to op.AcquireBlock op.Grant = true
replies_to op.AcquireBlock op.GrantData = true
replies_to op.AcquirePerm op.Grant = true
replies_to op.Release op.ReleaseAck = true
replies_to op.ReleaseData op.ReleaseAck = true
replies_to op.Grant op.GrantAck = true
replies_to op.GrantData op.GrantAck = true
replies_to op.ProbeBlock op.ProbeAck = true
replies_to op.ProbeBlock op.ProbeAckData = true
replies_to op.ProbePerm op.ProbeAck = true
replies_to op.ProbePerm op.ProbeAckData = true
replies_to _ _ = false

-- The channels in their order within one cycle.
abbrev pub chan_number : Chan → ℕ
chan_number chan.A = 0
chan_number chan.B = 1
chan_number chan.C = 2
chan_number chan.D = 3
chan_number chan.E = 4

abbrev pub same_chan : Chan → Chan → Bool
same_chan a b = chan_number a == chan_number b
