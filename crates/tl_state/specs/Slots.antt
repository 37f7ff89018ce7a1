-- What is kept by a number of 16 bits.
use Rattle.std.specs.Prelude.{ℕ, ◌≡◌, ◌<◌, ◌-◌, length, Option, None, nat_lt, slice_index_or, if◌then◌else◌}
use Rattle.std.specs.Ordering.{nat_cmp}
use Rattle.std.specs.BTreeMap.{get}
use Rattle.tl_state.specs.declared.slots.Slots.{Slots}

-- The value of a number.
abbrev pub slot_of : {V : Type 0} → Slots V → ℕ → Option V
slot_of slots key = if nat_lt key 256 then slice_index_or slots.low.items key None else get nat_cmp slots.high (key - 256)

-- Both have the same value on each number.
abbrev pub SameSlots : {V : Type 0} → Slots V → Slots V → Type 0
SameSlots one two = (key : ℕ) → slot_of one key ≡ slot_of two key

-- The second has the same value at each place that there is in the first.
abbrev pub AgreeOn : {V : Type 0} → Slots V → Slots V → Type 0
AgreeOn one two = (key : ℕ) → key < 256 → key < length one.low.items → slice_index_or one.low.items key None ≡ slice_index_or two.low.items key None
