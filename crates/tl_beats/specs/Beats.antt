-- What a beat of a capture is, and the order of the beats of a link.
use Rattle.std.specs.Prelude.{◌≡◌, ◌^◌, ◌<◌, ◌≤◌, ◌&&◌, ◌||◌, ◌==◌, Bool, false, nat_lt}
use Rattle.tl_tables.specs.declared.Chan.{Chan}
use Rattle.tl_tables.specs.declared.Chan.TheVariants as chan
use Rattle.tl_tables.specs.Messages.{chan_number}
use Rattle.tl_beats.specs.declared.Beat.{Beat}

-- the channels whose beats have a mask
abbrev pub HasMask : Chan → Type 0
HasMask chan.A = Unit {0}
HasMask chan.B = Unit {0}
HasMask chan.C = ⊥
HasMask chan.D = ⊥
HasMask chan.E = ⊥

-- Fields that the channel lacks are 0. [TileLink 1.8: the signals of the five channels]
abbrev pub LacksOther : Chan → Beat → Type 0
LacksOther chan.A b = (b.sink ≡ 0) × (b.denied ≡ false)
LacksOther chan.B b = (b.sink ≡ 0) × (b.denied ≡ false)
LacksOther chan.C b = (b.sink ≡ 0) × (b.mask ≡ 0) × (b.denied ≡ false)
LacksOther chan.D b = (b.address ≡ 0) × (b.mask ≡ 0)
LacksOther chan.E b = (b.opcode ≡ 0) × (b.param ≡ 0) × (b.size ≡ 0) × (b.source ≡ 0) × (b.address ≡ 0) × (b.mask ≡ 0) × (b.denied ≡ false) × (b.corrupt ≡ false)

-- The fields are in their ranges.
pub record IsWellFormed (b : Beat) : Type 0 where
  pub cycle : b.cycle < 2 ^ 64
  pub opcode : b.opcode ≤ 7
  pub param : b.param ≤ 7
  pub size : b.size ≤ 15
  pub source : b.source ≤ 65535
  pub sink : b.sink ≤ 65535
  pub address : b.address < 2 ^ 64
  pub mask : b.mask < 2 ^ 64
  pub lacks : LacksOther b.chan b

-- The first stands strictly before the second on their link: by cycle, then by channel.
abbrev pub rises : Beat → Beat → Bool
rises a b = nat_lt a.cycle b.cycle || (a.cycle == b.cycle && nat_lt (chan_number a.chan) (chan_number b.chan))
