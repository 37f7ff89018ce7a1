-- What the beats of two channels lack alike.
use Rattle.std.proofs.Common.{◌≡◌, false}
use Rattle.tl_tables.specs.declared.Chan.{Chan}
use Rattle.tl_tables.specs.declared.Chan.TheVariants as chan
use Rattle.tl_beats.specs.declared.Beat.{Beat}
use Rattle.tl_beats.specs.Beats.{HasMask, LacksOther}

pub access_lacks : (c : Chan) (b : Beat) → HasMask c → b.sink ≡ 0 → b.denied ≡ false → LacksOther c b
access_lacks chan.A b has sink denied = (sink, denied)
access_lacks chan.B b has sink denied = (sink, denied)
access_lacks chan.C b has sink denied = absurd has
access_lacks chan.D b has sink denied = absurd has
access_lacks chan.E b has sink denied = absurd has
