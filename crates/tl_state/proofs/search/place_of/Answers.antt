use Rattle.std.proofs.Common.{◌+◌, ◌-◌, ◌/◌, sym, arith}
use Rattle.tl_state.proofs.OrderLemmas.{below_through}
use Rattle.tl_state.proofs.search.place_of.Goals as goal

pub loop-low-preserved-in-Greater : goal.loop-low-preserved-in-Greater
loop-low-preserved-in-Greater g c =
    record {
      ordered = omega arith;
      within = c.loop-low.invariant.within;
      below = below_through g.met.K.Ord.total c.args.key.now c.args.entries.now (c.loop-low.low + (c.loop-low.high - c.loop-low.low) / 2) c.index-entries-middle.result (omega arith) c.index-entries-middle.is c.requires (sym c.in-Greater.ensures);
      stops = c.loop-low.invariant.stops;
    }
