use Rattle.std.proofs.Common.{◌∙◌, ap, refl}
use Rattle.tl_pieces.specs.declared.slot.Mark.TheVariants as mark
use Rattle.tl_pieces.specs.Slots.{first}
use Rattle.tl_pieces.proofs.SlotLemmas.{found_tally, found_first}
use Rattle.tl_pieces.proofs.slots.Slots.first_free.Goals as goal

pub invariant_of-self : goal.invariant_of-self
invariant_of-self g c = record {
  wanted = c.self.invariant.wanted;
  free = found_tally mark.Free c.self.inside.map.entries c.self.inside.free (record { count = c.self.inside.free.count; cursor = c.find-self-inside.result }) c.len.ensures.ordered c.self.invariant.free refl c.find-self-inside.ensures;
}

pub returns-clause-found : goal.returns-clause-found
returns-clause-found g c = c.find-self-inside.ensures ∙ found_first mark.Free c.self.inside.map.entries c.self.inside.free c.self.invariant.free ∙ ap (first mark.Free) c.self.view_is
