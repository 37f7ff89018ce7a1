use Rattle.std.proofs.Common.{◌∙◌, ap, refl}
use Rattle.tl_pieces.specs.declared.slot.Mark.TheVariants as mark
use Rattle.tl_pieces.specs.Slots.{first}
use Rattle.tl_pieces.proofs.SlotLemmas.{found_tally, found_first}
use Rattle.tl_pieces.proofs.slots.Slots.first_wanted.Goals as goal

pub invariant_of-self : goal.invariant_of-self
invariant_of-self g c = record {
  wanted = found_tally mark.Wanted c.self.inside.map.entries c.self.inside.wanted (record { count = c.self.inside.wanted.count; cursor = c.find-self-inside.result }) c.len.ensures.ordered c.self.invariant.wanted refl c.find-self-inside.ensures;
  free = c.self.invariant.free;
}

pub returns-clause-found : goal.returns-clause-found
returns-clause-found g c = c.find-self-inside.ensures ∙ found_first mark.Wanted c.self.inside.map.entries c.self.inside.wanted c.self.invariant.wanted ∙ ap (first mark.Wanted) c.self.view_is
