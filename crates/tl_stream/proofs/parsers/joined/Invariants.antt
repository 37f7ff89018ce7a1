use Rattle.std.proofs.Common.{◌≡◌, None, length}
use Rattle.std.specs.Vec.Iter.{into_iter_items, into_iter_len}
use Rattle.tl_stream.proofs.PartLemmas.{HasJoined}
use Rattle.tl_stream.proofs.parsers.joined.Given as goal

-- the parts so far are all fragments
abbrev pub invariant-loop-part : goal.invariant-loop-part
invariant-loop-part l = record {
  next : (goal.iterator-loop-part).can_next l.part-iterator;
  finite : (goal.iterator-loop-part).is_finite l.part-iterator;
  len : into_iter_len l.part-iterator ≡ length (into_iter_items l.part-iterator);
  so_far : HasJoined l.texts l.share l.fn.parts.items (into_iter_items l.part-iterator) (l.fragments.items, None);
}
