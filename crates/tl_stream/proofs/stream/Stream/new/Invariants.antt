use Rattle.std.proofs.Common.{◌≡◌, length}
use Rattle.std.specs.Prelude.{ℕ, Option, Some, None, slice_get}
use Rattle.tl_stream.specs.declared.front.Front.{Front}
use Rattle.tl_stream.proofs.stream.Stream.new.Given as goal

-- no link has a front
abbrev pub invariant-loop : goal.invariant-loop
invariant-loop l = record {
  count : length l.fronts.items ≡ l.counter;
  none : (link : ℕ) (front : Option Front) → slice_get l.fronts.items link ≡ Some front → front ≡ None;
}
