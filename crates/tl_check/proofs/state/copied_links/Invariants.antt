use Rattle.std.proofs.Common.{◌≡◌, ℕ, ◌<◌, length}
use Rattle.std.specs.Prelude.{slice_index_or}
use Rattle.tl_check.specs.declared.links.LinkState.{LinkState}
use Rattle.tl_check.specs.Links.{SameLink}
use Rattle.tl_check.proofs.state.copied_links.Given as goal

-- the copies so far show the same
abbrev pub invariant-loop-link : goal.invariant-loop-link
invariant-loop-link l = record {
  count : length l.copies.items ≡ l.link-index;
  each : (n : ℕ) (d : LinkState) → n < l.link-index → SameLink (slice_index_or l.links n d) (slice_index_or l.copies.items n d);
}
