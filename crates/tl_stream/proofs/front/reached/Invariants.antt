use Rattle.std.proofs.Common.{◌≡◌, ℕ, ◌<◌, ◌^◌, take}
use Rattle.std.specs.Prelude.{nat_le}
use Rattle.std.specs.List.{list_all}
use Rattle.tl_stream.specs.Fronts.{has_reached}
use Rattle.tl_stream.proofs.front.reached.Given as goal

-- how far the links have come that were looked at
abbrev pub invariant-loop-link : goal.invariant-loop-link
invariant-loop-link l = (cycle : ℕ) → cycle < 2 ^ 64 → list_all (has_reached l.fronts cycle) (take l.link-index l.links) ≡ nat_le cycle l.least
