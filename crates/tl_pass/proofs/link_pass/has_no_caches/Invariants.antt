use Rattle.std.proofs.Common.{◌≡◌, ◌<◌, ℕ, false}
use Rattle.tl_check.specs.Managers.{has_caches}
use Rattle.tl_pass.proofs.link_pass.has_no_caches.Given as goal

abbrev pub invariant-loop-link : goal.invariant-loop-link
invariant-loop-link l = (n : ℕ) → n < l.link → has_caches l.topo n ≡ false
