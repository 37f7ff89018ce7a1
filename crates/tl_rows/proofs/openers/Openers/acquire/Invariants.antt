use Rattle.std.proofs.Common.{◌≡◌}
use Rattle.std.specs.Prelude.{find}
use Rattle.tl_rows.specs.Openers.{first_in}
use Rattle.tl_rows.specs.Origins.{message}
use Rattle.tl_rows.specs.Reasons.{acquires}
use Rattle.tl_rows.proofs.openers.Openers.acquire.Given as goal

-- what is left has the first
abbrev pub invariant-loop-origin : goal.invariant-loop-origin
invariant-loop-origin l =
    (goal.iterator-loop-origin).can_next l.origin-iterator ×
    (goal.iterator-loop-origin).is_finite l.origin-iterator ×
    (find (λ origin. acquires l.exponent l.block (message origin)) l.origin-iterator ≡ first_in l.self.sources (acquires l.exponent l.block))
