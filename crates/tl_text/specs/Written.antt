-- What a write leaves.
use Rattle.std.specs.Prelude.{◌≡◌, ℕ, ◌+◌, ◌≤◌, List, length, take, Option, Result, Ok, Err}
use Rattle.std.specs.Io.KnownBytes.{Appends, Keeps}

-- the first n bytes where it took n, and nothing at an error
abbrev pub Wrote : {E : Type 0} → Option (List ℕ) → Option (List ℕ) → Result ℕ E → List ℕ → Type 0
Wrote old new (Ok n) bytes = Appends old new (take n bytes)
Wrote old new (Err e) bytes = Keeps old new

-- All the bytes were written; or a write failed, and a front of them was. The counts of failures tell which.
abbrev pub Writes : {E : Type 0} → List ℕ → Option (List ℕ) → Option (List ℕ) → ℕ → ℕ → Result (Unit {0}) E → Type 0
Writes bytes old new before after (Ok done) = (after ≡ before) × Appends old new bytes
Writes bytes old new before after (Err e) = (after ≡ before + 1) × ((n : ℕ) × (n ≤ length bytes) × Appends old new (take n bytes))
