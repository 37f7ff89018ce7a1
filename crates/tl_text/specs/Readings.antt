-- Readings that end at their first fault, and how a function that may run out of memory follows one.
use Rattle.std.specs.Prelude.{◌≡◌, Bool, false, Option, Some, None, Result, Ok, Err}

module _ {E : Type 0} where
  -- the second reading on what the first gives, or the first's fault
  infixl 10 ◌>>>◌
  abbrev pub ◌>>>◌ : {A B : Type 0} → Result A E → (A → Result B E) → Result B E
  (Ok x) >>> f = f x
  (Err e) >>> f = Err e

  -- a value, or the fault where there is none
  abbrev pub or_fault : {A : Type 0} → Option A → E → Result A E
  or_fault None fault = Err fault
  or_fault (Some x) fault = Ok x

  -- The fault is the reading's, unless memory ran out.
  abbrev pub Fails : {Y : Type 0} → (E → Bool) → E → Result Y E → Type 0
  Fails is_memory e read = is_memory e ≡ false → read ≡ Err e

  -- What a function returned, seen by view, is what the reading gives, unless memory ran out.
  abbrev pub Gives : {X Y : Type 0} → (E → Bool) → (X → Y) → Result X E → Result Y E → Type 0
  Gives is_memory view (Ok x) read = read ≡ Ok (view x)
  Gives is_memory view (Err e) read = Fails is_memory e read
