-- Tables that messages open and close, such as the requests in flight by source. `before` are the messages of a link so
-- far, the newest first. [TileLink 1.8: operations, transaction identifiers; own profile: keys and ends]
use Rattle.std.specs.Prelude.{◌≡◌, ℕ, ◌+◌, ◌-◌, ◌==◌, ◌&&◌, ◌||◌, not, Bool, true, false, List, [], ◌∷◌, ◌++◌, Option, Some, None, find, filter, if◌then◌else◌}
use Rattle.std.specs.List.{AllByRecursion}
use Rattle.std.specs.Option.{option_and_then, option_map, option_map_or}

-- Which messages open and close an entry, and of which key.
pub record Table (E : Type 0) : Type 0 where
  pub opens : E → Bool
  pub closes : E → Bool
  pub key : E → ℕ

abbrev pub without : ℕ → List ℕ → List ℕ
without key keys = filter (λ k. not (k == key)) keys

abbrev pub one_if : Bool → ℕ
one_if b = if b then 1 else 0

module _ {E : Type 0} where
  -- The message opens or closes some entry.
  abbrev pub acts : Table E → E → Bool
  acts table message = table.opens message || table.closes message

  -- It opens or closes the entry of this key.
  abbrev pub touches : Table E → ℕ → E → Bool
  touches table key message = acts table message && (table.key message == key)

  -- The opener is open after these messages: no newer one opens or closes its key.
  abbrev pub IsOpen : Table E → List E → E → Type 0
  IsOpen table before opener = (newer older : List E) × (before ≡ newer ++ opener ∷ older) × (table.opens opener ≡ true)
      × AllByRecursion (λ message. touches table (table.key opener) message ≡ false) newer

  abbrev pub if_opens : Table E → E → Option E
  if_opens table message = if table.opens message then Some message else None

  -- The opener that is open on a key: the newest message that opens or closes the key, if it opens it.
  abbrev pub open_at : Table E → ℕ → List E → Option E
  open_at table key before = option_and_then (if_opens table) (find (touches table key) before)

  -- The keys whose opener is open and passes the test, each once.
  abbrev pub open_keys : Table E → (E → Bool) → List E → List ℕ
  open_keys table test [] = []
  open_keys table test (message ∷ before) =
      if acts table message then (if table.opens message && test message then table.key message ∷ without (table.key message) (open_keys table test before)
      else without (table.key message) (open_keys table test before))
      else open_keys table test before

  -- How many do after one more message, from how many did, and from whether the opener that was open on its key did.
  abbrev pub count_after : Table E → (E → Bool) → E → Bool → ℕ → ℕ
  count_after table test message old count = if acts table message then one_if (table.opens message && test message) + (count - one_if old) else count

-- Something is there, and passes the test.
abbrev pub passes : {V : Type 0} → (V → Bool) → Option V → Bool
passes test entry = option_map_or test entry false

module _ {E V : Type 0} where
  -- What is kept of the opener that is open on a key.
  abbrev pub entry_at : Table E → (E → V) → List E → ℕ → Option V
  entry_at table kept before key = option_map kept (open_at table key before)

  -- The same after one more message, from what it was before it.
  abbrev pub entry_after : Table E → (E → V) → E → (ℕ → Option V) → ℕ → Option V
  entry_after table kept message old key = if touches table key message then option_map kept (if_opens table message) else old key
