-- What is counted of a table is what is known of its keys.
use Rattle.std.proofs.Common.{◌≡◌, ℕ, ◌+◌, ◌-◌, ◌<◌, ◌≤◌, ◌==◌, ◌||◌, inl, inr, Bool, true, false, cond, List, [], ◌∷◌, Option, Some, None, refl, sym, ap, ◌∙◌, arith}
use Rattle.std.specs.Prelude.{nat_lt, nat_le}
use Rattle.std.specs.List.{Contains, list_any}
use Rattle.std.specs.Option.{option_map}
use Rattle.std.proofs.lemmas.Bool.Decides.{nat_tests}
use Rattle.tl_definitions.specs.OpenTables.{one_if, passes}
use Rattle.tl_definitions.specs.Past.{grants_block}
use Rattle.tl_definitions.specs.Known.{Known, unknown, known, surely}
use Rattle.tl_definitions.specs.Printed.{some_key}
use Rattle.tl_definitions.proofs.Lists.{contains_none, contains_cases}
use Rattle.tl_definitions.proofs.Sure.{or_first, or_second}
use Rattle.tl_client_rules.specs.OpenBlocks.{block_at, open_on}
use Rattle.tl_midway.specs.declared.counted.CountedTable.{CountedTable}
use Rattle.tl_midway.specs.Known.{opened, closed}
use Rattle.tl_midway.specs.CountedTable.{entry_known, open_count, open_block, HasBlock, IsCounted}
use Rattle.tl_midway.proofs.CountLaws.{count_none, count_one, count_changed, count_some}

-- The keys whose entry is counted on a block.
abbrev is_on : {V : Type 0} → CountedTable V → ℕ → ℕ → Bool
is_on table on key = passes (grants_block on) (block_at table.counted key)

-- ---- a table without keys

pub counted_new : {V : Type 0} (block_of : V → Option ℕ) (first : ℕ → Known (Option V)) (table : CountedTable V)
    → ((f : Known (Option V)) (key : ℕ) → entry_known table f key ≡ f) → ((key : ℕ) → block_at table.counted key ≡ None) → ((on : ℕ) → open_on table.counted on ≡ 0)
    → ((key : ℕ) → open_block block_of (first key) ≡ None) → IsCounted block_of first table
counted_new block_of first table entries blocks counts none = record {
  blocks = λ key. blocks key ∙ sym (none key) ∙ ap (open_block block_of) (sym (entries (first key) key));
  small = λ key large. blocks key;
  counts = λ on. counts on ∙ sym (count_none (is_on table on) 65536 (λ key. ap (passes (grants_block on)) (blocks key)));
}

-- ---- one key is set

other_key : (key k : ℕ) → key < 65536 → 65536 ≤ k → (key == k) ≡ false
other_key key k below above = grind (arith, nat_tests)

same_key : (k : ℕ) → (k == k) ≡ true
same_key k = grind (arith, nat_tests)

module _ {V : Type 0} (block_of : V → Option ℕ) (first : ℕ → Known (Option V)) (old new : CountedTable V) (key : ℕ) (entry : Known (Option V)) (block : Option ℕ) where
  abbrev pub put : Option (Option ℕ)
  put = open_block (λ value. block) entry

  pub counted_next : key < 65536 → HasBlock block_of block entry
      → ((other : ℕ) → block_at new.counted other ≡ cond (key == other) put (block_at old.counted other))
      → ((on : ℕ) → open_on new.counted on ≡ one_if (passes (grants_block on) put) + (open_on old.counted on - one_if (passes (grants_block on) (block_at old.counted key))))
      → ((f : Known (Option V)) (other : ℕ) → entry_known new f other ≡ cond (key == other) entry (entry_known old f other))
      → IsCounted block_of first old → IsCounted block_of first new
  counted_next below has blocks counts entries was = record {
    blocks = λ k.
        blocks k
        ∙ elim (key == k) as (λ b. cond b put (block_at old.counted k) ≡ open_block block_of (cond b entry (entry_known old (first k) k))) [
          | true ↦ sym has
          | false ↦ was.blocks k
        ]
        ∙ ap (open_block block_of) (sym (entries (first k) k));
    small = λ k large. blocks k ∙ ap (λ b. cond b put (block_at old.counted k)) (other_key key k below large) ∙ was.small k large;
    counts = λ on.
        let here : block_at new.counted key ≡ put = blocks key ∙ ap (λ b. cond b put (block_at old.counted key)) (same_key key) in
        let stays : (k : ℕ) → (key == k) ≡ false → is_on new on k ≡ is_on old on k =
        λ k other. ap (passes (grants_block on)) (blocks k ∙ ap (λ b. cond b put (block_at old.counted k)) other) in
        counts on
        ∙ ap (λ b. one_if (passes (grants_block on) b) + (open_on old.counted on - one_if (is_on old on key))) (sym here)
        ∙ ap (λ n. one_if (is_on new on key) + (n - one_if (is_on old on key))) (was.counts on)
        ∙ sym (count_changed (is_on old on) (is_on new on) 65536 key below stays);
  }

-- What messages make known has the block that they give.
pub opened_has : {V : Type 0} (certain : Bool) (block_of : V → Option ℕ) (block : Option ℕ) (made : Known (Option V)) → HasBlock block_of block made → HasBlock block_of block (opened certain made)
opened_has true block_of block made has = has
opened_has false block_of block made has = refl

pub closed_has : {V : Type 0} (certain : Bool) (block_of : V → Option ℕ) (old : Known (Option V)) → HasBlock block_of None (closed certain old)
closed_has true block_of old = refl
closed_has false block_of unknown = refl
closed_has false block_of (known None) = refl
closed_has false block_of (known (Some value)) = refl

-- ---- what is counted on a block

same_answers : (a b : Bool) → (a ≡ true → b ≡ true) → (b ≡ true → a ≡ true) → a ≡ b
same_answers true b f g = sym (f refl)
same_answers false true f g = g refl
same_answers false false f g = refl

any_of : {X : Type 0} (p : X → Bool) (xs : List X) (x : X) → Contains xs x → p x ≡ true → list_any p xs ≡ true
any_of p [] x h t = absurd (contains_none x h)
any_of p (y ∷ xs) x h t = elim (contains_cases y xs x h) [
  | inl e ↦ or_first (p y) (list_any p xs) (ap p e ∙ t)
  | inr r ↦ or_second (p y) (list_any p xs) (any_of p xs x r t)
]

any_from : {X : Type 0} (p : X → Bool) (xs : List X) → list_any p xs ≡ true → (x : X) × (p x ≡ true)
any_from {X} p [] h = absurd cc
any_from {X} p (y ∷ xs) h = elim (p y) as (λ b. p y ≡ b → (b || list_any p xs) ≡ true → (x : X) × (p x ≡ true)) [
  | true ↦ λ e g. (y, e)
  | false ↦ λ e g. any_from p xs g
] refl h

same_passes : (on : ℕ) (block : Option ℕ) → passes (grants_block on) (option_map (λ b. Some b) block) ≡ grants_block on block
same_passes on None = refl
same_passes on (Some b) = refl

-- An entry that is counted on a block is known to be open, with that block.
counted_entry : {V : Type 0} (block_of : V → Option ℕ) (on : ℕ) (entry : Known (Option V)) → passes (grants_block on) (open_block block_of entry) ≡ true
    → (value : V) × (entry ≡ known (Some value)) × (grants_block on (block_of value) ≡ true)
counted_entry block_of on unknown h = absurd cc
counted_entry block_of on (known None) h = absurd cc
counted_entry block_of on (known (Some value)) h = (value, refl, sym (same_passes on (block_of value)) ∙ h)

entry_counted : {V : Type 0} (block_of : V → Option ℕ) (test : V → Bool) (on : ℕ) (entry : Known (Option V)) → ((value : V) → grants_block on (block_of value) ≡ test value)
    → surely (passes test) entry ≡ true → passes (grants_block on) (open_block block_of entry) ≡ true
entry_counted block_of test on unknown same h = cc
entry_counted block_of test on (known None) same h = cc
entry_counted block_of test on (known (Some value)) same h = same_passes on (block_of value) ∙ same value ∙ h

some_counted : (n : ℕ) → nat_lt 0 n ≡ true → 0 < n
some_counted n h = grind (arith, nat_tests)

counted_some : (n : ℕ) → 1 ≤ n → nat_lt 0 n ≡ true
counted_some n h = grind (arith, nat_tests)

below_by : (k : ℕ) → nat_le 65536 k ≡ false → k < 65536
below_by k h = grind (arith, nat_tests)

above_by : (k : ℕ) → nat_le 65536 k ≡ true → 65536 ≤ k
above_by k h = grind (arith, nat_tests)

-- Something is counted on a block where one of these keys is known to be open on it, if they are all that may be.
module _ {V : Type 0} (block_of : V → Option ℕ) (first : ℕ → Known (Option V)) (table : CountedTable V) (test : V → Bool) (on : ℕ) (keys : List ℕ) where
  abbrev pub entry : ℕ → Known (Option V)
  entry key = entry_known table (first key) key

  listed : IsCounted block_of first table → ((value : V) → grants_block on (block_of value) ≡ test value)
      → ((key : ℕ) (value : V) → entry key ≡ known (Some value) → Contains keys key) → nat_lt 0 (open_count table on) ≡ true → some_key test entry keys ≡ true
  listed is same all h =
      let found = count_some (is_on table on) 65536 (some_counted _ (sym (ap (nat_lt 0) (is.counts on)) ∙ h)) in
      let key : ℕ = found.0 in
      let one = counted_entry block_of on (entry key) (ap (passes (grants_block on)) (sym (is.blocks key)) ∙ found.1) in
      any_of (λ k. surely (passes test) (entry k)) keys key (all key one.0 one.1) (ap (surely (passes test)) one.1 ∙ sym (same one.0) ∙ one.2)

  key_below : IsCounted block_of first table → (key : ℕ) → is_on table on key ≡ true → key < 65536
  key_below is key h =
      elim (nat_le 65536 key) as (λ b. nat_le 65536 key ≡ b → key < 65536) [
        | true ↦ λ e. (let never : false ≡ true = sym (ap (passes (grants_block on)) (is.small key (above_by key e))) ∙ h in cc)
        | false ↦ λ e. below_by key e
      ] refl

  counted : IsCounted block_of first table → ((value : V) → grants_block on (block_of value) ≡ test value)
      → some_key test entry keys ≡ true → nat_lt 0 (open_count table on) ≡ true
  counted is same h =
      let found = any_from (λ k. surely (passes test) (entry k)) keys h in
      let key : ℕ = found.0 in
      let here : is_on table on key ≡ true = ap (passes (grants_block on)) (is.blocks key) ∙ entry_counted block_of test on (entry key) same found.1 in
      let some = count_one (is_on table on) 65536 key (key_below is key here) in
      let one : one_if (is_on table on key) ≡ 1 = ap one_if here in
      let count = is.counts on in
      counted_some (open_count table on) (omega (arith, some, one, count))

  pub open_law : IsCounted block_of first table → ((value : V) → grants_block on (block_of value) ≡ test value)
      → ((key : ℕ) (value : V) → entry key ≡ known (Some value) → Contains keys key) → nat_lt 0 (open_count table on) ≡ some_key test entry keys
  open_law is same all = same_answers (nat_lt 0 (open_count table on)) (some_key test entry keys) (listed is same all) (counted is same)
