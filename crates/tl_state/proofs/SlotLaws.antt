-- Slots that have the same values.
use Rattle.std.proofs.Common.{◌≡◌, ℕ, ◌<◌, ◌≤◌, ◌+◌, ◌-◌, length, take, Bool, true, false, Option, None, List, slice_index_or, refl, sym, ap, ◌∙◌, arith}
use Rattle.std.specs.Prelude.{nat_lt, ◌==◌, if◌then◌else◌}
use Rattle.std.specs.Bool.{Decides}
use Rattle.std.specs.Ordering.{nat_cmp}
use Rattle.std.specs.BTreeMap.{BTreeMap, get}
use Rattle.std.proofs.lemmas.Bool.Decides.{nat_tests}
use Rattle.std.proofs.lemmas.List.{get_or_past, get_or-take, length-take}
use Rattle.tl_state.specs.declared.slots.Slots.{Slots}
use Rattle.tl_state.specs.Slots.{slot_of, SameSlots, AgreeOn}

pub high_of : {V : Type 0} (slots : Slots V) (key : ℕ) → get nat_cmp slots.high key ≡ slot_of slots (key + 256)
high_of slots key =
    let past : nat_lt (key + 256) 256 ≡ false = grind (arith, nat_tests) in
    let back : key + 256 - 256 ≡ key = omega arith in
    rw (past, back) refl

-- two lists that agree wherever one of them has a place
both : {V : Type 0} (one two : List (Option V)) (key : ℕ) → (key < length one → slice_index_or one key None ≡ slice_index_or two key None) → (key < length two → slice_index_or two key None ≡ slice_index_or one key None)
    → slice_index_or one key None ≡ slice_index_or two key None
both one two key here there = elim (nat_lt key (length one)) as (λ b. nat_lt key (length one) ≡ b → slice_index_or one key None ≡ slice_index_or two key None) [
  | true ↦ λ is. (let lt : key < length one = grind (arith, nat_tests) in here lt)
  | false ↦ λ is. elim (nat_lt key (length two)) as (λ b. nat_lt key (length two) ≡ b → slice_index_or one key None ≡ slice_index_or two key None) [
    | true ↦ λ at. (let lt : key < length two = grind (arith, nat_tests) in sym (there lt))
    | false ↦ λ at. (let past : length one ≤ key = grind (arith, nat_tests) in let past_two : length two ≤ key = grind (arith, nat_tests) in get_or_past one key None past ∙ sym (get_or_past two key None past_two))
  ] refl
] refl

pub same_parts : {V : Type 0} (one two : Slots V) → AgreeOn one two → AgreeOn two one → ((key : ℕ) → get nat_cmp one.high key ≡ get nat_cmp two.high key) → SameSlots one two
same_parts one two here there high key = elim (nat_lt key 256) as (λ b. nat_lt key 256 ≡ b → slot_of one key ≡ slot_of two key) [
  | true ↦ λ is. (let lt : key < 256 = grind (arith, nat_tests) in rw is (both one.low.items two.low.items key (here key lt) (there key lt)))
  | false ↦ λ is. rw is (high (key - 256))
] refl

pub high_of_same : {V : Type 0} (one two : Slots V) → SameSlots one two → (key : ℕ) → get nat_cmp one.high key ≡ get nat_cmp two.high key
high_of_same one two same key = high_of one key ∙ same (key + 256) ∙ sym (high_of two key)

-- slots of which one place was set
pub low_set : {V : Type 0} (one two : Slots V) (key : ℕ) (value : Option V) → key < 256 → two.high ≡ one.high
    → ((k : ℕ) → slice_index_or two.low.items k None ≡ (if key == k then value else slice_index_or one.low.items k None)) → (other : ℕ) → slot_of two other ≡ (if key == other then value else slot_of one other)
low_set one two key value lt high low other = elim (nat_lt other 256) as (λ b. nat_lt other 256 ≡ b → slot_of two other ≡ (if key == other then value else slot_of one other)) [
  | true ↦ λ is. rw is (low other)
  | false ↦ λ is. (let apart : key == other ≡ false = grind (arith, nat_tests) in rw (is, apart) (ap (λ (m : BTreeMap ℕ _). get nat_cmp m (other - 256)) high))
] refl

pub low_kept : {V : Type 0} (one two : Slots V) → two.high ≡ one.high → two.low.items ≡ one.low.items → (key : ℕ) → slot_of two key ≡ slot_of one key
low_kept one two high low key = rw (high, low) refl

-- a front of the places, without values behind it
fronts : {V : Type 0} (low : List (Option V)) (used key : ℕ) → ((k : ℕ) → used ≤ k → slice_index_or low k None ≡ None) → slice_index_or low key None ≡ slice_index_or (take used low) key None
fronts low used key empty = elim (nat_lt key used) as (λ b. nat_lt key used ≡ b → slice_index_or low key None ≡ slice_index_or (take used low) key None) [
  | true ↦ λ is. (let lt : key < used = grind (arith, nat_tests) in sym (get_or-take used low key None lt))
  | false ↦ λ is. (let le : used ≤ key = grind (arith, nat_tests) in let short : length (take used low) ≤ key = omega (arith, le, length-take used low) in empty key le ∙ sym (get_or_past (take used low) key None short))
] refl

pub same_copy : {V : Type 0} (one two : Slots V) (used : ℕ) → two.low.items ≡ take used one.low.items → ((k : ℕ) → used ≤ k → slice_index_or one.low.items k None ≡ None)
    → ((key : ℕ) → get nat_cmp one.high key ≡ get nat_cmp two.high key) → SameSlots one two
same_copy one two used low empty high key = elim (nat_lt key 256) as (λ b. nat_lt key 256 ≡ b → slot_of one key ≡ slot_of two key) [
  | true ↦ λ is. rw (is, low) (fronts one.low.items used key empty)
  | false ↦ λ is. rw is (high (key - 256))
] refl

pub same_by_parts : {V : Type 0} (one two : Slots V) (is : Bool) → AgreeOn one two → AgreeOn two one → Decides is ((key : ℕ) → get nat_cmp one.high key ≡ get nat_cmp two.high key) → Decides is (SameSlots one two)
same_by_parts one two is here there high = ((λ yes. same_parts one two here there (high.0 yes)), (λ same. high.1 (high_of_same one two same)))
