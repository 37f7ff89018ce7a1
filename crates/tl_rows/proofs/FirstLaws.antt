-- The first entry of a map in order that passes a test is what is open on the least key.
use Rattle.std.proofs.Common.{◌≡◌, ℕ, ◌<◌, ◌≤◌, ◌==◌, ◌||◌, Bool, true, false, cond, List, [], ◌∷◌, Option, Some, None, refl, sym, ap, subst, ◌∙◌, arith, map}
use Rattle.std.specs.Prelude.{find, min, nat_lt}
use Rattle.std.specs.List.{list_any, AllByRecursion}
use Rattle.std.specs.Option.{option_and_then, option_map_or, option_map}
use Rattle.std.specs.Cmp.{ranked, unsigned_tied}
use Rattle.std.specs.Ordering.{nat_cmp}
use Rattle.std.specs.declared.cmp.Ordering.TheVariants.{Less}
use Rattle.std.specs.Map.{lookup, keys_of, values_of}
use Rattle.std.specs.BTreeMap.{BTreeMap, is_at, get, values, IsOrdered}
use Rattle.std.specs.List.Sorted.{IsStrictlySortedBy}
use Rattle.std.proofs.lemmas.Bool.Decides.{nat_tests}
use Rattle.std.proofs.lemmas.Map.Keys.{sorted_head, sorted_tail}
use Rattle.tl_topology.proofs.RegionLaws.{other_key}
use Rattle.tl_definitions.specs.OpenTables.{Table, open_at, open_keys}
use Rattle.tl_definitions.specs.Messages.{Message}
use Rattle.tl_definitions.proofs.TableLaws.{listed}
use Rattle.tl_rows.specs.declared.origin.Origin.{Origin}
use Rattle.tl_rows.specs.Origins.{message, placed, least, first_open}
use Rattle.tl_rows.proofs.OpenerLaws.{kept_of}

-- ---- the least of some keys

abbrev pub has : ℕ → List ℕ → Bool
has k keys = list_any (λ x. x == k) keys

first_has : (k : ℕ) (keys : List ℕ) → has k (k ∷ keys) ≡ true
first_has k keys = let same : (k == k) ≡ true = grind (arith, nat_tests) in ap (λ b. b || has k keys) same

rest_has : (j k : ℕ) (keys : List ℕ) → has j keys ≡ true → has j (k ∷ keys) ≡ true
rest_has j k keys h = elim (k == j) as (λ b. (b || has j keys) ≡ true) [ true ↦ refl | false ↦ h ]

pub least_has : (keys : List ℕ) (k : ℕ) → least keys ≡ Some k → has k keys ≡ true
least_has [] k h = cc
least_has (x ∷ keys) k h =
    elim (least keys) as (λ found. least keys ≡ found → Some (option_map_or (min x) found x) ≡ Some k → has k (x ∷ keys) ≡ true) [
      | None ↦ λ e g. (let same : x ≡ k = ap (λ o. option_map_or (λ z. z) o x) g in subst (λ z. has z (x ∷ keys) ≡ true) same (first_has x keys))
      | Some y ↦ λ e g. (let same : min x y ≡ k = ap (λ o. option_map_or (λ z. z) o x) g in
          let known : has y keys ≡ true = least_has keys y e in
          elim (nat_lt y x) as (λ b. nat_lt y x ≡ b → has k (x ∷ keys) ≡ true) [
            | true ↦ λ l. let is : y ≡ k = grind (arith, nat_tests) in subst (λ z. has z (x ∷ keys) ≡ true) is (rest_has y x keys known)
            | false ↦ λ l. let is : x ≡ k = grind (arith, nat_tests) in subst (λ z. has z (x ∷ keys) ≡ true) is (first_has x keys)
          ] refl)
    ] refl h

not_below : (k j : ℕ) (keys : List ℕ) → ((i : ℕ) → i < k → has i keys ≡ false) → has j keys ≡ true → k ≤ j
not_below k j keys none h = elim (nat_lt j k) as (λ b. nat_lt j k ≡ b → k ≤ j) [
  | true ↦ λ l. let never : true ≡ false = sym h ∙ none j (grind (arith, nat_tests)) in cc
  | false ↦ λ l. grind (arith, nat_tests)
] refl

rest_none : (k x : ℕ) (keys : List ℕ) → ((i : ℕ) → i < k → has i (x ∷ keys) ≡ false) → (i : ℕ) → i < k → has i keys ≡ false
rest_none k x keys none i below = elim (has i keys) as (λ b. has i keys ≡ b → b ≡ false) [
  | true ↦ λ e. sym (rest_has i x keys e) ∙ none i below
  | false ↦ λ e. refl
] refl

pub least_is : (keys : List ℕ) (k : ℕ) → has k keys ≡ true → ((i : ℕ) → i < k → has i keys ≡ false) → least keys ≡ Some k
least_is [] k h none = cc
least_is (x ∷ keys) k h none =
    let above : k ≤ x = not_below k x (x ∷ keys) none (first_has x keys) in
    elim (has k keys) as (λ b. has k keys ≡ b → Some (option_map_or (min x) (least keys) x) ≡ Some k) [
      | true ↦ λ e. (let known = least_is keys k e (rest_none k x keys none) in
          ap (λ found. Some (option_map_or (min x) found x)) known ∙ ap Some (let m : min x k ≡ k = omega arith in m))
      | false ↦ λ e. (let is : (x == k) ≡ true = elim (x == k) as (λ b. (b || has k keys) ≡ true → b ≡ true) [ true ↦ λ g. refl | false ↦ λ g. sym e ∙ g ] h in
          let same : x ≡ k = grind (arith, nat_tests) in
          elim (least keys) as (λ found. least keys ≡ found → Some (option_map_or (min x) found x) ≡ Some k) [
            | None ↦ λ g. ap Some same
            | Some y ↦ λ g. (let over : k ≤ y = not_below k y keys (rest_none k x keys none) (least_has keys y g) in ap Some (let m : min x y ≡ k = omega arith in m))
          ] refl)
    ] refl

pub none_least : (keys : List ℕ) → ((i : ℕ) → has i keys ≡ false) → least keys ≡ None
none_least [] none = refl
none_least (x ∷ keys) none = let never : true ≡ false = sym (first_has x keys) ∙ none x in cc

pub least_below : (keys : List ℕ) (k j : ℕ) → least keys ≡ Some k → has j keys ≡ true → k ≤ j
least_below [] k j h listed = cc
least_below (x ∷ []) k j h listed =
    let is : x ≡ k = ap (λ o. option_map_or (λ z. z) o x) h in
    let here : (x == j) ≡ true = elim (x == j) as (λ b. (b || false) ≡ true → b ≡ true) [ true ↦ λ g. refl | false ↦ λ g. g ] listed in
    let same : x ≡ j = grind (arith, nat_tests) in
    omega arith
least_below (x ∷ y ∷ keys) k j h listed =
    let rest : ℕ = option_map_or (min y) (least keys) y in
    let is : min x rest ≡ k = ap (λ o. option_map_or (λ z. z) o x) h in
    elim (x == j) as (λ b. (x == j) ≡ b → k ≤ j) [
      | true ↦ λ e. (let same : x ≡ j = grind (arith, nat_tests) in omega arith)
      | false ↦ λ e. (let there : has j (y ∷ keys) ≡ true = sym (ap (λ b. b || has j (y ∷ keys)) e) ∙ listed in
          let below : rest ≤ j = least_below (y ∷ keys) rest j refl there in omega arith)
    ] refl

-- ---- a walk over entries in order

same_at : (key : ℕ) → is_at (nat_cmp key) key ≡ true
same_at key = unsigned_tied key key ∙ (let same : (key == key) ≡ true = grind (arith, nat_tests) in same)

as_bool : {X : Type 0} (test : X → Bool) (found : Option X) → option_map_or test found false ≡ option_map_or (λ b. b) (option_map test found) false
as_bool test None = refl
as_bool test (Some x) = refl

abbrev pub passes : (Origin → Bool) → Option Origin → Bool
passes test found = option_map_or test found false

abbrev at : ℕ → List (ℕ × Origin) → Option Origin
at key entries = lookup (is_at (nat_cmp key)) entries

less : (x y : ℕ) → nat_cmp x y ≡ Less → x < y
less x y h = ranked x y Less (sym h)

above_none : (low key : ℕ) (entries : List (ℕ × Origin)) → AllByRecursion (λ k. nat_cmp low k ≡ Less) (keys_of entries) → key ≤ low → at key entries ≡ None
above_none low key [] all below = refl
above_none low key (e ∷ entries) all below =
    let more : low < e.0 = less low e.0 all.0 in
    let apart : is_at (nat_cmp key) e.0 ≡ false = other_key key e.0 (grind (arith, nat_tests)) in
    ap (λ b. cond b (Some e.1) (at key entries)) apart ∙ above_none low key entries all.1 below

-- At another key an entry is passed over.
passed : (key : ℕ) (e : ℕ × Origin) (entries : List (ℕ × Origin)) → (e.0 == key) ≡ false → at key (e ∷ entries) ≡ at key entries
passed key e entries apart = ap (λ b. cond b (Some e.1) (at key entries)) (other_key key e.0 apart)

own : (e : ℕ × Origin) (entries : List (ℕ × Origin)) → at e.0 (e ∷ entries) ≡ Some e.1
own e entries = ap (λ b. cond b (Some e.1) (at e.0 entries)) (same_at e.0)

-- What an entry that fails leaves to fail.
still_fails : (test : Origin → Bool) (j : ℕ) (e : ℕ × Origin) (entries : List (ℕ × Origin)) → test e.1 ≡ false → passes test (at j entries) ≡ false → passes test (at j (e ∷ entries)) ≡ false
still_fails test j e entries fails rest = elim (is_at (nat_cmp j) e.0) as (λ b. passes test (cond b (Some e.1) (at j entries)) ≡ false) [ true ↦ fails | false ↦ rest ]

abbrev IsFirst : (Origin → Bool) → List (ℕ × Origin) → Origin → Type 0
IsFirst test entries found = (key : ℕ) × (at key entries ≡ Some found) × (test found ≡ true) × ((j : ℕ) → j < key → passes test (at j entries) ≡ false)

first_entry : (test : Origin → Bool) (entries : List (ℕ × Origin)) (found : Origin) → IsStrictlySortedBy nat_cmp (keys_of entries) → find test (values_of entries) ≡ Some found → IsFirst test entries found
first_entry test [] found sorted h = cc
first_entry test (e ∷ entries) found sorted h =
    let above = sorted_head nat_cmp e.0 (keys_of entries) sorted in
    let rest = sorted_tail nat_cmp e.0 (keys_of entries) sorted in
    elim (test e.1) as (λ b. test e.1 ≡ b → cond b (Some e.1) (find test (values_of entries)) ≡ Some found → IsFirst test (e ∷ entries) found) [
      | true ↦ λ t g. (let same : e.1 ≡ found = ap (λ o. option_map_or (λ z. z) o e.1) g in
          subst (IsFirst test (e ∷ entries)) same (
            e.0,
            own e entries,
            t,
            λ j below. (let apart : (e.0 == j) ≡ false = grind (arith, nat_tests) in
                ap (passes test) (passed j e entries apart ∙ above_none e.0 j entries above (omega arith))),
          ))
      | false ↦ λ t g. (let known = first_entry test entries found rest g in
          let apart : (e.0 == known.0) ≡ false = elim (nat_lt e.0 known.0) as (λ b. nat_lt e.0 known.0 ≡ b → (e.0 == known.0) ≡ false) [
            | true ↦ λ l. grind (arith, nat_tests)
            | false ↦ λ l. let never : None ≡ Some found = sym (above_none e.0 known.0 entries above (grind (arith, nat_tests))) ∙ known.1 in cc
          ] refl in
          (known.0, passed known.0 e entries apart ∙ known.1, known.2, λ j below. still_fails test j e entries t (known.3 j below)))
    ] refl h

no_entry : (test : Origin → Bool) (entries : List (ℕ × Origin)) → find test (values_of entries) ≡ None → (j : ℕ) → passes test (at j entries) ≡ false
no_entry test [] h j = refl
no_entry test (e ∷ entries) h j = elim (test e.1) as (λ b. test e.1 ≡ b → cond b (Some e.1) (find test (values_of entries)) ≡ None → passes test (at j (e ∷ entries)) ≡ false) [
  | true ↦ λ t g. cc
  | false ↦ λ t g. still_fails test j e entries t (no_entry test entries g j)
] refl h

-- ---- what is open

-- A key is listed exactly where the opener that is open on it passes.
pub listed_at : (table : Table Message) (test : Message → Bool) (before : List Origin) (key : ℕ)
    → has key (open_keys table test (map message before)) ≡ passes (λ origin. test (message origin)) (open_at (placed table) key before)
listed_at table test before key =
    listed table test (map message before) key ∙ as_bool test (open_at table key (map message before))
    ∙ ap (λ found. option_map_or (λ b. b) found false) (sym (kept_of test table key before))
    ∙ sym (as_bool (λ origin. test (message origin)) (open_at (placed table) key before))

pub first_law : (table : Table Message) (test : Message → Bool) (before : List Origin) (m : BTreeMap ℕ Origin) → IsOrdered nat_cmp m
    → ((key : ℕ) → get nat_cmp m key ≡ open_at (placed table) key before) → find (λ origin. test (message origin)) (values m) ≡ first_open table test before
first_law table test before m ordered shows =
    let keys : List ℕ = open_keys table test (map message before) in
    let own_test : Origin → Bool = λ origin. test (message origin) in
    let lists : (key : ℕ) → has key keys ≡ passes own_test (at key m.entries) = λ key. listed_at table test before key ∙ ap (passes own_test) (sym (shows key)) in
    elim (find own_test (values m)) as (λ found. find own_test (values m) ≡ found → found ≡ first_open table test before) [
      | None ↦ λ e. sym (ap (λ k. option_and_then (λ key. open_at (placed table) key before) k) (none_least keys (λ i. lists i ∙ no_entry own_test m.entries e i)))
      | Some origin ↦ λ e. (let known = first_entry own_test m.entries origin ordered e in
          let there : has known.0 keys ≡ true = lists known.0 ∙ ap (passes own_test) known.1 ∙ known.2 in
          let first : least keys ≡ Some known.0 = least_is keys known.0 there (λ i below. lists i ∙ known.3 i below) in
          sym (ap (λ k. option_and_then (λ key. open_at (placed table) key before) k) first ∙ sym (shows known.0) ∙ known.1))
    ] refl
