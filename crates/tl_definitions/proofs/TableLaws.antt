-- Open tables: what they find is open, their counts, and how one more message changes them.
use Rattle.std.proofs.Common.{◌≡◌, ℕ, ◌+◌, ◌-◌, ◌<◌, ◌==◌, ◌&&◌, ◌||◌, Bool, true, false, cond, List, [], ◌∷◌, ◌++◌, length, Option, Some, None, refl, sym, ap, subst, ◌∙◌, arith}
use Rattle.std.specs.Prelude.{find, not, is_some}
use Rattle.std.specs.List.{list_any, AllByRecursion}
use Rattle.std.specs.Option.{option_and_then, option_map, option_map_or}
use Rattle.std.proofs.lemmas.Bool.Decides.{nat_tests}
use Rattle.tl_beats.specs.declared.Request.{Request}
use Rattle.tl_tables.specs.Kinds.{is_acquire, is_release_ack}
use Rattle.tl_definitions.specs.OpenTables.{Table, IsOpen, acts, touches, if_opens, open_at, entry_at, without, open_keys, entry_after, one_if, count_after}
use Rattle.tl_definitions.specs.Messages.{Message, sources, releases, sinks, as_request, granted_block, block_of, request_of}
use Rattle.tl_definitions.specs.Past.{acquires_block, releases_block, grants_block}
use Rattle.tl_definitions.specs.Laws.{EntriesAreOpen, OneEntry, CountsAreOfOpen, BlockCountsAreOfOpen, RequestsAreOpen}

and_parts : (a b : Bool) → (a && b) ≡ true → (a ≡ true) × (b ≡ true)
and_parts true b h = (refl, h)
and_parts false b h = cc

found_open : (table : Table Message) (before : List Message) (key : ℕ) (opener : Message) → open_at table key before ≡ Some opener → IsOpen table before opener × (table.key opener ≡ key)
found_open table [] key opener h = cc
found_open table (head ∷ before) key opener h =
    elim (touches table key head) as (λ b. touches table key head ≡ b → option_and_then (if_opens table) (cond b (Some head) (find (touches table key) before)) ≡ Some opener → IsOpen table (head ∷ before) opener × (table.key opener ≡ key)) [
      | true ↦ λ t g. elim (table.opens head) as (λ o. table.opens head ≡ o → cond o (Some head) None ≡ Some opener → IsOpen table (head ∷ before) opener × (table.key opener ≡ key)) [
        | true ↦ λ o s. let e : head ≡ opener = cc in
            let k : (table.key head == key) ≡ true = (and_parts (table.opens head || table.closes head) (table.key head == key) t).1 in
            let n : table.key head ≡ key = grind (arith, nat_tests) in
            subst (λ x. IsOpen table (head ∷ before) x × (table.key x ≡ key)) e (([], before, refl, o, tt), n)
        | false ↦ λ o s. cc
      ] refl g
      | false ↦ λ t g. let r = found_open table before key opener g in
          ((head ∷ r.0.0, r.0.1, ap (λ bs. head ∷ bs) r.0.2, r.0.3, (subst (λ k. touches table k head ≡ false) (sym r.1) t, r.0.4)), r.1)
    ] refl h

open_found : (table : Table Message) (newer older : List Message) (opener : Message) → table.opens opener ≡ true → AllByRecursion (λ head. touches table (table.key opener) head ≡ false) newer
    → open_at table (table.key opener) (newer ++ opener ∷ older) ≡ Some opener
open_found table [] older opener o all =
    let same : (table.key opener == table.key opener) ≡ true = grind (arith, nat_tests) in
    rw (o, same, o) refl
open_found table (head ∷ newer) older opener o all =
    ap (λ b. option_and_then (if_opens table) (cond b (Some head) (find (touches table (table.key opener)) (newer ++ opener ∷ older)))) all.0 ∙ open_found table newer older opener o all.1

at_own_key : (table : Table Message) (before : List Message) (opener : Message) → IsOpen table before opener → open_at table (table.key opener) before ≡ Some opener
at_own_key table before opener r = subst (λ bs. open_at table (table.key opener) bs ≡ Some opener) (sym r.2) (open_found table r.0 r.1 opener r.3 r.4)

pub entries_are_open : EntriesAreOpen
entries_are_open table before key opener = (
  (λ h. found_open table before key opener h),
  (λ r. subst (λ k. open_at table k before ≡ Some opener) r.1 (at_own_key table before opener r.0)),
)

pub one_entry : OneEntry
one_entry table before j k open_j open_k same =
    let a : open_at table (table.key j) before ≡ Some j = at_own_key table before j open_j in
    let b : open_at table (table.key j) before ≡ Some k = subst (λ x. open_at table x before ≡ Some k) (sym same) (at_own_key table before k open_k) in
    let e : Some j ≡ Some k = sym a ∙ b in
    cc

-- What is kept under a key is kept of an open opener of it.
from_entry : {V : Type 0} (kept_of : Message → V) (table : Table Message) (before : List Message) (key : ℕ) (kept : V) → entry_at table kept_of before key ≡ Some kept
    → (opener : Message) × IsOpen table before opener × (table.key opener ≡ key) × (kept_of opener ≡ kept)
from_entry {V} kept_of table before key kept h =
    elim (open_at table key before) as (λ found. open_at table key before ≡ found → option_map kept_of found ≡ Some kept → (opener : Message) × IsOpen table before opener × (table.key opener ≡ key) × (kept_of opener ≡ kept)) [
      | None ↦ λ e g. cc
      | Some opener ↦ λ e g. let known = found_open table before key opener e in (opener, known.0, known.1, cc)
    ] refl h

to_entry : {V : Type 0} (kept_of : Message → V) (table : Table Message) (before : List Message) (key : ℕ) (opener : Message) → IsOpen table before opener → table.key opener ≡ key → entry_at table kept_of before key ≡ Some (kept_of opener)
to_entry kept_of table before key opener is same = ap (option_map kept_of) (subst (λ k. open_at table k before ≡ Some opener) same (at_own_key table before opener is))

abbrev request_on : Bool → List Message → ℕ → Option Request
request_on ack before source = cond ack (entry_at releases as_request before source) (entry_at sources as_request before source)

requests_of : (ack : Bool) (before : List Message) (source : ℕ) (request : Request) → request_on ack before source ≡ Some request
    → (opener : Message) × IsOpen (cond ack releases sources) before opener × (opener.beat.source ≡ source) × (as_request opener ≡ request)
requests_of true before source request h = from_entry as_request releases before source request h
requests_of false before source request h = from_entry as_request sources before source request h

of_requests : (ack : Bool) (before : List Message) (source : ℕ) (opener : Message) → IsOpen (cond ack releases sources) before opener → opener.beat.source ≡ source
    → request_on ack before source ≡ Some (as_request opener)
of_requests true before source opener is same = to_entry as_request releases before source opener is same
of_requests false before source opener is same = to_entry as_request sources before source opener is same

pub requests_are_open : RequestsAreOpen
requests_are_open before o beat request on_d =
    let is : request_of before o beat ≡ request_on (is_release_ack o) before beat.source = ap (λ t. cond t (request_on (is_release_ack o) before beat.source) None) on_d in (
      (λ h. requests_of (is_release_ack o) before beat.source request (sym is ∙ h)),
      (λ r. is ∙ of_requests (is_release_ack o) before beat.source r.0 r.1 r.2 ∙ ap Some r.3),
    )

-- Keys that are taken out of a list.
lacks : (k : ℕ) (ks : List ℕ) → list_any (λ x. x == k) (without k ks) ≡ false
lacks k [] = refl
lacks k (x ∷ ks) =
    elim (x == k) as (λ t. (x == k) ≡ t → list_any (λ y. y == k) (cond (not t) (x ∷ without k ks) (without k ks)) ≡ false) [
      | true ↦ λ e. lacks k ks
      | false ↦ λ e. ap (λ b. b || list_any (λ y. y == k) (without k ks)) e ∙ lacks k ks
    ] refl

keeps : (k j : ℕ) (ks : List ℕ) → (k == j) ≡ false → list_any (λ x. x == k) (without j ks) ≡ list_any (λ x. x == k) ks
keeps k j [] ne = refl
keeps k j (x ∷ ks) ne =
    elim (x == j) as (λ t. (x == j) ≡ t → list_any (λ y. y == k) (cond (not t) (x ∷ without j ks) (without j ks)) ≡ ((x == k) || list_any (λ y. y == k) ks)) [
      | true ↦ λ e. let other : (x == k) ≡ false = grind (arith, nat_tests) in keeps k j ks ne ∙ ap (λ b. b || list_any (λ y. y == k) ks) (sym other)
      | false ↦ λ e. ap (λ b. (x == k) || b) (keeps k j ks ne)
    ] refl

not_same : (a b : ℕ) → (a == b) ≡ false → (b == a) ≡ false
not_same a b h = grind (arith, nat_tests)

-- A key is listed exactly where the opener that is open on it passes.
pub listed : (table : Table Message) (test : Message → Bool) (before : List Message) (k : ℕ) → list_any (λ x. x == k) (open_keys table test before) ≡ option_map_or test (open_at table k before) false
listed table test [] k = refl
listed table test (m ∷ before) k =
    let known = listed table test before k in
    let ks : List ℕ = open_keys table test before in
    let without_m : List ℕ = without (table.key m) ks in
    elim (acts table m) as (λ act. list_any (λ x. x == k) (cond act (cond (table.opens m && test m) (table.key m ∷ without_m) without_m) ks)
    ≡ option_map_or test (option_and_then (if_opens table) (cond (act && (table.key m == k)) (Some m) (find (touches table k) before))) false) [
      | true ↦ elim (table.key m == k) as (λ t. (table.key m == k) ≡ t → list_any (λ x. x == k) (cond (table.opens m && test m) (table.key m ∷ without_m) without_m)
          ≡ option_map_or test (option_and_then (if_opens table) (cond t (Some m) (find (touches table k) before))) false) [
            | true ↦ λ e. let same : table.key m ≡ k = grind (arith, nat_tests) in
                let gone : list_any (λ x. x == k) without_m ≡ false = subst (λ j. list_any (λ x. x == k) (without j ks) ≡ false) (sym same) (lacks k ks) in
                elim (table.opens m) as (λ o. list_any (λ x. x == k) (cond (o && test m) (table.key m ∷ without_m) without_m) ≡ option_map_or test (cond o (Some m) None) false) [
                  | true ↦ elim (test m) as (λ t. list_any (λ x. x == k) (cond t (table.key m ∷ without_m) without_m) ≡ t) [ true ↦ ap (λ b. b || list_any (λ x. x == k) without_m) e | false ↦ gone ]
                  | false ↦ gone
                ]
            | false ↦ λ e. let rest : list_any (λ x. x == k) without_m ≡ option_map_or test (open_at table k before) false = keeps k (table.key m) ks (not_same (table.key m) k e) ∙ known in
                elim (table.opens m && test m) as (λ b. list_any (λ x. x == k) (cond b (table.key m ∷ without_m) without_m) ≡ option_map_or test (open_at table k before) false) [
                  | true ↦ ap (λ b. b || list_any (λ x. x == k) without_m) e ∙ rest
                  | false ↦ rest
                ]
          ] refl
      | false ↦ known
    ]

-- Each key is listed once.
abbrev AreDistinct : List ℕ → Type 0
AreDistinct [] = Unit {0}
AreDistinct (k ∷ ks) = (list_any (λ x. x == k) ks ≡ false) × AreDistinct ks

distinct_without : (j : ℕ) (ks : List ℕ) → AreDistinct ks → AreDistinct (without j ks)
distinct_without j [] h = tt
distinct_without j (x ∷ ks) h =
    elim (x == j) as (λ t. (x == j) ≡ t → AreDistinct (cond (not t) (x ∷ without j ks) (without j ks))) [
      | true ↦ λ e. distinct_without j ks h.1
      | false ↦ λ e. (keeps x j ks e ∙ h.0, distinct_without j ks h.1)
    ] refl

distinct_keys : (table : Table Message) (test : Message → Bool) (before : List Message) → AreDistinct (open_keys table test before)
distinct_keys table test [] = tt
distinct_keys table test (m ∷ before) =
    let ks : List ℕ = open_keys table test before in
    let known = distinct_keys table test before in
    elim (acts table m) as (λ act. AreDistinct (cond act (cond (table.opens m && test m) (table.key m ∷ without (table.key m) ks) (without (table.key m) ks)) ks)) [
      | true ↦ elim (table.opens m && test m) as (λ b. AreDistinct (cond b (table.key m ∷ without (table.key m) ks) (without (table.key m) ks))) [
        | true ↦ (lacks (table.key m) ks, distinct_without (table.key m) ks known)
        | false ↦ distinct_without (table.key m) ks known
      ]
      | false ↦ known
    ]

length_without : (j : ℕ) (ks : List ℕ) → AreDistinct ks → length (without j ks) + one_if (list_any (λ x. x == j) ks) ≡ length ks
length_without j [] h = refl
length_without j (x ∷ ks) h =
    let known = length_without j ks h.1 in
    elim (x == j) as (λ t. (x == j) ≡ t → length (cond (not t) (x ∷ without j ks) (without j ks)) + one_if (t || list_any (λ y. y == j) ks) ≡ length (x ∷ ks)) [
      | true ↦ λ e. let same : x ≡ j = grind (arith, nat_tests) in
          let none : one_if (list_any (λ y. y == j) ks) ≡ 0 = ap one_if (subst (λ k. list_any (λ y. y == k) ks ≡ false) same h.0) in omega arith
      | false ↦ λ e. omega arith
    ] refl

-- The count after one more message.
pub count_next : (table : Table Message) (test : Message → Bool) (before : List Message) (m : Message)
    → count_after table test m (option_map_or test (open_at table (table.key m) before) false) (length (open_keys table test before)) ≡ length (open_keys table test (m ∷ before))
count_next table test before m =
    let ks : List ℕ = open_keys table test before in
    let old : Bool = option_map_or test (open_at table (table.key m) before) false in
    let gone : length (without (table.key m) ks) + one_if old ≡ length ks =
    ap (λ b. length (without (table.key m) ks) + one_if b) (sym (listed table test before (table.key m))) ∙ length_without (table.key m) ks (distinct_keys table test before) in
    elim (acts table m) as (λ act. cond act (one_if (table.opens m && test m) + (length ks - one_if old)) (length ks)
    ≡ length (cond act (cond (table.opens m && test m) (table.key m ∷ without (table.key m) ks) (without (table.key m) ks)) ks)) [
      | true ↦ elim (table.opens m && test m) as (λ b. one_if b + (length ks - one_if old)
          ≡ length (cond b (table.key m ∷ without (table.key m) ks) (without (table.key m) ks))) [ true ↦ omega arith | false ↦ omega arith ]
      | false ↦ refl
    ]

-- A test of what is kept is a test of the opener.
pub kept_passes : {V : Type 0} (test : V → Bool) (kept : Message → V) (found : Option Message) → option_map_or test (option_map kept found) false ≡ option_map_or (λ m. test (kept m)) found false
kept_passes test kept None = refl
kept_passes test kept (Some opener) = refl

-- What is kept under a key after one more message.
pub entry_next : {V : Type 0} (table : Table Message) (kept : Message → V) (before : List Message) (m : Message) (key : ℕ) → entry_after table kept m (entry_at table kept before) key ≡ entry_at table kept (m ∷ before) key
entry_next table kept before m key =
    elim (touches table key m) as (λ t. cond t (option_map kept (if_opens table m)) (entry_at table kept before key)
    ≡ option_map kept (option_and_then (if_opens table) (cond t (Some m) (find (touches table key) before)))) [ true ↦ refl | false ↦ refl ]

-- Whether something is open on a key after one more message.
pub open_next : (table : Table Message) (before : List Message) (m : Message) (key : ℕ) → cond (touches table key m) (table.opens m) (is_some (open_at table key before)) ≡ is_some (open_at table key (m ∷ before))
open_next table before m key =
    elim (touches table key m) as (λ t. cond t (table.opens m) (is_some (open_at table key before)) ≡ is_some (option_and_then (if_opens table) (cond t (Some m) (find (touches table key) before)))) [
      | true ↦ elim (table.opens m) as (λ o. o ≡ is_some (cond {A = Option Message} o (Some m) None)) [ true ↦ refl | false ↦ refl ]
      | false ↦ refl
    ]

some_passes : (test : Message → Bool) (found : Option Message) → option_map_or test found false ≡ true → (opener : Message) × (found ≡ Some opener) × (test opener ≡ true)
some_passes test None h = cc
some_passes test (Some opener) h = (opener, refl, h)

first_listed : (ks : List ℕ) → 0 < length ks → (k : ℕ) × (list_any (λ x. x == k) ks ≡ true)
first_listed [] lt = absurd (omega arith)
first_listed (k ∷ ks) lt = let same : (k == k) ≡ true = grind (arith, nat_tests) in (k, ap (λ b. b || list_any (λ x. x == k) ks) same)

some_listed : (k : ℕ) (ks : List ℕ) → list_any (λ x. x == k) ks ≡ true → 0 < length ks
some_listed k [] h = cc
some_listed k (x ∷ ks) h = omega arith

pub counts_are_of_open : CountsAreOfOpen
counts_are_of_open table test before = (
  (λ lt. let first = first_listed (open_keys table test before) lt in
      let passes = some_passes test (open_at table first.0 before) (sym (listed table test before first.0) ∙ first.1) in
      (passes.0, (found_open table before first.0 passes.0 passes.1).0, passes.2)),
  (λ r. some_listed (table.key r.0) (open_keys table test before)
      (listed table test before (table.key r.0) ∙ ap (λ found. option_map_or test found false) (at_own_key table before r.0 r.1) ∙ r.2)),
)

-- The counts by block.
same_number : (a b : ℕ) → (a == b) ≡ true → a ≡ b
same_number a b h = grind (arith, nat_tests)

number_same : (a b : ℕ) → a ≡ b → (a == b) ≡ true
number_same a b h = grind (arith, nat_tests)

both_true : (a b : Bool) → a ≡ true → b ≡ true → (a && b) ≡ true
both_true true b h g = g
both_true false b h g = h

granted_from : (block : ℕ) (granted : Option ℕ) → grants_block block granted ≡ true → granted ≡ Some block
granted_from block None h = cc
granted_from block (Some b) h = ap Some (same_number b block h)

pub block_counts_are_of_open : BlockCountsAreOfOpen
block_counts_are_of_open exponent before block =
    let acquires = counts_are_of_open sources (λ message. acquires_block exponent block (as_request message)) before in
    let released = counts_are_of_open releases (λ message. releases_block exponent block (as_request message)) before in
    let grants = counts_are_of_open sinks (λ message. grants_block block (granted_block exponent message)) before in (
      (
        (λ h. let found = acquires.0 h in let parts = and_parts (is_acquire found.0.op) (block_of exponent found.0 == block) found.2 in
            (found.0, found.1, parts.0, same_number (block_of exponent found.0) block parts.1)),
        (λ r. acquires.1 (r.0, r.1, both_true (is_acquire r.0.op) (block_of exponent r.0 == block) r.2 (number_same (block_of exponent r.0) block r.3))),
      ),
      (
        (λ h. let found = released.0 h in (found.0, found.1, same_number (block_of exponent found.0) block found.2)),
        (λ r. released.1 (r.0, r.1, number_same (block_of exponent r.0) block r.2)),
      ),
      (
        (λ h. let found = grants.0 h in (found.0, found.1, granted_from block (granted_block exponent found.0) found.2)),
        (λ r. grants.1 (r.0, r.1, ap (grants_block block) r.2 ∙ number_same block block refl)),
      ),
    )
