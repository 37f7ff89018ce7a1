-- What a reason names is what is meant.
use Rattle.std.proofs.Common.{◌≡◌, ℕ, ◌≤◌, ◌==◌, ◌&&◌, ◌||◌, Bool, true, false, cond, List, [], ◌∷◌, ◌++◌, map, Option, Some, None, refl, sym, ap, subst, ◌∙◌, arith}
use Rattle.std.specs.Prelude.{find}
use Rattle.std.specs.List.{AllByRecursion}
use Rattle.std.specs.Option.{option_and_then, option_map_or}
use Rattle.std.proofs.lemmas.Bool.Decides.{nat_tests}
use Rattle.tl_tables.specs.declared.Op.{Op}
use Rattle.tl_beats.specs.declared.Placed.{Placed}
use Rattle.tl_definitions.specs.OpenTables.{Table, IsOpen, touches, if_opens, open_at, open_keys}
use Rattle.tl_definitions.specs.Heads.{message_of}
use Rattle.tl_definitions.specs.Messages.{Message, Links, with_message, messages_on, at_head}
use Rattle.tl_definitions.specs.Laws.{sets_block}
use Rattle.tl_rows.specs.declared.origin.Origin.{Origin}
use Rattle.tl_rows.specs.Origins.{message, with_origin, origins_on, placed, least, first_open, last_setter}
use Rattle.tl_rows.specs.Meanings.{NoneSets}
use Rattle.tl_rows.proofs.FirstLaws.{has, passes, listed_at, least_has, least_below}

-- ---- messages with their places are the messages

with_places : (p : Placed) (found : Option Op) (before : List Origin) → map message (with_origin p found before) ≡ with_message p.beat found (map message before)
with_places p None before = refl
with_places p (Some o) before = refl

pub as_messages : (links : Links) (link : ℕ) (before : List Placed) → map message (origins_on links link before) ≡ messages_on links link before
as_messages links link [] = refl
as_messages links link (p ∷ before) =
    elim ((p.link == link) && at_head links before p) as (λ b. map message (cond b (with_origin p (message_of (links link) p.beat) (origins_on links link before)) (origins_on links link before))
    ≡ cond b (with_message p.beat (message_of (links link) p.beat) (messages_on links link before)) (messages_on links link before)) [
      | true ↦ with_places p (message_of (links link) p.beat) (origins_on links link before) ∙ ap (with_message p.beat (message_of (links link) p.beat)) (as_messages links link before)
      | false ↦ as_messages links link before
    ]

-- ---- what is found is open

and_parts : (a b : Bool) → (a && b) ≡ true → (a ≡ true) × (b ≡ true)
and_parts true b h = (refl, h)
and_parts false b h = cc

pub found_open : (table : Table Origin) (before : List Origin) (key : ℕ) (opener : Origin) → open_at table key before ≡ Some opener → IsOpen table before opener × (table.key opener ≡ key)
found_open table [] key opener h = cc
found_open table (head ∷ before) key opener h =
    elim (touches table key head) as (λ b. touches table key head ≡ b → option_and_then (if_opens table) (cond b (Some head) (find (touches table key) before)) ≡ Some opener → IsOpen table (head ∷ before) opener × (table.key opener ≡ key)) [
      | true ↦ λ t g. elim (table.opens head) as (λ o. table.opens head ≡ o → cond o (Some head) None ≡ Some opener → IsOpen table (head ∷ before) opener × (table.key opener ≡ key)) [
        | true ↦ λ o s. let e : head ≡ opener = cc in
            let k : (table.key head == key) ≡ true = (and_parts (table.opens head || table.closes head) (table.key head == key) t).1 in
            let n : table.key head ≡ key = grind (arith, nat_tests) in
            subst (λ x. IsOpen table (head ∷ before) x × (table.key x ≡ key)) e (([], before, refl, o, tt), n)
        | false ↦ λ o s. cc
      ] refl g
      | false ↦ λ t g. let r = found_open table before key opener g in
          ((head ∷ r.0.0, r.0.1, ap (λ bs. head ∷ bs) r.0.2, r.0.3, (subst (λ k. touches table k head ≡ false) (sym r.1) t, r.0.4)), r.1)
    ] refl h

open_found : (table : Table Origin) (newer older : List Origin) (opener : Origin) → table.opens opener ≡ true → AllByRecursion (λ head. touches table (table.key opener) head ≡ false) newer
    → open_at table (table.key opener) (newer ++ opener ∷ older) ≡ Some opener
open_found table [] older opener o all =
    let same : (table.key opener == table.key opener) ≡ true = grind (arith, nat_tests) in
    rw (o, same, o) refl
open_found table (head ∷ newer) older opener o all =
    ap (λ b. option_and_then (if_opens table) (cond b (Some head) (find (touches table (table.key opener)) (newer ++ opener ∷ older)))) all.0 ∙ open_found table newer older opener o all.1

pub at_own_key : (table : Table Origin) (before : List Origin) (opener : Origin) → IsOpen table before opener → open_at table (table.key opener) before ≡ Some opener
at_own_key table before opener r = subst (λ bs. open_at table (table.key opener) bs ≡ Some opener) (sym r.2) (open_found table r.0 r.1 opener r.3 r.4)

pub none_open : (table : Table Origin) (before : List Origin) (key : ℕ) → open_at table key before ≡ None → (opener : Origin) → IsOpen table before opener → table.key opener ≡ key → ⊥
none_open table before key h opener is_open same =
    let found : open_at table key before ≡ Some opener = subst (λ k. open_at table k before ≡ Some opener) same (at_own_key table before opener is_open) in
    let never : None ≡ Some opener = sym h ∙ found in
    cc

-- ---- the least key

-- Of the openers that are open and pass, one has the least key.
pub first_is : (table : Table Message) (test : Message → Bool) (before : List Origin) (key : ℕ) → least (open_keys table test (map message before)) ≡ Some key
    → (opener : Origin) × (first_open table test before ≡ Some opener) × IsOpen (placed table) before opener × (test (message opener) ≡ true)
    × ((other : Origin) → IsOpen (placed table) before other → test (message other) ≡ true → table.key (message opener) ≤ table.key (message other))
first_is table test before key is =
    let keys : List ℕ = open_keys table test (map message before) in
    let own : Origin → Bool = λ origin. test (message origin) in
    let there : passes own (open_at (placed table) key before) ≡ true = sym (listed_at table test before key) ∙ least_has keys key is in
    elim (open_at (placed table) key before) as (λ found. open_at (placed table) key before ≡ found → passes own found ≡ true → (opener : Origin) × (first_open table test before ≡ Some opener)
    × IsOpen (placed table) before opener × (test (message opener) ≡ true)
    × ((other : Origin) → IsOpen (placed table) before other → test (message other) ≡ true → table.key (message opener) ≤ table.key (message other))) [
      | None ↦ λ e g. cc
      | Some opener ↦ λ e g. (let entry = found_open (placed table) before key opener e in (
        opener,
        ap (λ k. option_and_then (λ x. open_at (placed table) x before) k) is ∙ e,
        entry.0,
        g,
        λ other is_open good. (let listed : has (table.key (message other)) keys ≡ true = listed_at table test before (table.key (message other)) ∙ ap (passes own) (at_own_key (placed table) before other is_open) ∙ good in
            subst (λ k. k ≤ table.key (message other)) (sym entry.1) (least_below keys key (table.key (message other)) is listed)),
      ))
    ] refl there

-- ---- the last setter

pub setter_found : (exponent block : ℕ) (before : List Origin) (setter : Origin) → last_setter exponent before block ≡ Some setter
    → (newer older : List Origin) × (before ≡ newer ++ setter ∷ older) × (sets_block exponent block (message setter) ≡ true) × NoneSets exponent block newer
setter_found exponent block [] setter h = cc
setter_found exponent block (origin ∷ before) setter h =
    elim (sets_block exponent block (message origin)) as (λ b. sets_block exponent block (message origin) ≡ b → cond b (Some origin) (last_setter exponent before block) ≡ Some setter
    → (newer older : List Origin) × (origin ∷ before ≡ newer ++ setter ∷ older) × (sets_block exponent block (message setter) ≡ true) × NoneSets exponent block newer) [
      | true ↦ λ s g. (let e : origin ≡ setter = ap (λ o. option_map_or (λ z. z) o origin) g in
          subst (λ x. (newer older : List Origin) × (origin ∷ before ≡ newer ++ x ∷ older) × (sets_block exponent block (message x) ≡ true) × NoneSets exponent block newer) e ([], before, refl, s, tt))
      | false ↦ λ s g. (let r = setter_found exponent block before setter g in (origin ∷ r.0, r.1, ap (λ bs. origin ∷ bs) r.2, r.3, (s, r.4)))
    ] refl h

pub no_setter : (exponent block : ℕ) (before : List Origin) → last_setter exponent before block ≡ None → NoneSets exponent block before
no_setter exponent block [] h = tt
no_setter exponent block (origin ∷ before) h =
    elim (sets_block exponent block (message origin)) as (λ b. sets_block exponent block (message origin) ≡ b → cond b (Some origin) (last_setter exponent before block) ≡ None → NoneSets exponent block (origin ∷ before)) [
      | true ↦ λ s g. cc
      | false ↦ λ s g. (s, no_setter exponent block before g)
    ] refl h
