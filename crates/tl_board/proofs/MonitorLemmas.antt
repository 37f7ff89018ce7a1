-- The monitors that are attached, by number.
use Rattle.std.proofs.Common.{◌≡◌, ℕ, inl, inr, true, false, cond, Bool, List, [], ◌∷◌, Option, Some, None, refl, sym, ap, subst, ◌∙◌, arith, Ordering, Less, Equal, Greater}
use Rattle.std.specs.Option.{option_map_or}
use Rattle.std.specs.Ordering.{nat_cmp, is_eq, match_ordering}
use Rattle.std.specs.BTreeMap.{insert_entry, is_at}
use Rattle.std.specs.List.{Contains, AllByRecursion}
use Rattle.std.specs.List.Sorted.{IsStrictlySortedBy}
use Rattle.std.specs.Map.{keys_of, lookup}
use Rattle.std.proofs.lemmas.Bool.Decides.{nat_tests}
use Rattle.std.proofs.lemmas.Cmp.{nat_cmp_total}
use Rattle.std.proofs.lemmas.Map.Lookups.{exact_unsigned}
use Rattle.tl_topology.specs.Topology.{Topology, number_of_name}
use Rattle.tl_beats.specs.declared.watch.Watch.{Watch}
use Rattle.tl_definitions.proofs.Lists.{contains_none, contains_here, contains_there, contains_cases}
use Rattle.tl_edits.specs.Edits.{AnEdit, add, replace, withdraw, clear_link, set_region, remove_region, attach, retune, detach}
use Rattle.tl_edits.specs.Inputs.{InputData, blank, watch_at, attached, changed}
use Rattle.tl_edits.specs.Log.{changed_by, inputs_after}
use Rattle.tl_board.proofs.EntryLemmas.{lookup_put}

-- Monitors by number, each with its watch until it is detached.
abbrev pub Monitors : Type 0
Monitors = List (ℕ × Option Watch)

abbrev pub AreInOrder : Monitors → Type 0
AreInOrder ms = IsStrictlySortedBy nat_cmp (keys_of ms)

pub at_itself : (n : ℕ) → is_at (nat_cmp n) n ≡ true
at_itself n = grind (arith, nat_tests)

pub same_number : (n k : ℕ) → is_at (nat_cmp n) k ≡ true → n ≡ k
same_number n k h = grind (arith, nat_tests)

pub watch_put : (n k : ℕ) (w : Option Watch) (ms : Monitors) → watch_at n (insert_entry nat_cmp ms k w) ≡ cond (is_at (nat_cmp n) k) w (watch_at n ms)
watch_put n k w ms =
    ap (λ o. option_map_or (λ x. x) o None) (lookup_put nat_cmp nat_cmp_total exact_unsigned n k w ms)
    ∙ elim (is_at (nat_cmp n) k) as (λ b. option_map_or (λ x. x) (cond b (Some w) (lookup (is_at (nat_cmp n)) ms)) None ≡ cond b w (watch_at n ms)) [ true ↦ refl | false ↦ refl ]

-- ---- their numbers rise

above_put : (x k : ℕ) (w : Option Watch) (ms : Monitors) → AllByRecursion (λ q. nat_cmp x q ≡ Less) (keys_of ms) → nat_cmp x k ≡ Less → AllByRecursion (λ q. nat_cmp x q ≡ Less) (keys_of (insert_entry nat_cmp ms k w))
above_put x k w [] a h = (h, tt)
above_put x k w (m ∷ ms) a h = go (nat_cmp k m.0) (above_put x k w ms a.1 h)
  where
    go : (o : Ordering) → AllByRecursion (λ q. nat_cmp x q ≡ Less) (keys_of (insert_entry nat_cmp ms k w))
        → AllByRecursion (λ q. nat_cmp x q ≡ Less) (keys_of (match_ordering o ((k, w) ∷ m ∷ ms) ((m.0, w) ∷ ms) (m ∷ insert_entry nat_cmp ms k w)))
    go Less later = (h, a)
    go Equal later = a
    go Greater later = (a.0, later)

below_all : (k m : ℕ) (qs : List ℕ) → nat_cmp k m ≡ Less → AllByRecursion (λ q. nat_cmp m q ≡ Less) qs → AllByRecursion (λ q. nat_cmp k q ≡ Less) qs
below_all k m [] h a = tt
below_all k m (q ∷ qs) h a = (let first : nat_cmp m q ≡ Less = a.0 in let less : nat_cmp k q ≡ Less = grind (arith, nat_tests) in (less, below_all k m qs h a.1))

rise_put : (k : ℕ) (w : Option Watch) (ms : Monitors) → AreInOrder ms → AreInOrder (insert_entry nat_cmp ms k w)
unfolding IsStrictlySortedBy
rise_put k w [] s = (tt, tt)
rise_put k w (m ∷ ms) s = go (nat_cmp k m.0) refl (rise_put k w ms s.1)
  where
    go : (o : Ordering) → nat_cmp k m.0 ≡ o → AreInOrder (insert_entry nat_cmp ms k w) → AreInOrder (match_ordering o ((k, w) ∷ m ∷ ms) ((m.0, w) ∷ ms) (m ∷ insert_entry nat_cmp ms k w))
    go Less e later = ((e, below_all k m.0 (keys_of ms) e s.0), s)
    go Equal e later = s
    go Greater e later = (above_put m.0 k w ms s.0 (let less : nat_cmp m.0 k ≡ Less = grind (arith, nat_tests) in less), later)

-- An edit of a link or a manager leaves the monitors.
pub left : (o : Option ℕ) (f : ℕ → InputData) (now : InputData) → ((n : ℕ) → (f n).monitors ≡ now.monitors) → (option_map_or f o now).monitors ≡ now.monitors
left None f now h = refl
left (Some n) f now h = h n

rise_changed : (now : InputData) (e : AnEdit) → AreInOrder now.monitors → AreInOrder (changed now e).monitors
rise_changed now (add f) s = subst AreInOrder (sym (left (number_of_name now.topo.links f.link) _ now (λ n. refl))) s
rise_changed now (replace f) s = subst AreInOrder (sym (left (number_of_name now.topo.links f.link) _ now (λ n. refl))) s
rise_changed now (withdraw name number) s = subst AreInOrder (sym (left (number_of_name now.topo.links name) _ now (λ n. refl))) s
rise_changed now (clear_link name) s = subst AreInOrder (sym (left (number_of_name now.topo.links name) _ now (λ n. refl))) s
rise_changed now (set_region name number area) s = subst AreInOrder (sym (left (number_of_name now.topo.managers name) _ now (λ n. refl))) s
rise_changed now (remove_region name number) s = subst AreInOrder (sym (left (number_of_name now.topo.managers name) _ now (λ n. refl))) s
rise_changed now (attach monitor w) s = rise_put monitor _ now.monitors s
rise_changed now (retune monitor limit) s = rise_put monitor _ now.monitors s
rise_changed now (detach monitor) s = rise_put monitor _ now.monitors s

rise_by : (now : InputData) (es : List AnEdit) → AreInOrder now.monitors → AreInOrder (changed_by now es).monitors
rise_by now [] s = s
rise_by now (e ∷ es) s = rise_by (changed now e) es (rise_changed now e s)

none_in_order : AreInOrder []
unfolding IsStrictlySortedBy
none_in_order = tt

pub monitors_rise : (topo : Topology) (es : List AnEdit) → AreInOrder (inputs_after topo es).monitors
monitors_rise topo es = rise_by (blank topo) es none_in_order

-- ---- those that are attached

pub attached_has : (ms : Monitors) (n : ℕ) (w : Watch) → watch_at n ms ≡ Some w → Contains (attached ms) (n, w)
attached_has [] n w h = cc
attached_has (m ∷ ms) n w h = go (λ g. attached_has ms n w g) (is_at (nat_cmp n) m.0) refl m.1 refl h
  where
    go : (watch_at n ms ≡ Some w → Contains (attached ms) (n, w)) → (b : Bool) → is_at (nat_cmp n) m.0 ≡ b → (v : Option Watch) → m.1 ≡ v
        → option_map_or (λ x. x) (cond b (Some v) (lookup (is_at (nat_cmp n)) ms)) None ≡ Some w → Contains (option_map_or (λ x. (m.0, x) ∷ attached ms) v (attached ms)) (n, w)
    go later true at None is g = cc
    go later true at (Some v) is g =
        let same : (m.0, v) ≡ (n, w) = (let number : n ≡ m.0 = same_number n m.0 at in let one : v ≡ w = cc in ap (λ k. (k, v)) (sym number) ∙ ap (λ x. (n, x)) one) in
        subst (Contains ((m.0, v) ∷ attached ms)) same (contains_here (m.0, v) (attached ms))
    go later false at None is g = later g
    go later false at (Some v) is g = contains_there (m.0, v) (attached ms) (n, w) (later g)

none_above : (n : ℕ) (ms : Monitors) → AllByRecursion (λ q. nat_cmp n q ≡ Less) (keys_of ms) → watch_at n ms ≡ None
none_above n [] a = refl
none_above n (m ∷ ms) a = ap (λ c. option_map_or (λ x. x) (cond (is_eq c) (Some m.1) (lookup (is_at (nat_cmp n)) ms)) None) a.0 ∙ none_above n ms a.1

pub attached_from : (ms : Monitors) → AreInOrder ms → (e : ℕ × Watch) → Contains (attached ms) e → watch_at e.0 ms ≡ Some e.1
unfolding IsStrictlySortedBy
attached_from [] s e h = absurd (contains_none e h)
attached_from (m ∷ ms) s e h = go (λ g. attached_from ms s.1 e g) m.1 refl h
  where
    later : (Contains (attached ms) e → watch_at e.0 ms ≡ Some e.1) → Contains (attached ms) e → watch_at e.0 (m ∷ ms) ≡ Some e.1
    later known g = elim (is_at (nat_cmp e.0) m.0) as (λ b. is_at (nat_cmp e.0) m.0 ≡ b → watch_at e.0 (m ∷ ms) ≡ Some e.1) [
      | true ↦ λ t. (let none : watch_at e.0 ms ≡ None = subst (λ k. watch_at k ms ≡ None) (sym (same_number e.0 m.0 t)) (none_above m.0 ms s.0) in
          absurd (let never : None ≡ Some e.1 = sym none ∙ known g in cc))
      | false ↦ λ t. ap (λ b. option_map_or (λ x. x) (cond b (Some m.1) (lookup (is_at (nat_cmp e.0)) ms)) None) t ∙ known g
    ] refl

    go : (Contains (attached ms) e → watch_at e.0 ms ≡ Some e.1) → (v : Option Watch) → m.1 ≡ v → Contains (option_map_or (λ x. (m.0, x) ∷ attached ms) v (attached ms)) e → watch_at e.0 (m ∷ ms) ≡ Some e.1
    go known None is g = later known g
    go known (Some v) is g = elim (contains_cases (m.0, v) (attached ms) e g) [
      | inl same ↦ subst (λ (x : ℕ × Watch). watch_at x.0 (m ∷ ms) ≡ Some x.1) same (ap (λ b. option_map_or (λ x. x) (cond b (Some m.1) (lookup (is_at (nat_cmp m.0)) ms)) None) (at_itself m.0) ∙ is)
      | inr there ↦ later known there
    ]
