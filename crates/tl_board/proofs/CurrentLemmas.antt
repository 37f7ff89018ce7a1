-- Lists that are the same as far as they were compared.
use Rattle.std.proofs.Common.{◌≡◌, ℕ, zero, suc, ◌+◌, ◌<◌, ◌≤◌, Bool, true, false, cond, Ordering, Less, Equal, Greater, List, [], ◌∷◌, ◌++◌, Option, Some, None, Bor, length, map, take, get_or, nat_lt, refl, sym, ap, subst, ◌∙◌, arith}
use Rattle.std.specs.Prelude.{is_some, slice_get, slice_index, option_map}
use Rattle.std.specs.BTreeMap.{is_at}
use Rattle.std.specs.List.{AllByRecursion}
use Rattle.std.specs.Option.{option_copied}
use Rattle.std.specs.List.Sorted.{IsStrictlySortedBy}
use Rattle.std.specs.Map.{keys_of}
use Rattle.std.specs.Ordering.{nat_cmp, is_eq, ordering_reverse}
use Rattle.std.proofs.lemmas.Bool.Decides.{nat_tests}
use Rattle.std.proofs.lemmas.Cmp.{nat_cmp_total}
use Rattle.std.proofs.lemmas.List.{take_all, take_more}
use Rattle.std.proofs.lemmas.Option.{slice_get-get_or}
use Rattle.std.proofs.lemmas.Map.{lookup-none}
use Rattle.std.proofs.lemmas.Map.Entries.{none_below_head}
use Rattle.std.proofs.lemmas.Map.Keys.{sorted_head, sorted_tail}
use Rattle.tl_topology.specs.Regions.{Area, area_at, AreRegions}
use Rattle.tl_topology.specs.Regions.{areas_of}
use Rattle.tl_topology.specs.Topology.{Topology}
use Rattle.tl_definitions.specs.Managers.{declared_links, manager_at}
use Rattle.tl_definitions.specs.Positions.{Recorded, links_of, clients_of}
use Rattle.tl_board.specs.Tasks.{TaskData, HasNumbers, IsCurrent, manager_of}

pub same_of_both : {X : Type 0} (xs ys : List X) (n : ℕ) → length xs ≡ length ys → length xs ≤ n → take n xs ≡ take n ys → xs ≡ ys
same_of_both xs ys n many all h = sym (take_all n xs all) ∙ h ∙ take_all n ys (subst (λ k. k ≤ n) many all)

-- What is read at a place of a list that is mapped.
pub mapped_at : {X Y : Type 0} (f : X → Y) (xs : List X) (n : ℕ) → option_map f (slice_get xs n) ≡ slice_get (map f xs) n
mapped_at f [] zero = refl
mapped_at f [] (suc n) = refl
mapped_at f (x ∷ xs) zero = refl
mapped_at f (x ∷ xs) (suc n) = mapped_at f xs n

within : {X : Type 0} (zs : List X) (k : ℕ) (z : X) → slice_get zs k ≡ Some z → k < length zs
within [] zero z is = cc
within [] (suc k) z is = cc
within (w ∷ zs) zero z is = omega arith
within (w ∷ zs) (suc k) z is = let rest : k < length zs = within zs k z is in omega (arith, rest)

grown : {X : Type 0} (zs : List X) (k : ℕ) (z : X) → slice_get zs k ≡ Some z → take (k + 1) zs ≡ take k zs ++ z ∷ []
grown {X} zs k z is =
    let under = within zs k z is in
    let at : get_or zs k z ≡ z = (let both : Some (get_or zs k z) ≡ Some z = sym (slice_get-get_or zs k z under) ∙ is in cc) in
    take_more zs k z under ∙ ap (λ (v : X). take k zs ++ v ∷ []) at

pub one_more : {X : Type 0} (xs ys : List X) (n : ℕ) (x y : X) → slice_get xs n ≡ Some x → slice_get ys n ≡ Some y → x ≡ y → take n xs ≡ take n ys → take (n + 1) xs ≡ take (n + 1) ys
one_more xs ys n x y at_x at_y same h = grown xs n x at_x ∙ ap (λ l. l ++ x ∷ []) h ∙ ap (λ z. take n ys ++ z ∷ []) same ∙ sym (grown ys n y at_y)

-- What is read at a place of both.
pub linked : {X Y : Type 0} (f : X → Y) (xs : List X) (n : ℕ) (found : Option (Bor Y)) (link : Bor Y) → option_copied found ≡ option_map f (slice_get xs n) → found ≡ Some link → slice_get (map f xs) n ≡ Some link.now
linked f xs n found link is some = sym (mapped_at f xs n) ∙ sym is ∙ ap option_copied some

pub apart : {X : Type 0} (xs ys : List X) (n : ℕ) (x y : X) → slice_get xs n ≡ Some x → slice_get ys n ≡ Some y → xs ≡ ys → x ≡ y
apart xs ys n x y at_x at_y same = let both : Some x ≡ Some y = sym at_x ∙ ap (λ l. slice_get l n) same ∙ at_y in cc

-- ---- regions by number

number_exact : (x y : ℕ) → is_at (nat_cmp x) y ≡ true → x ≡ y
number_exact x y h = go (nat_cmp x y) refl h
  where
    go : (o : Ordering) → nat_cmp x y ≡ o → is_eq o ≡ true → x ≡ y
    go Less e g = cc
    go Equal e g = grind (arith, nat_tests)
    go Greater e g = cc

abbrev Numbered : List (ℕ × Area) → Type 0
Numbered es = IsStrictlySortedBy nat_cmp (keys_of es)

above_none : (k : ℕ) (es : List (ℕ × Area)) → Numbered es → AllByRecursion (λ q. nat_cmp k q ≡ Less) (keys_of es) → area_at k es ≡ None
above_none k [] s a = refl
above_none k (e ∷ es) s a = lookup-none (is_at (nat_cmp k)) (e ∷ es) (none_below_head nat_cmp_total k e es s a.0)

found_head : (e : ℕ × Area) (es : List (ℕ × Area)) → area_at e.0 (e ∷ es) ≡ Some e.1
found_head e es = let here : is_at (nat_cmp e.0) e.0 ≡ true = grind (arith, nat_tests) in ap (λ b. cond b (Some e.1) (area_at e.0 es)) here

same_areas : (xs ys : List (ℕ × Area)) → Numbered xs → Numbered ys → ((k : ℕ) → area_at k xs ≡ area_at k ys) → xs ≡ ys
same_areas [] [] a b same = refl
same_areas [] (y ∷ ys) a b same = absurd (let never : None ≡ Some y.1 = same y.0 ∙ found_head y ys in cc)
same_areas (x ∷ xs) [] a b same = absurd (let never : None ≡ Some x.1 = sym (same x.0) ∙ found_head x xs in cc)
same_areas (x ∷ xs) (y ∷ ys) a b same = go (same_areas xs ys (sorted_tail nat_cmp x.0 (keys_of xs) a) (sorted_tail nat_cmp y.0 (keys_of ys) b)) (nat_cmp x.0 y.0) refl
  where
    first_none : (k : ℕ) (e : ℕ × Area) (es : List (ℕ × Area)) → Numbered (e ∷ es) → nat_cmp k e.0 ≡ Less → area_at k (e ∷ es) ≡ None
    first_none k e es s lt = lookup-none (is_at (nat_cmp k)) (e ∷ es) (none_below_head nat_cmp_total k e es s lt)

    rest : (e : ℕ × Area) (es : List (ℕ × Area)) → Numbered (e ∷ es) → area_at e.0 es ≡ None
    rest e es s = above_none e.0 es (sorted_tail nat_cmp e.0 (keys_of es) s) (sorted_head nat_cmp e.0 (keys_of es) s)

    tails : x.0 ≡ y.0 → (k : ℕ) → area_at k xs ≡ area_at k ys
    tails at k = elim (is_at (nat_cmp k) x.0) as (λ t. is_at (nat_cmp k) x.0 ≡ t → area_at k xs ≡ area_at k ys) [
      | true ↦ λ t. (let here : k ≡ x.0 = number_exact k x.0 t in
          ap (λ q. area_at q xs) here ∙ rest x xs a ∙ sym (ap (λ q. area_at q ys) (here ∙ at) ∙ rest y ys b))
      | false ↦ λ t. (let there : is_at (nat_cmp k) y.0 ≡ false = subst (λ q. is_at (nat_cmp k) q ≡ false) at t in
          sym (ap (λ c. cond c (Some x.1) (area_at k xs)) t) ∙ same k ∙ ap (λ c. cond c (Some y.1) (area_at k ys)) there)
    ] refl

    go : (((k : ℕ) → area_at k xs ≡ area_at k ys) → xs ≡ ys) → (o : Ordering) → nat_cmp x.0 y.0 ≡ o → x ∷ xs ≡ y ∷ ys
    go later Less e = absurd (let never : None ≡ Some x.1 = sym (first_none x.0 y ys b e) ∙ sym (same x.0) ∙ found_head x xs in cc)
    go later Greater e = absurd (let below : nat_cmp y.0 x.0 ≡ Less = nat_cmp_total.antisymm y.0 x.0 ∙ ap ordering_reverse e in let never : None ≡ Some y.1 = sym (first_none y.0 x xs a below) ∙ same y.0 ∙ found_head y ys in cc)
    go later Equal e =
        let at : x.0 ≡ y.0 = number_exact x.0 y.0 (ap is_eq e) in
        let value : x.1 ≡ y.1 = (let both : Some x.1 ≡ Some y.1 = sym (found_head x xs) ∙ same x.0 ∙ ap (λ q. area_at q (y ∷ ys)) at ∙ found_head y ys in cc) in
        ap (λ k. (k, x.1) ∷ xs) at ∙ ap (λ v. (y.0, v) ∷ xs) value ∙ ap (λ l. y ∷ l) (later (tails at))

-- Regions that have the same below 256 and no others are the same.
pub same_regions : (xs ys : List (ℕ × Area)) → AreRegions xs → AreRegions ys → HasNumbers xs → HasNumbers ys → ((k : ℕ) → k < 256 → area_at k xs ≡ area_at k ys) → xs ≡ ys
same_regions xs ys a b own other same = same_areas xs ys a.rising b.rising (λ k. go k (nat_lt k 256) refl)
  where
    none : (zs : List (ℕ × Area)) → HasNumbers zs → (k : ℕ) → (k < 256 → ⊥) → area_at k zs ≡ None
    none zs has k not = away (area_at k zs) refl
      where
        away : (found : Option Area) → area_at k zs ≡ found → found ≡ None
        away None is = refl
        away (Some x) is = absurd (not (has k (ap is_some is)))

    go : (k : ℕ) (t : Bool) → nat_lt k 256 ≡ t → area_at k xs ≡ area_at k ys
    go k true h = same k (let lt : k < 256 = grind (arith, nat_tests) in lt)
    go k false h = none xs own k (λ lt. let yes : nat_lt k 256 ≡ true = grind (arith, nat_tests) in cc) ∙ sym (none ys other k (λ lt. let yes : nat_lt k 256 ≡ true = grind (arith, nat_tests) in cc))

-- ---- a task that stands

index_of : (us vs : List ℕ) (n : ℕ) → slice_get us n ≡ slice_get vs n → slice_index us n ≡ slice_index vs n
index_of [] [] n h = refl
index_of [] (v ∷ vs) zero h = cc
index_of [] (v ∷ vs) (suc n) h = index_of [] vs n (later n h)
  where
    later : (k : ℕ) → slice_get [] (suc k) ≡ slice_get vs k → slice_get [] k ≡ slice_get vs k
    later zero g = g
    later (suc k) g = g
index_of (u ∷ us) [] zero h = cc
index_of (u ∷ us) [] (suc n) h = index_of us [] n (later n h)
  where
    later : (k : ℕ) → slice_get us k ≡ slice_get [] (suc k) → slice_get us k ≡ slice_get [] k
    later zero g = g
    later (suc k) g = g
index_of (u ∷ us) (v ∷ vs) zero h = let both : Some u ≡ Some v = h in cc
index_of (u ∷ us) (v ∷ vs) (suc n) h = index_of us vs n h

-- It is of the manager that stands.
pub same_manager : (topo : Topology) (regions : List (ℕ × Area)) (fragments : List Recorded) (task : TaskData) → IsCurrent topo regions fragments task → manager_of task ≡ manager_at topo task.owner (areas_of regions)
same_manager topo regions fragments task is =
    ap (λ decls. record { links = links_of decls; clients = clients_of task.owner decls; exponent = slice_index (map (λ p. p.1) task.topo.managers) task.owner; regions = areas_of task.regions }) is.links
    ∙ ap (λ n. record { links = links_of (declared_links topo); clients = clients_of task.owner (declared_links topo); exponent = n; regions = areas_of task.regions })
    (index_of (map (λ p. p.1) task.topo.managers) (map (λ p. p.1) topo.managers) task.owner (sym (mapped_at (λ p. p.1) task.topo.managers task.owner) ∙ is.block ∙ mapped_at (λ p. p.1) topo.managers task.owner))
    ∙ ap (λ rs. manager_at topo task.owner (areas_of rs)) is.regions
