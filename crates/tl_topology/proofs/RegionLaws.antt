-- Regions stay apart where one is put in place of its own number, or taken out.
use Rattle.std.proofs.Common.{◌≡◌, ◌∙◌, ℕ, ◌==◌, ◌&&◌, true, false, cond, List, [], ◌∷◌, Some, None, refl, sym, subst, arith}
use Rattle.std.specs.Prelude.{nat_le, option_map, find, not}
use Rattle.std.specs.Ordering.{nat_cmp}
use Rattle.std.specs.Cmp.{Equal-is}
use Rattle.std.specs.BTreeMap.{is_at}
use Rattle.std.proofs.lemmas.Bool.Decides.{nat_tests}
use Rattle.std.proofs.lemmas.Map.Lookups.{exact_unsigned}
use Rattle.tl_topology.specs.Regions.{Area, overlaps, overlapping, area_at, AreApart}

pub same_key : (a b : ℕ) → is_at (nat_cmp a) b ≡ true → a ≡ b
same_key a b h = exact_unsigned a b ((Equal-is (nat_cmp a b)).0 h)

pub other_key : (a b : ℕ) → (b == a) ≡ false → is_at (nat_cmp a) b ≡ false
other_key a b h = elim (is_at (nat_cmp a) b) as (λ t. is_at (nat_cmp a) b ≡ t → t ≡ false) [
  | true ↦ λ e. let same = same_key a b e in absurd (grind (arith, nat_tests))
  | false ↦ λ e. refl
] refl

overlaps_both : (a b : Area) → overlaps a b ≡ false → overlaps b a ≡ false
overlaps_both a b h = elim (nat_le a.first b.last) as (λ x. (x && nat_le b.first a.last) ≡ false → (nat_le b.first a.last && x) ≡ false) [
  | true ↦ λ e. elim (nat_le b.first a.last) as (λ y. y ≡ false → (y && true) ≡ false) [ true ↦ λ f. cc | false ↦ λ f. refl ] e
  | false ↦ λ e. elim (nat_le b.first a.last) as (λ y. (y && false) ≡ false) [ true ↦ refl | false ↦ refl ]
] h

-- what is present under another number shares no address
pub none_overlaps : (number : ℕ) (area : Area) (entries : List (ℕ × Area)) (k : ℕ) (b : Area) → overlapping number area entries ≡ None → area_at k entries ≡ Some b
    → (k == number) ≡ false → overlaps b area ≡ false
none_overlaps number area [] k b none found h = cc
none_overlaps number area (e ∷ es) k b none found h =
    elim (not (e.0 == number) && overlaps e.1 area) as (λ t. (not (e.0 == number) && overlaps e.1 area) ≡ t
    → option_map (λ (x : ℕ × Area). x.0) (cond t (Some e) (find (λ (x : ℕ × Area). not (x.0 == number) && overlaps x.1 area) es)) ≡ None → overlaps b area ≡ false) [
      | true ↦ λ t g. cc
      | false ↦ λ t g. elim (is_at (nat_cmp k) e.0) as (λ s. is_at (nat_cmp k) e.0 ≡ s → cond s (Some e.1) (area_at k es) ≡ Some b → overlaps b area ≡ false) [
        | true ↦ λ s f.
            let same = same_key k e.0 s in
            let it : e.1 ≡ b = cc in
            let apart : (e.0 == number) ≡ false = rw (sym same) h in
            subst (λ x. overlaps x area ≡ false) it (subst (λ y. (not y && overlaps e.1 area) ≡ false) apart t)
        | false ↦ λ s f. none_overlaps number area es k b g f h
      ] refl found
    ] refl none

-- the region of j among these is a
put_at : (number : ℕ) (area : Area) (old new : List (ℕ × Area)) (j : ℕ) (a : Area) → area_at number new ≡ Some area → (j == number) ≡ true → area_at j new ≡ Some a → area ≡ a
put_at number area old new j a put same found =
    let e : j ≡ number = grind (arith, nat_tests) in
    let f : area_at number new ≡ Some a = subst (λ x. area_at x new ≡ Some a) e found in
    let g : Some area ≡ Some a = sym put ∙ f in
    cc

pub apart_put : (number : ℕ) (area : Area) (old new : List (ℕ × Area)) → overlapping number area old ≡ None → AreApart old → area_at number new ≡ Some area
    → ((other : ℕ) → (other == number) ≡ false → area_at other new ≡ area_at other old) → AreApart new
apart_put number area old new none apart put others j k a b differ at_j at_k =
    elim (j == number) as (λ x. (j == number) ≡ x → overlaps a b ≡ false) [
      | true ↦ λ x.
          let e : j ≡ number = grind (arith, nat_tests) in
          let away : (k == number) ≡ false = grind (arith, nat_tests) in
          let it = put_at number area old new j a put x at_j in
          subst (λ y. overlaps y b ≡ false) it (overlaps_both b area (none_overlaps number area old k b none (sym (others k away) ∙ at_k) away))
      | false ↦ λ x. elim (k == number) as (λ y. (k == number) ≡ y → overlaps a b ≡ false) [
        | true ↦ λ y.
            let it = put_at number area old new k b put y at_k in
            subst (λ z. overlaps a z ≡ false) it (none_overlaps number area old j a none (sym (others j x) ∙ at_j) x)
        | false ↦ λ y. apart j k a b differ (sym (others j x) ∙ at_j) (sym (others k y) ∙ at_k)
      ] refl
    ] refl

pub apart_taken : (number : ℕ) (old new : List (ℕ × Area)) → AreApart old → area_at number new ≡ None
    → ((other : ℕ) → (other == number) ≡ false → area_at other new ≡ area_at other old) → AreApart new
apart_taken number old new apart gone others j k a b differ at_j at_k =
    elim (j == number) as (λ x. (j == number) ≡ x → overlaps a b ≡ false) [
      | true ↦ λ x.
          let e : j ≡ number = grind (arith, nat_tests) in
          let f : area_at number new ≡ Some a = subst (λ z. area_at z new ≡ Some a) e at_j in
          let g : None ≡ Some a = sym gone ∙ f in
          cc
      | false ↦ λ x. elim (k == number) as (λ y. (k == number) ≡ y → overlaps a b ≡ false) [
        | true ↦ λ y.
            let e : k ≡ number = grind (arith, nat_tests) in
            let f : area_at number new ≡ Some b = subst (λ z. area_at z new ≡ Some b) e at_k in
            let g : None ≡ Some b = sym gone ∙ f in
            cc
        | false ↦ λ y. apart j k a b differ (sym (others j x) ∙ at_j) (sym (others k y) ∙ at_k)
      ] refl
    ] refl
