-- A fragment that comes among others, and what is left where one goes.
use Rattle.std.proofs.Common.{◌≡◌, ℕ, ◌<◌, ◌≤◌, ◌⊎◌, inl, inr, true, false, cond, not, ◌&&◌, List, [], ◌∷◌, Some, refl, sym, ap, subst, ◌∙◌, arith}
use Rattle.std.specs.Prelude.{map, ◌==◌, nat_lt}
use Rattle.std.specs.Option.{option_map}
use Rattle.std.specs.declared.cmp.Ordering.{Ordering}
use Rattle.std.specs.declared.cmp.Ordering.TheVariants.{Less, Equal, Greater}
use Rattle.std.specs.Ordering.{nat_cmp, is_lt}
use Rattle.std.specs.FinMap.{nat_cmp-IsAntisymmetric}
use Rattle.std.specs.BTreeMap.{insert_entry, is_at}
use Rattle.std.specs.Map.{keys_of, lookup, remove_entry}
use Rattle.std.specs.List.{Contains, AllByRecursion, AllZip, find}
use Rattle.std.specs.List.Sorted.{IsStrictlySortedBy}
use Rattle.std.proofs.lemmas.Bool.Decides.{nat_tests}
use Rattle.std.proofs.lemmas.List.Elements.{All-nil, All-cons, All-head}
use Rattle.tl_beats.specs.declared.Beat.{Beat}
use Rattle.tl_beats.specs.Fragments.{Frag, AreBeats}
use Rattle.tl_definitions.specs.Positions.{Recorded}
use Rattle.tl_definitions.proofs.Lists.{contains_here, contains_there, contains_cases, all_of, all_by}
use Rattle.tl_definitions.proofs.OrderLaws.{then_less, tie_then_less, tied, below}
use Rattle.tl_capture.specs.Present.{recorded, range_order, put_in, shares, IsCapture}
use Rattle.tl_capture.specs.Ranges.{Key, key_cmp, AreRanges, ends_at, without_end, shown, AreKeyed, AreEntries}
use Rattle.tl_capture.proofs.PresentLemmas.{less_cases, less_is, ranges_tail, ranges_kept}
use Rattle.tl_capture.proofs.EntryLemmas.{at_ends, shown_insert, shown_remove, swapped, over, keyed_insert, keyed_remove}

range_less : (f g : Recorded) → f.link < g.link → range_order f g ≡ Less
range_less f g lt = then_less (nat_cmp f.link g.link) (nat_cmp f.last g.first) (below f.link g.link lt)

range_next : (f g : Recorded) → f.link ≡ g.link → f.last < g.first → range_order f g ≡ Less
range_next f g same lt = tie_then_less (nat_cmp f.link g.link) (nat_cmp f.last g.first) (tied f.link g.link same) (below f.last g.first lt)

range_trans : (f g h : Recorded) → g.first ≤ g.last → range_order f g ≡ Less → range_order g h ≡ Less → range_order f h ≡ Less
range_trans f g h order one two = elim (less_cases (nat_cmp f.link g.link) (nat_cmp f.last g.first) one) [
  | inl lower ↦ (let lt = less_is f.link g.link lower in elim (less_cases (nat_cmp g.link h.link) (nat_cmp g.last h.first) two) [
    | inl low ↦ (let also = less_is g.link h.link low in range_less f h (omega arith))
    | inr next ↦ (let same = nat_cmp-IsAntisymmetric g.link h.link next.0 in range_less f h (omega arith))
  ])
  | inr before ↦ (let lt = less_is f.last g.first before.1 in let same = nat_cmp-IsAntisymmetric f.link g.link before.0 in elim (less_cases (nat_cmp g.link h.link) (nat_cmp g.last h.first) two) [
    | inl low ↦ (let also = less_is g.link h.link low in range_less f h (omega arith))
    | inr next ↦ (let also = less_is g.last h.first next.1 in let equal = nat_cmp-IsAntisymmetric g.link h.link next.0 in range_next f h (omega arith) (omega arith))
  ])
]

less_from : (o : Ordering) → is_lt o ≡ true → o ≡ Less
less_from Less h = refl
less_from Equal h = cc
less_from Greater h = cc

-- Of two that are apart, one lies before the other.
other_way : (f g : Recorded) → shares f.link f.first f.last g ≡ false → is_lt (range_order f g) ≡ false → range_order g f ≡ Less
other_way f g free goes = elim (nat_lt f.link g.link) as (λ t. nat_lt f.link g.link ≡ t → range_order g f ≡ Less) [
  | true ↦ λ e. (let lt : f.link < g.link = grind (arith, nat_tests) in let wrong : true ≡ false = sym (ap is_lt (range_less f g lt)) ∙ goes in cc)
  | false ↦ λ e. elim (nat_lt g.link f.link) as (λ t. nat_lt g.link f.link ≡ t → range_order g f ≡ Less) [
    | true ↦ λ h. range_less g f (grind (arith, nat_tests))
    | false ↦ λ h. (let same : f.link ≡ g.link = grind (arith, nat_tests) in elim (nat_lt f.last g.first) as (λ t. nat_lt f.last g.first ≡ t → range_order g f ≡ Less) [
      | true ↦ λ l. (let lt : f.last < g.first = grind (arith, nat_tests) in let wrong : true ≡ false = sym (ap is_lt (range_next f g same lt)) ∙ goes in cc)
      | false ↦ λ l. (let le : g.first ≤ f.last = grind (arith, nat_tests) in let lt : g.last < f.first = grind (arith, nat_tests) in range_next g f (sym same) lt)
    ] refl)
  ] refl
] refl

pub put_from : (f : Recorded) (fs : List Recorded) (x : Recorded) → Contains (put_in f fs) x → (f ≡ x) ⊎ Contains fs x
put_from f [] x h = contains_cases f [] x h
put_from f (g ∷ fs) x h = elim (is_lt (range_order f g)) as (λ b. Contains (cond b (f ∷ g ∷ fs) (g ∷ put_in f fs)) x → (f ≡ x) ⊎ Contains (g ∷ fs) x) [
  | true ↦ λ c. contains_cases f (g ∷ fs) x c
  | false ↦ λ c. elim (contains_cases g (put_in f fs) x c) [
    | inl is ↦ inr (subst (Contains (g ∷ fs)) is (contains_here g fs))
    | inr rest ↦ elim (put_from f fs x rest) [ inl is ↦ inl is | inr there ↦ inr (contains_there g fs x there) ]
  ]
] h

pub put_ranges : (f : Recorded) (fs : List Recorded) → IsCapture f → AreRanges fs → AllByRecursion (λ g. shares f.link f.first f.last g ≡ false) fs → AreRanges (put_in f fs)
unfolding IsStrictlySortedBy
put_ranges f [] own is free = record { each = All-cons IsCapture f [] own (All-nil IsCapture); apart = (tt, tt) }
put_ranges f (g ∷ fs) own is free =
    let first = All-head IsCapture g fs is.each in
    elim (is_lt (range_order f g)) as (λ b. is_lt (range_order f g) ≡ b → AreRanges (cond b (f ∷ g ∷ fs) (g ∷ put_in f fs))) [
      | true ↦ λ e. (let less = less_from (range_order f g) e in record {
        each = All-cons IsCapture f (g ∷ fs) own is.each;
        apart = ((less, all_by (λ x. range_order f x ≡ Less) fs (λ x h. range_trans f g x first.order less (all_of (λ y. range_order g y ≡ Less) fs is.apart.0 x h))), is.apart);
      })
      | false ↦ λ e. (let rest = put_ranges f fs own (ranges_tail g fs is) free.1 in record {
        each = All-cons IsCapture g (put_in f fs) first rest.each;
        apart = (
          all_by (λ x. range_order g x ≡ Less) (put_in f fs) (λ x h. elim (put_from f fs x h) [
            | inl same ↦ subst (λ y. range_order g y ≡ Less) same (other_way f g free.0 e)
            | inr there ↦ all_of (λ y. range_order g y ≡ Less) fs is.apart.0 x there
          ]),
          rest.apart,
        );
      })
    ] refl

-- ---- the entries after an edit

module _ {V : Type 0} (value : V → Frag) where
  pub shown_lookup : (link last : ℕ) (es : List (Key × V)) → AreKeyed value es → option_map (λ v. recorded link (value v)) (lookup (is_at (key_cmp (link, last))) es) ≡ find (ends_at link last) (map (shown value) es)
  shown_lookup link last [] keyed = refl
  shown_lookup link last (e ∷ es) keyed = elim (ends_at link last (shown value e)) as (λ t. ends_at link last (shown value e) ≡ t
      → option_map (λ v. recorded link (value v)) (cond (is_at (key_cmp (link, last)) e.0) (Some e.1) (lookup (is_at (key_cmp (link, last))) es)) ≡ cond t (Some (shown value e)) (find (ends_at link last) (map (shown value) es))) [
        | true ↦ λ at. (let same : link ≡ e.0.0 = same_link e at in
            ap (λ t. option_map (λ v. recorded link (value v)) (cond t (Some e.1) (lookup (is_at (key_cmp (link, last))) es))) (at_ends value link last e keyed.0 ∙ at) ∙ ap (λ n. Some (recorded n (value e.1))) same)
        | false ↦ λ at. ap (λ t. option_map (λ v. recorded link (value v)) (cond t (Some e.1) (lookup (is_at (key_cmp (link, last))) es))) (at_ends value link last e keyed.0 ∙ at) ∙ shown_lookup link last es keyed.1
      ] refl
    where
      same_link : (e : Key × V) → ends_at link last (shown value e) ≡ true → link ≡ e.0.0
      same_link e at = grind (arith, nat_tests)

  pub entries_removed : (link last : ℕ) (es : List (Key × V)) → AreEntries value es → AreEntries value (remove_entry (is_at (key_cmp (link, last))) es)
  entries_removed link last es are = record {
    keyed = keyed_remove value (is_at (key_cmp (link, last))) es are.keyed;
    ranges = subst AreRanges (sym (shown_remove value link last es are)) (ranges_kept (λ f. not (ends_at link last f)) (map (shown value) es) are.ranges);
  }

  pub entries_put : (link : ℕ) (v : V) (es : List (Key × V)) → IsCapture (recorded link (value v)) → AreEntries value es
      → AllByRecursion (λ g. shares link (value v).first (value v).last g ≡ false) (map (shown value) es) → AreEntries value (insert_entry key_cmp es (link, (value v).last) v)
  entries_put link v es own are free = record {
    keyed = keyed_insert value (link, (value v).last) v es refl are.keyed;
    ranges = subst AreRanges (sym (shown_insert value (link, (value v).last) v es refl own.order are free)) (put_ranges (recorded link (value v)) (map (shown value) es) own are.ranges free);
  }

  -- A fragment in the place of another: the entry comes, and where its key is another's, that one goes.
  pub entries_moved : (link last : ℕ) (v : V) (es : List (Key × V)) → IsStrictlySortedBy key_cmp (keys_of es) → ((value v).last == last) ≡ false
      → remove_entry (is_at (key_cmp (link, last))) (insert_entry key_cmp es (link, (value v).last) v) ≡ insert_entry key_cmp (remove_entry (is_at (key_cmp (link, last))) es) (link, (value v).last) v
  entries_moved link last v es s other = swapped (link, (value v).last) (link, last) v es (apart_ends) s
    where
      apart_ends : is_at (key_cmp (link, last)) (link, (value v).last) ≡ false
      apart_ends = at_ends value link last ((link, (value v).last), v) refl ∙ (let no : ((link == link) && ((value v).last == last)) ≡ false = grind (arith, nat_tests) in no)

  pub entries_over : (link last : ℕ) (v : V) (es : List (Key × V)) → IsStrictlySortedBy key_cmp (keys_of es) → (value v).last ≡ last
      → insert_entry key_cmp es (link, (value v).last) v ≡ insert_entry key_cmp (remove_entry (is_at (key_cmp (link, last))) es) (link, (value v).last) v
  entries_over link last v es s same = over (link, (value v).last) v es s ∙ ap (λ n. insert_entry key_cmp (remove_entry (is_at (key_cmp (link, n))) es) (link, (value v).last) v) same

  -- What is shown after either.
  pub moved_shown : (link last : ℕ) (v : V) (es after : List (Key × V)) → IsCapture (recorded link (value v)) → AreEntries value es
      → AllByRecursion (λ g. shares link (value v).first (value v).last g ≡ false) (without_end link last (map (shown value) es))
      → after ≡ insert_entry key_cmp (remove_entry (is_at (key_cmp (link, last))) es) (link, (value v).last) v
      → (map (shown value) after ≡ put_in (recorded link (value v)) (without_end link last (map (shown value) es))) × AreEntries value after
  moved_shown link last v es after own are free is =
      let rest = remove_entry (is_at (key_cmp (link, last))) es in
      let left = shown_remove value link last es are in
      let still = entries_removed link last es are in
      let apart = subst (AllByRecursion (λ g. shares link (value v).first (value v).last g ≡ false)) (sym left) free in (
        ap (map (shown value)) is ∙ shown_insert value (link, (value v).last) v rest refl own.order still apart ∙ ap (put_in (recorded link (value v))) left,
        subst (AreEntries value) (sym is) (entries_put link v rest own still apart),
      )

  pub put_shown : (link last : ℕ) (v : V) (es after : List (Key × V)) (fs : List Recorded) → map (shown value) es ≡ fs → last ≡ (value v).last → IsCapture (recorded link (value v)) → AreEntries value es
      → AllByRecursion (λ g. shares link (value v).first (value v).last g ≡ false) fs → after ≡ insert_entry key_cmp es (link, last) v
      → (map (shown value) after ≡ put_in (recorded link (value v)) fs) × AreEntries value after
  put_shown link last v es after fs shows same own are free is =
      let apart = subst (AllByRecursion (λ g. shares link (value v).first (value v).last g ≡ false)) (sym shows) free in
      let at = is ∙ ap (λ n. insert_entry key_cmp es (link, n) v) same in (
        ap (map (shown value)) at ∙ shown_insert value (link, (value v).last) v es refl own.order are apart ∙ ap (put_in (recorded link (value v))) shows,
        subst (AreEntries value) (sym at) (entries_put link v es own are apart),
      )

  -- Where the key stays, and where another entry goes.
  pub same_shown : (link last end : ℕ) (v : V) (es after : List (Key × V)) (fs : List Recorded) → map (shown value) es ≡ fs → end ≡ (value v).last → IsCapture (recorded link (value v)) → AreEntries value es
      → AllByRecursion (λ g. shares link (value v).first (value v).last g ≡ false) (without_end link last fs) → IsStrictlySortedBy key_cmp (keys_of es) → end ≡ last → after ≡ insert_entry key_cmp es (link, end) v
      → (map (shown value) after ≡ put_in (recorded link (value v)) (without_end link last fs)) × AreEntries value after
  same_shown link last end v es after fs shows same own are free s stays is =
      let made = moved_shown link last v es after own are (subst (λ gs. AllByRecursion (λ g. shares link (value v).first (value v).last g ≡ false) (without_end link last gs)) (sym shows) free)
      (is ∙ ap (λ n. insert_entry key_cmp es (link, n) v) same ∙ entries_over link last v es s (sym same ∙ stays)) in
      (made.0 ∙ ap (λ gs. put_in (recorded link (value v)) (without_end link last gs)) shows, made.1)

  pub other_shown : (link last end : ℕ) (v : V) (es mid after : List (Key × V)) (fs : List Recorded) → map (shown value) es ≡ fs → end ≡ (value v).last → IsCapture (recorded link (value v)) → AreEntries value es
      → AllByRecursion (λ g. shares link (value v).first (value v).last g ≡ false) (without_end link last fs) → IsStrictlySortedBy key_cmp (keys_of es) → (end ≡ last → ⊥) → mid ≡ insert_entry key_cmp es (link, end) v
      → after ≡ remove_entry (is_at (key_cmp (link, last))) mid
      → (map (shown value) after ≡ put_in (recorded link (value v)) (without_end link last fs)) × AreEntries value after
  other_shown link last end v es mid after fs shows same own are free s moves first second =
      let test : ((value v).last == last) ≡ false = differ (value v).last last (λ e. moves (same ∙ e)) in
      let made = moved_shown link last v es after own are (subst (λ gs. AllByRecursion (λ g. shares link (value v).first (value v).last g ≡ false) (without_end link last gs)) (sym shows) free)
      (second ∙ ap (remove_entry (is_at (key_cmp (link, last)))) (first ∙ ap (λ n. insert_entry key_cmp es (link, n) v) same) ∙ entries_moved link last v es s test) in
      (made.0 ∙ ap (λ gs. put_in (recorded link (value v)) (without_end link last gs)) shows, made.1)
    where
      differ : (m n : ℕ) → (m ≡ n → ⊥) → (m == n) ≡ false
      differ m n apart = grind (arith, nat_tests)

  -- ---- a copy

  abbrev pub IsCopy : List (Key × V) → List (Key × V) → Type 0
  IsCopy es fs = AllZip (λ p q. ((q.0.0 ≡ p.0.0) × (q.0.1 ≡ p.0.1)) × (value q.1 ≡ value p.1)) es fs

  pub copied_shown : (es fs : List (Key × V)) → IsCopy es fs → map (shown value) fs ≡ map (shown value) es
  copied_shown [] [] is = refl
  copied_shown [] (y ∷ fs) is = absurd is
  copied_shown (x ∷ es) [] is = absurd is
  copied_shown (x ∷ es) (y ∷ fs) is = ap (λ n. recorded n (value y.1) ∷ map (shown value) fs) is.0.0.0 ∙ ap (λ f. recorded x.0.0 f ∷ map (shown value) fs) is.0.1 ∙ ap (λ gs. shown value x ∷ gs) (copied_shown es fs is.1)

  copied_keyed : (es fs : List (Key × V)) → IsCopy es fs → AreKeyed value es → AreKeyed value fs
  copied_keyed [] [] is keyed = tt
  copied_keyed [] (y ∷ fs) is keyed = absurd is
  copied_keyed (x ∷ es) [] is keyed = absurd is
  copied_keyed (x ∷ es) (y ∷ fs) is keyed = (is.0.0.1 ∙ keyed.0 ∙ ap (λ (f : Frag). f.last) (sym is.0.1), copied_keyed es fs is.1 keyed.1)

  pub copied_entries : (es fs : List (Key × V)) → IsCopy es fs → AreEntries value es → AreEntries value fs
  copied_entries es fs is are = record { keyed = copied_keyed es fs is are.keyed; ranges = subst AreRanges (sym (copied_shown es fs is)) are.ranges }

-- What a fragment's own accessors tell.
pub capture_of : (link last : ℕ) (f d e : Frag) (beats : List Beat) → d ≡ f → e ≡ f → beats ≡ d.beats → AreBeats d.first d.last beats → last ≡ e.last → e.first ≤ last → IsCapture (recorded link f)
capture_of link last f d e beats one two is kept at order = record {
  order = subst (λ (g : Frag). g.first ≤ g.last) two (subst (λ n. e.first ≤ n) at order);
  beats = subst (λ (g : Frag). AreBeats g.first g.last g.beats) one (subst (AreBeats d.first d.last) is kept);
}
