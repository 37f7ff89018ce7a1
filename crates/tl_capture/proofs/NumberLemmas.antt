-- Fragments by their numbers.
use Rattle.std.proofs.Common.{◌≡◌, ℕ, suc, ◌<◌, ◌≤◌, inl, inr, Bool, true, false, cond, not, ◌&&◌, List, [], ◌∷◌, length, Option, Some, None, refl, sym, ap, subst, ◌∙◌, arith}
use Rattle.std.specs.Prelude.{filter, map, ◌==◌, slice_get}
use Rattle.std.specs.Option.{option_map}
use Rattle.std.specs.declared.cmp.Ordering.TheVariants.{Less}
use Rattle.std.specs.Ordering.{nat_cmp, is_eq, is_lt}
use Rattle.std.specs.BTreeMap.{is_at}
use Rattle.std.specs.Map.{lookup}
use Rattle.std.specs.List.{Contains, AllByRecursion, find}
use Rattle.std.specs.List.Sorted.{IsStrictlySortedBy}
use Rattle.std.proofs.lemmas.Bool.Decides.{nat_tests}
use Rattle.std.proofs.lemmas.List.Elements.{All-contains}
use Rattle.tl_definitions.specs.Positions.{Recorded}
use Rattle.tl_definitions.proofs.Lists.{contains_none, contains_here, contains_there, contains_cases, kept_from, all_of, all_by}
use Rattle.tl_capture.specs.Present.{range_order, is_of, AreNumbered, IsCapture, IsPresent, numbered, of_link, put_in, without, cleared, shares, least, overlapped}
use Rattle.tl_capture.specs.Ranges.{Key, key_cmp, AreRanges, ends_at, without_end, AreEnds}
use Rattle.tl_capture.proofs.PresentLemmas.{less_cases, less_is, ranges_tail, ranges_kept, ranges_of}
use Rattle.tl_capture.proofs.EntryLemmas.{is_eq_then, eq_test}
use Rattle.tl_capture.proofs.PutLemmas.{put_from, put_ranges}

-- ---- lists

module _ {X : Type 0} where
  pub same_kept : (p q : X → Bool) (xs : List X) → ((x : X) → Contains xs x → p x ≡ q x) → filter p xs ≡ filter q xs
  same_kept p q [] same = refl
  same_kept p q (x ∷ xs) same = ap (λ t. cond t (x ∷ filter p xs) (filter p xs)) (same x (contains_here x xs))
      ∙ ap (λ ys. cond (q x) (x ∷ ys) ys) (same_kept p q xs (λ y h. same y (contains_there x xs y h)))

  same_found : (p q : X → Bool) (xs : List X) → ((x : X) → Contains xs x → p x ≡ q x) → find p xs ≡ find q xs
  same_found p q [] same = refl
  same_found p q (x ∷ xs) same = ap (λ t. cond t (Some x) (find p xs)) (same x (contains_here x xs))
      ∙ ap (λ o. cond (q x) (Some x) o) (same_found p q xs (λ y h. same y (contains_there x xs y h)))

  pub found_from : (p : X → Bool) (xs : List X) (x : X) → find p xs ≡ Some x → Contains xs x × (p x ≡ true)
  found_from p [] x h = cc
  found_from p (y ∷ xs) x h = elim (p y) as (λ t. p y ≡ t → cond t (Some y) (find p xs) ≡ Some x → Contains (y ∷ xs) x × (p x ≡ true)) [
    | true ↦ λ t e. (let same : y ≡ x = cc in (subst (Contains (y ∷ xs)) same (contains_here y xs), sym (ap p same) ∙ t))
    | false ↦ λ t e. (let known = found_from p xs x e in (contains_there y xs x known.0, known.1))
  ] refl h

  none_found : (p : X → Bool) (xs : List X) → find p xs ≡ None → AllByRecursion (λ x. p x ≡ false) xs
  none_found p [] h = tt
  none_found p (y ∷ xs) h = elim (p y) as (λ t. p y ≡ t → cond t (Some y) (find p xs) ≡ None → AllByRecursion (λ x. p x ≡ false) (y ∷ xs)) [
    | true ↦ λ t e. cc
    | false ↦ λ t e. (t, none_found p xs e)
  ] refl h

  kept_few : (p : X → Bool) (xs : List X) → length (filter p xs) ≤ length xs
  kept_few p [] = omega arith
  kept_few p (x ∷ xs) = let known = kept_few p xs in elim (p x) as (λ t. length (cond t (x ∷ filter p xs) (filter p xs)) ≤ suc (length xs)) [ true ↦ omega arith | false ↦ omega arith ]

  pub kept_fewer : (p : X → Bool) (xs : List X) (x : X) → Contains xs x → p x ≡ false → length (filter p xs) < length xs
  kept_fewer p [] x h e = absurd (contains_none x h)
  kept_fewer p (y ∷ xs) x h e = elim (contains_cases y xs x h) [
    | inl is ↦ (let no : p y ≡ false = ap p is ∙ e in let few = kept_few p xs in
        subst (λ t. length (cond t (y ∷ filter p xs) (filter p xs)) < suc (length xs)) (sym no) (omega arith))
    | inr there ↦ (let known = kept_fewer p xs x there e in elim (p y) as (λ t. length (cond t (y ∷ filter p xs) (filter p xs)) < suc (length xs)) [ true ↦ omega arith | false ↦ omega arith ])
  ]

-- ---- numbers

other_turn : (f g : Recorded) → is_of f.link f.number g ≡ false → is_of g.link g.number f ≡ false
other_turn f g differs = grind (arith, nat_tests)

numbers_kept : (p : Recorded → Bool) (fs : List Recorded) → AreNumbered fs → AreNumbered (filter p fs)
numbers_kept p [] are = tt
numbers_kept p (f ∷ fs) are = elim (p f) as (λ t. AreNumbered (cond t (f ∷ filter p fs) (filter p fs))) [
  | true ↦ (all_by (λ g. is_of f.link f.number g ≡ false) (filter p fs) (λ g h. all_of (λ x. is_of f.link f.number x ≡ false) fs are.0 g (kept_from p fs g h).0), numbers_kept p fs are.1)
  | false ↦ numbers_kept p fs are.1
]

numbers_put : (f : Recorded) (fs : List Recorded) → AreNumbered fs → AllByRecursion (λ g. is_of f.link f.number g ≡ false) fs → AreNumbered (put_in f fs)
numbers_put f [] are absent = (tt, tt)
numbers_put f (g ∷ fs) are absent = elim (is_lt (range_order f g)) as (λ t. AreNumbered (cond t (f ∷ g ∷ fs) (g ∷ put_in f fs))) [
  | true ↦ (absent, are)
  | false ↦ (
    all_by (λ x. is_of g.link g.number x ≡ false) (put_in f fs) (λ x h. elim (put_from f fs x h) [
      | inl is ↦ subst (λ y. is_of g.link g.number y ≡ false) is (other_turn f g absent.0)
      | inr there ↦ all_of (λ y. is_of g.link g.number y ≡ false) fs are.0 x there
    ]),
    numbers_put f fs are.1 absent.1,
  )
]

pub one_number : (fs : List Recorded) → AreNumbered fs → (f g : Recorded) → Contains fs f → Contains fs g → is_of f.link f.number g ≡ true → f ≡ g
one_number [] are f g h k same = absurd (contains_none f h)
one_number (x ∷ fs) are f g h k same = elim (contains_cases x fs f h) [
  | inl here ↦ elim (contains_cases x fs g k) [
    | inl also ↦ sym here ∙ also
    | inr there ↦ (let no : is_of f.link f.number g ≡ false = subst (λ y. is_of y.link y.number g ≡ false) here (all_of (λ y. is_of x.link x.number y ≡ false) fs are.0 g there) in
        let wrong : true ≡ false = sym same ∙ no in cc)
  ]
  | inr rest ↦ elim (contains_cases x fs g k) [
    | inl also ↦ (let no : is_of g.link g.number f ≡ false = subst (λ y. is_of y.link y.number f ≡ false) also (all_of (λ y. is_of x.link x.number y ≡ false) fs are.0 f rest) in
        let wrong : true ≡ false = sym same ∙ other_turn g f no in cc)
    | inr there ↦ one_number fs are.1 f g rest there same
  ]
]

one_end : (fs : List Recorded) → AreRanges fs → (f g : Recorded) → Contains fs f → Contains fs g → f.link ≡ g.link → f.last ≡ g.last → f ≡ g
unfolding IsStrictlySortedBy
one_end [] are f g h k same ends = absurd (contains_none f h)
one_end (x ∷ fs) are f g h k same ends = elim (contains_cases x fs f h) [
  | inl here ↦ elim (contains_cases x fs g k) [
    | inl also ↦ sym here ∙ also
    | inr there ↦ absurd (not_both x g (all_of (λ y. range_order x y ≡ Less) fs are.apart.0 g there) (member_order g there) (ap (λ (y : Recorded). y.link) here ∙ same) (ap (λ (y : Recorded). y.last) here ∙ ends))
  ]
  | inr rest ↦ elim (contains_cases x fs g k) [
    | inl also ↦ absurd (not_both x f (all_of (λ y. range_order x y ≡ Less) fs are.apart.0 f rest) (member_order f rest) (ap (λ (y : Recorded). y.link) also ∙ sym same) (ap (λ (y : Recorded). y.last) also ∙ sym ends))
    | inr there ↦ one_end fs (ranges_tail x fs are) f g rest there same ends
  ]
]
  where
    member_order : (y : Recorded) → Contains fs y → y.first ≤ y.last
    member_order y h = (All-contains IsCapture fs y (ranges_tail x fs are).each h).order

    not_both : (x y : Recorded) → range_order x y ≡ Less → y.first ≤ y.last → x.link ≡ y.link → x.last ≡ y.last → ⊥
    not_both x y less order link last = elim (less_cases (nat_cmp x.link y.link) (nat_cmp x.last y.first) less) [
      | inl by_link ↦ (let lt = less_is x.link y.link by_link in absurd (omega arith))
      | inr by_range ↦ (let lt = less_is x.last y.first by_range.1 in absurd (omega arith))
    ]

-- The fragment with a number is the one with the end of its range.
end_test : (fs : List Recorded) (link number : ℕ) (f : Recorded) → IsPresent fs → numbered link number fs ≡ Some f → (g : Recorded) → Contains fs g → is_of link number g ≡ ends_at link f.last g
end_test fs link number f is found g h =
    let at = found_from (is_of link number) fs f found in
    let own : is_of link number f ≡ true = at.1 in
    elim (is_of link number g) as (λ t. is_of link number g ≡ t → t ≡ ends_at link f.last g) [
      | true ↦ λ e. (let both : is_of f.link f.number g ≡ true = grind (arith, nat_tests) in
          let same = one_number fs is.numbers f g at.0 h both in
          let ends : ends_at link f.last f ≡ true = grind (arith, nat_tests) in
          sym (subst (λ x. ends_at link f.last x ≡ true) same ends))
      | false ↦ λ e. elim (ends_at link f.last g) as (λ t. ends_at link f.last g ≡ t → false ≡ t) [
        | true ↦ λ k. (let link_same : f.link ≡ g.link = grind (arith, nat_tests) in let last_same : f.last ≡ g.last = grind (arith, nat_tests) in
            let same = one_end fs (ranges_of fs is) f g at.0 h link_same last_same in
            sym e ∙ subst (λ x. is_of link number x ≡ true) same own)
        | false ↦ λ k. refl
      ] refl
    ] refl

pub without_by_end : (fs : List Recorded) (link number : ℕ) (f : Recorded) → IsPresent fs → numbered link number fs ≡ Some f → without link number fs ≡ without_end link f.last fs
without_by_end fs link number f is found = same_kept (λ g. not (is_of link number g)) (λ g. not (ends_at link f.last g)) fs (λ g h. ap not (end_test fs link number f is found g h))

pub found_by_end : (fs : List Recorded) (link number : ℕ) (f : Recorded) → IsPresent fs → numbered link number fs ≡ Some f → find (ends_at link f.last) fs ≡ Some f
found_by_end fs link number f is found = sym (same_found (is_of link number) (ends_at link f.last) fs (end_test fs link number f is found)) ∙ found

-- ---- what is found after an edit

numbered_put : (link number : ℕ) (f : Recorded) (fs : List Recorded) → AllByRecursion (λ g. is_of f.link f.number g ≡ false) fs
    → numbered link number (put_in f fs) ≡ cond (is_of link number f) (Some f) (numbered link number fs)
numbered_put link number f [] absent = refl
numbered_put link number f (g ∷ fs) absent = elim (is_lt (range_order f g)) as (λ t. find (is_of link number) (cond t (f ∷ g ∷ fs) (g ∷ put_in f fs)) ≡ cond (is_of link number f) (Some f) (cond (is_of link number g) (Some g) (numbered link number fs))) [
  | true ↦ refl
  | false ↦ ap (λ o. cond (is_of link number g) (Some g) o) (numbered_put link number f fs absent.1)
      ∙ elim (is_of link number g) as (λ t. is_of link number g ≡ t → cond t (Some g) (cond (is_of link number f) (Some f) (numbered link number fs)) ≡ cond (is_of link number f) (Some f) (cond t (Some g) (numbered link number fs))) [
        | true ↦ λ e. (let other : is_of f.link f.number g ≡ false = absent.0 in let no : is_of link number f ≡ false = not_too e other in sym (ap (λ t. cond t (Some f) (Some g)) no))
        | false ↦ λ e. refl
      ] refl
]
  where
    not_too : is_of link number g ≡ true → is_of f.link f.number g ≡ false → is_of link number f ≡ false
    not_too e other = grind (arith, nat_tests)

numbered_without : (link number at of : ℕ) (fs : List Recorded) → numbered link number (without at of fs) ≡ cond (at == link && of == number) None (numbered link number fs)
numbered_without link number at of [] = elim (at == link && of == number) as (λ t. ◌≡◌ {A = Option Recorded} None (cond t None None)) [ true ↦ refl | false ↦ refl ]
numbered_without link number at of (f ∷ fs) = elim (is_of at of f) as (λ t. is_of at of f ≡ t
    → find (is_of link number) (cond (not t) (f ∷ without at of fs) (without at of fs)) ≡ cond (at == link && of == number) None (cond (is_of link number f) (Some f) (numbered link number fs))) [
      | true ↦ λ e. numbered_without link number at of fs ∙ elim (at == link && of == number) as (λ t. (at == link && of == number) ≡ t → cond t None (numbered link number fs) ≡ cond t None (cond (is_of link number f) (Some f) (numbered link number fs))) [
        | true ↦ λ k. refl
        | false ↦ λ k. (let no : is_of link number f ≡ false = differs f link number at of e k in sym (ap (λ t. cond t (Some f) (numbered link number fs)) no))
      ] refl
      | false ↦ λ e. ap (λ o. cond (is_of link number f) (Some f) o) (numbered_without link number at of fs)
          ∙ elim (is_of link number f) as (λ t. is_of link number f ≡ t → cond t (Some f) (cond (at == link && of == number) None (numbered link number fs)) ≡ cond (at == link && of == number) None (cond t (Some f) (numbered link number fs))) [
            | true ↦ λ k. (let no : (at == link && of == number) ≡ false = also f link number at of e k in sym (ap (λ t. cond t None (Some f)) no))
            | false ↦ λ k. refl
          ] refl
    ] refl
  where
    differs : (f : Recorded) (link number at of : ℕ) → is_of at of f ≡ true → (at == link && of == number) ≡ false → is_of link number f ≡ false
    differs f link number at of e k = grind (arith, nat_tests)

    also : (f : Recorded) (link number at of : ℕ) → is_of at of f ≡ false → is_of link number f ≡ true → (at == link && of == number) ≡ false
    also f link number at of e k = grind (arith, nat_tests)

-- ---- the map of the ends

turned : (m n : ℕ) → (n == m) ≡ (m == n)
turned m n = elim (m == n) as (λ t. (m == n) ≡ t → (n == m) ≡ t) [ true ↦ λ e. grind (arith, nat_tests) | false ↦ λ e. grind (arith, nat_tests) ] refl

pub key_test : (at of link number : ℕ) → is_at (key_cmp (at, of)) (link, number) ≡ (at == link && of == number)
key_test at of link number = is_eq_then (nat_cmp at link) (nat_cmp of number) ∙ ap (λ t. t && is_eq (nat_cmp of number)) (eq_test at link ∙ turned at link)
    ∙ ap (λ t. (at == link) && t) (eq_test of number ∙ turned of number)

last_if : (t : Bool) (f : Recorded) (o : Option Recorded) → option_map (λ (g : Recorded). g.last) (cond t (Some f) o) ≡ cond t (Some f.last) (option_map (λ (g : Recorded). g.last) o)
last_if true f o = refl
last_if false f o = refl

none_if : (t : Bool) (o : Option Recorded) → option_map (λ (g : Recorded). g.last) (cond t None o) ≡ cond t None (option_map (λ (g : Recorded). g.last) o)
none_if true o = refl
none_if false o = refl

pub ends_put : (f : Recorded) (fs : List Recorded) (es new : List (Key × ℕ)) → AreEnds es fs → AllByRecursion (λ g. is_of f.link f.number g ≡ false) fs
    → ((q : Key) → lookup (is_at (key_cmp q)) new ≡ cond (is_at (key_cmp (f.link, f.number)) q) (Some f.last) (lookup (is_at (key_cmp q)) es)) → AreEnds new (put_in f fs)
ends_put f fs es new are absent set link number =
    set (link, number) ∙ ap (λ t. cond t (Some f.last) (lookup (is_at (key_cmp (link, number))) es)) (key_test f.link f.number link number)
    ∙ ap (λ o. cond (is_of link number f) (Some f.last) o) (are link number) ∙ sym (last_if (is_of link number f) f (numbered link number fs)) ∙ ap (option_map (λ (g : Recorded). g.last)) (sym (numbered_put link number f fs absent))

pub ends_without : (at of : ℕ) (fs : List Recorded) (es new : List (Key × ℕ)) → AreEnds es fs
    → ((q : Key) → lookup (is_at (key_cmp q)) new ≡ cond (is_at (key_cmp (at, of)) q) None (lookup (is_at (key_cmp q)) es)) → AreEnds new (without at of fs)
ends_without at of fs es new are set link number =
    set (link, number) ∙ ap (λ t. cond t None (lookup (is_at (key_cmp (link, number))) es)) (key_test at of link number)
    ∙ ap (λ o. cond (at == link && of == number) None o) (are link number) ∙ sym (none_if (at == link && of == number) (numbered link number fs)) ∙ ap (option_map (λ (g : Recorded). g.last)) (sym (numbered_without link number at of fs))

-- The number of a fragment that goes is no other's.
pub absent_without : (link number : ℕ) (fs : List Recorded) → AllByRecursion (λ g. is_of link number g ≡ false) (without link number fs)
absent_without link number fs = all_by (λ g. is_of link number g ≡ false) (without link number fs) (λ g h. let kept = (kept_from (λ x. not (is_of link number x)) fs g h).1 in not_false (is_of link number g) kept)
  where
    not_false : (t : Bool) → not t ≡ true → t ≡ false
    not_false true h = cc
    not_false false h = refl

pub ends_replaced : (f : Recorded) (fs : List Recorded) (es new : List (Key × ℕ)) → AreEnds es fs
    → ((q : Key) → lookup (is_at (key_cmp q)) new ≡ cond (is_at (key_cmp (f.link, f.number)) q) (Some f.last) (lookup (is_at (key_cmp q)) es)) → AreEnds new (put_in f (without f.link f.number fs))
ends_replaced f fs es new are set link number =
    set (link, number) ∙ ap (λ t. cond t (Some f.last) (lookup (is_at (key_cmp (link, number))) es)) (key_test f.link f.number link number)
    ∙ ap (λ o. cond (is_of link number f) (Some f.last) o) (are link number) ∙ sym (last_if (is_of link number f) f (numbered link number fs)) ∙ ap (option_map (λ (g : Recorded). g.last))
    (twice (is_of link number f) (numbered link number fs) ∙ ap (λ o. cond (is_of link number f) (Some f) o) (sym (numbered_without link number f.link f.number fs))
    ∙ sym (numbered_put link number f (without f.link f.number fs) (absent_without f.link f.number fs)))
  where
    twice : (t : Bool) (o : Option Recorded) → cond t (Some f) o ≡ cond t (Some f) (cond t None o)
    twice true o = refl
    twice false o = refl

-- ---- what stays present

pub present_put : (f : Recorded) (fs : List Recorded) → IsCapture f → IsPresent fs → AllByRecursion (λ g. is_of f.link f.number g ≡ false) fs → AllByRecursion (λ g. shares f.link f.first f.last g ≡ false) fs → IsPresent (put_in f fs)
present_put f fs own is absent free = let ranges = put_ranges f fs own (ranges_of fs is) free in record { each = ranges.each; apart = ranges.apart; numbers = numbers_put f fs is.numbers absent }

pub present_kept : (p : Recorded → Bool) (fs : List Recorded) → IsPresent fs → IsPresent (filter p fs)
present_kept p fs is = let ranges = ranges_kept p fs (ranges_of fs is) in record { each = ranges.each; apart = ranges.apart; numbers = numbers_kept p fs is.numbers }

-- ---- ranges that are free

pub absent_all : (link number : ℕ) (fs : List Recorded) → numbered link number fs ≡ None → AllByRecursion (λ g. is_of link number g ≡ false) fs
absent_all link number fs h = none_found (is_of link number) fs h

others_free : (f : Recorded) (fs : List Recorded) → overlapped f fs ≡ None → (g : Recorded) → Contains fs g → (not (g.number == f.number) && shares f.link f.first f.last g) ≡ false
others_free f [] h g k = absurd (contains_none g k)
others_free f (x ∷ fs) h g k = elim (not (x.number == f.number) && shares f.link f.first f.last x) as (λ t. (not (x.number == f.number) && shares f.link f.first f.last x) ≡ t
    → least (map (λ (y : Recorded). y.number) (cond t (x ∷ filter (λ y. not (y.number == f.number) && shares f.link f.first f.last y) fs) (filter (λ y. not (y.number == f.number) && shares f.link f.first f.last y) fs))) ≡ None
    → (not (g.number == f.number) && shares f.link f.first f.last g) ≡ false) [
      | true ↦ λ t e. cc
      | false ↦ λ t e. elim (contains_cases x fs g k) [
        | inl is ↦ subst (λ y. (not (y.number == f.number) && shares f.link f.first f.last y) ≡ false) is t
        | inr there ↦ others_free f fs e g there
      ]
    ] refl h

free_of : (f g : Recorded) → (not (g.number == f.number) && shares f.link f.first f.last g) ≡ false → is_of f.link f.number g ≡ false → shares f.link f.first f.last g ≡ false
free_of f g not_other other = elim (shares f.link f.first f.last g) as (λ t. shares f.link f.first f.last g ≡ t → t ≡ false) [
  | true ↦ λ e. (let wrong : true ≡ false = grind (arith, nat_tests) in wrong)
  | false ↦ λ e. refl
] refl

pub free_put : (f : Recorded) (fs : List Recorded) → overlapped f fs ≡ None → AllByRecursion (λ g. is_of f.link f.number g ≡ false) fs → AllByRecursion (λ g. shares f.link f.first f.last g ≡ false) fs
free_put f fs h absent = all_by (λ g. shares f.link f.first f.last g ≡ false) fs (λ g k. free_of f g (others_free f fs h g k) (all_of (λ x. is_of f.link f.number x ≡ false) fs absent g k))

pub free_without : (f : Recorded) (fs : List Recorded) → overlapped f fs ≡ None → AllByRecursion (λ g. shares f.link f.first f.last g ≡ false) (without f.link f.number fs)
free_without f fs h = all_by (λ g. shares f.link f.first f.last g ≡ false) (without f.link f.number fs) (λ g k. free_of f g
    (others_free f fs h g (kept_from (λ x. not (is_of f.link f.number x)) fs g k).0) (all_of (λ x. is_of f.link f.number x ≡ false) (without f.link f.number fs) (absent_without f.link f.number fs) g k))

-- ---- all fragments of a link that go

pub cleared_without : (link number : ℕ) (fs : List Recorded) → cleared link (without link number fs) ≡ cleared link fs
cleared_without link number [] = refl
cleared_without link number (f ∷ fs) = elim (is_of link number f) as (λ t. is_of link number f ≡ t → cleared link (cond (not t) (f ∷ without link number fs) (without link number fs)) ≡ cond (not (f.link == link)) (f ∷ cleared link fs) (cleared link fs)) [
  | true ↦ λ e. (let same : (f.link == link) ≡ true = grind (arith, nat_tests) in cleared_without link number fs ∙ sym (ap (λ t. cond (not t) (f ∷ cleared link fs) (cleared link fs)) same))
  | false ↦ λ e. ap (λ gs. cond (not (f.link == link)) (f ∷ gs) gs) (cleared_without link number fs)
] refl

first_of : (link number : ℕ) (fs : List Recorded) → option_map (λ (f : Recorded). f.number) (slice_get (of_link link fs) 0) ≡ Some number → (f : Recorded) × Contains fs f × (is_of link number f ≡ true)
first_of link number [] h = cc
first_of link number (f ∷ fs) h = elim (f.link == link) as (λ t. (f.link == link) ≡ t → option_map (λ (g : Recorded). g.number) (slice_get (cond t (f ∷ of_link link fs) (of_link link fs)) 0) ≡ Some number → (g : Recorded) × Contains (f ∷ fs) g × (is_of link number g ≡ true)) [
  | true ↦ λ t e. (let same : f.number ≡ number = cc in (f, contains_here f fs, (let yes : is_of link number f ≡ true = grind (arith, nat_tests) in yes)))
  | false ↦ λ t e. (let known = first_of link number fs e in (known.0, contains_there f fs known.0 known.1, known.2))
] refl h

pub fewer_without : (link number : ℕ) (fs : List Recorded) → option_map (λ (f : Recorded). f.number) (slice_get (of_link link fs) 0) ≡ Some number → length (without link number fs) < length fs
fewer_without link number fs h = let known = first_of link number fs h in kept_fewer (λ f. not (is_of link number f)) fs known.0 known.1 (ap not known.2)

pub cleared_none : (link : ℕ) (fs : List Recorded) → option_map (λ (f : Recorded). f.number) (slice_get (of_link link fs) 0) ≡ None → cleared link fs ≡ fs
cleared_none link [] h = refl
cleared_none link (f ∷ fs) h = elim (f.link == link) as (λ t. option_map (λ (g : Recorded). g.number) (slice_get (cond t (f ∷ of_link link fs) (of_link link fs)) 0) ≡ None → cond (not t) (f ∷ cleared link fs) (cleared link fs) ≡ f ∷ fs) [
  | true ↦ λ e. cc
  | false ↦ λ e. ap (λ gs. f ∷ gs) (cleared_none link fs e)
] h
