-- The two maps after an edit.
use Rattle.std.proofs.Common.{◌≡◌, ℕ, true, false, cond, not, ◌&&◌, List, Option, Some, None, refl, sym, ap, subst, ◌∙◌, arith}
use Rattle.std.specs.Prelude.{◌==◌}
use Rattle.std.specs.Option.{option_map}
use Rattle.std.specs.BTreeMap.{is_at}
use Rattle.std.specs.Map.{lookup}
use Rattle.std.specs.List.{AllByRecursion, find}
use Rattle.std.proofs.lemmas.Bool.Decides.{nat_tests}
use Rattle.tl_beats.specs.Fragments.{Frag}
use Rattle.tl_definitions.specs.Positions.{Recorded}
use Rattle.tl_definitions.proofs.Lists.{all_of}
use Rattle.tl_capture.specs.Present.{recorded, is_of, IsCapture, IsPresent, numbered, put_in, without, shares, overlapped}
use Rattle.tl_capture.specs.Ranges.{Key, key_cmp, ends_at, without_end, AreEnds}
use Rattle.tl_capture.proofs.EntryLemmas.{all_kept}
use Rattle.tl_capture.proofs.NumberLemmas.{without_by_end, found_by_end, ends_put, ends_without, ends_replaced, absent_without, absent_all, present_put, present_kept, free_put, free_without, key_test}

-- A map that has at one key a value or none, and else what it had.
abbrev pub IsSet : Key → Option ℕ → List (Key × ℕ) → List (Key × ℕ) → Type 0
IsSet k o es new = (q : Key) → lookup (is_at (key_cmp q)) new ≡ cond (is_at (key_cmp k) q) o (lookup (is_at (key_cmp q)) es)

pub set_as : (link n m l k : ℕ) (es new : List (Key × ℕ)) → n ≡ m → l ≡ k → IsSet (link, n) (Some l) es new → IsSet (link, m) (Some k) es new
set_as link n m l k es new one two set = subst (λ x. IsSet (link, x) (Some k) es new) one (subst (λ x. IsSet (link, n) (Some x) es new) two set)

some_last : (o : Option Recorded) (last : ℕ) → option_map (λ (f : Recorded). f.last) o ≡ Some last → (f : Recorded) × (o ≡ Some f) × (f.last ≡ last)
some_last None last h = cc
some_last (Some f) last h = (f, refl, (let e : Some f.last ≡ Some last = h in cc))

none_last : (o : Option Recorded) → option_map (λ (f : Recorded). f.last) o ≡ None → o ≡ None
none_last None h = refl
none_last (Some f) h = cc

-- ---- one that goes

pub gone_none : (link number : ℕ) (es : List (Key × ℕ)) (fs : List Recorded) → AreEnds es fs → lookup (is_at (key_cmp (link, number))) es ≡ None → numbered link number fs ≡ None
gone_none link number es fs are h = none_last (numbered link number fs) (sym (are link number) ∙ h)

pub without_none : (link number : ℕ) (fs : List Recorded) → numbered link number fs ≡ None → without link number fs ≡ fs
without_none link number fs h = all_kept (λ f. not (is_of link number f)) fs (λ f k. ap not (all_of (λ x. is_of link number x ≡ false) fs (absent_all link number fs h) f k))

pub record Gone (link number last : ℕ) (fs after : List Recorded) (new : List (Key × ℕ)) : Type 0 where
  pub rest : after ≡ without link number fs
  pub present : IsPresent after
  pub ends : AreEnds new after
  pub found : find (ends_at link last) fs ≡ numbered link number fs

pub gone : (link number last : ℕ) (es new : List (Key × ℕ)) (fs after : List Recorded) → IsPresent fs → AreEnds es fs → lookup (is_at (key_cmp (link, number))) es ≡ Some last
    → after ≡ without_end link last fs → IsSet (link, number) None es new → Gone link number last fs after new
gone link number last es new fs after is are at rest set =
    let known = some_last (numbered link number fs) last (sym (are link number) ∙ at) in
    let same = without_by_end fs link number known.0 is known.1 in
    let left : after ≡ without link number fs = rest ∙ ap (λ n. without_end link n fs) (sym known.2) ∙ sym same in
    record {
      rest = left;
      present = subst IsPresent (sym left) (present_kept (λ f. not (is_of link number f)) fs is);
      ends = subst (AreEnds new) (sym left) (ends_without link number fs es new are set);
      found = ap (λ n. find (ends_at link n) fs) (sym known.2) ∙ found_by_end fs link number known.0 is known.1 ∙ sym known.1;
    }

pub found_end : (link number last : ℕ) (es : List (Key × ℕ)) (fs : List Recorded) → IsPresent fs → AreEnds es fs → lookup (is_at (key_cmp (link, number))) es ≡ Some last → find (ends_at link last) fs ≡ numbered link number fs
found_end link number last es fs is are at =
    let known = some_last (numbered link number fs) last (sym (are link number) ∙ at) in
    ap (λ n. find (ends_at link n) fs) (sym known.2) ∙ found_by_end fs link number known.0 is known.1 ∙ sym known.1

-- ---- one that comes

pub come_free : (link : ℕ) (f : Frag) (fs : List Recorded) → numbered link f.number fs ≡ None → overlapped (recorded link f) fs ≡ None → AllByRecursion (λ g. shares link f.first f.last g ≡ false) fs
come_free link f fs absent free = free_put (recorded link f) fs free (absent_all link f.number fs absent)

pub come : (link : ℕ) (f : Frag) (es new : List (Key × ℕ)) (fs after : List Recorded) → IsCapture (recorded link f) → IsPresent fs → AreEnds es fs → numbered link f.number fs ≡ None → overlapped (recorded link f) fs ≡ None
    → after ≡ put_in (recorded link f) fs → IsSet (link, f.number) (Some f.last) es new → IsPresent after × AreEnds new after
come link f es new fs after own is are absent free put set =
    let none = absent_all link f.number fs absent in (
      subst IsPresent (sym put) (present_put (recorded link f) fs own is none (come_free link f fs absent free)),
      subst (AreEnds new) (sym put) (ends_put (recorded link f) fs es new are none set),
    )

-- What comes and goes again leaves what was there.
pub undone : (link number last : ℕ) (es mid new : List (Key × ℕ)) (fs : List Recorded) → AreEnds es fs → numbered link number fs ≡ None → IsSet (link, number) (Some last) es mid → IsSet (link, number) None mid new → AreEnds new fs
undone link number last es mid new fs are absent first second of n =
    second (of, n) ∙ ap (cond (is_at (key_cmp (link, number)) (of, n)) None) (first (of, n))
    ∙ elim (is_at (key_cmp (link, number)) (of, n)) as (λ t. is_at (key_cmp (link, number)) (of, n) ≡ t → cond t None (cond t (Some last) (lookup (is_at (key_cmp (of, n))) es)) ≡ option_map (λ (f : Recorded). f.last) (numbered of n fs)) [
      | true ↦ λ e. sym (ap (option_map (λ (f : Recorded). f.last)) (elsewhere e))
      | false ↦ λ e. are of n
    ] refl
  where
    first_same : (a b x y : ℕ) → (a == x && b == y) ≡ true → a ≡ x
    first_same a b x y h = grind (arith, nat_tests)

    second_same : (a b x y : ℕ) → (a == x && b == y) ≡ true → b ≡ y
    second_same a b x y h = grind (arith, nat_tests)

    elsewhere : is_at (key_cmp (link, number)) (of, n) ≡ true → numbered of n fs ≡ None
    elsewhere e =
        let test = sym (key_test link number of n) ∙ e in
        ap (λ x. numbered x n fs) (sym (first_same link number of n test)) ∙ ap (λ x. numbered link x fs) (sym (second_same link number of n test)) ∙ absent

-- ---- one that replaces another

pub other_free : (link last : ℕ) (f : Frag) (es : List (Key × ℕ)) (fs : List Recorded) → IsPresent fs → AreEnds es fs → lookup (is_at (key_cmp (link, f.number))) es ≡ Some last → overlapped (recorded link f) fs ≡ None
    → AllByRecursion (λ g. shares link f.first f.last g ≡ false) (without_end link last fs)
other_free link last f es fs is are at free =
    let known = some_last (numbered link f.number fs) last (sym (are link f.number) ∙ at) in
    subst (AllByRecursion (λ g. shares link f.first f.last g ≡ false)) (without_by_end fs link f.number known.0 is known.1 ∙ ap (λ n. without_end link n fs) known.2) (free_without (recorded link f) fs free)

pub changed : (link last : ℕ) (f : Frag) (es new : List (Key × ℕ)) (fs after : List Recorded) → IsCapture (recorded link f) → IsPresent fs → AreEnds es fs → lookup (is_at (key_cmp (link, f.number))) es ≡ Some last
    → overlapped (recorded link f) fs ≡ None → after ≡ put_in (recorded link f) (without_end link last fs) → IsSet (link, f.number) (Some f.last) es new
    → (after ≡ put_in (recorded link f) (without link f.number fs)) × IsPresent after × AreEnds new after
changed link last f es new fs after own is are at free put set =
    let known = some_last (numbered link f.number fs) last (sym (are link f.number) ∙ at) in
    let left : after ≡ put_in (recorded link f) (without link f.number fs) = put ∙ ap (put_in (recorded link f)) (ap (λ n. without_end link n fs) (sym known.2) ∙ sym (without_by_end fs link f.number known.0 is known.1)) in (
      left,
      subst IsPresent (sym left) (present_put (recorded link f) (without link f.number fs) own (present_kept (λ g. not (is_of link f.number g)) fs is) (absent_without link f.number fs) (free_without (recorded link f) fs free)),
      subst (AreEnds new) (sym left) (ends_replaced (recorded link f) fs es new are set),
    )
