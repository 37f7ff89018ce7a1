-- The readings of a channel's next beat, whatever stands how often among them.
use Rattle.std.proofs.Common.{◌≡◌, ℕ, zero, suc, ◌+◌, ◌-◌, ◌==◌, ◌&&◌, inl, inr, Bool, true, false, cond, List, [], ◌∷◌, ◌++◌, length, get_or, map, ◌<◌, Option, Some, None, refl, sym, ap, subst, ◌∙◌, arith}
use Rattle.std.specs.Prelude.{not, nat_le, nat_lt, filter}
use Rattle.std.specs.List.{All, Contains, find, list_any, list_all}
use Rattle.std.specs.Option.{option_map_or}
use Rattle.std.proofs.lemmas.Bool.Decides.{nat_tests}
use Rattle.std.proofs.lemmas.List.Elements.{filter_agree, Contains-get_or, Contains-push, Contains-push_cases, Contains-append_left}
use Rattle.tl_topology.specs.declared.LinkDecl.{LinkDecl}
use Rattle.tl_beats.specs.Beats.{IsWellFormed}
use Rattle.tl_beats.specs.declared.Beat.{Beat}
use Rattle.tl_definitions.specs.Heads.{message_of, beat_count}
use Rattle.tl_definitions.specs.Breaks.{breaks_later, later_order, later_rules}
use Rattle.tl_definitions.specs.Readings.{Reading, due, rest, is_due, missing_of, lacking, reading_after, first_readings, in_lead_in, is_refuted, or_all, told}
use Rattle.tl_definitions.proofs.Bursts.{some_passes, passing}
use Rattle.tl_definitions.proofs.Lists.{contains_none, contains_here, contains_there, contains_cases, contains_mapped, mapped_from, contains_kept, kept_from}
use Rattle.tl_midway.specs.Members.{SameMembers}
use Rattle.tl_midway.specs.Reading.{shown_reading, refuted_by, is_kept, kept_of, breaks_as, IsFormed, AreFormed}
use Rattle.tl_midway.specs.Readings.{shown_readings, Has}
use Rattle.tl_midway.specs.Seen.{Tells}
use Rattle.tl_midway.specs.declared.reading.Reading.{Reading as Kept}
use Rattle.tl_midway.specs.declared.reading.Reading.TheVariants as coded
use Rattle.tl_midway.specs.declared.readings.Readings.{Readings}
use Rattle.tl_midway.proofs.MemberLaws.{iff_same, same_list, same_both, map_same, kept_same, each_fails, found_kept}

-- ---- the lead-in

lead_to : (xs ys : List Reading) → ((x : Reading) → Contains xs x → Contains ys x) → in_lead_in xs ≡ true → in_lead_in ys ≡ true
lead_to xs ys f h =
    let first = passing (λ one. list_any (λ other. not (missing_of one == missing_of other)) xs) xs h in
    let second = passing (λ other. not (missing_of first.0 == missing_of other)) xs first.2 in
    some_passes (λ one. list_any (λ other. not (missing_of one == missing_of other)) ys) ys first.0 (f first.0 first.1)
    (some_passes (λ other. not (missing_of first.0 == missing_of other)) ys second.0 (f second.0 second.1) second.2)

pub lead_same : (xs ys : List Reading) → SameMembers xs ys → in_lead_in xs ≡ in_lead_in ys
lead_same xs ys same = iff_same (in_lead_in xs) (in_lead_in ys) (lead_to xs ys same.there) (lead_to ys xs same.back)

equal_by : (a b : ℕ) → not (a == b) ≡ false → a ≡ b
equal_by a b h = elim (a == b) as (λ t. (a == b) ≡ t → not t ≡ false → a ≡ b) [
  | true ↦ λ e g. grind (arith, nat_tests)
  | false ↦ λ e g. cc
] refl h

never_differs : (a b c : ℕ) → a ≡ c → b ≡ c → not (a == b) ≡ true → ⊥
never_differs a b c e f h = let same : (a == b) ≡ true = grind (arith, nat_tests) in let never : false ≡ true = sym (ap not same) ∙ h in cc

-- It lacks another number of beats than this one.
abbrev differs : Reading → Reading → Bool
differs x y = not (missing_of y == missing_of x)

-- Readings lack different numbers of beats where one of them lacks another number than the first.
pub lead_by_one : (x : Reading) (xs : List Reading) → in_lead_in (x ∷ xs) ≡ list_any (λ y. not (missing_of y == missing_of x)) xs
lead_by_one x xs = iff_same (in_lead_in (x ∷ xs)) (list_any (differs x) xs) to from
  where
    as_first : list_any (differs x) xs ≡ false → (a : Reading) → Contains (x ∷ xs) a → missing_of a ≡ missing_of x
    as_first none a c = elim (contains_cases x xs a c) [
      | inl e ↦ ap missing_of (sym e)
      | inr r ↦ equal_by (missing_of a) (missing_of x) (each_fails (differs x) xs a none r)
    ]

    to : in_lead_in (x ∷ xs) ≡ true → list_any (differs x) xs ≡ true
    to h =
        let first = passing (λ one. list_any (λ other. not (missing_of one == missing_of other)) (x ∷ xs)) (x ∷ xs) h in
        let second = passing (λ other. not (missing_of first.0 == missing_of other)) (x ∷ xs) first.2 in
        elim (list_any (differs x) xs) as (λ t. list_any (differs x) xs ≡ t → t ≡ true) [
          | true ↦ λ e. refl
          | false ↦ λ e. absurd (never_differs (missing_of first.0) (missing_of second.0) (missing_of x) (as_first e first.0 first.1) (as_first e second.0 second.1) second.2)
        ] refl

    from : list_any (differs x) xs ≡ true → in_lead_in (x ∷ xs) ≡ true
    from h =
        let found = passing (differs x) xs h in
        some_passes (λ one. list_any (λ other. not (missing_of one == missing_of other)) (x ∷ xs)) (x ∷ xs) found.0 (contains_there x xs found.0 found.1)
        (some_passes (λ other. not (missing_of found.0 == missing_of other)) (x ∷ xs) x (contains_here x xs) found.2)

-- ---- what the fields of a beat drop

or_same : (k l xs ys : List Reading) → SameMembers k l → SameMembers xs ys → SameMembers (or_all k xs) (or_all l ys)
or_same [] [] xs ys kept all = all
or_same [] (y ∷ l) xs ys kept all = absurd (contains_none y (kept.back y (contains_here y l)))
or_same (x ∷ k) [] xs ys kept all = absurd (contains_none x (kept.there x (contains_here x k)))
or_same (x ∷ k) (y ∷ l) xs ys kept all = kept

pub told_same : (by_fields : Bool) (link : LinkDecl) (beat : Beat) (before : List Beat) (xs ys : List Reading) → SameMembers xs ys
    → SameMembers (told by_fields link beat before xs) (told by_fields link beat before ys)
told_same by_fields link beat before xs ys same =
    let keep : Reading → Bool = λ reading. not (is_refuted link beat before reading) in
    subst (λ t. SameMembers (cond (by_fields && t) (or_all (filter keep xs) xs) xs) (told by_fields link beat before ys)) (sym (lead_same xs ys same))
    (elim (by_fields && in_lead_in ys) as (λ t. SameMembers (cond t (or_all (filter keep xs) xs) xs) (cond t (or_all (filter keep ys) ys) ys)) [
      | true ↦ or_same (filter keep xs) (filter keep ys) xs ys (kept_same keep xs ys same) same
      | false ↦ same
    ])

refuted_law : (link : LinkDecl) (beat : Beat) (before : List Beat) (room : ℕ) → ((missing : ℕ) → is_refuted link beat before (rest missing None) ≡ nat_le room missing)
    → (reading : Reading) → is_refuted link beat before reading ≡ refuted_by beat room reading
refuted_law link beat before room law due = refl
refuted_law link beat before room law (rest missing None) = law missing
refuted_law link beat before room law (rest missing (Some head)) = refl

-- What stays of the readings of a beat of the lead-in.
pub told_in_lead : (by_fields : Bool) (link : LinkDecl) (beat : Beat) (before : List Beat) (room : ℕ) (readings chosen : List Reading)
    → ((missing : ℕ) → is_refuted link beat before (rest missing None) ≡ nat_le room missing) → by_fields ≡ true → in_lead_in readings ≡ true
    → SameMembers chosen (kept_of beat room readings) → SameMembers chosen (told by_fields link beat before readings)
told_in_lead by_fields link beat before room readings chosen law by lead same =
    let keep : Reading → Bool = λ reading. not (is_refuted link beat before reading) in
    let agree : filter (is_kept beat room) readings ≡ filter keep readings =
    filter_agree (is_kept beat room) keep (λ reading. ap not (sym (refuted_law link beat before room law reading))) readings in
    let both : (by_fields && in_lead_in readings) ≡ true = λ i. by i && lead i in
    subst (λ t. SameMembers chosen (cond t (or_all (filter keep readings) readings) readings)) (sym both)
    (subst (λ ks. SameMembers chosen (or_all ks readings)) agree same)

pub told_past_lead : (by_fields : Bool) (link : LinkDecl) (beat : Beat) (before : List Beat) (readings : List Reading) → (by_fields && in_lead_in readings) ≡ false
    → SameMembers readings (told by_fields link beat before readings)
told_past_lead by_fields link beat before readings none =
    let keep : Reading → Bool = λ reading. not (is_refuted link beat before reading) in
    subst (λ t. SameMembers readings (cond t (or_all (filter keep readings) readings) readings)) (sym none) (same_list readings)

more_than_none : (x : Reading) (kept all : List Reading) → Contains kept x → SameMembers (x ∷ kept) (or_all kept all)
more_than_none x [] all c = absurd (contains_none x c)
more_than_none x (y ∷ kept) all c = record {
  there = λ z d. elim (contains_cases x (y ∷ kept) z d) [ inl e ↦ subst (Contains (y ∷ kept)) e c | inr r ↦ r ];
  back = λ z d. contains_there x (y ∷ kept) z d;
}

-- The first reading that is kept, with those of the others that are.
pub kept_some : (test : Reading → Bool) (x k : Reading) (xs : List Reading) → find test (x ∷ xs) ≡ Some k → SameMembers (k ∷ filter test xs) (or_all (filter test (x ∷ xs)) (x ∷ xs))
kept_some test x k xs h =
    elim (test x) as (λ t. cond t (Some x) (find test xs) ≡ Some k → SameMembers (k ∷ filter test xs) (or_all (cond t (x ∷ filter test xs) (filter test xs)) (x ∷ xs))) [
      | true ↦ λ g. (let same : x ≡ k = cc in subst (λ y. SameMembers (y ∷ filter test xs) (x ∷ filter test xs)) same (same_list (x ∷ filter test xs)))
      | false ↦ λ g. more_than_none k (filter test xs) (x ∷ xs) (found_kept test xs k g)
    ] h

none_found : (test : Reading → Bool) (xs : List Reading) → find test xs ≡ None → filter test xs ≡ []
none_found test [] h = refl
none_found test (x ∷ xs) h = elim (test x) as (λ t. cond t (Some x) (find test xs) ≡ None → cond t (x ∷ filter test xs) (filter test xs) ≡ []) [
  | true ↦ λ g. cc
  | false ↦ λ g. none_found test xs g
] h

pub kept_none : (test : Reading → Bool) (xs : List Reading) → find test xs ≡ None → SameMembers xs (or_all (filter test xs) xs)
kept_none test xs h = subst (λ ks. SameMembers xs (or_all ks xs)) (sym (none_found test xs h)) (same_list xs)

-- ---- one beat more

pub due_is : (x : Reading) → is_due x ≡ true → x ≡ due
due_is due h = refl
due_is (rest missing head) h = cc

abbrev is_later : Reading → Bool
is_later y = not (is_due y)

-- Readings by which the next beat begins a message are one.
pub one_due : (x : Reading) (xs : List Reading) → is_due x ≡ true → SameMembers (x ∷ filter (λ y. not (is_due y)) xs) (x ∷ xs)
one_due x xs first = record { there = to; back = from }
  where
    to : (z : Reading) → Contains (x ∷ filter is_later xs) z → Contains (x ∷ xs) z
    to z c = elim (contains_cases x (filter is_later xs) z c) [
      | inl e ↦ subst (Contains (x ∷ xs)) e (contains_here x xs)
      | inr r ↦ contains_there x xs z (kept_from is_later xs z r).0
    ]

    again : (z : Reading) → Contains xs z → Contains (x ∷ filter is_later xs) z
    again z c = elim (is_due z) as (λ t. is_due z ≡ t → Contains (x ∷ filter is_later xs) z) [
      | true ↦ λ e. subst (Contains (x ∷ filter is_later xs)) (due_is x first ∙ sym (due_is z e)) (contains_here x (filter is_later xs))
      | false ↦ λ e. contains_there x (filter is_later xs) z (contains_kept is_later xs z c (ap not e))
    ] refl

    from : (z : Reading) → Contains (x ∷ xs) z → Contains (x ∷ filter is_later xs) z
    from z c = elim (contains_cases x xs z c) [
      | inl e ↦ subst (Contains (x ∷ filter is_later xs)) e (contains_here x (filter is_later xs))
      | inr r ↦ again z r
    ]

-- ---- the readings of the first beat

one_more : (xs firsts : List Reading) (x : Reading) → SameMembers (due ∷ xs) firsts → SameMembers (due ∷ (xs ++ x ∷ [])) (x ∷ firsts)
one_more xs firsts x same = record { there = to; back = from }
  where
    to : (z : Reading) → Contains (due ∷ (xs ++ x ∷ [])) z → Contains (x ∷ firsts) z
    to z c = elim (contains_cases due (xs ++ x ∷ []) z c) [
      | inl e ↦ contains_there x firsts z (same.there z (subst (Contains (due ∷ xs)) e (contains_here due xs)))
      | inr r ↦ elim (Contains-push_cases xs x z r) [
        | inl before ↦ contains_there x firsts z (same.there z (contains_there due xs z before))
        | inr last ↦ subst (Contains (x ∷ firsts)) last (contains_here x firsts)
      ]
    ]

    from : (z : Reading) → Contains (x ∷ firsts) z → Contains (due ∷ (xs ++ x ∷ [])) z
    from z c = elim (contains_cases x firsts z c) [
      | inl e ↦ contains_there due (xs ++ x ∷ []) z (subst (Contains (xs ++ x ∷ [])) e (Contains-push xs x))
      | inr r ↦ elim (contains_cases due xs z (same.back z r)) [
        | inl e ↦ subst (Contains (due ∷ (xs ++ x ∷ []))) e (contains_here due (xs ++ x ∷ []))
        | inr before ↦ contains_there due (xs ++ x ∷ []) z (Contains-append_left xs (x ∷ []) z before)
      ]
    ]

pub one_more_first : (xs : List Reading) (fewer : ℕ) → SameMembers (due ∷ xs) (first_readings fewer)
    → SameMembers (due ∷ (xs ++ rest (fewer + 1) None ∷ [])) (first_readings (fewer + 1))
one_more_first xs fewer same =
    let next : suc fewer ≡ fewer + 1 = omega arith in
    subst (λ k. SameMembers (due ∷ (xs ++ rest k None ∷ [])) (first_readings k)) next (one_more xs (first_readings fewer) (rest (suc fewer) None) same)

-- ---- their heads are well-formed

first_formed : (most : ℕ) → AreFormed (first_readings most)
first_formed zero z c = elim (contains_cases due [] z c) [ inl e ↦ subst IsFormed e tt | inr r ↦ absurd (contains_none z r) ]
first_formed (suc most) z c = elim (contains_cases (rest (suc most) None) (first_readings most) z c) [ inl e ↦ subst IsFormed e tt | inr r ↦ first_formed most z r ]

lacking_formed : (missing : ℕ) (head : Option Beat) → IsFormed (rest missing head) → IsFormed (lacking missing head)
lacking_formed missing head formed = elim (nat_lt 0 missing) as (λ t. IsFormed (cond t (rest missing head) due)) [ true ↦ formed | false ↦ tt ]

after_formed : (link : LinkDecl) (beat : Beat) (reading : Reading) → IsWellFormed beat → IsFormed reading → IsFormed (reading_after link beat reading)
after_formed link beat due well formed = lacking_formed (beat_count link beat - 1) (Some beat) well
after_formed link beat (rest missing None) well formed = lacking_formed (missing - 1) None tt
after_formed link beat (rest missing (Some head)) well formed = lacking_formed (missing - 1) (Some head) formed

all_after_formed : (link : LinkDecl) (beat : Beat) (readings : List Reading) → IsWellFormed beat → AreFormed readings → AreFormed (map (reading_after link beat) readings)
all_after_formed link beat readings well formed z c =
    let found = mapped_from (reading_after link beat) readings z c in
    subst IsFormed found.2 (after_formed link beat found.0 well (formed found.0 found.1))

from_all : (kept all : List Reading) (z : Reading) → ((y : Reading) → Contains kept y → Contains all y) → Contains (or_all kept all) z → Contains all z
from_all [] all z f c = c
from_all (y ∷ kept) all z f c = f z c

pub told_from : (by_fields : Bool) (link : LinkDecl) (beat : Beat) (before : List Beat) (readings : List Reading) (z : Reading)
    → Contains (told by_fields link beat before readings) z → Contains readings z
told_from by_fields link beat before readings z c =
    let keep : Reading → Bool = λ reading. not (is_refuted link beat before reading) in
    elim (by_fields && in_lead_in readings) as (λ t. Contains (cond t (or_all (filter keep readings) readings) readings) z → Contains readings z) [
      | true ↦ λ d. from_all (filter keep readings) readings z (λ y k. (kept_from keep readings y k).0) d
      | false ↦ λ d. d
    ] c

pub same_formed : (xs ys : List Reading) → SameMembers xs ys → AreFormed ys → AreFormed xs
same_formed xs ys same formed z c = formed z (same.there z c)

-- ---- what a state stands for

pub has_first : (state : Readings) (most : ℕ) → SameMembers (shown_readings state) (first_readings most) → Tells state.seen [] → Has state (first_readings most) []
has_first state most members seen = record { members = members; seen = seen; formed = first_formed most }

pub has_met : (by_fields : Bool) (link : LinkDecl) (beat : Beat) (before : List Beat) (readings : List Reading) (old new : Readings) → Has old readings before
    → SameMembers (shown_readings new) (told by_fields link beat before (shown_readings old)) → new.seen ≡ old.seen
    → Has new (told by_fields link beat before readings) before
has_met by_fields link beat before readings old new has members seen = record {
  members = same_both (shown_readings new) (told by_fields link beat before (shown_readings old)) (told by_fields link beat before readings) members
      (told_same by_fields link beat before (shown_readings old) readings has.members);
  seen = subst (λ s. Tells s before) (sym seen) has.seen;
  formed = λ z c. has.formed z (told_from by_fields link beat before readings z c);
}

pub has_passed : (link : LinkDecl) (beat : Beat) (before : List Beat) (readings : List Reading) (old new : Readings) → IsWellFormed beat → Has old readings before
    → SameMembers (shown_readings new) (map (reading_after link beat) (shown_readings old)) → Tells new.seen (beat ∷ before)
    → Has new (map (reading_after link beat) readings) (beat ∷ before)
has_passed link beat before readings old new well has members seen = record {
  members = same_both (shown_readings new) (map (reading_after link beat) (shown_readings old)) (map (reading_after link beat) readings) members
      (map_same (reading_after link beat) (shown_readings old) readings has.members);
  seen = seen;
  formed = all_after_formed link beat readings well has.formed;
}

-- ---- readings of the code

-- Readings that are each the one of the next beat.
pub all_passed : (link : LinkDecl) (beat : Beat) (xs ys : List Kept) → length ys ≡ length xs
    → ((k : ℕ) (d : Kept) → k < length xs → shown_reading (get_or ys k d) ≡ reading_after link beat (shown_reading (get_or xs k d)))
    → map shown_reading ys ≡ map (reading_after link beat) (map shown_reading xs)
all_passed link beat [] [] many each = refl
all_passed link beat [] (y ∷ ys) many each = absurd (omega arith)
all_passed link beat (x ∷ xs) [] many each = absurd (omega arith)
all_passed link beat (x ∷ xs) (y ∷ ys) many each =
    let here : shown_reading y ≡ reading_after link beat (shown_reading x) = each zero y (omega arith) in
    let rest : map shown_reading ys ≡ map (reading_after link beat) (map shown_reading xs) = all_passed link beat xs ys (omega arith) (λ k d h. each (suc k) d (omega arith)) in
    λ i. here i ∷ rest i

-- ---- one reading, by which the beat belongs to a message of the capture

and_nothing : (b : Bool) → (b && true) ≡ b
and_nothing true = refl
and_nothing false = refl

pub sole_rules : (link : LinkDecl) (beat head : Beat) (missing : ℕ) (readings : List Reading) → readings ≡ rest missing (Some head) ∷ []
    → later_rules link beat head ≡ filter (λ r. list_all (breaks_as link beat r) readings) later_order
sole_rules link beat head missing readings is =
    elim (message_of link head) as (λ found. option_map_or (λ o. filter (breaks_later link o head beat) later_order) found []
    ≡ filter (λ r. option_map_or (λ o. breaks_later link o head beat r) found false && true) later_order) [
      | None ↦ refl
      | Some o ↦ filter_agree (breaks_later link o head beat) (λ r. breaks_later link o head beat r && true) (λ r. sym (and_nothing (breaks_later link o head beat r))) later_order
    ]
    ∙ ap (λ rs. filter (λ r. list_all (breaks_as link beat r) rs) later_order) (sym is)

pub sole_formed : (head : Beat) (missing : ℕ) (readings : List Reading) → readings ≡ rest missing (Some head) ∷ [] → AreFormed readings → IsWellFormed head
sole_formed head missing readings is formed =
    formed (rest missing (Some head)) (subst (λ rs. Contains rs (rest missing (Some head))) (sym is) (contains_here (rest missing (Some head)) []))

-- ---- heads of the readings of the code

pub head_formed : (reading : Kept) (missing : ℕ) (head : Beat) → reading ≡ coded.Rest missing (Some head) → IsFormed (shown_reading reading) → IsWellFormed head
head_formed reading missing head is formed = subst (λ r. IsFormed (shown_reading r)) is formed

pub one_formed : (state : Readings) → AreFormed (shown_readings state) → IsFormed (shown_reading state.one)
one_formed state formed = formed (shown_reading state.one) (contains_here (shown_reading state.one) (map shown_reading state.others.items))

pub others_formed : (state : Readings) → AreFormed (shown_readings state) → All (λ reading. IsFormed (shown_reading reading)) state.others.items
others_formed state formed k d below =
    formed (shown_reading (get_or state.others.items k d))
    (contains_there (shown_reading state.one) (map shown_reading state.others.items) (shown_reading (get_or state.others.items k d))
    (contains_mapped shown_reading state.others.items (get_or state.others.items k d) (Contains-get_or state.others.items k d below)))
