-- The tally of a watch stands for all beats of its link before.
use Rattle.std.proofs.Common.{◌≡◌, ℕ, ◌+◌, ◌≤◌, ◌&&◌, ◌||◌, inl, inr, Bool, true, false, cond, min, List, [], ◌∷◌, ◌++◌, refl, sym, ap, subst, ◌∙◌, arith}
use Rattle.std.specs.Prelude.{count_by, nat_le, Some}
use Rattle.std.specs.declared.cmp.Ordering.TheVariants.{Less}
use Rattle.std.specs.List.{list_any, Contains}
use Rattle.std.specs.List.Sorted.{IsStrictlySortedBy}
use Rattle.std.proofs.lemmas.Grind.{common_steps}
use Rattle.std.proofs.lemmas.Bool.Decides.{nat_tests}
use Rattle.std.proofs.lemmas.List.Elements.{Contains-append_left, Contains-append_right, Contains-append_cases}
use Rattle.tl_beats.specs.declared.Placed.{Placed}
use Rattle.tl_beats.specs.declared.Row.{Row}
use Rattle.tl_beats.specs.declared.watch.Watch.{Watch}
use Rattle.tl_beats.specs.declared.watch.Watch.TheVariants as watch
use Rattle.tl_beats.specs.Watches.{matches}
use Rattle.tl_definitions.specs.Positions.{position_order}
use Rattle.tl_definitions.specs.Report.{key_order}
use Rattle.tl_definitions.specs.Passes.{Pass, IsChain, rows_judged, left_after, pass_beats, last_exit}
use Rattle.tl_definitions.specs.Watching.{seen, came, flags, IsWatch, flag_row, Flags, flags_after, flags_in, RowsAreFlags}
use Rattle.tl_definitions.specs.Tallies.{tally_of, flags_at, tally_with, kept_tally, AreOfOneLink, watching, TalliesAreExact, TalliesAreKept, WatchedChainsAreWhole}
use Rattle.tl_definitions.proofs.Lists.{contains_none, contains_cases, contains_here, contains_there, all_of, all_by, onto, onto_reverse}
use Rattle.tl_definitions.proofs.ChainLaws.{chain_has, chain_from, chain_ends}
use Rattle.tl_definitions.proofs.RisingLaws.{rows_of_places}
use Rattle.tl_tables.specs.declared.Rule.TheVariants as rule

-- ---- one beat more

nat_le-min : (limit count cap : ℕ) → limit ≤ cap → nat_le limit (min count cap) ≡ nat_le limit count
nat_le-min limit count cap h = grind (arith, nat_tests)

nat_le-one : (b : Bool) → nat_le 1 (cond b 1 0) ≡ b
nat_le-one true = refl
nat_le-one false = refl

counted_once : (b : Bool) (count cap : ℕ) → cond b (min (min count cap + 1) cap) (min count cap) ≡ min (cond b (count + 1) count) cap
counted_once true count cap = grind arith
counted_once false count cap = refl

one_or : (a b : Bool) → ◌≡◌ {A = ℕ} (cond a 1 (cond b 1 0)) (cond (a || b) 1 0)
one_or true b = refl
one_or false b = refl

seen_next : {X : Type 0} (test : X → Bool) (x : X) (xs : List X) → cond (test x) (count_by test xs + 1) (count_by test xs) ≡ count_by test (x ∷ xs)
seen_next test x xs = grind (arith, common_steps)

flags_law : (w : Watch) (before : List Placed) (p : Placed) → IsWatch w → flags_at w (tally_of w before) p.beat ≡ flags w before p
flags_law (watch.Budget link class limit) before p h = ap (λ t. matches class p.beat && t) (nat_le-min limit (seen class before) 4294967295 (omega arith))
flags_law (watch.After link first second) before p h = ap (λ t. matches second p.beat && t) (nat_le-one (came first before))

tally_law : (w : Watch) (before : List Placed) (p : Placed) → tally_with w (tally_of w before) p.beat ≡ tally_of w (p ∷ before)
tally_law (watch.Budget link class limit) before p =
    counted_once (matches class p.beat) (seen class before) 4294967295
    ∙ ap (λ n. min n 4294967295) (seen_next (λ (q : Placed). matches class q.beat) p before)
tally_law (watch.After link first second) before p = one_or (matches first p.beat) (came first before)

pub tallies_are_exact : TalliesAreExact
tallies_are_exact w before p h = (flags_law w before p h, tally_law w before p)

pub tallies_are_kept : TalliesAreKept
tallies_are_kept (watch.Budget link class limit) beats = refl
tallies_are_kept (watch.After link first second) beats = elim (came first beats) as (λ b. min (cond b 1 0) 1 ≡ cond b 1 0) [ true ↦ refl | false ↦ refl ]

-- A monitor that goes on from what it keeps keeps what comes of it.
pub kept_again : (w : Watch) (tally : ℕ) → kept_tally w (kept_tally w tally) ≡ kept_tally w tally
kept_again (watch.Budget link class limit) tally = refl
kept_again (watch.After link first second) tally = grind arith

pub kept_next : (monitor : ℕ) (w : Watch) (tally : ℕ) (beats : List Placed) → kept_tally w tally ≡ tally → kept_tally w (left_after (watching monitor w) tally beats) ≡ left_after (watching monitor w) tally beats
kept_next monitor w tally [] h = h
kept_next monitor (watch.Budget link class limit) tally (p ∷ beats) h = refl
kept_next monitor (watch.After link first second) tally (p ∷ beats) h =
    kept_next monitor (watch.After link first second) (cond (matches first p.beat) 1 tally) beats (elim (matches first p.beat) as (λ b. min (cond b 1 tally) 1 ≡ cond b 1 tally) [ true ↦ refl | false ↦ h ])

-- ---- all beats, one after the other

pub all_flagged : (monitor : ℕ) (w : Watch) (before beats : List Placed) → IsWatch w → rows_judged (watching monitor w) (tally_of w before) beats ≡ flags_after monitor w before beats
all_flagged monitor w before [] h = refl
all_flagged monitor w before (p ∷ beats) h =
    ap (λ b. cond b (flag_row monitor p ∷ []) [] ++ rows_judged (watching monitor w) (tally_with w (tally_of w before) p.beat) beats) (flags_law w before p h)
    ∙ ap (λ t. cond (flags w before p) (flag_row monitor p ∷ []) [] ++ rows_judged (watching monitor w) t beats) (tally_law w before p)
    ∙ ap (λ rows. cond (flags w before p) (flag_row monitor p ∷ []) [] ++ rows) (all_flagged monitor w (p ∷ before) beats h)

pub all_tallied : (monitor : ℕ) (w : Watch) (before beats : List Placed) → left_after (watching monitor w) (tally_of w before) beats ≡ tally_of w (onto before beats)
all_tallied monitor w before [] = refl
all_tallied monitor w before (p ∷ beats) = ap (λ t. left_after (watching monitor w) t beats) (tally_law w before p) ∙ all_tallied monitor w (p ∷ before) beats

-- Without beats the tally is 0.
tally_none : (w : Watch) → 0 ≡ tally_of w []
tally_none (watch.Budget link class limit) = refl
tally_none (watch.After link first second) = refl

pub watched_chains_are_whole : WatchedChainsAreWhole
watched_chains_are_whole monitor w passes h chain =
    let all : rows_judged (watching monitor w) 0 (pass_beats passes) ≡ flags_in monitor w (pass_beats passes) =
    ap (λ t. rows_judged (watching monitor w) t (pass_beats passes)) (tally_none w) ∙ all_flagged monitor w [] (pass_beats passes) h in (
      (λ row. (
        (λ has. subst (λ rows. Contains rows row) all (chain_has (watching monitor w) 0 passes chain row has)),
        (λ has. chain_from (watching monitor w) 0 passes chain row (subst (λ rows. Contains rows row) (sym all) has)),
      )),
      chain_ends (watching monitor w) 0 passes chain ∙ ap (λ t. left_after (watching monitor w) t (pass_beats passes)) (tally_none w)
          ∙ all_tallied monitor w [] (pass_beats passes) ∙ ap (tally_of w) (onto_reverse [] (pass_beats passes)),
    )

-- ---- the rows of a watch

-- A row of a beat that is flagged or not.
flag_cases : (b : Bool) (own row : Row) → Contains (cond b (own ∷ []) []) row → (b ≡ true) × (own ≡ row)
flag_cases true own row h = elim (contains_cases own [] row h) [ inl e ↦ (refl, e) | inr none ↦ absurd (contains_none row none) ]
flag_cases false own row h = absurd (contains_none row h)

flag_there : (b : Bool) (own row : Row) → b ≡ true → row ≡ own → Contains (cond b (own ∷ []) []) row
flag_there b own row t e = subst (λ c. Contains (cond c (own ∷ []) []) row) (sym t) (subst (Contains (own ∷ [])) (sym e) (contains_here own []))

abbrev FlagsAfter : ℕ → Watch → List Placed → List Placed → Row → Type 0
FlagsAfter monitor w before beats row = (earlier later : List Placed) × (p : Placed) × (beats ≡ earlier ++ p ∷ later)
    × (flags w (onto before earlier) p ≡ true) × (row ≡ flag_row monitor p)

flags_from : (monitor : ℕ) (w : Watch) (before beats : List Placed) (row : Row) → Contains (flags_after monitor w before beats) row → FlagsAfter monitor w before beats row
flags_from monitor w before [] row h = absurd (contains_none row h)
flags_from monitor w before (p ∷ beats) row h = elim (Contains-append_cases (cond (flags w before p) (flag_row monitor p ∷ []) []) (flags_after monitor w (p ∷ before) beats) row h) [
  | inl a ↦ (let found = flag_cases (flags w before p) (flag_row monitor p) row a in ([], beats, p, refl, found.0, sym found.1))
  | inr b ↦ (let known = flags_from monitor w (p ∷ before) beats row b in (p ∷ known.0, known.1, known.2, ap (λ ps. p ∷ ps) known.3, known.4, known.5))
]

flag_found : (monitor : ℕ) (w : Watch) (before earlier later : List Placed) (p : Placed) (row : Row) → flags w (onto before earlier) p ≡ true → row ≡ flag_row monitor p
    → Contains (flags_after monitor w before (earlier ++ p ∷ later)) row
flag_found monitor w before [] later p row t e =
    Contains-append_left (cond (flags w before p) (flag_row monitor p ∷ []) []) (flags_after monitor w (p ∷ before) later) row (flag_there (flags w before p) (flag_row monitor p) row t e)
flag_found monitor w before (q ∷ earlier) later p row t e =
    Contains-append_right (cond (flags w before q) (flag_row monitor q ∷ []) []) (flags_after monitor w (q ∷ before) (earlier ++ p ∷ later)) row
    (flag_found monitor w (q ∷ before) earlier later p row t e)

pub rows_are_flags : RowsAreFlags
rows_are_flags monitor w beats row = (
  (λ h. let known = flags_from monitor w [] beats row h in
      (known.0, known.1, known.2, known.3, subst (λ before. flags w before known.2 ≡ true) (onto_reverse [] known.0) known.4, known.5)),
  (λ r. subst (λ ps. Contains (flags_in monitor w ps) row) (sym r.3)
      (flag_found monitor w [] r.0 r.1 r.2 row (subst (λ before. flags w before r.2 ≡ true) (sym (onto_reverse [] r.0)) r.4) r.5)),
)

-- ---- rows of beats of one link that rise

row_of_beat : (monitor : ℕ) (w : Watch) (tally : ℕ) (beats : List Placed) (row : Row) → Contains (rows_judged (watching monitor w) tally beats) row
    → (p : Placed) × Contains beats p × (flag_row monitor p ≡ row)
row_of_beat monitor w tally [] row h = absurd (contains_none row h)
row_of_beat monitor w tally (p ∷ beats) row h = elim (Contains-append_cases (cond (flags_at w tally p.beat) (flag_row monitor p ∷ []) []) (rows_judged (watching monitor w) (tally_with w tally p.beat) beats) row h) [
  | inl a ↦ (p, contains_here p beats, (flag_cases (flags_at w tally p.beat) (flag_row monitor p) row a).1)
  | inr b ↦ (let known = row_of_beat monitor w (tally_with w tally p.beat) beats row b in (known.0, contains_there p beats known.0 known.1, known.2))
]

pub flags_rise : (monitor : ℕ) (w : Watch) (tally : ℕ) (beats : List Placed) → IsStrictlySortedBy position_order beats → AreOfOneLink beats
    → IsStrictlySortedBy key_order (rows_judged (watching monitor w) tally beats)
unfolding IsStrictlySortedBy
flags_rise monitor w tally [] up same = tt
flags_rise monitor w tally (p ∷ beats) up same =
    let rest : List Row = rows_judged (watching monitor w) (tally_with w tally p.beat) beats in
    let risen = flags_rise monitor w (tally_with w tally p.beat) beats up.1 (λ q r h k. same q r (contains_there p beats q h) (contains_there p beats r k)) in
    elim (flags_at w tally p.beat) as (λ b. IsStrictlySortedBy key_order (cond b (flag_row monitor p ∷ []) [] ++ rest)) [
      | true ↦ (
        all_by (λ y. key_order (flag_row monitor p) y ≡ Less) rest (λ y h.
            let found = row_of_beat monitor w (tally_with w tally p.beat) beats y h in
            let linked : p.link ≡ found.0.link = same p found.0 (contains_here p beats) (contains_there p beats found.0 found.1) in
            subst (λ z. key_order (flag_row monitor p) z ≡ Less) found.2
            (rows_of_places p found.0 rule.X1 rule.X1 (Some monitor) (Some monitor) linked (all_of (λ q. position_order p q ≡ Less) beats up.0 found.0 found.1))),
        risen,
      )
      | false ↦ risen
    ]
