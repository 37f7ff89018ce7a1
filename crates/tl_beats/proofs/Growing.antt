-- One beat more after those of a fragment.
use Rattle.std.proofs.Common.{◌≡◌, ℕ, zero, suc, ◌+◌, ◌-◌, ◌<◌, ◌≤◌, Bool, true, false, cond, leb, ltb, List, [], ◌∷◌, ◌++◌, length, get_or, take, add-one, sym, Option, Some, None, Result, Ok, Err, refl, subst, arith, inl, inr, length-append}
use Rattle.std.specs.Prelude.{◌||◌, slice_get}
use Rattle.std.specs.List.{All, AllAdjacentBelow}
use Rattle.std.proofs.lemmas.Bool.{leb-false, ltb-false, or_parts, cases_lt}
use Rattle.std.proofs.lemmas.List.Elements.{All-append}
use Rattle.std.proofs.lemmas.Option.{slice_get-get_or}
use Rattle.std.proofs.Math.ListN.{get_or-append}
use Rattle.std.proofs.Math.Seq.{get_or-append_seam, take-suc}
use Rattle.tl_text.specs.Readings.{◌>>>◌, or_fault}
use Rattle.tl_beats.specs.declared.Beat.{Beat}
use Rattle.tl_beats.specs.declared.fault.FragmentFault.{FragmentFault}
use Rattle.tl_beats.specs.declared.fault.FragmentFault.TheVariants as fault
use Rattle.tl_beats.specs.Beats.{IsWellFormed, rises}
use Rattle.tl_beats.specs.Fragments.{AreBeats}
use Rattle.tl_beats.specs.Reading.{beat_at, rises_behind, placed_at, next_at}

-- what a beat has that is read after others
pub record IsNext (first last : ℕ) (before : List Beat) (beat : Beat) : Type 0 where
  pub room : length before < 65536
  pub low : first ≤ beat.cycle
  pub high : beat.cycle ≤ last
  pub rises_here : rises_behind (slice_get before (length before - 1)) beat ≡ true

pub passed : (t u v : Bool) (b beat : Beat) (x y z : FragmentFault) → ◌≡◌ {A = Result Beat FragmentFault} (cond t (Err x) (cond u (Err y) (cond v (Ok b) (Err z)))) (Ok beat) → (t ≡ false) × (u ≡ false) × (v ≡ true) × (b ≡ beat)
passed true u v b beat x y z e = absurd cc
passed false true v b beat x y z e = absurd cc
passed false false true b beat x y z e = (refl, refl, refl, cc)
passed false false false b beat x y z e = absurd cc

tested : (first last : ℕ) (before : List Beat) (b beat : Beat) (x y z : FragmentFault)
    → ◌≡◌ {A = Result Beat FragmentFault} (cond (leb 65536 (length before)) (Err x) (cond (ltb b.cycle first || ltb last b.cycle) (Err y) (cond (rises_behind (slice_get before (length before - 1)) b) (Ok b) (Err z)))) (Ok beat) → IsNext first last before beat
tested first last before b beat x y z e =
    let p = passed _ _ _ b beat x y z e in
    let range = or_parts (ltb b.cycle first) (ltb last b.cycle) p.1 in
    subst (IsNext first last before) p.3 (record {
      room = leb-false 65536 (length before) p.0;
      low = ltb-false b.cycle first range.0;
      high = ltb-false last b.cycle range.1;
      rises_here = p.2;
    })

-- a beat that is placed is the next
pub placed_is : (first last n : ℕ) (before : List Beat) (b beat : Beat) → placed_at first last n before b ≡ Ok beat → IsNext first last before beat
placed_is first last n before b beat e = tested first last before b beat _ _ _ e

by_beat : (first last n : ℕ) (before : List Beat) (found : Option Beat) (beat : Beat)
    → (or_fault found (fault.BadField n) >>> λ b. placed_at first last n before b) ≡ Ok beat → IsNext first last before beat
by_beat first last n before None beat e = absurd cc
by_beat first last n before (Some b) beat e = placed_is first last n before b beat e

pub next_is : (first last n : ℕ) (before : List Beat) (line : List ℕ) (beat : Beat) → next_at first last n before line ≡ Ok beat → IsNext first last before beat
unfolding next_at
next_is first last n before line beat e = by_beat first last n before (beat_at line) beat e

all_one : (P : Beat → Type 0) (beat : Beat) → P beat → All P (beat ∷ [])
all_one P beat p zero d lt = p
all_one P beat p (suc k) d lt = absurd (omega arith)

last_rises : (before : List Beat) (beat d : Beat) (k : ℕ) → k + 1 ≡ length before → rises_behind (slice_get before (length before - 1)) beat ≡ true → rises (get_or before k d) beat ≡ true
last_rises before beat d k is h =
    let at : length before - 1 ≡ k = omega (arith, is) in
    let one : slice_get before k ≡ Some (get_or before k d) = slice_get-get_or before k d (omega (arith, is)) in
    subst (λ (o : Option Beat). rises_behind o beat ≡ true) one (subst (λ (n : ℕ). rises_behind (slice_get before n) beat ≡ true) at h)

rising_more : (before : List Beat) (beat : Beat) → AllAdjacentBelow (λ a b. rises a b ≡ true) before (length before) → rises_behind (slice_get before (length before - 1)) beat ≡ true
    → AllAdjacentBelow (λ a b. rises a b ≡ true) (before ++ beat ∷ []) (length (before ++ beat ∷ []))
rising_more before beat rising h k d lt =
    let len : length (before ++ beat ∷ []) ≡ length before + 1 = length-append before (beat ∷ []) in
    let left : get_or (before ++ beat ∷ []) k d ≡ get_or before k d = get_or-append before (beat ∷ []) d k (omega (arith, len, lt)) in
    elim (cases_lt (k + 1) (length before)) [
      | inl below ↦ rw (left, get_or-append before (beat ∷ []) d (k + 1) below) (rising k d below)
      | inr above ↦
          let is : k + 1 ≡ length before = omega (arith, len, lt, above) in
          let right : get_or (before ++ beat ∷ []) (k + 1) d ≡ beat = rw is (get_or-append_seam before beat [] d) in
          rw (left, right) (last_rises before beat d k is h)
    ]

pub joined : (first last : ℕ) (before : List Beat) (beat : Beat) → AreBeats first last before → IsNext first last before beat → IsWellFormed beat → AreBeats first last (before ++ beat ∷ [])
joined first last before beat kept next formed =
    let len : length (before ++ beat ∷ []) ≡ length before + 1 = length-append before (beat ∷ []) in
    record {
      few = omega (arith, len, next.room);
      formed = All-append IsWellFormed before (beat ∷ []) kept.formed (all_one IsWellFormed beat formed);
      within = All-append (λ (b : Beat). (first ≤ b.cycle) × (b.cycle ≤ last)) before (beat ∷ []) kept.within (all_one (λ (b : Beat). (first ≤ b.cycle) × (b.cycle ≤ last)) beat (next.low, next.high));
      rising = rising_more before beat kept.rising next.rises_here;
    }

pub grown : (first last n : ℕ) (before : List Beat) (line : List ℕ) (beat : Beat) → AreBeats first last before → next_at first last n before line ≡ Ok beat → IsWellFormed beat → AreBeats first last (before ++ beat ∷ [])
grown first last n before line beat kept read formed = joined first last before beat kept (next_is first last n before line beat read) formed

placed_same : (first last n : ℕ) (before : List Beat) (b beat : Beat) → placed_at first last n before b ≡ Ok beat → b ≡ beat
placed_same first last n before b beat e = (passed (leb 65536 (length before)) (ltb b.cycle first || ltb last b.cycle) (rises_behind (slice_get before (length before - 1)) b) b beat fault.TooManyBeats (fault.OutOfRange n) (fault.NotRising n) e).3

placed_here : (first last n : ℕ) (before : List Beat) (b beat : Beat) → placed_at first last n before b ≡ Ok beat → IsNext first last before b
placed_here first last n before b beat e = subst (IsNext first last before) (sym (placed_same first last n before b beat e)) (placed_is first last n before b beat e)

-- one place further along beats
pub more_kept : (first last n i : ℕ) (beats : List Beat) (d placed : Beat) → i < length beats → AreBeats first last (take i beats) → placed_at first last n (take i beats) (get_or beats i d) ≡ Ok placed → IsWellFormed (get_or beats i d)
    → AreBeats first last (take (i + 1) beats)
more_kept first last n i beats d placed lt kept is formed =
    let next = placed_here first last n (take i beats) (get_or beats i d) placed is in
    rw (add-one, take-suc beats i d lt) (joined first last (take i beats) (get_or beats i d) kept next formed)
