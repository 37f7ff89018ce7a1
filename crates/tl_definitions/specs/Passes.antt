-- Beats judged one after the other from what is left by those before them, and windows of beats: the same words for the beats
-- of a manager, which leave a snapshot, and for those of a watched link, which leave a tally.
use Rattle.std.specs.Prelude.{◌≡◌, ◌↔◌, List, [], ◌∷◌, ◌++◌}
use Rattle.std.specs.List.{Contains}
use Rattle.std.specs.List.Sorted.{IsStrictlySortedBy}
use Rattle.tl_beats.specs.declared.Placed.{Placed}
use Rattle.tl_beats.specs.declared.Row.{Row}
use Rattle.tl_definitions.specs.Report.{key_order}

-- How the next beat is judged: its rows, by what is left before it, and what is then left.
pub record Judge (S : Type 0) : Type 0 where
  pub rows : S → Placed → List Row
  pub next : S → Placed → S

-- The rows of beats judged one after the other, and what they leave.
abbrev pub rows_judged : {S : Type 0} → Judge S → S → List Placed → List Row
rows_judged judge s [] = []
rows_judged judge s (p ∷ beats) = judge.rows s p ++ rows_judged judge (judge.next s p) beats

abbrev pub left_after : {S : Type 0} → Judge S → S → List Placed → S
left_after judge s [] = s
left_after judge s (p ∷ beats) = left_after judge (judge.next s p) beats

-- The result of a window: its beats, what is left before and after them, and its rows.
pub record Pass (S : Type 0) : Type 0 where
  pub entry : S
  pub beats : List Placed
  pub exit : S
  pub rows : List Row

-- It is what judging its beats from its own entry gives, whatever that entry is.
pub record IsPass {S : Type 0} (judge : Judge S) (pass : Pass S) : Type 0 where
  pub rises : IsStrictlySortedBy key_order pass.rows
  pub members : (row : Row) → Contains pass.rows row ↔ Contains (rows_judged judge pass.entry pass.beats) row
  pub exit : pass.exit ≡ left_after judge pass.entry pass.beats

abbrev pub pass_beats : {S : Type 0} → List (Pass S) → List Placed
pass_beats [] = []
pass_beats (pass ∷ passes) = pass.beats ++ pass_beats passes

-- Some pass has the row.
abbrev pub SomeHas : {S : Type 0} → List (Pass S) → Row → Type 0
SomeHas {S} passes row = (pass : Pass S) × Contains passes pass × Contains pass.rows row

-- Passes of which the first begins with s, and each other where the one before it ended.
abbrev pub IsChain : {S : Type 0} → Judge S → S → List (Pass S) → Type 0
IsChain judge s [] = Unit {0}
IsChain judge s (pass ∷ passes) = IsPass judge pass × (pass.entry ≡ s) × IsChain judge pass.exit passes

abbrev pub last_exit : {S : Type 0} → S → List (Pass S) → S
last_exit s [] = s
last_exit s (pass ∷ passes) = last_exit pass.exit passes
