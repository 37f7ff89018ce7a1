-- A monitor that has seen one beat more, and what it keeps at the end.
use Rattle.std.proofs.Common.{◌≡◌, ℕ, ◌+◌, ◌<◌, Bool, cond, List, [], ◌∷◌, ◌++◌, take, length, get_or, refl, sym, ap, subst, ◌∙◌}
use Rattle.std.specs.Prelude.{◌↔◌}
use Rattle.std.specs.List.{Contains}
use Rattle.std.specs.List.Sorted.{IsStrictlySortedBy}
use Rattle.std.proofs.lemmas.List.{take_more, append-nil}
use Rattle.tl_beats.specs.declared.Placed.{Placed}
use Rattle.tl_beats.specs.declared.Row.{Row}
use Rattle.tl_beats.specs.declared.watch.Watch.{Watch}
use Rattle.tl_definitions.specs.Passes.{IsPass, rows_judged, left_after}
use Rattle.tl_definitions.specs.Positions.{position_order}
use Rattle.tl_definitions.specs.Report.{key_order}
use Rattle.tl_definitions.specs.Watching.{flag_row}
use Rattle.tl_definitions.specs.Tallies.{watching, flags_at, tally_with, kept_tally, AreOfOneLink}
use Rattle.tl_definitions.proofs.ChainLaws.{rows_judged-append, left_after-append}
use Rattle.tl_monitor.specs.Held.{Held}
use Rattle.tl_definitions.proofs.WatchLaws.{kept_again, kept_next, flags_rise}

pub left_more : (n : ℕ) (w : Watch) (tally : ℕ) (beats : List Placed) (i : ℕ) (d : Placed) → i < length beats
    → left_after (watching n w) tally (take (i + 1) beats) ≡ tally_with w (left_after (watching n w) tally (take i beats)) (get_or beats i d).beat
left_more n w tally beats i d h =
    ap (left_after (watching n w) tally) (take_more beats i d h) ∙ left_after-append (watching n w) tally (take i beats) (get_or beats i d ∷ [])

pub rows_more : (n : ℕ) (w : Watch) (tally : ℕ) (beats : List Placed) (i : ℕ) (d : Placed) → i < length beats
    → rows_judged (watching n w) tally (take (i + 1) beats)
    ≡ rows_judged (watching n w) tally (take i beats) ++ cond (flags_at w (left_after (watching n w) tally (take i beats)) (get_or beats i d).beat) (flag_row n (get_or beats i d) ∷ []) []
rows_more n w tally beats i d h =
    let before : List Row = rows_judged (watching n w) tally (take i beats) in
    ap (rows_judged (watching n w) tally) (take_more beats i d h) ∙ rows_judged-append (watching n w) tally (take i beats) (get_or beats i d ∷ [])
    ∙ ap (λ rows. before ++ rows) (append-nil (cond (flags_at w (left_after (watching n w) tally (take i beats)) (get_or beats i d).beat) (flag_row n (get_or beats i d) ∷ []) []))

-- The whole window is a pass.
pub is_pass : (n : ℕ) (w : Watch) (tally : ℕ) (beats : List Placed) (rows : List Row) (exit : ℕ) → IsStrictlySortedBy position_order beats → AreOfOneLink beats
    → rows ≡ rows_judged (watching n w) tally beats → exit ≡ left_after (watching n w) tally beats
    → IsPass (watching n w) (record { entry = tally; beats = beats; exit = exit; rows = rows })
is_pass n w tally beats rows exit up same found left = record {
  rises = subst (λ rs. IsStrictlySortedBy key_order rs) (sym found) (flags_rise n w tally beats up same);
  members = λ row. (λ h. subst (λ rs. Contains rs row) found h, λ h. subst (λ rs. Contains rs row) (sym found) h);
  exit = left;
}

pub is_kept : (n : ℕ) (w : Watch) (tally : ℕ) (beats : List Placed) → kept_tally w (left_after (watching n w) (kept_tally w tally) beats) ≡ left_after (watching n w) (kept_tally w tally) beats
is_kept n w tally beats = kept_next n w (kept_tally w tally) beats (kept_again w tally)

-- ---- one beat more

module _ (n : ℕ) (old was now : Held) (start : ℕ) (beats : List Placed) (i : ℕ) (d : Placed) (h : i < length beats)
    (held : was ≡ record old { tally = left_after (watching n old.watch) start (take i beats) }) where
  pub held_more : now ≡ record was { tally = tally_with was.watch was.tally (get_or beats i d).beat } → now ≡ record old { tally = left_after (watching n old.watch) start (take (i + 1) beats) }
  held_more counts =
      counts ∙ ap (λ (m : Held). record m { tally = tally_with m.watch m.tally (get_or beats i d).beat }) held
      ∙ ap (λ t. record old { tally = t }) (sym (left_more n old.watch start beats i d h))

  pub found_more : (rows more : List Row) (flagged : Bool) → rows ≡ rows_judged (watching n old.watch) start (take i beats) → flagged ≡ flags_at was.watch was.tally (get_or beats i d).beat
      → more ≡ rows ++ cond flagged (flag_row n (get_or beats i d) ∷ []) [] → more ≡ rows_judged (watching n old.watch) start (take (i + 1) beats)
  found_more rows more flagged found verdict put =
      put ∙ ap (λ b. rows ++ cond b (flag_row n (get_or beats i d) ∷ []) []) (verdict ∙ ap (λ (m : Held). flags_at m.watch m.tally (get_or beats i d).beat) held)
      ∙ ap (λ rs. rs ++ cond (flags_at old.watch (left_after (watching n old.watch) start (take i beats)) (get_or beats i d).beat) (flag_row n (get_or beats i d) ∷ []) []) found
      ∙ sym (rows_more n old.watch start beats i d h)
