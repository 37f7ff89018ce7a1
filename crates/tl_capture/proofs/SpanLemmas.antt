-- Cursors for the beats of fragments in a span.
use Rattle.std.proofs.Common.{◌≡◌, ℕ, zero, suc, ◌+◌, ◌-◌, ◌<◌, ◌≤◌, true, false, cond, List, [], ◌∷◌, ◌++◌, Option, Some, None, length, get_or, take, drop, sym, ap, subst, ◌∙◌, refl, arith, append_assoc, append-nil, length-take-le, length-drop}
use Rattle.std.specs.Prelude.{slice_range, MatchOption}
use Rattle.std.specs.List.{AllWithin}
use Rattle.std.proofs.lemmas.List.{get_or-take, get_or-drop}
use Rattle.tl_beats.specs.declared.Beat.{Beat}
use Rattle.tl_beats.specs.declared.Placed.{Placed}
use Rattle.tl_beats.specs.Beats.{rises}
use Rattle.tl_beats.specs.Fragments.{Frag}
use Rattle.tl_definitions.specs.Positions.{Recorded, placed_from}
use Rattle.tl_capture.specs.declared.cursor.Cursor.{Cursor}
use Rattle.tl_capture.specs.Cursors.{beats_left, all_left}
use Rattle.tl_capture.specs.Parts.{spanned}
use Rattle.tl_capture.specs.Ranges.{span_beats}
use Rattle.tl_capture.specs.Rising.{AreRising}
use Rattle.tl_capture.specs.Spans.{holds}
use Rattle.tl_capture.specs.Windows.{beats_within}
use Rattle.tl_capture.proofs.CutLemmas.{AreBounds}
use Rattle.tl_capture.proofs.PartLemmas.{part_beats, spanned_at}
use Rattle.tl_capture.proofs.PresentLemmas.{placed_at}
use Rattle.tl_capture.proofs.WalkLemmas.{read_all}

-- ---- what stands between them

none_within : (from to link number line : ℕ) (beats : List Beat) → AllWithin (λ b. holds from to b ≡ false) beats 0 (length beats) → beats_within from to (placed_from link number line beats) ≡ []
none_within from to link number line [] all = refl
none_within from to link number line (b ∷ beats) all =
    let rest : List Placed = beats_within from to (placed_from link number (line + 1) beats) in
    ap (λ t. cond t (placed_at link number line b ∷ rest) rest) (all 0 b (omega arith) (omega arith))
    ∙ none_within from to link number (line + 1) beats (λ k d low high. all (suc k) d (omega arith) (let lt : k < length beats = high in omega arith))

-- The beats of a span are those between its bounds.
pub within_bounds : (from to link number line start count : ℕ) (beats : List Beat) → AllWithin (λ b. holds from to b ≡ false) beats 0 start
    → AllWithin (λ b. holds from to b ≡ true) beats start (start + count) → AllWithin (λ b. holds from to b ≡ false) beats (start + count) (length beats)
    → beats_within from to (placed_from link number line beats) ≡ placed_from link number (line + start) (take count (drop start beats))
within_bounds from to link number line zero zero beats before between behind = none_within from to link number line beats behind
within_bounds from to link number line zero (suc count) [] before between behind = refl
within_bounds from to link number line (suc start) zero [] before between behind = refl
within_bounds from to link number line (suc start) (suc count) [] before between behind = refl
within_bounds from to link number line zero (suc count) (b ∷ beats) before between behind =
    let rest : List Placed = beats_within from to (placed_from link number (line + 1) beats) in
    let known : rest ≡ placed_from link number ((line + 1) + 0) (take count beats) = within_bounds from to link number (line + 1) zero count beats (λ k d low high. absurd (omega arith))
    (λ k d low high. between (suc k) d (omega arith) (omega arith)) (λ k d low high. behind (suc k) d (omega arith) (let lt : k < length beats = high in omega arith)) in
    let same : (line + 1) + 0 ≡ line + 1 = omega arith in
    let own : line ≡ line + 0 = omega arith in
    ap (λ t. cond t (placed_at link number line b ∷ rest) rest) (between 0 b (omega arith) (omega arith))
    ∙ ap (λ ps. placed_at link number line b ∷ ps) (known ∙ ap (λ n. placed_from link number n (take count beats)) same)
    ∙ ap (λ n. placed_at link number n b ∷ placed_from link number (n + 1) (take count beats)) own
within_bounds from to link number line (suc start) count (b ∷ beats) before between behind =
    let rest : List Placed = beats_within from to (placed_from link number (line + 1) beats) in
    let known = within_bounds from to link number (line + 1) start count beats (λ k d low high. before (suc k) d (omega arith) (omega arith))
    (λ k d low high. between (suc k) d (omega arith) (omega arith)) (λ k d low high. behind (suc k) d (omega arith) (let lt : k < length beats = high in omega arith)) in
    let same : (line + 1) + start ≡ line + suc start = omega arith in
    ap (λ t. cond t (placed_at link number line b ∷ rest) rest) (before 0 b (omega arith) (omega arith))
    ∙ known ∙ ap (λ n. placed_from link number n (take count (drop start beats))) same

pub span_is : (from to link number start end : ℕ) (beats : List Beat) → AreBounds beats from to start end
    → beats_within from to (placed_from link number 2 beats) ≡ placed_from link number (start + 2) (slice_range beats start end)
span_is from to link number start end beats bounds =
    let order = bounds.order in
    let all : end ≡ start + (end - start) = omega arith in
    let line : 2 + start ≡ start + 2 = omega arith in
    within_bounds from to link number 2 start (end - start) beats bounds.before (subst (AllWithin (λ b. holds from to b ≡ true) beats start) all bounds.between)
    (subst (λ n. AllWithin (λ b. holds from to b ≡ false) beats n (length beats)) all bounds.behind)
    ∙ ap (λ n. placed_from link number n (take (end - start) (drop start beats))) line

-- They rise as all do.
pub rising_range : (beats : List Beat) (start end : ℕ) → start ≤ end → end ≤ length beats → AreRising beats → AreRising (slice_range beats start end)
rising_range beats start end order within s k d lt =
    let many = length-take-le (end - start) (drop start beats) in
    let behind = length-drop start beats in
    let here : get_or (slice_range beats start end) k d ≡ get_or beats (start + k) d = get_or-take (end - start) (drop start beats) k d (omega arith) ∙ get_or-drop start beats k d in
    let there : get_or (slice_range beats start end) (k + 1) d ≡ get_or beats (start + k + 1) d = get_or-take (end - start) (drop start beats) (k + 1) d (omega arith) ∙ get_or-drop start beats (k + 1) d
    ∙ ap (λ n. get_or beats n d) (let same : start + (k + 1) ≡ start + k + 1 = omega arith in same) in
    subst (λ b. rises b (get_or (slice_range beats start end) (k + 1) d) ≡ true) (sym here) (subst (λ b. rises (get_or beats (start + k) d) b ≡ true) (sym there) (s (start + k) d (omega arith)))

-- ---- cursors for fragments

pub cursor_is : (found : Option Cursor) (link number line : ℕ) (beats : List Beat) (ps : List Placed) → ps ≡ placed_from link number line beats
    → MatchOption found (beats ≡ []) (λ c. beats_left c ≡ placed_from link number line beats) → MatchOption found (ps ≡ []) (λ c. beats_left c ≡ ps)
cursor_is None link number line beats ps same h = same ∙ ap (placed_from link number line) h
cursor_is (Some c) link number line beats ps same h = h ∙ sym same

pub left_both : (cs ds : List Cursor) → all_left (cs ++ ds) ≡ all_left cs ++ all_left ds
left_both [] ds = refl
left_both (c ∷ cs) ds = ap (λ ps. beats_left c ++ ps) (left_both cs ds) ∙ sym (append_assoc (beats_left c) (all_left cs) (all_left ds))

module _ {V : Type 0} (value : V → Frag) (from to : ℕ) (parts : List (ℕ × V)) (i : ℕ) (e : ℕ × V) where
  abbrev left : ℕ → List Placed
  left n = spanned value from to (drop n parts)

  -- One fragment more, with a cursor or with nothing.
  pub cursor_pushed : i < length parts → e ≡ get_or parts i e → (cs ds : List Cursor) (c : Cursor) (all : List Placed) → beats_left c ≡ part_beats value from to e → ds ≡ cs ++ c ∷ []
      → all_left cs ++ left i ≡ all → all_left ds ++ left (i + 1) ≡ all
  cursor_pushed within is cs ds c all has put known =
      ap (λ xs. all_left xs ++ left (i + 1)) put ∙ ap (λ ps. ps ++ left (i + 1)) (left_both cs (c ∷ []) ∙ ap (λ ps. all_left cs ++ ps) (append-nil (beats_left c) ∙ has))
      ∙ append_assoc (all_left cs) (part_beats value from to e) (left (i + 1)) ∙ ap (λ ps. all_left cs ++ ps) (sym (spanned_at value from to parts i e within is)) ∙ known

-- A cursor for what is read of a fragment.
pub cursor_read : (from to : ℕ) (f : Recorded) (fs : List Recorded) (cs ds : List Cursor) (c : Cursor) (all : List Placed) → beats_left c ≡ span_beats from to f → ds ≡ cs ++ c ∷ []
    → all_left cs ++ read_all (span_beats from to) (f ∷ fs) ≡ all → all_left ds ++ read_all (span_beats from to) fs ≡ all
cursor_read from to f fs cs ds c all has put known =
    let left : List Placed = read_all (span_beats from to) fs in
    ap (λ xs. all_left xs ++ left) put ∙ ap (λ ps. ps ++ left) (left_both cs (c ∷ []) ∙ ap (λ ps. all_left cs ++ ps) (append-nil (beats_left c) ∙ has))
    ∙ append_assoc (all_left cs) (span_beats from to f) left ∙ known
