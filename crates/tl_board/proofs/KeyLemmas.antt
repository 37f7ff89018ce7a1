-- An edit of fragments, and the keys that it touches.
use Rattle.std.proofs.Common.{◌≡◌, ℕ, inl, inr, true, List, [], ◌∷◌, Some, None, refl, sym, ap, subst, ◌∙◌}
use Rattle.std.specs.Prelude.{◌↔◌, is_some}
use Rattle.std.specs.Option.{option_map_or}
use Rattle.std.specs.List.{Contains}
use Rattle.tl_topology.specs.Topology.{Topology, number_of_name}
use Rattle.tl_beats.specs.Watches.{link_of}
use Rattle.tl_beats.specs.declared.Row.{Row}
use Rattle.tl_beats.specs.declared.watch.Watch.{Watch}
use Rattle.tl_definitions.specs.Positions.{Recorded, beats_of, beats_of_all}
use Rattle.tl_edits.specs.Edits.{AnEdit}
use Rattle.tl_edits.specs.Inputs.{InputData, watch_at, changed}
use Rattle.tl_pieces.specs.declared.key.PieceKey.{PieceKey}
use Rattle.tl_pieces.specs.Keys.{Rises}
use Rattle.tl_pieces.specs.Pieces.{Board, opening_of, piece_at}
use Rattle.tl_check.specs.Captured.{watched_beats}
use Rattle.tl_capture.specs.Present.{IsPresent}
use Rattle.tl_capture.specs.Windows.{HasBeat}
use Rattle.tl_capture.proofs.LawLemmas.{one_link_is_its_own}
use Rattle.tl_board.specs.Windows.{IsGrown, HasAll, IsPruned, AreBlank}
use Rattle.tl_board.proofs.EditLemmas.{key_or_not, restored, windows_openings, windows_stay, windows_result, windows_ticket, windows_there}
use Rattle.tl_board.proofs.TouchLemmas.{same_topology}
use Rattle.tl_board.specs.declared.tally.Tally.{Tally}
use Rattle.tl_board.specs.TouchedWatches.{edited_monitor, TouchesWatch, AreTouched}
use Rattle.tl_board.specs.Watches.{beats_for, AreWatches}
use Rattle.tl_board.proofs.PassLemmas.{beats_are}
use Rattle.tl_board.proofs.AfterLemmas.{IsEdited, others_left, opening_left}

module _ (now : InputData) (e : AnEdit) (before : IsPresent now.fragments) (old : Board Tally (List Row)) (are : AreWatches now old) (none : edited_monitor e ≡ None) (link : ℕ) (keys : List PieceKey) (touched : AreTouched now e link keys) where
  never : (number : ℕ) → edited_monitor e ≡ Some number → ⊥
  never number edited = let wrong : None ≡ Some number = sym none ∙ edited in cc

  key_touched : (key : PieceKey) → TouchesWatch now e key.owner key.window → Contains keys key
  key_touched key (inl edited) = absurd (never key.owner edited)
  key_touched key (inr on) = (touched.exact key).1 on

  touched_key : (key : PieceKey) → Contains keys key → TouchesWatch now e key.owner key.window
  touched_key key has = inr ((touched.exact key).0 has)

  pub owned_keys : (key : PieceKey) → Contains keys key → is_some (opening_of key.owner old.openings) ≡ true
  owned_keys key has = are.owners key.owner ∙ ap is_some (touched.own key has).1

  -- The beats of a monitor that watches the link.
  beats_on : (then : InputData) → IsPresent then.fragments → then.topo ≡ now.topo → (number : ℕ) (w : Watch) → watch_at number then.monitors ≡ Some w → (l : ℕ) → number_of_name now.topo.links (link_of w) ≡ Some l → l ≡ link
      → beats_for then number ≡ beats_of_all (link ∷ []) then.fragments
  beats_on then is topo number w at l named same =
      beats_are then number w at ∙ ap (λ (t : Topology). watched_beats t then.fragments w) topo
      ∙ ap (λ found. option_map_or (λ n. beats_of n then.fragments) found []) (named ∙ ap Some same) ∙ sym (one_link_is_its_own link then.fragments is)

  had : (key : PieceKey) → Contains keys key → (is_some (piece_at key old) ≡ true) ↔ HasBeat (beats_of_all (link ∷ []) now.fragments) key.window
  had key has =
      let own = touched.own key has in
      let same = beats_on now before refl key.owner own.0 own.1 own.2 own.3 own.4 in
      let was = are.covered.windows key (owned_keys key has) in
      ((λ h. subst (λ ps. HasBeat ps key.window) same (was.0 h)), (λ h. was.1 (subst (λ ps. HasBeat ps key.window) (sym same) h)))

  -- Where the edit isn't accepted, the pieces that have come for it go again.
  pub keys_restored : (fs : List Recorded) → fs ≡ now.fragments → (grown pruned : Board Tally (List Row)) → IsGrown keys old grown → IsPruned (HasBeat (beats_of_all (link ∷ []) fs)) keys grown pruned
      → Rises old.pieces → Rises pruned.pieces → pruned ≡ old
  keys_restored fs same grown pruned grows prunes a b =
      restored keys (HasBeat (beats_of_all (link ∷ []) fs)) old grown pruned grows prunes
      (λ key has. subst (λ gs. (is_some (piece_at key old) ≡ true) ↔ HasBeat (beats_of_all (link ∷ []) gs) key.window) (sym same) (had key has)) a b

  -- Where it is, they come and stay, and none that it touches keeps its result.
  module _ (after : IsPresent (changed now e).fragments) (fs : List Recorded) (same : fs ≡ (changed now e).fragments) (grown pruned new : Board Tally (List Row)) (grows : IsGrown keys old grown) (all : HasAll keys grown)
      (prunes : IsPruned (HasBeat (beats_of_all (link ∷ []) fs)) keys grown pruned) (blanks : AreBlank keys pruned new) where
    there : (key : PieceKey) → Contains keys key → (is_some (piece_at key new) ≡ true) ↔ HasBeat (beats_for (changed now e) key.owner) key.window
    there key has =
        let own = touched.own key has in
        let beats = beats_on (changed now e) after (same_topology now e) key.owner own.0 (others_left now e key.owner (never key.owner) ∙ own.1) own.2 own.3 own.4 ∙ ap (beats_of_all (link ∷ [])) (sym same) in
        let is = windows_there keys (HasBeat (beats_of_all (link ∷ []) fs)) old grown pruned grows prunes new blanks all key has in
        ((λ h. subst (λ ps. HasBeat ps key.window) (sym beats) (is.0 h)), (λ h. is.1 (subst (λ ps. HasBeat ps key.window) beats h)))

    pub keys_edited : IsEdited now e before after old new
    keys_edited = record {
      openings = λ number. ap (opening_of number) (windows_openings keys (HasBeat (beats_of_all (link ∷ []) fs)) old grown pruned grows prunes new blanks) ∙ sym (opening_left e number (opening_of number old.openings) (never number));
      fits = λ w number edited at. absurd (never number edited);
      decide = λ key. elim (key_or_not keys key) [ inl has ↦ inl (touched_key key has) | inr not ↦ inr (λ touches. not (key_touched key touches)) ];
      stays = λ key not. windows_stay keys (HasBeat (beats_of_all (link ∷ []) fs)) old grown pruned grows prunes new blanks key (λ has. not (touched_key key has));
      result = λ key touches. windows_result keys (HasBeat (beats_of_all (link ∷ []) fs)) old grown pruned grows prunes new blanks key (key_touched key touches);
      ticket = λ key touches. windows_ticket keys (HasBeat (beats_of_all (link ∷ []) fs)) old grown pruned grows prunes new blanks key (key_touched key touches);
      there = λ key touches owner. there key (key_touched key touches);
    }
