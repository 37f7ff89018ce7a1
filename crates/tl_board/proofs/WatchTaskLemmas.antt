-- Windows of monitors that are checked elsewhere: their beats, and their passes.
use Rattle.std.proofs.Common.{◌≡◌, ℕ, ◌==◌, true, false, List, [], ◌∷◌, Some, None, length, refl, sym, ap, subst, ◌∙◌, arith}
use Rattle.std.specs.List.{filter}
use Rattle.std.specs.Bool.{Decides}
use Rattle.std.specs.Option.{option_map_or}
use Rattle.std.specs.List.Sorted.{IsStrictlySortedBy}
use Rattle.std.specs.Ordering.{nat_cmp}
use Rattle.std.proofs.lemmas.Bool.Decides.{nat_tests}
use Rattle.tl_topology.specs.Topology.{Topology, number_of_name}
use Rattle.tl_beats.specs.Watches.{link_of}
use Rattle.tl_beats.specs.declared.Placed.{Placed}
use Rattle.tl_beats.specs.declared.watch.Watch.{Watch}
use Rattle.tl_definitions.specs.Positions.{Recorded, all_placed, in_order, beats_of, beats_of_all}
use Rattle.tl_definitions.specs.Tallies.{AreOfOneLink}
use Rattle.tl_definitions.proofs.Lists.{contains_none}
use Rattle.tl_check.specs.Captured.{watched_beats}
use Rattle.tl_capture.specs.Present.{IsPresent}
use Rattle.tl_capture.specs.Windows.{beats_in, AreBeatsOf}
use Rattle.tl_capture.proofs.LawLemmas.{one_link_is_its_own}
use Rattle.tl_monitor.specs.Held.{Held}
use Rattle.tl_board.specs.WatchTasks.{WatchWindowData, AreWatched, IsTallyOf, IsWatchWindow, IsWatchTask, with_monitor, without_monitor}
use Rattle.tl_board.proofs.PassLemmas.{window_of_one_link}

-- One link rises, and so does none.
pub one_rises : (link : ℕ) → IsStrictlySortedBy nat_cmp (link ∷ [])
unfolding IsStrictlySortedBy
one_rises link = (tt, tt)

pub none_rises : IsStrictlySortedBy nat_cmp []
unfolding IsStrictlySortedBy
none_rises = tt

nothing_kept : (fs : List Recorded) → filter (λ f. false) fs ≡ []
nothing_kept [] = refl
nothing_kept (f ∷ fs) = nothing_kept fs

no_beats : (fs : List Recorded) → beats_of_all [] fs ≡ []
no_beats fs = ap (λ gs. in_order (all_placed gs)) (nothing_kept fs)

-- The beats of the link that a watch names, or none.
pub link_watched : (topo : Topology) (fs : List Recorded) (w : Watch) (link : ℕ) → IsPresent fs → number_of_name topo.links (link_of w) ≡ Some link → beats_of_all (link ∷ []) fs ≡ watched_beats topo fs w
link_watched topo fs w link is at = one_link_is_its_own link fs is ∙ sym (ap (λ o. option_map_or (λ l. beats_of l fs) o []) at)

pub none_watched : (topo : Topology) (fs : List Recorded) (w : Watch) → number_of_name topo.links (link_of w) ≡ None → beats_of_all [] fs ≡ watched_beats topo fs w
none_watched topo fs w at = no_beats fs ∙ sym (ap (λ o. option_map_or (λ l. beats_of l fs) o []) at)

pub none_in_window : (window : ℕ) (topo : Topology) (fs : List Recorded) (w : Watch) → number_of_name topo.links (link_of w) ≡ None → beats_in window (watched_beats topo fs w) ≡ []
none_in_window window topo fs w at = ap (λ o. beats_in window (option_map_or (λ l. beats_of l fs) o [])) at

pub link_kept : (window link : ℕ) (fs : List Recorded) (beats : List Placed) → IsPresent fs → beats ≡ beats_in window (beats_of_all (link ∷ []) fs) → AreBeatsOf (link ∷ []) beats → AreWatched beats
link_kept window link fs beats is are kept = record {
  link = subst AreOfOneLink (sym (are ∙ ap (beats_in window) (one_link_is_its_own link fs is))) (window_of_one_link window link fs);
  rises = kept.rise;
}

pub none_kept : (window : ℕ) (fs : List Recorded) (beats : List Placed) → beats ≡ beats_in window (beats_of_all [] fs) → AreBeatsOf [] beats → AreWatched beats
none_kept window fs beats are kept = record {
  link = subst AreOfOneLink (sym (are ∙ ap (beats_in window) (no_beats fs))) (λ p q h g. absurd (contains_none p h));
  rises = kept.rise;
}

-- There are none exactly where they are the beats of no link.
pub none_decides : (beats rest : List Placed) → rest ≡ [] → Decides (length beats == 0) (beats ≡ rest)
none_decides [] rest none = ((λ h. sym none), (λ h. refl))
none_decides (b ∷ beats) rest none = ((λ h. absurd (some h)), (λ h. absurd (let never : b ∷ beats ≡ [] = h ∙ none in cc)))
  where
    some : (length (b ∷ beats) == 0) ≡ true → ⊥
    some h = let zero_is : length (b ∷ beats) ≡ 0 = grind (arith, nat_tests) in omega (arith, zero_is)

-- ---- a window and its monitor

pub with_its_monitor : (task : WatchWindowData) (held : Held) → IsWatchWindow task → held.watch ≡ task.watch → IsWatchTask (with_monitor task held) × (held.watch ≡ task.watch)
with_its_monitor task held is same = (record { beats = is.beats; entry = subst (λ w. IsTallyOf w task.entry) (sym same) is.entry }, same)

-- Its monitor holds the same but for the tally.
pub still_task : (task : WatchWindowData) (old new : Held) → IsWatchTask (with_monitor task old) → old.watch ≡ task.watch → new ≡ record old { tally = new.tally } → IsWatchTask (with_monitor task new) × (new.watch ≡ task.watch)
still_task task old new is same held =
    let watch : new.watch ≡ old.watch = ap (λ (h : Held). h.watch) held in (
      record { beats = is.beats; entry = subst (λ w. IsTallyOf w task.entry) (sym watch) is.entry },
      watch ∙ same,
    )

pub parted : (task : WatchWindowData) (held : Held) → held.watch ≡ task.watch → task ≡ without_monitor (with_monitor task held)
parted task held same = ap (λ w. record task { watch = w }) (sym same)
