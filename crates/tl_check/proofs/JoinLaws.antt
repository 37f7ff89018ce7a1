-- Results of windows, joined.
use Rattle.std.proofs.Common.{◌≡◌, Bool, true, false, List, [], ◌∷◌, ◌++◌, refl, sym, ap, subst, ◌∙◌}
use Rattle.std.specs.Prelude.{map, reverse}
use Rattle.std.specs.List.{Contains}
use Rattle.tl_definitions.specs.Rules.{Manager}
use Rattle.tl_definitions.specs.Breaks.{rows_in}
use Rattle.tl_definitions.specs.Judging.{Snapshot, snapshot, judging}
use Rattle.tl_definitions.specs.Passes.{Pass, IsPass, IsChain, pass_beats}
use Rattle.tl_definitions.specs.Passes as chain
use Rattle.tl_definitions.proofs.JudgingLaws.{chains_are_whole}
use Rattle.tl_definitions.specs.Coherence.{exceeds}
use Rattle.tl_definitions.proofs.CoherenceLaws.{guarded_captures_are_coherent}
use Rattle.tl_definitions.proofs.Lists.{contains_mapped, mapped_from, contains_none, contains_kept, none_kept}
use Rattle.tl_check.specs.declared.state.SpanState.{SpanState}
use Rattle.tl_check.specs.States.{shown}
use Rattle.tl_check.specs.Jobs.{Checked, pass_of}
use Rattle.tl_check.specs.Laws.{SameStatesShowTheSame, SameStatesAreOfOneManager, StatesKnowNoRegions, SameStatesStandForTheSame, AreJoined, all_beats, last_exit, JoinedResultsAreWhole, CleanResultsAreCoherent}
use Rattle.tl_check.proofs.StateLaws.{same_shown, same_is_of, shown_same}

pub same_states_show_the_same : SameStatesShowTheSame
same_states_show_the_same m one two first second = (same_shown one two, shown_same m one two first second)

pub same_states_are_of_one_manager : SameStatesAreOfOneManager
same_states_are_of_one_manager = same_is_of

pub states_know_no_regions : StatesKnowNoRegions
states_know_no_regions m areas state of = record { clients = of.clients; rises = of.rises; links = of.links; states = of.states; formed = of.formed }

pub same_states_stand_for_the_same : SameStatesStandForTheSame
same_states_stand_for_the_same m one two before stands same = record {
  is_of = same_is_of m one two stands.is_of same;
  shows = sym (same_shown one two same) ∙ stands.shows;
}

joined_chain : (m : Manager) (s : Snapshot) (entry : SpanState) (results : List Checked) → shown entry ≡ s → AreJoined m entry results → IsChain (judging m) s (map pass_of results)
joined_chain m s entry [] is joined = tt
joined_chain m s entry (result ∷ results) is joined = (
  subst (λ k. IsPass (judging k) (pass_of result)) joined.1 joined.0.pass,
  sym (same_shown entry result.job.entry joined.2) ∙ is,
  joined_chain m (shown result.exit) result.exit results refl joined.3,
)

beats_are : (results : List Checked) → pass_beats (map pass_of results) ≡ all_beats results
beats_are [] = refl
beats_are (result ∷ results) = ap (λ ps. result.job.beats ++ ps) (beats_are results)

exit_is : (s : Snapshot) (entry : SpanState) (results : List Checked) → shown entry ≡ s → shown (last_exit entry results) ≡ chain.last_exit s (map pass_of results)
exit_is s entry [] is = is
exit_is s entry (result ∷ results) is = exit_is (shown result.exit) result.exit results refl

pub joined_results_are_whole : JoinedResultsAreWhole
joined_results_are_whole m opening results stands joined =
    let whole = chains_are_whole m (map pass_of results) (joined_chain m (snapshot m []) opening results stands.shows joined) in
    let beats = beats_are results in (
      (λ row. (
        (λ has. subst (λ ps. Contains (rows_in m ps) row) beats ((whole.0 row).0 (pass_of has.0, contains_mapped pass_of results has.0 has.1, has.2))),
        (λ has. let found = (whole.0 row).1 (subst (λ ps. Contains (rows_in m ps) row) (sym beats) has) in
            let from = mapped_from pass_of results found.0 found.1 in
            (from.0, from.1, subst (λ (p : Pass Snapshot). Contains p.rows row) (sym from.2) found.2)),
      )),
      exit_is (snapshot m []) opening results stands.shows ∙ whole.1 ∙ ap (λ ps. snapshot m (reverse ps)) beats,
    )

pub clean_results_are_coherent : CleanResultsAreCoherent
clean_results_are_coherent m opening results stands joined clean =
    guarded_captures_are_coherent m (all_beats results) (none_kept exceeds (rows_in m (all_beats results)) (λ row h.
    let found = ((joined_results_are_whole m opening results stands joined).0 row).1 h in
    let unkept : (t : Bool) → exceeds row ≡ t → t ≡ false = λ t. elim t as (λ t. exceeds row ≡ t → t ≡ false) [
      | true ↦ λ e. absurd (contains_none row (subst (λ rs. Contains rs row) (clean found.0 found.1) (contains_kept exceeds found.0.rows row found.2 e)))
      | false ↦ λ e. refl
    ] in
    unkept (exceeds row) refl))
