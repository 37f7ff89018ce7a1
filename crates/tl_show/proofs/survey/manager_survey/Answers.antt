use Rattle.std.proofs.Common.{◌≡◌, ◌<◌, ℕ, [], length, get_or, sym, ap, subst, ◌∙◌}
use Rattle.std.specs.Prelude.{reverse}
use Rattle.std.specs.List.{Contains, AllByRecursion}
use Rattle.std.specs.List.Sorted.{IsStrictlySortedBy}
use Rattle.std.specs.Ordering.{nat_cmp}
use Rattle.std.proofs.lemmas.List.Elements.{Contains-get_or}
use Rattle.tl_beats.specs.declared.Placed.{Placed}
use Rattle.tl_definitions.specs.Captures.{manager_beats}
use Rattle.tl_definitions.specs.Managers.{declared_links}
use Rattle.tl_definitions.specs.Positions.{beats_of_all, clients_of}
use Rattle.tl_client_rules.proofs.ClientsLaws.{clients_rise}
use Rattle.tl_rows.specs.Counts.{heads_after, AreOpen}
use Rattle.tl_rows.specs.States.{manager_with}
use Rattle.tl_rows.specs.Telling.{told_after}
use Rattle.tl_capture.specs.Windows.{AreWindows}
use Rattle.tl_show.specs.Lines.{IsStanding, IsSoundTold}
use Rattle.tl_show.specs.Shown.{manager_of}
use Rattle.tl_show.proofs.KeptLaws.{all_rec, told_kept}
use Rattle.tl_show.proofs.SurveyLaws.{swap, client_within}
use Rattle.tl_show.proofs.Texts.{block_some}
use Rattle.tl_show.proofs.survey.manager_survey.Goals as goal

pub beats-requires : goal.beats-requires
beats-requires c =
    subst (IsStrictlySortedBy nat_cmp) (sym (c.deref.ensures.value ∙ c.in_ok-links.ensures)) (clients_rise c.args.manager (declared_links c.args.topo.now))

pub tell-requires-clause-within : goal.tell-requires-clause-within
tell-requires-clause-within c =
    subst (λ beats. (k : ℕ) (d : Placed) → k < length beats → (get_or beats k d).link < length c.args.topo.now.links) (sym c.deref-4.ensures.value)
    (λ k d below. client_within c.args.topo.now c.args.manager (get_or c.in_ok-beats.beats.items k d).link
    (subst (λ links. Contains links (get_or c.in_ok-beats.beats.items k d).link) (c.deref.ensures.value ∙ c.in_ok-links.ensures) (c.in_ok-beats.ensures.kept.linked k d below)))

pub tell-requires-clause-clients : goal.tell-requires-clause-clients
tell-requires-clause-clients c =
    subst (λ links. (k : ℕ) (d : ℕ) → k < length links → get_or links k d < length c.args.topo.now.links) (sym (c.deref-3.ensures.value ∙ c.in_ok-links.ensures))
    (λ k d below. client_within c.args.topo.now c.args.manager _ (Contains-get_or (clients_of c.args.manager (declared_links c.args.topo.now)) k d below))

pub returns-clause-exact : goal.returns-clause-exact
returns-clause-exact c =
    let topo = c.args.topo.now in
    let fs = c.args.present.now in
    let rows = c.args.rows.now in
    let e = sym (block_some topo.managers c.args.manager c.unwrap-exponent.result (sym c.block.ensures ∙ c.unwrap-exponent.ensures)) in
    let l = c.deref-3.ensures.value ∙ c.in_ok-links.ensures in
    let are = c.in_ok-beats.ensures.exact ∙ ap (λ links. beats_of_all links fs) (c.deref.ensures.value ∙ c.in_ok-links.ensures) in
    let b = c.deref-4.ensures.value ∙ are in
    record {
      told = swap (λ exponent links beats. c.in_ok-telling.telling.told.items ≡ told_after (manager_with topo exponent links) rows [] beats) _ _ _ _ _ _ e l b c.in_ok-telling.ensures.told;
      beats = c.length_of.ensures ∙ ap length (c.deref-5.ensures.value ∙ are);
      heads = swap (λ exponent links beats. c.in_ok-telling.telling.heads ≡ heads_after (manager_with topo exponent links).links [] beats) _ _ _ _ _ _ e l b c.in_ok-telling.ensures.heads;
      windows = (
        c.in_ok-windows.windows.items,
        subst (λ links. AreWindows (beats_of_all links fs) c.in_ok-windows.windows.items) (c.deref-2.ensures.value ∙ c.in_ok-links.ensures) c.in_ok-windows.ensures,
        c.length_of-2.ensures ∙ ap length c.deref-6.ensures.value,
      );
      still_open = swap (λ exponent links beats. AreOpen (manager_with topo exponent links) (reverse beats) c.in_ok-telling.telling.open) _ _ _ _ _ _ e l b c.in_ok-telling.ensures.open;
    }

pub returns-clause-sound : goal.returns-clause-sound
returns-clause-sound c =
    let topo = c.args.topo.now in
    subst (AllByRecursion (IsSoundTold topo)) (sym c.in_ok-telling.ensures.told)
    (told_kept (IsStanding topo) (manager_with topo c.unwrap-exponent.result c.deref-3.result.now) c.args.rows.now [] c.deref-4.result.now tt
    (subst (AllByRecursion (IsStanding topo)) (sym c.deref-4.ensures.value)
    (all_rec (IsStanding topo) c.in_ok-beats.beats.items
    (λ k d below. (
      client_within topo c.args.manager (get_or c.in_ok-beats.beats.items k d).link
          (subst (λ links. Contains links (get_or c.in_ok-beats.beats.items k d).link) (c.deref.ensures.value ∙ c.in_ok-links.ensures) (c.in_ok-beats.ensures.kept.linked k d below)),
      c.in_ok-beats.ensures.kept.formed k d below,
    )))))
