-- What stands once fragments are added one after the other.
use Rattle.std.proofs.Common.{◌≡◌, ℕ, ◌<◌, ◌≤◌, inl, inr, cond, List, [], ◌∷◌, ◌++◌, Some, refl, sym, ap, subst, ◌∙◌, arith}
use Rattle.std.specs.List.{Contains, All}
use Rattle.std.specs.Option.{option_map_or}
use Rattle.std.specs.Ordering.{nat_cmp, is_lt, ordering_then}
use Rattle.std.specs.Cmp.{nat_cmp_is}
use Rattle.std.specs.declared.cmp.Ordering.TheVariants.{Greater}
use Rattle.std.proofs.lemmas.List.{append-nil, map-append}
use Rattle.std.proofs.lemmas.List.Elements.{All-head, All-tail}
use Rattle.tl_topology.specs.Topology.{Topology, number_of_name}
use Rattle.tl_beats.specs.Fragments.{Frag}
use Rattle.tl_definitions.specs.Positions.{Recorded}
use Rattle.tl_definitions.proofs.Lists.{contains_none, contains_here, contains_there}
use Rattle.tl_capture.specs.Present.{range_order, recorded, put_in}
use Rattle.tl_capture.proofs.PutLemmas.{put_from}
use Rattle.tl_edits.specs.Edits.{AnEdit, add}
use Rattle.tl_edits.specs.Inputs.{InputData, blank, changed}
use Rattle.tl_edits.specs.Log.{changed_by, inputs_after}
use Rattle.tl_edits.proofs.LogLaws.{inputs_more, inputs_topo, topo_stays}
use Rattle.tl_check.specs.Once.{adds}
use Rattle.tl_pass.specs.Parts.{IsWithin}
use Rattle.tl_pass.specs.Reports.{standing}

put_there : (now : InputData) (f : Frag) (link : ℕ) → number_of_name now.topo.links f.link ≡ Some link → (changed now (add f)).fragments ≡ put_in (recorded link f) now.fragments
put_there now f link named = ap (λ o. (option_map_or (λ l. record now { fragments = put_in (recorded l f) now.fragments }) o now).fragments) named

-- With one more.
pub one_added : (topo : Topology) (fs : List Frag) (f : Frag) (link : ℕ) → number_of_name topo.links f.link ≡ Some link → standing topo (fs ++ f ∷ []) ≡ put_in (recorded link f) (standing topo fs)
one_added topo fs f link named =
    let before : InputData = inputs_after topo (adds fs) in
    let same : before.topo ≡ topo = inputs_topo topo (adds fs) before refl in
    ap (λ (d : InputData). d.fragments) (inputs_more add topo fs f) ∙ put_there before f link (ap (λ (t : Topology). number_of_name t.links f.link) same ∙ named)

-- One of a link comes after all of lower links.
pub put_last : (link : ℕ) (f : Frag) (low high : List Recorded) → ((g : Recorded) → Contains low g → g.link < link) → put_in (recorded link f) (low ++ high) ≡ low ++ put_in (recorded link f) high
put_last link f [] high lower = refl
put_last link f (g ∷ gs) high lower =
    let less : g.link < link = lower g (contains_here g gs) in
    let greater : range_order (recorded link f) g ≡ Greater = ap (λ o. ordering_then o (nat_cmp f.last g.first)) (sym (nat_cmp_is link g.link Greater less)) in
    ap (λ o. cond (is_lt o) (recorded link f ∷ g ∷ gs ++ high) (g ∷ put_in (recorded link f) (gs ++ high))) greater
    ∙ ap (λ hs. g ∷ hs) (put_last link f gs high (λ h k. lower h (contains_there g gs h k)))

-- Those that are added to fragments of lower links stand after them.
module _ (topo : Topology) (first next : ℕ) where
  stand_after : (low : List Recorded) (a b : InputData) (gs : List Frag) → a.topo ≡ topo → b.topo ≡ topo → a.fragments ≡ low ++ b.fragments → ((f : Recorded) → Contains low f → f.link < first)
      → All (IsWithin topo first next) gs → (changed_by a (adds gs)).fragments ≡ low ++ (changed_by b (adds gs)).fragments
  stand_after low a b [] on_a on_b is lower within = is
  stand_after low a b (g ∷ gs) on_a on_b is lower within =
      let at = All-head (IsWithin topo first next) g gs within in
      let above : first ≤ at.0 = at.2 in
      let named_a = ap (λ (t : Topology). number_of_name t.links g.link) on_a ∙ at.1 in
      let named_b = ap (λ (t : Topology). number_of_name t.links g.link) on_b ∙ at.1 in
      let put : (changed a (add g)).fragments ≡ low ++ (changed b (add g)).fragments =
      put_there a g at.0 named_a ∙ ap (put_in (recorded at.0 g)) is ∙ put_last at.0 g low b.fragments (λ f h. let below : f.link < first = lower f h in omega (arith, below, above))
      ∙ ap (λ fs. low ++ fs) (sym (put_there b g at.0 named_b)) in
      stand_after low (changed a (add g)) (changed b (add g)) gs (topo_stays a (add g) ∙ on_a) (topo_stays b (add g) ∙ on_b) put lower (All-tail (IsWithin topo first next) g gs within)

  are_within : (now : InputData) (gs : List Frag) → now.topo ≡ topo → ((f : Recorded) → Contains now.fragments f → (first ≤ f.link) × (f.link < next)) → All (IsWithin topo first next) gs
      → (f : Recorded) → Contains (changed_by now (adds gs)).fragments f → (first ≤ f.link) × (f.link < next)
  are_within now [] on are within = are
  are_within now (g ∷ gs) on are within =
      let at = All-head (IsWithin topo first next) g gs within in
      let put = put_there now g at.0 (ap (λ (t : Topology). number_of_name t.links g.link) on ∙ at.1) in
      are_within (changed now (add g)) gs (topo_stays now (add g) ∙ on) (λ f h. elim (put_from (recorded at.0 g) now.fragments f (subst (λ fs. Contains fs f) put h)) [
        | inl is ↦ subst (λ (r : Recorded). (first ≤ r.link) × (r.link < next)) is (at.2, at.3)
        | inr before ↦ are f before
      ]) (All-tail (IsWithin topo first next) g gs within)

  pub standing_within : (gs : List Frag) → All (IsWithin topo first next) gs → (f : Recorded) → Contains (standing topo gs) f → (first ≤ f.link) × (f.link < next)
  standing_within gs within = are_within (blank topo) gs refl (λ f h. absurd (contains_none f h)) within

  changed_more : (now : InputData) (es more : List AnEdit) → changed_by now (es ++ more) ≡ changed_by (changed_by now es) more
  changed_more now [] more = refl
  changed_more now (e ∷ es) more = changed_more (changed now e) es more

  -- What is added of later links stands after what is added first.
  pub both_stand : (fs gs : List Frag) → ((f : Recorded) → Contains (standing topo fs) f → f.link < first) → All (IsWithin topo first next) gs → standing topo (fs ++ gs) ≡ standing topo fs ++ standing topo gs
  both_stand fs gs lower within =
      ap (λ es. (changed_by (blank topo) es).fragments) (map-append add fs gs) ∙ ap (λ (d : InputData). d.fragments) (changed_more (blank topo) (adds fs) (adds gs))
      ∙ stand_after (standing topo fs) (inputs_after topo (adds fs)) (blank topo) gs (inputs_topo topo (adds fs) (inputs_after topo (adds fs)) refl) refl (sym (append-nil (standing topo fs))) lower within
