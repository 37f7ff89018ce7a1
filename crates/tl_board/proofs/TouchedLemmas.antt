-- What an edit touches, as it is found.
use Rattle.std.proofs.Common.{◌≡◌, ℕ, ◌⊎◌, inl, inr, List, [], ◌∷◌, ◌++◌, Some, None, sym, ap, subst, ◌∙◌, ◌+◌, ◌<◌, length}
use Rattle.std.specs.Prelude.{◌↔◌, slice_get}
use Rattle.std.specs.Option.{option_map}
use Rattle.std.specs.List.{Contains}
use Rattle.std.proofs.lemmas.List.Elements.{Contains-append_left, Contains-append_right, Contains-append_cases}
use Rattle.std.proofs.lemmas.Option.{slice_get-map}
use Rattle.tl_topology.specs.Topology.{Topology, number_of_name}
use Rattle.tl_topology.specs.declared.LinkDecl.{LinkDecl}
use Rattle.tl_beats.specs.Fragments.{Frag}
use Rattle.tl_beats.specs.declared.Beat.{Beat}
use Rattle.tl_beats.specs.declared.Placed.{Placed}
use Rattle.tl_definitions.specs.Managers.{declared_links}
use Rattle.tl_definitions.specs.Positions.{Recorded, placed_from, placed_beats, beats_of, beats_of_all, clients_of}
use Rattle.tl_definitions.proofs.Lists.{contains_none, contains_here, contains_there, contains_cases}
use Rattle.tl_capture.specs.Present.{IsPresent, recorded, numbered}
use Rattle.tl_capture.specs.Windows.{window_of, HasBeat, AreWindows}
use Rattle.tl_capture.proofs.LawLemmas.{one_link_is_its_own}
use Rattle.tl_board.specs.Touch.{OnLink, StandsIn}
use Rattle.tl_board.specs.Touched.{IsLinkOf}
use Rattle.tl_client_rules.proofs.DeclaredLaws.{declared_is_client, client_is_declared}

-- Of which link and number the beats are, and where they are written, tells nothing of windows.
moved : (link number line other name place : ℕ) (beats : List Beat) (window : ℕ) → HasBeat (placed_from link number line beats) window → HasBeat (placed_from other name place beats) window
moved link number line other name place [] window h = absurd (contains_none h.0 h.1)
moved link number line other name place (b ∷ beats) window h =
    let here : Placed = record { link = link; fragment = number; line = line; beat = b } in
    let there : Placed = record { link = other; fragment = name; line = place; beat = b } in
    elim (contains_cases here (placed_from link number (line + 1) beats) h.0 h.1) [
      | inl is ↦ (there, contains_here there (placed_from other name (place + 1) beats), ap (λ (p : Placed). window_of p.beat.cycle) is ∙ h.2)
      | inr later ↦ (let found = moved link number (line + 1) other name (place + 1) beats window (h.0, later, h.2) in
          (found.0, contains_there there (placed_from other name (place + 1) beats) found.0 found.1, found.2))
    ]

-- The windows of a fragment on whatever link.
pub own_windows : (f : Frag) (windows : List ℕ) → AreWindows (placed_beats (recorded 0 f)) windows → (link window : ℕ) → Contains windows window ↔ HasBeat (placed_beats (recorded link f)) window
own_windows f windows are link window = (
  (λ h. moved 0 f.number 2 link f.number 2 f.beats window ((are.members window).0 h)),
  (λ h. (are.members window).1 (moved link f.number 2 0 f.number 2 f.beats window h)),
)

-- The windows of the fragment that stands on a link under a number.
pub standing_windows : (fs : List Recorded) (link number : ℕ) (f : Frag) (windows : List ℕ) → numbered link number fs ≡ Some (recorded link f) → AreWindows (placed_beats (recorded 0 f)) windows
    → (window : ℕ) → Contains windows window ↔ StandsIn fs number window link
standing_windows fs link number f windows at are window = (
  (λ h. (recorded link f, at, (own_windows f windows are link window).0 h)),
  (λ h. let same : recorded link f ≡ h.0 = (let both : Some (recorded link f) ≡ Some h.0 = sym at ∙ h.1 in cc) in
      (own_windows f windows are link window).1 (subst (λ g. HasBeat (placed_beats g) window) (sym same) h.2)),
)

-- Those of a fragment and of the one in whose place it comes.
pub both_windows : (fs : List Recorded) (link : ℕ) (f : Frag) (old : Frag) (windows before all : List ℕ) → AreWindows (placed_beats (recorded 0 f)) windows → numbered link f.number fs ≡ Some (recorded link old)
    → AreWindows (placed_beats (recorded 0 old)) before → all ≡ windows ++ before → (window : ℕ) → Contains all window ↔ (HasBeat (placed_beats (recorded link f)) window ⊎ StandsIn fs f.number window link)
both_windows fs link f old windows before all are at were is window = (
  (λ h. elim (Contains-append_cases windows before window (subst (λ ws. Contains ws window) is h)) [
    | inl a ↦ inl ((own_windows f windows are link window).0 a)
    | inr b ↦ inr ((standing_windows fs link f.number old before at were window).0 b)
  ]),
  (λ h. subst (λ ws. Contains ws window) (sym is) (elim h [
    | inl a ↦ Contains-append_left windows before window ((own_windows f windows are link window).1 a)
    | inr b ↦ Contains-append_right windows before window ((standing_windows fs link f.number old before at were window).1 b)
  ])),
)

pub new_windows : (fs : List Recorded) (link : ℕ) (f : Frag) (windows : List ℕ) → AreWindows (placed_beats (recorded 0 f)) windows → numbered link f.number fs ≡ None
    → (window : ℕ) → Contains windows window ↔ (HasBeat (placed_beats (recorded link f)) window ⊎ StandsIn fs f.number window link)
new_windows fs link f windows are none window = (
  (λ h. inl ((own_windows f windows are link window).0 h)),
  (λ h. elim h [
    | inl a ↦ (own_windows f windows are link window).1 a
    | inr b ↦ absurd (let both : None ≡ Some b.0 = sym none ∙ b.1 in cc)
  ]),
)

pub link_windows : (fs : List Recorded) (link : ℕ) (links windows : List ℕ) → IsPresent fs → links ≡ link ∷ [] → AreWindows (beats_of_all links fs) windows
    → (window : ℕ) → Contains windows window ↔ HasBeat (beats_of link fs) window
link_windows fs link links windows is one are window =
    let same : beats_of_all links fs ≡ beats_of link fs = ap (λ ls. beats_of_all ls fs) one ∙ one_link_is_its_own link fs is in (
      (λ h. subst (λ ps. HasBeat ps window) same ((are.members window).0 h)),
      (λ h. (are.members window).1 (subst (λ ps. HasBeat ps window) (sym same) h)),
    )

-- Where a link's windows are those of which Q is true, they are the windows of its manager in which Q is true of the link with its name.
pub on_link_exact : (topo : Topology) (name : List ℕ) (link manager : ℕ) → IsLinkOf topo name link manager → (Q : ℕ → ℕ → Type 0) (windows : List ℕ) → ((window : ℕ) → Contains windows window ↔ Q link window)
    → (number window : ℕ) → OnLink topo number name (λ l. Q l window) ↔ ((number ≡ manager) × Contains windows window)
on_link_exact topo name link manager is Q windows own number window = (
  (λ h. let same : h.0 ≡ link = (let both : Some h.0 ≡ Some link = sym h.1 ∙ is.named in cc) in
      ((is.client number).0 (subst (Contains (clients_of number (declared_links topo))) same h.2), (own window).1 (subst (λ l. Q l window) same h.3))),
  (λ h. (link, is.named, (is.client number).1 h.0, (own window).0 h.1)),
)

pub is_link_of : (topo : Topology) (name : List ℕ) (link : ℕ) (decl : LinkDecl) → number_of_name topo.links name ≡ Some link → option_map (λ p. p.1) (slice_get topo.links link) ≡ Some decl → decl.manager < length topo.managers → IsLinkOf topo name link decl.manager
is_link_of topo name link decl named found manages =
    let at : slice_get (declared_links topo) link ≡ Some decl = slice_get-map (λ p. p.1) topo.links link ∙ found in
    record {
      named = named;
      manages = manages;
      client = λ number. (
        (λ h. let known = client_is_declared number link (declared_links topo) h in
            let same : known.0 ≡ decl = (let both : Some known.0 ≡ Some decl = sym known.1 ∙ at in cc) in
            sym known.2 ∙ ap (λ (d : LinkDecl). d.manager) same),
        (λ h. declared_is_client number link (declared_links topo) decl at (sym h)),
      );
    }
