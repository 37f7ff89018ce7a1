-- The captures of what stands: their beats have one place, and their rows are of links of the topology.
use Rattle.std.proofs.Common.{◌≡◌, ℕ, ◌+◌, ◌<◌, ◌==◌, inl, inr, true, List, [], ◌∷◌, Option, Some, None, length, refl, sym, ap, subst, ◌∙◌, arith}
use Rattle.std.specs.Prelude.{filter, map}
use Rattle.std.specs.Option.{option_map_or}
use Rattle.std.specs.List.{All, Contains}
use Rattle.std.specs.List.Sorted.{IsStrictlySortedBy}
use Rattle.std.specs.Str.{bytes_eq}
use Rattle.std.proofs.lemmas.Bool.Decides.{nat_tests}
use Rattle.std.proofs.lemmas.List.{length-map}
use Rattle.std.proofs.lemmas.List.Elements.{All-contains, Contains-append_cases}
use Rattle.std.proofs.lemmas.List.Quantifiers.{position-Some}
use Rattle.tl_topology.specs.Regions.{Area}
use Rattle.tl_topology.specs.Topology.{Topology, number_of_name}
use Rattle.tl_topology.specs.declared.LinkDecl.{LinkDecl}
use Rattle.tl_beats.specs.Watches.{link_of}
use Rattle.tl_beats.specs.declared.Placed.{Placed}
use Rattle.tl_beats.specs.declared.Row.{Row}
use Rattle.tl_beats.specs.declared.watch.Watch.{Watch}
use Rattle.tl_definitions.specs.Captures.{captures_from, captures_of, manager_beats}
use Rattle.tl_definitions.specs.Managers.{declared_links, manager_at}
use Rattle.tl_definitions.specs.Positions.{Recorded, beats_of, beats_of_all, clients_of, position_order}
use Rattle.tl_definitions.specs.Report.{Capture, of_manager, captured, FindsIn, HasOnePlace}
use Rattle.tl_definitions.specs.Tallies.{AreOfOneLink}
use Rattle.tl_definitions.proofs.Lists.{contains_none, contains_cases, mapped_from}
use Rattle.tl_definitions.proofs.PositionLaws.{beats_are_of_fragments}
use Rattle.tl_definitions.proofs.ReportLaws.{stands_in}
use Rattle.tl_definitions.proofs.RisingLaws.{rising_beats_have_one_place}
use Rattle.tl_client_rules.proofs.ClientsLaws.{clients_below}
use Rattle.tl_capture.specs.Present.{IsPresent}
use Rattle.tl_capture.proofs.EntryLemmas.{all_kept}
use Rattle.tl_capture.proofs.LawLemmas.{kept_of, links_are_kept, one_link_is_its_own}
use Rattle.tl_capture.proofs.PresentLemmas.{beats_rise, placed_is_of, ranges_of}
use Rattle.tl_check.specs.Captured.{areas_at, watch_capture, watch_captures, captures_with}

-- The capture of a manager, with its regions and without.
abbrev pub capture_with : Topology → (ℕ → List Area) → List Recorded → ℕ → Capture
capture_with topo regions fs k = of_manager (manager_at topo k (regions k)) (manager_beats topo fs k)

abbrev pub capture_at : Topology → List Recorded → ℕ → Capture
capture_at topo fs k = of_manager (manager_at topo k []) (manager_beats topo fs k)

-- A name that is declared has a number below how many there are.
pub number_below : {X : Type 0} (declared : List (List ℕ × X)) (name : List ℕ) (n : ℕ) → number_of_name declared name ≡ Some n → n < length declared
number_below {X} declared name n h =
    let names : List (List ℕ) = map (λ (p : List ℕ × X). p.0) declared in
    let below : n < length names = (position-Some (bytes_eq name) names n [] h).0 in
    omega (arith, below, length-map declared (λ (p : List ℕ × X). p.0))

-- ---- the beats of one link

-- A beat of a link's list is of the link.
pub link_of_beat : (link : ℕ) (fs : List Recorded) (p : Placed) → Contains (beats_of link fs) p → p.link ≡ link
link_of_beat link fs p h =
    let found = (beats_are_of_fragments link fs p).0 h in
    (placed_is_of found.0.link found.0.number 2 found.0.beats p found.3).0 ∙ found.2

pub of_one_link : (link : ℕ) (fs : List Recorded) → AreOfOneLink (beats_of link fs)
of_one_link link fs p q h g = link_of_beat link fs p h ∙ sym (link_of_beat link fs q g)

pub link_beats_rise : (link : ℕ) (fs : List Recorded) → IsPresent fs → IsStrictlySortedBy position_order (beats_of link fs)
link_beats_rise link fs is = subst (IsStrictlySortedBy position_order) (one_link_is_its_own link fs is) (beats_rise (link ∷ []) fs (ranges_of fs is))

none_rise : IsStrictlySortedBy position_order []
unfolding IsStrictlySortedBy
none_rise = tt

-- ---- one capture

-- What each capture keeps: its beats rise, of each link that it has a beat of it has that link's own list, and these are links of
-- the topology.
pub record IsKept (topo : Topology) (fs : List Recorded) (capture : Capture) : Type 0 where
  pub rises : IsStrictlySortedBy position_order (captured capture)
  pub own : (p : Placed) (link : ℕ) → Contains (captured capture) p → p.link ≡ link → filter (λ r. r.link == link) (captured capture) ≡ beats_of link fs
  pub linked : (p : Placed) → Contains (captured capture) p → p.link < length topo.links

module _ (topo : Topology) (fs : List Recorded) (is : IsPresent fs) where
  -- Beats of links are of these links.
  pub linked_in : (links : List ℕ) (p : Placed) → Contains (beats_of_all links fs) p → Contains links p.link
  linked_in links p h =
      let all : filter (λ (q : Placed). true) (beats_of_all links fs) ≡ beats_of_all links fs = all_kept (λ (q : Placed). true) (beats_of_all links fs) (λ q g. refl) in
      All-contains (λ (q : Placed). Contains links q.link) (beats_of_all links fs) p
      (subst (All (λ (q : Placed). Contains links q.link)) all (kept_of (λ q. true) links fs (ranges_of fs is)).linked) h

  manager_kept : (regions : ℕ → List Area) (k : ℕ) → IsKept topo fs (capture_with topo regions fs k)
  manager_kept regions k =
      let links : List ℕ = clients_of k (declared_links topo) in record {
        rises = beats_rise links fs (ranges_of fs is);
        own = λ p link h linked. links_are_kept links fs link is (subst (Contains links) linked (linked_in links p h));
        linked = λ p h.
            let below : p.link < 0 + length (declared_links topo) = clients_below k 0 (declared_links topo) p.link (linked_in links p h) in
            omega (arith, below, length-map topo.links (λ (p : List ℕ × LinkDecl). p.1));
      }

  -- The beats of a link that may be there.
  maybe_kept : (capture : Capture) (found : Option ℕ) → ((link : ℕ) → found ≡ Some link → link < length topo.links)
      → captured capture ≡ option_map_or (λ link. beats_of link fs) found [] → IsKept topo fs capture
  maybe_kept capture None below same =
      let never = λ (p : Placed) (h : Contains (captured capture) p). contains_none p (subst (λ ps. Contains ps p) same h) in record {
        rises = subst (IsStrictlySortedBy position_order) (sym same) none_rise;
        own = λ p link h linked. absurd (never p h);
        linked = λ p h. absurd (never p h);
      }
  maybe_kept capture (Some link) below same =
      let on = λ (p : Placed) (h : Contains (captured capture) p). link_of_beat link fs p (subst (λ ps. Contains ps p) same h) in record {
        rises = subst (IsStrictlySortedBy position_order) (sym same) (link_beats_rise link fs is);
        own = λ p other h linked.
            let one : link ≡ other = sym (on p h) ∙ linked in
            all_kept (λ (r : Placed). r.link == other) (captured capture) (λ r g. let at : r.link ≡ other = on r g ∙ one in grind (arith, nat_tests))
            ∙ same ∙ ap (λ n. beats_of n fs) one;
        linked = λ p h. subst (λ n. n < length topo.links) (sym (on p h)) (below link refl);
      }

  watch_kept : (e : ℕ × Watch) → IsKept topo fs (watch_capture topo fs e)
  watch_kept e = maybe_kept (watch_capture topo fs e) (number_of_name topo.links (link_of e.1)) (number_below topo.links (link_of e.1)) refl

  -- ---- all captures

  managers_kept : {X : Type 0} (regions : ℕ → List Area) (number : ℕ) (managers : List X) (capture : Capture)
      → Contains (captures_from topo regions fs number managers) capture → IsKept topo fs capture
  managers_kept regions number [] capture h = absurd (contains_none capture h)
  managers_kept regions number (manager ∷ managers) capture h =
      elim (contains_cases (capture_with topo regions fs number) (captures_from topo regions fs (number + 1) managers) capture h) [
        | inl is_first ↦ subst (IsKept topo fs) is_first (manager_kept regions number)
        | inr there ↦ managers_kept regions (number + 1) managers capture there
      ]

  module _ (regions : List (List (ℕ × Area))) (watches : List (ℕ × Watch)) where
    captures_kept : (capture : Capture) → Contains (captures_with topo fs regions watches) capture → IsKept topo fs capture
    captures_kept capture h = elim (Contains-append_cases (captures_of topo (areas_at regions) fs) (watch_captures topo fs watches) capture h) [
      | inl a ↦ managers_kept (areas_at regions) 0 topo.managers capture a
      | inr b ↦ (let found = mapped_from (watch_capture topo fs) watches capture b in subst (IsKept topo fs) found.2 (watch_kept found.0))
    ]

    -- What two captures hold of a link that they share is that link's own list.
    pub one_place : HasOnePlace (captures_with topo fs regions watches)
    one_place =
        rising_beats_have_one_place (captures_with topo fs regions watches)
        (λ capture h. (captures_kept capture h).rises)
        (λ here there p q at_here at_there h g linked.
        (captures_kept here at_here).own p p.link h refl ∙ sym ((captures_kept there at_there).own q p.link g (sym linked)))

    -- A row that is found is of a link of the topology.
    pub row_linked : (row : Row) → FindsIn (captures_with topo fs regions watches) row → row.link < length topo.links
    row_linked row found =
        let stands = stands_in found.0 row found.2 in
        subst (λ n. n < length topo.links) (sym (ap (λ (r : Row). r.link) stands.2)) ((captures_kept found.0 found.1).linked stands.0 stands.1)
