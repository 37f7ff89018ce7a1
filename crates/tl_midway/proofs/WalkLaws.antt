-- Walks: one beat more, and all of them.
use Rattle.std.proofs.Common.{◌≡◌, ℕ, ◌+◌, ◌<◌, List, [], ◌∷◌, ◌++◌, length, map, reverse, Some, refl, sym, ap, subst, ◌∙◌, append_assoc, append-nil, arith}
use Rattle.std.specs.List.{Contains}
use Rattle.std.proofs.lemmas.List.{length-map, reverse-append}
use Rattle.tl_topology.specs.Regions.{Area}
use Rattle.tl_topology.specs.Topology.{Topology}
use Rattle.tl_topology.specs.declared.LinkDecl.{LinkDecl}
use Rattle.tl_beats.specs.declared.Placed.{Placed}
use Rattle.tl_beats.specs.declared.Row.{Row}
use Rattle.tl_definitions.specs.Breaks.{row_of}
use Rattle.tl_definitions.specs.Managers.{declared_links, manager_at}
use Rattle.tl_definitions.specs.Positions.{links_of, clients_of}
use Rattle.tl_definitions.specs.Rules.{Manager}
use Rattle.tl_definitions.specs.Known.{Beginning}
use Rattle.tl_definitions.specs.Printed.{printed_rules, printed_after}
use Rattle.tl_definitions.proofs.MidwayLaws.{any_past_has_printed_rows, pasts_of_whole_messages_have_printed_rows}
use Rattle.tl_definitions.proofs.Lists.{onto}
use Rattle.tl_definitions.proofs.ToldLaws.{told_rows_are_certain}
use Rattle.tl_client_rules.specs.Clients.{place_of}
use Rattle.tl_client_rules.proofs.ClientsLaws.{contained_place, clients_below}
use Rattle.tl_midway.specs.ManagerReadings as manager_readings
use Rattle.tl_midway.specs.KnownPasts as known_pasts
use Rattle.tl_midway.specs.ManagerReadings.{HasPlace}
use Rattle.tl_midway.specs.State.{StandsFor, Serves, HasLink, IsKnown, IsOf}
use Rattle.tl_midway.specs.Walked.{rows_by, AreCertain, GoesOn}
use Rattle.tl_midway.specs.declared.midway.Midway.{Midway}
use Rattle.tl_midway.specs.declared.midway.Midway.TheVariants as midway
use Rattle.tl_midway.specs.declared.state.MidwayState.{MidwayState}

pub printed_both : (m : Manager) (start : Beginning) (before xs ys : List Placed) → printed_after m start before (xs ++ ys) ≡ printed_after m start before xs ++ printed_after m start (onto before xs) ys
printed_both m start before [] ys = refl
printed_both m start before (p ∷ xs) ys =
    ap (λ rows. map (row_of p) (printed_rules m start before p) ++ rows) (printed_both m start (p ∷ before) xs ys)
    ∙ sym (append_assoc (map (row_of p) (printed_rules m start before p)) (printed_after m start (p ∷ before) xs) (printed_after m start (onto (p ∷ before) xs) ys))

-- The state stands for these beats and those so far, and the rows so far with those of the beats that are left are all.
pub record IsOn (m : Manager) (start : Beginning) (state : MidwayState) (rows : List Row) (rest before all : List Placed) : Type 0 where
  pub now : List Placed
  pub stands : StandsFor m start state (reverse now)
  pub found : rows ++ printed_after m start (reverse now) rest ≡ printed_after m start (reverse before) all
  pub beats : now ++ rest ≡ before ++ all

-- So it is after whatever beats the state stood for.
abbrev pub AreOn : Manager → MidwayState → MidwayState → List Row → List Placed → List Placed → Type 0
AreOn m entry state rows rest all = (start : Beginning) (before : List Placed) → StandsFor m start entry (reverse before) → IsOn m start state rows rest before all

pub begun : (m : Manager) (state : MidwayState) (rows : List Row) (rest all : List Placed) → rows ≡ [] → rest ≡ all → AreOn m state state rows rest all
begun m state rows rest all none is start before stands = record {
  now = before;
  stands = stands;
  found = ap (λ (rs : List Row). rs ++ printed_after m start (reverse before) rest) none ∙ ap (printed_after m start (reverse before)) is;
  beats = ap (λ ps. before ++ ps) is;
}

pub reversed : (ps : List Placed) (p : Placed) → p ∷ reverse ps ≡ reverse (ps ++ p ∷ [])
reversed ps p = sym (reverse-append ps (p ∷ []))

pub one_more : (m : Manager) (entry old new : MidwayState) (rows more : List Row) (p : Placed) (now rest all : List Placed) → now ≡ p ∷ rest
    → ((start : Beginning) (before : List Placed) → StandsFor m start old before → more ≡ rows ++ map (row_of p) (printed_rules m start before p))
    → ((start : Beginning) (before : List Placed) → StandsFor m start old before → StandsFor m start new (p ∷ before)) → AreOn m entry old rows now all → AreOn m entry new more rest all
one_more m entry old new rows more p now rest all steps put next on start before stands =
    let was = on start before stands in
    let own : List Row = map (row_of p) (printed_rules m start (reverse was.now) p) in
    record {
      now = was.now ++ p ∷ [];
      stands = subst (StandsFor m start new) (reversed was.now p) (next start (reverse was.now) was.stands);
      found = ap (λ ps. more ++ printed_after m start ps rest) (sym (reversed was.now p)) ∙ ap (λ (rs : List Row). rs ++ printed_after m start (p ∷ reverse was.now) rest) (put start (reverse was.now) was.stands)
          ∙ append_assoc rows own (printed_after m start (p ∷ reverse was.now) rest)
          ∙ sym (ap (λ ps. rows ++ printed_after m start (reverse was.now) ps) steps) ∙ was.found;
      beats = append_assoc was.now (p ∷ []) rest ∙ sym (ap (λ ps. was.now ++ ps) steps) ∙ was.beats;
    }

pub done : (m : Manager) (entry state : MidwayState) (rows : List Row) (now all : List Placed) → now ≡ [] → IsOf m state → AreOn m entry state rows now all → GoesOn m entry all state rows
done m entry state rows now all none is on = record {
  is_of = is;
  goes = λ start before stands.
      let was = on start before stands in
      let same : was.now ≡ before ++ all = sym (append-nil was.now) ∙ sym (ap (λ ps. was.now ++ ps) none) ∙ was.beats in (
        subst (λ ps. StandsFor m start state (reverse ps)) same was.stands,
        sym (append-nil rows) ∙ ap (λ ps. rows ++ printed_after m start (reverse was.now) ps) (sym none) ∙ was.found,
      );
}

pub still_of : (m : Manager) (old new : MidwayState) (p : Placed) → IsKnown new
    → ((start : Beginning) (before : List Placed) → StandsFor m start old before → StandsFor m start new (p ∷ before)) → IsOf m old → IsOf m new
still_of m old new p known next is = record { known = known; start = is.start; before = p ∷ is.before; stands = next is.start is.before is.stands }

-- The law of the rows, by how the capture begins.
rows_certain : (law : Midway) (m : Manager) (beats : List Placed) → AreCertain law m beats (rows_by law m beats)
rows_certain midway.Any m beats = λ past lawful row h. any_past_has_printed_rows m past beats lawful row h
rows_certain midway.Bursts m beats = λ past lawful. told_rows_are_certain m past beats lawful
rows_certain midway.Heads m beats = λ past lawful most row h. pasts_of_whole_messages_have_printed_rows m past beats lawful most row h

pub are_certain : (law : Midway) (m : Manager) (beats : List Placed) (rows : List Row) → rows ≡ rows_by law m beats → AreCertain law m beats rows
are_certain law m beats rows is = subst (AreCertain law m beats) (sym is) (rows_certain law m beats)

-- ---- links of the manager

placed : (m : Manager) (numbers : List ℕ) (link : ℕ) → numbers ≡ m.clients → (place : ℕ) × (place_of link m.clients ≡ Some place) × (place < length m.clients) → HasPlace numbers link
placed m numbers link are found = subst (λ ns. HasPlace ns link) (sym are) found

pub has_link : (m : Manager) (start : Beginning) (state : MidwayState) (link : ℕ) (before : List Placed) → StandsFor m start state before → Contains m.clients link → HasLink state link
has_link m start state link before stands has =
    let found = contained_place m.clients link stands.readings.rises has in
    record {
      readings = placed m (manager_readings.numbers_of state.readings) link stands.readings.clients found;
      pasts = placed m (known_pasts.numbers_of state.pasts) link stands.pasts.clients found;
    }

pub below : (topo : Topology) (manager link : ℕ) → Contains (clients_of manager (declared_links topo)) link → link < length topo.links
below topo manager link has =
    let less : link < 0 + length (declared_links topo) = clients_below manager 0 (declared_links topo) link has in
    omega (arith, less, length-map topo.links (λ (p : List ℕ × LinkDecl). p.1))

pub serves : (topo : Topology) (manager link : ℕ) (decl : LinkDecl) (areas : List Area) → decl ≡ links_of (declared_links topo) link → Serves (manager_at topo manager areas) link decl areas
serves topo manager link decl areas is = record { declared = sym is; regions = refl }
