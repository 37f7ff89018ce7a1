-- The beats of a manager that are in lead-ins are those of its links.
use Rattle.std.proofs.Common.{◌≡◌, ℕ, ◌+◌, List, [], ◌∷◌, sym, ap, refl, ◌∙◌, arith}
use Rattle.std.specs.Prelude.{reverse}
use Rattle.std.specs.List.{Contains}
use Rattle.tl_topology.specs.Regions.{Area}
use Rattle.tl_topology.specs.Topology.{Topology}
use Rattle.tl_topology.specs.declared.LinkDecl.{LinkDecl}
use Rattle.tl_beats.specs.declared.Placed.{Placed}
use Rattle.tl_capture.specs.Present.{IsPresent}
use Rattle.tl_check.proofs.CaptureLaws.{linked_in}
use Rattle.tl_client_rules.proofs.ClientsLaws.{clients_rise}
use Rattle.tl_definitions.specs.Captures.{manager_beats}
use Rattle.tl_definitions.specs.Known.{Beginning}
use Rattle.tl_definitions.specs.LinkPasses.{on_link}
use Rattle.tl_definitions.specs.Managers.{declared_links, manager_at}
use Rattle.tl_definitions.specs.OpenTables.{one_if}
use Rattle.tl_definitions.specs.Positions.{Recorded, beats_of_all, clients_of}
use Rattle.tl_definitions.specs.Rules.{Manager}
use Rattle.tl_definitions.proofs.Lists.{onto, onto_reverse, contains_here, contains_there}
use Rattle.tl_midway.specs.Counts.{counted, counted_after}
use Rattle.tl_midway.specs.LeadIns.{leads_in, lead_ins_of}
use Rattle.tl_midway.specs.Midway.{beginning_of}
use Rattle.tl_midway.specs.declared.midway.Midway.{Midway}
use Rattle.tl_midway.proofs.ApartCounts.{by_links, counts_add_up, lead_ins_are_own}
use Rattle.tl_midway.proofs.JudgedLaws.{own_beats}

-- How many beats of a link are in lead-ins, and of these links.
abbrev pub link_lead_ins : Manager → Beginning → List Recorded → ℕ → ℕ
link_lead_ins m start fs link = lead_ins_of m start (reverse (beats_of_all (link ∷ []) fs))

abbrev pub links_lead_ins : Manager → Beginning → List Recorded → List ℕ → ℕ
links_lead_ins m start fs [] = 0
links_lead_ins m start fs (link ∷ links) = link_lead_ins m start fs link + links_lead_ins m start fs links

more : (a b c n : ℕ) → a + b + c ≡ n → a + (b + c) ≡ n
more a b c n is = omega (arith, is)

none_more : (n : ℕ) → n + 0 ≡ n
none_more n = omega arith

counted_onto : (m : Manager) (start : Beginning) (before beats : List Placed) → lead_ins_of m start before + counted_after leads_in m start before beats ≡ lead_ins_of m start (onto before beats)
counted_onto m start before [] = none_more (lead_ins_of m start before)
counted_onto m start before (p ∷ beats) =
    more (lead_ins_of m start before) (one_if (leads_in m start before p)) (counted_after leads_in m start (p ∷ before) beats) (lead_ins_of m start (onto (p ∷ before) beats)) (counted_onto m start (p ∷ before) beats)

none_first : (n k : ℕ) → 0 + n ≡ k → n ≡ k
none_first n k is = omega (arith, is)

pub in_order : (m : Manager) (start : Beginning) (beats : List Placed) → counted_after leads_in m start [] beats ≡ lead_ins_of m start (reverse beats)
in_order m start beats =
    none_first (counted_after leads_in m start [] beats) (lead_ins_of m start (onto [] beats)) (counted_onto m start [] beats) ∙ ap (lead_ins_of m start) (onto_reverse [] beats)

module _ (m : Manager) (start : Beginning) (fs : List Recorded) (beats : List Placed) where
  each_link : (links : List ℕ) → ((link : ℕ) → Contains links link → beats_of_all (link ∷ []) fs ≡ on_link link beats) → by_links leads_in m start links [] beats ≡ links_lead_ins m start fs links
  each_link [] own = refl
  each_link (link ∷ links) own =
      let here : counted_after leads_in m start [] (on_link link beats) ≡ lead_ins_of m start (reverse (beats_of_all (link ∷ []) fs)) =
      in_order m start (on_link link beats) ∙ ap (λ ps. lead_ins_of m start (reverse ps)) (sym (own link (contains_here link links))) in
      let rest : by_links leads_in m start links [] beats ≡ links_lead_ins m start fs links = each_link links (λ k h. own k (contains_there link links k h)) in
      λ i. here i + rest i

abbrev any : LinkDecl → Type 0
any link = Unit {0}

pub manager_lead_ins : (topo : Topology) (areas : List Area) (fs : List Recorded) (manager : ℕ) (law : Midway) → IsPresent fs
    → counted leads_in law (manager_at topo manager areas) (manager_beats topo fs manager)
    ≡ links_lead_ins (manager_at topo manager areas) (beginning_of law (manager_at topo manager areas)) fs (clients_of manager (declared_links topo))
manager_lead_ins topo areas fs manager law is =
    let m : Manager = manager_at topo manager areas in
    let links : List ℕ = clients_of manager (declared_links topo) in
    let beats : List Placed = manager_beats topo fs manager in
    counts_add_up any leads_in m (beginning_of law m) (lead_ins_are_own any m (beginning_of law m)) links [] beats (clients_rise manager (declared_links topo)) (λ p h. (linked_in topo fs is links p h, tt))
    ∙ each_link m (beginning_of law m) fs beats links (λ link has. own_beats links fs link is has)
