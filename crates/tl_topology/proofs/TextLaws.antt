-- What the texts of topologies keep among themselves.
use Rattle.std.proofs.Common.{◌≡◌, ℕ, false, List, [], ◌++◌, Result, Ok, Err, refl, sym, ap, ◌∙◌, inl, inr}
use Rattle.std.specs.Prelude.{◌⊎◌}
use Rattle.std.proofs.lemmas.List.{append-nil}
use Rattle.std.proofs.lemmas.List.Elements.{All-from_recursion, recursion_from_All}
use Rattle.tl_text.specs.Words.{lines_of}
use Rattle.tl_topology.specs.declared.LinkDecl.{LinkDecl}
use Rattle.tl_topology.specs.declared.fault.TopoFault.{TopoFault}
use Rattle.tl_topology.specs.Topology.{Topology}
use Rattle.tl_topology.specs.Reading.{topology_in}
use Rattle.tl_topology.specs.Text.{Document, topology_text}
use Rattle.tl_topology.specs.Declarations.{nothing, with_all, topology_of}
use Rattle.tl_topology.specs.FirstFault.{IsFirstFault}
use Rattle.tl_topology.specs.Laws.{OneTextOneTopology, NoTextBeginsAnother, OneFirstFault, BeginsWithTopology, FaultOrTopology, VersionTwoAddsStrictLinks}
use Rattle.tl_topology.proofs.TopologyLaws.{lawful_whole, lawful_in_two, lawful_in_one, none_strict, one_front, one_fault, in_fails, bytes_taken, no_both}

pub one_text_one_topology : OneTextOneTopology
one_text_one_topology a b first second e =
    let both = one_front a b [] [] (lawful_whole a first) (lawful_whole b second) (ap (λ (l : List ℕ). l ++ []) e) in
    (both.0, ap (λ (d : Document). topology_of d.declarations) both.0)

pub no_text_begins_another : NoTextBeginsAnother
no_text_begins_another a b rest first second e =
    (one_front a b rest [] (lawful_whole a first) (lawful_whole b second) (sym e ∙ sym (append-nil (topology_text b)))).1

pub one_first_fault : OneFirstFault
one_first_fault bytes a b first second = one_fault (lines_of bytes) a b first second

begins_or_fails : (bytes : List ℕ) (read : Result (Topology × List (List ℕ)) TopoFault) → topology_in (lines_of bytes) ≡ read → BeginsWithTopology bytes ⊎ ((found : TopoFault) × IsFirstFault (lines_of bytes) found)
begins_or_fails bytes (Ok (topo, rest)) e = inl (bytes_taken bytes topo rest e)
begins_or_fails bytes (Err found) e = inr (found, in_fails (lines_of bytes) found e)

pub fault_or_topology : FaultOrTopology
fault_or_topology bytes =
    (begins_or_fails bytes (topology_in (lines_of bytes)) refl, λ begins found faulty. no_both bytes begins.1 begins.0 found begins.2.0 begins.2.1 faulty)

pub version_two_adds_strict_links : VersionTwoAddsStrictLinks
unfolding topology_of
version_two_adds_strict_links ds =
    let P : List ℕ × LinkDecl → Type 0 = λ p. p.1.strict ≡ false in (
      λ lawful. (lawful_in_two nothing ds lawful, All-from_recursion P (with_all nothing ds).links (none_strict nothing ds lawful tt)),
      λ both. lawful_in_one nothing ds both.0 (recursion_from_All P (with_all nothing ds).links both.1),
    )
