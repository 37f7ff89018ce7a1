-- The first faulty line of a text that begins with no topology, and the first cause in that line.
use Rattle.std.specs.Prelude.{◌≡◌, ℕ, ◌+◌, List, [], ◌∷◌, ◌++◌, length, map, codes, Option, Some, None, if◌then◌else◌}
use Rattle.tl_topology.specs.declared.reading.Version.{Version}
use Rattle.tl_topology.specs.declared.fault.TopoFault.{TopoFault}
use Rattle.tl_topology.specs.declared.fault.TopoFault.TheVariants as fault
use Rattle.tl_topology.specs.Topology.{Topology}
use Rattle.tl_topology.specs.Text.{Declaration, Document, version_text, declaration_text, IsSpelled}
use Rattle.tl_topology.specs.Declarations.{Rule, rules_of, IsDeclaredInOrder, topology_of}

-- the fault of the first rule that is broken, at a line
abbrev pub first_broken : List Rule → ℕ → Option TopoFault
first_broken [] line = None
first_broken (rule ∷ rules) line = if rule.0 then first_broken rules line else Some (rule.1 line)

-- The line `here` stands after the declarations of a topology and before other lines, and is neither `end` nor a lawful
-- declaration: it isn't ended by a newline, or spells nothing, or what it spells breaks a rule.
pub data IsFaultAt (version : Version) (topo : Topology) (number : ℕ) (here : List ℕ) (behind : List (List ℕ)) (found : TopoFault) : Type 0 where
  not_ended : behind ≡ [] → found ≡ fault.BadLine number → IsFaultAt version topo number here behind found
  spells_nothing : ¬ (here ≡ codes "end") → ((declaration : Declaration) → IsSpelled version declaration → ¬ (here ≡ declaration_text declaration))
      → found ≡ fault.BadLine number → IsFaultAt version topo number here behind found
  breaks_a_rule : ¬ (behind ≡ []) → (declaration : Declaration) → IsSpelled version declaration → here ≡ declaration_text declaration
      → first_broken (rules_of topo declaration) number ≡ Some found → IsFaultAt version topo number here behind found

-- The first line isn't `topo 1` or `topo 2` with a newline, or the fault is that of the line after such a line and lawful
-- declarations.
pub data IsFirstFault (lines : List (List ℕ)) (found : TopoFault) : Type 0 where
  at_first : ((version : Version) (next : List ℕ) (behind : List (List ℕ)) → ¬ (lines ≡ version_text version ∷ next ∷ behind)) → found ≡ fault.BadLine 1
      → IsFirstFault lines found
  behind_declarations : (document : Document) (here : List ℕ) (behind : List (List ℕ)) → IsDeclaredInOrder document
      → lines ≡ version_text document.version ∷ (map declaration_text document.declarations ++ here ∷ behind)
      → IsFaultAt document.version (topology_of document.declarations) (length document.declarations + 2) here behind found → IsFirstFault lines found
