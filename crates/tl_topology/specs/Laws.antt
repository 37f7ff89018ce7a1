-- What the texts of topologies keep among themselves.
use Rattle.std.specs.Prelude.{◌≡◌, ℕ, ◌⊎◌, ◌↔◌, false, List, [], ◌++◌}
use Rattle.std.specs.List.{All}
use Rattle.tl_text.specs.Words.{lines_of}
use Rattle.tl_topology.specs.declared.reading.Version.TheVariants as version
use Rattle.tl_topology.specs.declared.fault.TopoFault.{TopoFault}
use Rattle.tl_topology.specs.Text.{Declaration, Document, topology_text}
use Rattle.tl_topology.specs.Declarations.{IsDeclaredInOrder, topology_of}
use Rattle.tl_topology.specs.FirstFault.{IsFirstFault}

-- Two documents with one text are equal, in version and declarations, and so are their topologies.
abbrev pub OneTextOneTopology : Type 0
OneTextOneTopology = (a b : Document) → IsDeclaredInOrder a → IsDeclaredInOrder b → topology_text a ≡ topology_text b
    → (a ≡ b) × (topology_of a.declarations ≡ topology_of b.declarations)

-- A text that begins with another is that other.
abbrev pub NoTextBeginsAnother : Type 0
NoTextBeginsAnother = (a b : Document) (rest : List ℕ) → IsDeclaredInOrder a → IsDeclaredInOrder b → topology_text b ≡ topology_text a ++ rest → rest ≡ []

-- A text has at most one first fault.
abbrev pub OneFirstFault : Type 0
OneFirstFault = (bytes : List ℕ) (a b : TopoFault) → IsFirstFault (lines_of bytes) a → IsFirstFault (lines_of bytes) b → a ≡ b

-- the text of lawful declarations stands at the front
abbrev pub BeginsWithTopology : List ℕ → Type 0
BeginsWithTopology bytes = (document : Document) × (rest : List ℕ) × (IsDeclaredInOrder document × (bytes ≡ topology_text document ++ rest))

-- It has one exactly where it begins with no topology.
abbrev pub FaultOrTopology : Type 0
FaultOrTopology = (bytes : List ℕ) → (BeginsWithTopology bytes ⊎ ((found : TopoFault) × IsFirstFault (lines_of bytes) found))
    × (BeginsWithTopology bytes → (found : TopoFault) → IsFirstFault (lines_of bytes) found → ⊥)

-- Version 2 adds strict links: declarations are lawful in version 1 exactly where they are lawful in version 2 and make no
-- strict link.
abbrev pub VersionTwoAddsStrictLinks : Type 0
VersionTwoAddsStrictLinks = (declarations : List Declaration) → IsDeclaredInOrder (record { version = version.One; declarations = declarations })
    ↔ (IsDeclaredInOrder (record { version = version.Two; declarations = declarations }) × All (λ p. p.1.strict ≡ false) (topology_of declarations).links)
