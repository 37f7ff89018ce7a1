-- One writer or many readers: what the rules on bounds secure for each block. [TileLink 1.8: coherence]
use Rattle.std.specs.Prelude.{◌≡◌, ℕ, ◌==◌, Bool, true, false, List, [], ◌++◌, filter, reverse}
use Rattle.std.specs.List.{list_any, Contains}
use Rattle.tl_tables.specs.declared.Perm.TheVariants as perm
use Rattle.tl_tables.specs.declared.Rule.{Rule}
use Rattle.tl_tables.specs.declared.Rule.TheVariants as rule
use Rattle.tl_beats.specs.declared.Placed.{Placed}
use Rattle.tl_beats.specs.declared.Row.{Row}
use Rattle.tl_definitions.specs.Past.{pasts_of}
use Rattle.tl_definitions.specs.Rules.{Manager}
use Rattle.tl_definitions.specs.Breaks.{rows_in}
use Rattle.tl_definitions.specs.Report.{Capture, of_manager, IsReport}

-- The rules against claiming or granting beyond a bound.
abbrev pub guards_bounds : Rule → Bool
guards_bounds rule.P1 = true
guards_bounds rule.P2 = true
guards_bounds rule.M1 = true
guards_bounds _ = false

abbrev pub is_client : Manager → ℕ → Bool
is_client m link = list_any (λ client. client == link) m.clients

-- While one client may hold a block to write, no other client may hold it at all.
abbrev pub OneWriter : Manager → List Placed → Type 0
OneWriter m before = (writer other block : ℕ) → is_client m writer ≡ true → is_client m other ≡ true → (writer == other) ≡ false
    → (pasts_of m.links m.exponent before writer).client.bound block ≡ perm.Trunk → (pasts_of m.links m.exponent before other).client.bound block ≡ perm.Nothing

abbrev pub exceeds : Row → Bool
exceeds row = guards_bounds row.rule

-- In a capture without a row of P1, P2 or M1, each block has one writer or many readers at every position.
abbrev pub GuardedCapturesAreCoherent : Type 0
GuardedCapturesAreCoherent = (m : Manager) (beats : List Placed) → filter exceeds (rows_in m beats) ≡ []
    → (earlier later : List Placed) → beats ≡ earlier ++ later → OneWriter m (reverse earlier)

-- So it has wherever the report has no such row, and so where the report is clean.
abbrev pub ReportedCapturesAreCoherent : Type 0
ReportedCapturesAreCoherent = (captures : List Capture) (rows : List Row) → IsReport captures rows → filter exceeds rows ≡ []
    → (m : Manager) (beats : List Placed) → Contains captures (of_manager m beats)
    → (earlier later : List Placed) → beats ≡ earlier ++ later → OneWriter m (reverse earlier)
