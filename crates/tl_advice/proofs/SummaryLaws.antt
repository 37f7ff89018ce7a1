-- What a text of summaries is.
use Rattle.std.proofs.Common.{◌≡◌, ℕ, List, [], ◌∷◌, Result, Ok, Err}
use Rattle.std.specs.Prelude.{IfOk, String, string_bytes}
use Rattle.tl_topology.specs.Topology.{Topology}
use Rattle.tl_beats.specs.declared.Row.{Row}
use Rattle.tl_definitions.specs.Positions.{Recorded}
use Rattle.tl_tables.specs.Rules.{all_rules}
use Rattle.tl_check.specs.Output.{ReportData}
use Rattle.tl_rows.specs.Words.{joined}
use Rattle.tl_advice.specs.declared.tallies.Tally.{Tally}
use Rattle.tl_advice.specs.declared.links.LinkCount.{LinkCount}
use Rattle.tl_advice.specs.LinkCounts.{AreCounted}
use Rattle.tl_advice.specs.Tallies.{AreTallied}
use Rattle.tl_advice.specs.Summaries.{body_of, heading, report_line_of, IsBody, IsSummary, IsReported}

module _ {Z E : Type 0} (made : Result (String Z) E) (topo : Topology) (fragments : List Recorded) where
  pub body_made : (rows : List Row) (counts : List LinkCount) (tallies : List Tally) → AreCounted topo fragments counts → AreTallied topo all_rules rows tallies
      → IfOk made (λ text. string_bytes text ≡ body_of counts tallies) → IfOk made (λ text. IsBody topo fragments rows (string_bytes text))
  unfolding IsBody
  body_made rows counts tallies counted tallied is = elim made as (λ r. IfOk r (λ text. string_bytes text ≡ body_of counts tallies) → IfOk r (λ text. IsBody topo fragments rows (string_bytes text))) [
    | Ok text ↦ λ e. (counts, tallies, counted, tallied, e)
    | Err fault ↦ λ e. tt
  ] is

  pub summary_made : (rows : List Row) (body : List ℕ) → IsBody topo fragments rows body → IfOk made (λ text. string_bytes text ≡ joined (heading ∷ body ∷ []))
      → IfOk made (λ text. IsSummary topo fragments rows (string_bytes text))
  summary_made rows body own is = elim made as (λ r. IfOk r (λ text. string_bytes text ≡ joined (heading ∷ body ∷ [])) → IfOk r (λ text. IsSummary topo fragments rows (string_bytes text))) [
    | Ok text ↦ λ e. (body, own, e)
    | Err fault ↦ λ e. tt
  ] is

  pub report_made : (report : ReportData) (last body : List ℕ) → IsBody topo fragments report.rows body → IfOk made (λ text. string_bytes text ≡ joined (heading ∷ report_line_of report ∷ body ∷ last ∷ []))
      → IfOk made (λ text. IsReported topo fragments report last (string_bytes text))
  report_made report last body own is =
      elim made as (λ r. IfOk r (λ text. string_bytes text ≡ joined (heading ∷ report_line_of report ∷ body ∷ last ∷ [])) → IfOk r (λ text. IsReported topo fragments report last (string_bytes text))) [
        | Ok text ↦ λ e. (body, own, e)
        | Err fault ↦ λ e. tt
      ] is
