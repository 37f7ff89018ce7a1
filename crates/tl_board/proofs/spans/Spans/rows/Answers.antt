use Rattle.std.proofs.Common.{◌≡◌, List, sym, ap, subst, ◌∙◌}
use Rattle.tl_definitions.specs.Captures.{captures_of}
use Rattle.tl_edits.specs.Inputs.{InputData}
use Rattle.tl_check.specs.Captured.{areas_at}
use Rattle.tl_check.specs.Found.{AreFound}
use Rattle.tl_capture.specs.Present.{IsPresent}
use Rattle.tl_pieces.specs.Pieces.{Board, IsSettled}
use Rattle.tl_beats.specs.declared.Row.{Row}
use Rattle.tl_check.specs.States.{SameSpan}
use Rattle.tl_check.specs.declared.state.SpanState.{SpanState}
use Rattle.tl_board.specs.Rows.{all_rows}
use Rattle.tl_board.specs.Spans.{SpansData, standing}
use Rattle.tl_board.proofs.FoundLemmas.{all_found}
use Rattle.tl_board.proofs.spans.Spans.rows.Goals as goal

pub returns-clause-found : goal.returns-clause-found
returns-clause-found c =
    let inside : SpansData = record { log = c.self.inside.log; board = c.self.inside.pieces } in
    let now : InputData = standing inside in
    let now_is : inside ≡ c.args.self.now = c.self.view_is in
    let same_topo : now.topo ≡ inside.log.topo = subst (λ (s : SpansData). (standing s).topo ≡ s.log.topo) (sym now_is) c.present.ensures.topo in
    let present : IsPresent now.fragments = subst (λ (s : SpansData). IsPresent (standing s).fragments) (sym now_is) c.present.ensures.kept in
    let found = all_found now inside.log.topo same_topo inside.board c.self.invariant.managers c.self.invariant.covered c.known.ensures.board present (c.known.ensures.chains (subst (λ (s : SpansData). IsSettled SameSpan s.board) (sym c.self.view_is) c.requires)) in
    subst (λ (s : SpansData). AreFound (captures_of s.log.topo (areas_at (standing s).regions) (standing s).fragments) c.in_ok-rows.rows.items) c.self.view_is
    (subst (AreFound (captures_of inside.log.topo (areas_at now.regions) now.fragments)) (sym (c.in_ok-rows.ensures ∙ ap (λ (b : Board SpanState (List Row)). all_rows b.pieces) c.known.ensures.same)) found)
