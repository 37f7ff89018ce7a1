use Rattle.std.proofs.Common.{subst}
use Rattle.tl_pieces.specs.Pieces.{IsBoard}
use Rattle.tl_board.specs.Spans.{SpansData, IsSound}
use Rattle.tl_desk.specs.Core.{Core, IsDesk}
use Rattle.tl_desk.proofs.desk.Desk.log.Goals as goal

pub returns-clause-desk : goal.returns-clause-desk
returns-clause-desk g c =
    let inside : Core = record { windows = c.self.inside.windows; boxes = c.self.inside.boxes; reports = c.self.inside.reports.items; tickets = c.self.inside.tickets } in
    let spans = c.spans-windows.ensures.exact in
    subst IsDesk c.self.view_is (record {
      kept = c.self.invariant;
      managers = subst IsSound spans c.log.ensures.kept;
      monitors = c.spans-windows.ensures.kept;
      manager_keys = subst (λ (s : SpansData). IsBoard s.board) spans c.log.ensures.board;
      monitor_keys = c.spans-windows.ensures.board;
      boxes = c.settlements.ensures.kept;
    })
