use Rattle.std.proofs.Common.{subst}
use Rattle.tl_pieces.specs.Pieces.{IsNextFree}
use Rattle.tl_board.specs.Spans.{standing}
use Rattle.tl_board.specs.Tally.{SameTally}
use Rattle.tl_board.proofs.OutsideLemmas.{key_there, key_attached}
use Rattle.tl_board.proofs.watches.Watches.next_free_watch.Goals as goal

pub returns-clause-next : goal.returns-clause-next
returns-clause-next c = subst (λ b. IsNextFree SameTally b c.args.from c.next_free.result) c.pieces.ensures.exact c.next_free.ensures

pub returns-clause-there : goal.returns-clause-there
returns-clause-there c = key_there c.args.self.now.board _ c.next_free.result (returns-clause-next c)

pub returns-clause-attached : goal.returns-clause-attached
returns-clause-attached c = key_attached (standing c.args.self.now.spans) c.args.self.now.board c.pieces.ensures.kept c.pieces.ensures.board _ c.next_free.result (returns-clause-next c)
