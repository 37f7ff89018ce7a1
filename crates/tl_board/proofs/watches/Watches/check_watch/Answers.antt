use Rattle.std.proofs.Common.{sym, subst}
use Rattle.tl_pieces.specs.Marks.{pass_of}
use Rattle.tl_board.specs.Spans.{standing}
use Rattle.tl_board.specs.Watches.{WatchesData, IsOfWatch}
use Rattle.tl_board.proofs.PassLemmas.{still_watched}
use Rattle.tl_board.proofs.watches.Watches.check_watch.Goals as goal

pub invariant_of-self : goal.invariant_of-self
invariant_of-self g c =
    still_watched (standing c.self.inside.spans) c.self.inside.pieces c.keep.new.pieces c.self.invariant c.args.key (pass_of c.in_ok-stored.stored)
    (subst (λ (w : WatchesData). IsOfWatch (standing w.spans) c.args.key.owner c.args.key.window (pass_of c.in_ok-stored.stored)) (sym c.self.view_is) c.in_ok-stored.ensures.of_window) c.keep.ensures
