use Rattle.tl_board.specs.Spans.{standing}
use Rattle.tl_board.proofs.OutsideLemmas.{still_live}
use Rattle.tl_board.proofs.watches.Watches.set_live_watch.Goals as goal

pub invariant_of-self : goal.invariant_of-self
invariant_of-self c = still_live (standing c.self.inside.spans) c.self.inside.pieces c.set_live.new.self c.self.invariant c.args.key c.args.live c.set_live.ensures
