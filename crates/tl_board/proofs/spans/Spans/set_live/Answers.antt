use Rattle.tl_board.proofs.TicketLemmas.{live_sound}
use Rattle.tl_board.proofs.spans.Spans.set_live.Goals as goal

pub invariant_of-self : goal.invariant_of-self
invariant_of-self c = live_sound (record { log = c.self.inside.log; board = c.self.inside.pieces }) c.self.invariant c.args.key c.args.live c.set_live.new.self c.set_live.ensures
