use Rattle.std.proofs.Common.{None, sym, subst}
use Rattle.tl_pieces.specs.declared.key.PieceKey.{PieceKey}
use Rattle.tl_pieces.specs.Marks.{pass_of}
use Rattle.tl_board.specs.Spans.{SpansData, standing, IsSpanOf}
use Rattle.tl_board.specs.Tickets.{StandsIn}
use Rattle.tl_board.proofs.CheckLemmas.{still_sound}
use Rattle.tl_board.proofs.TicketLemmas.{live_sound, current_passes}
use Rattle.tl_board.proofs.spans.Spans.hand_in.Goals as goal

pub invariant_of-self : goal.invariant_of-self
invariant_of-self c =
    let inside : SpansData = record { log = c.self.inside.log; board = c.self.inside.pieces } in
    let stands : StandsIn (standing inside) c.args.task.now = subst (λ (s : SpansData). StandsIn (standing s) c.args.task.now) (sym c.self.view_is) c.requires.current in
    let passes = current_passes (standing inside) c.args.task.now (pass_of c.args.stored) stands c.requires.pass in
    still_sound inside c.self.invariant c.window_key-key.result (pass_of c.args.stored)
    (subst (λ (k : PieceKey). IsSpanOf (standing inside) k.owner k.window (pass_of c.args.stored)) (sym c.window_key-key.ensures) passes) c.keep.new.pieces c.keep.ensures

pub invariant_of-self-else-is_wanted : goal.invariant_of-self-else-is_wanted
invariant_of-self-else-is_wanted c = live_sound (record { log = c.self.inside.log; board = c.self.inside.pieces }) c.self.invariant c.window_key-key.result None c.set_live.new.self c.set_live.ensures
