use Rattle.std.proofs.Common.{None, sym, subst}
use Rattle.tl_edits.specs.Inputs.{InputData}
use Rattle.tl_pieces.specs.declared.key.PieceKey.{PieceKey}
use Rattle.tl_pieces.specs.Marks.{pass_of}
use Rattle.tl_board.specs.Spans.{standing}
use Rattle.tl_board.specs.Outside.{StandsInWatch}
use Rattle.tl_board.specs.Watches.{WatchesData, IsOfWatch}
use Rattle.tl_board.proofs.OutsideLemmas.{still_live, current_passes}
use Rattle.tl_board.proofs.PassLemmas.{still_watched}
use Rattle.tl_board.proofs.watches.Watches.hand_in_watch.Goals as goal

pub invariant_of-self : goal.invariant_of-self
invariant_of-self g c =
    let now : InputData = standing c.self.inside.spans in
    let stands : StandsInWatch now c.args.task.now = subst (λ (w : WatchesData). StandsInWatch (standing w.spans) c.args.task.now) (sym c.self.view_is) c.requires.current in
    let passes = current_passes now c.args.task.now (pass_of c.args.stored) stands c.requires.pass in
    still_watched now c.self.inside.pieces c.keep.new.pieces c.self.invariant c.watch_key-key.result (pass_of c.args.stored)
    (subst (λ (k : PieceKey). IsOfWatch now k.owner k.window (pass_of c.args.stored)) (sym c.watch_key-key.ensures) passes) c.keep.ensures

pub invariant_of-self-else-is_wanted : goal.invariant_of-self-else-is_wanted
invariant_of-self-else-is_wanted g c = still_live (standing c.self.inside.spans) c.self.inside.pieces c.set_live.new.self c.self.invariant c.watch_key-key.result None c.set_live.ensures
