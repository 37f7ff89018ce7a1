use Rattle.std.proofs.Common.{◌∙◌, ap}
use Rattle.std.specs.Prelude.{is_some}
use Rattle.std.specs.BTreeMap.{is_at}
use Rattle.std.specs.Map.{remove_entry}
use Rattle.tl_pieces.specs.Keys.{key_cmp}
use Rattle.tl_pieces.specs.Pieces.{Board, piece_at}
use Rattle.tl_pieces.specs.Marks.{shown}
use Rattle.tl_pieces.proofs.MarkLemmas.{but_taken}
use Rattle.tl_pieces.proofs.ShowLemmas.{shown_taken, slot_found, board_step}
use Rattle.tl_pieces.proofs.piece_map.PieceMap.remove.Goals as goal

pub judge_next-requires : goal.judge_next-requires
judge_next-requires g c =
    let es = c.self.inside.slots in
    let slot = slot_found c.args.key es (ap (λ (b : Board g.row.S.Denot g.row.R.Denot). is_some (piece_at c.args.key b)) c.self.view_is ∙ c.requires) in
    but_taken g.S.Same.same c.self.inside.openings c.args.key slot.0 es c.take.ensures.order slot.1 c.self.invariant c.next_of_owner-next.result c.next_of_owner-next.ensures.key c.take.new.self c.take.ensures.slots

pub returns : goal.returns
returns g c =
    board_step (record { openings = c.self.inside.openings; pieces = shown c.self.inside.slots }) c.args.self.now c.self.view_is (remove_entry (is_at (key_cmp c.args.key))) (shown c.judge_next.new.slots)
    (c.judge_next.ensures.shown ∙ ap shown c.take.ensures.slots ∙ shown_taken c.args.key c.self.inside.slots)
