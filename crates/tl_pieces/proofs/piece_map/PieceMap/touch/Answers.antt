use Rattle.std.proofs.Common.{◌∙◌, ap, None}
use Rattle.std.specs.Prelude.{is_some}
use Rattle.tl_pieces.specs.declared.slot.Change.TheVariants as to
use Rattle.tl_pieces.specs.Keys.{change, before}
use Rattle.tl_pieces.specs.Slots.{blank, changed}
use Rattle.tl_pieces.specs.Pieces.{Board, empty, piece_at}
use Rattle.tl_pieces.specs.Marks.{shown, ends}
use Rattle.tl_pieces.proofs.MarkLemmas.{but_changed, changed_list, owner_found, blank_mark}
use Rattle.tl_pieces.proofs.ShowLemmas.{shown_touched, slot_found, board_step}
use Rattle.tl_pieces.proofs.piece_map.PieceMap.touch.Goals as goal

pub judge_next-requires : goal.judge_next-requires
judge_next-requires g c =
    let os = c.self.inside.openings in
    let es = c.self.inside.slots in
    let k = c.args.key in
    let next = c.next_of_owner-next.result in
    let is = c.next_of_owner-next.ensures.key in
    let rises = c.change.ensures.order in
    let slot = slot_found k es (ap (λ (b : Board g.row.S.Denot g.row.R.Denot). is_some (piece_at k b)) c.self.view_is ∙ c.requires) in
    let marked = c.self.invariant in
    but_changed g.S.Same.same os k slot.0 es rises slot.1 marked next is blank c.change.new.self
    (c.change.ensures.slots ∙ changed_list g.S.Same.same os k slot.0 es rises slot.1 marked next is (changed to.Touched))
    (blank_mark g.S.Same.same os k (ends None (before k es)) (owner_found g.S.Same.same os k slot.0 es rises slot.1 marked next is))

pub returns : goal.returns
returns g c =
    board_step (record { openings = c.self.inside.openings; pieces = shown c.self.inside.slots }) c.args.self.now c.self.view_is (change c.args.key (λ _. empty)) (shown c.judge_next.new.slots)
    (c.judge_next.ensures.shown ∙ ap shown c.change.ensures.slots ∙ shown_touched c.args.key c.self.inside.slots)
