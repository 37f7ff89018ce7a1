use Rattle.std.proofs.Common.{◌∙◌, ap, false}
use Rattle.std.specs.Prelude.{is_some}
use Rattle.tl_pieces.specs.Keys.{change}
use Rattle.tl_pieces.specs.Pieces.{Board, with_result, piece_at, entry_for}
use Rattle.tl_pieces.specs.Marks.{pass_of, shown}
use Rattle.tl_pieces.proofs.FollowLemmas.{marked_good}
use Rattle.tl_pieces.proofs.MarkLemmas.{but_stored}
use Rattle.tl_pieces.proofs.ShowLemmas.{shown_stored, shown_wanted, slot_found, board_step}
use Rattle.tl_pieces.proofs.piece_map.PieceMap.store_following.Goals as goal

pub judge_next-requires : goal.judge_next-requires
judge_next-requires g c =
    let es = c.self.inside.slots in
    let os = c.self.inside.openings in
    let k = c.args.key in
    let slot = slot_found k es (ap (λ (b : Board g.row.S.Denot g.row.R.Denot). is_some (piece_at k b)) c.self.view_is ∙ c.requires.there) in
    let from = ap (λ (b : Board g.row.S.Denot g.row.R.Denot). entry_for k b) c.self.view_is ∙ c.requires.entry in
    but_stored g.S.Same.same os k slot.0 es c.change.ensures.order slot.1 c.self.invariant c.next_of_owner-next.result c.next_of_owner-next.ensures.key c.args.stored false c.change.new.self c.begins.new.slots
    c.change.ensures.slots c.begins.ensures.order (marked_good os k g.S.Same.same es c.change.ensures.order c.args.stored c.requires.same from slot.0 slot.1 c.change.new.self c.change.ensures.slots) c.begins.ensures.slots

pub returns : goal.returns
returns g c =
    board_step (record { openings = c.self.inside.openings; pieces = shown c.self.inside.slots }) c.args.self.now c.self.view_is (change c.args.key (with_result (pass_of c.args.stored))) (shown c.judge_next.new.slots)
    (c.judge_next.ensures.shown ∙ ap shown c.begins.ensures.slots ∙ shown_wanted c.args.key false c.change.new.self ∙ ap shown c.change.ensures.slots ∙ shown_stored c.args.key c.args.stored c.self.inside.slots)
