use Rattle.std.proofs.Common.{◌≡◌, ◌∙◌, ap, true, None}
use Rattle.std.specs.Prelude.{is_some}
use Rattle.std.specs.BTreeMap.{insert_entry}
use Rattle.tl_pieces.specs.Keys.{key_cmp, value_at}
use Rattle.tl_pieces.specs.Pieces.{Board, empty, piece_at, opening_of}
use Rattle.tl_pieces.specs.Marks.{shown}
use Rattle.tl_pieces.proofs.MarkLemmas.{but_put}
use Rattle.tl_pieces.proofs.ShowLemmas.{shown_put, slot_none, board_step}
use Rattle.tl_pieces.proofs.piece_map.PieceMap.insert.Goals as goal

pub put-requires : goal.put-requires
put-requires g c = record { absent = slot_none c.args.key c.self.inside.slots (ap (λ (b : Board g.row.S.Denot g.row.R.Denot). piece_at c.args.key b) c.self.view_is ∙ c.requires.absent) }

pub judge_next-requires : goal.judge_next-requires
judge_next-requires g c =
    let os = c.self.inside.openings in
    let es = c.self.inside.slots in
    let none : value_at c.args.key es ≡ None = slot_none c.args.key es (ap (λ (b : Board g.row.S.Denot g.row.R.Denot). piece_at c.args.key b) c.self.view_is ∙ c.requires.absent) in
    let owner : is_some (opening_of c.args.key.owner os) ≡ true = ap (λ (b : Board g.row.S.Denot g.row.R.Denot). is_some (opening_of c.args.key.owner b.openings)) c.self.view_is ∙ c.requires.owner in
    but_put g.S.Same.same os c.args.key es c.put.new.self owner none c.self.invariant c.in_ok-put.ensures.ok c.put.ensures.order c.next_of_owner-next.result c.next_of_owner-next.ensures.key

pub returns-clause-ok : goal.returns-clause-ok
returns-clause-ok g c =
    board_step (record { openings = c.self.inside.openings; pieces = shown c.self.inside.slots }) c.args.self.now c.self.view_is (λ ps. insert_entry key_cmp ps c.args.key empty) (shown c.judge_next.new.slots)
    (c.judge_next.ensures.shown ∙ ap shown c.in_ok-put.ensures.ok ∙ shown_put c.args.key c.self.inside.slots)
