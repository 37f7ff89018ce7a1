use Rattle.std.proofs.Common.{◌≡◌, ◌∙◌, ap, sym, rules, Some, None}
use Rattle.std.specs.Option.{option_map}
use Rattle.tl_pieces.specs.Keys.{value_at}
use Rattle.tl_pieces.specs.Pieces.{Board, piece_at, live_of}
use Rattle.tl_pieces.specs.Marks.{piece_of}
use Rattle.tl_pieces.proofs.ShowLemmas.{found_shown}
use Rattle.tl_pieces.proofs.piece_map.PieceMap.live.Goals as goal

pub returns-in-Some : goal.returns-in-Some
returns-in-Some g c =
    let h : Some c.in-Some.slot.now ≡ value_at c.args.key c.self.inside.slots = search rules in
    ap (λ o. live_of (option_map piece_of o)) h ∙ sym (ap live_of (found_shown c.args.key c.self.inside.slots)) ∙ ap (λ (b : Board g.row.S.Denot g.row.R.Denot). live_of (piece_at c.args.key b)) c.self.view_is

pub returns-in-None : goal.returns-in-None
returns-in-None g c =
    let h : None ≡ value_at c.args.key c.self.inside.slots = search rules in
    ap (λ o. live_of (option_map piece_of o)) h ∙ sym (ap live_of (found_shown c.args.key c.self.inside.slots)) ∙ ap (λ (b : Board g.row.S.Denot g.row.R.Denot). live_of (piece_at c.args.key b)) c.self.view_is
