use Rattle.std.proofs.Common.{◌≡◌, ◌∙◌, ap, sym, rules, Some, None}
use Rattle.std.specs.Option.{option_map}
use Rattle.tl_pieces.specs.Keys.{value_at}
use Rattle.tl_pieces.specs.Pieces.{Board, piece_at, result_of}
use Rattle.tl_pieces.specs.Marks.{pass_of, pass_at}
use Rattle.tl_pieces.proofs.OpeningLemmas.{through}
use Rattle.tl_pieces.proofs.ShowLemmas.{found_shown, pass_shown, result_shown}
use Rattle.tl_pieces.proofs.piece_map.PieceMap.result.Goals as goal

pub returns-in-Some : goal.returns-in-Some
returns-in-Some g c =
    let k = c.args.key in
    let es = c.self.inside.slots in
    let h : Some c.in-Some.slot.now ≡ value_at k es = search rules in
    let r : option_map (λ r. r.now) c.as_ref.result ≡ c.in-Some.slot.now.result = search rules in
    through (λ r. r.now) pass_of c.as_ref.result ∙ ap (option_map pass_of) r ∙ pass_shown c.in-Some.slot.now.result ∙ ap pass_at h ∙ sym (result_shown (value_at k es)) ∙ sym (ap result_of (found_shown k es))
    ∙ ap (λ (b : Board g.row.S.Denot g.row.R.Denot). result_of (piece_at k b)) c.self.view_is

pub returns-in-None : goal.returns-in-None
returns-in-None g c =
    let k = c.args.key in
    let es = c.self.inside.slots in
    let h : None ≡ value_at k es = search rules in
    ap pass_at h ∙ sym (result_shown (value_at k es)) ∙ sym (ap result_of (found_shown k es)) ∙ ap (λ (b : Board g.row.S.Denot g.row.R.Denot). result_of (piece_at k b)) c.self.view_is
