use Rattle.std.proofs.Common.{◌≡◌, ◌∙◌, ap, sym, rules, Some, None}
use Rattle.std.specs.Option.{option_or}
use Rattle.std.specs.Arc.{arc_value}
use Rattle.tl_pieces.specs.Keys.{before}
use Rattle.tl_pieces.specs.Slots.{last_result}
use Rattle.tl_pieces.specs.Pieces.{Board, exit_of, last_exit, opening_of, entry_for}
use Rattle.tl_pieces.specs.Marks.{passed}
use Rattle.tl_pieces.proofs.ShowLemmas.{last_shown, before_shown}
use Rattle.tl_pieces.proofs.piece_map.PieceMap.entry_for.Goals as goal

pub returns-in-Some : goal.returns-in-Some
returns-in-Some g c =
    let k = c.args.key in
    let es = c.self.inside.slots in
    let os = c.self.inside.openings in
    let h : Some c.in-Some.stored.now ≡ last_result k.owner (before k es) = search rules in
    ap (λ a. Some (arc_value a)) c.exit.ensures ∙ ap (λ r. option_or (exit_of (passed r)) (opening_of k.owner os)) h
    ∙ sym (ap (λ x. option_or x (opening_of k.owner os)) (ap (last_exit k.owner) (before_shown k es) ∙ last_shown k.owner (before k es)))
    ∙ ap (λ (b : Board g.row.S.Denot g.row.R.Denot). entry_for k b) c.self.view_is

pub returns-in-None : goal.returns-in-None
returns-in-None g c =
    let k = c.args.key in
    let es = c.self.inside.slots in
    let os = c.self.inside.openings in
    let h : None ≡ last_result k.owner (before k es) = search rules in
    c.get.ensures ∙ ap (λ r. option_or (exit_of (passed r)) (opening_of k.owner os)) h
    ∙ sym (ap (λ x. option_or x (opening_of k.owner os)) (ap (last_exit k.owner) (before_shown k es) ∙ last_shown k.owner (before k es)))
    ∙ ap (λ (b : Board g.row.S.Denot g.row.R.Denot). entry_for k b) c.self.view_is
