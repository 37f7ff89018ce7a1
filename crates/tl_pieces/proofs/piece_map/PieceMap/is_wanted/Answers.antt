use Rattle.std.proofs.Common.{◌≡◌, ap, sym, subst, rules, false, Some, None}
use Rattle.std.specs.Bool.{Decides}
use Rattle.tl_pieces.specs.Keys.{value_at}
use Rattle.tl_pieces.specs.Slots.{wanted_of}
use Rattle.tl_pieces.specs.Pieces.{Board, IsWantedAt}
use Rattle.tl_pieces.specs.Marks.{shown}
use Rattle.tl_pieces.proofs.SettleLemmas.{wanted_at}
use Rattle.tl_pieces.proofs.piece_map.PieceMap.is_wanted.Goals as goal

pub returns-in-Some : goal.returns-in-Some
returns-in-Some g c =
    let k = c.args.key in
    let es = c.self.inside.slots in
    let h : Some c.in-Some.slot.now ≡ value_at k es = search rules in
    subst (λ (b : Board g.row.S.Denot g.row.R.Denot). Decides c.in-Some.slot.now.wanted (IsWantedAt g.S.Same.same b k)) c.self.view_is
    (subst (λ r. Decides r (IsWantedAt g.S.Same.same (record { openings = c.self.inside.openings; pieces = shown es }) k)) (sym (ap wanted_of h)) (wanted_at g.S.Same.same c.self.inside.openings k None es c.self.invariant))

pub returns-in-None : goal.returns-in-None
returns-in-None g c =
    let k = c.args.key in
    let es = c.self.inside.slots in
    let h : None ≡ value_at k es = search rules in
    subst (λ (b : Board g.row.S.Denot g.row.R.Denot). Decides false (IsWantedAt g.S.Same.same b k)) c.self.view_is
    (subst (λ r. Decides r (IsWantedAt g.S.Same.same (record { openings = c.self.inside.openings; pieces = shown es }) k)) (sym (ap wanted_of h)) (wanted_at g.S.Same.same c.self.inside.openings k None es c.self.invariant))
