use Rattle.std.proofs.Common.{◌≡◌, Some, sym, ap, subst, ◌∙◌}
use Rattle.std.specs.Prelude.{IfSome}
use Rattle.tl_pieces.specs.Pieces.{entry_for}
use Rattle.tl_board.specs.Live.{IsLive}
use Rattle.tl_board.specs.Spans.{SpansData}
use Rattle.tl_board.proofs.LiveLemmas.{same_key, goes_on}
use Rattle.tl_board.proofs.spans.Spans.going_on.Goals as goal

pub returns-then-eq : goal.returns-then-eq
returns-then-eq c entry is =
    let live = c.in_ok-last.field-0 in
    let next = sym c.next_of.ensures.key ∙ c.in_ok-next.was ∙ ap Some (same_key c.in_ok-next.next c.args.key (sym c.eq.ensures ∙ c.if-eq.true)) in
    let shows : IsLive c.self.inside.pieces live =
    subst (λ (s : SpansData). IsLive s.board live) (sym c.self.view_is) (subst (λ o. IfSome o (IsLive c.args.self.now.board)) c.in_ok-last.was c.requires) in
    goes_on c.self.inside.pieces live c.args.key entry c.next_of.ensures.order next shows
    (subst (λ (s : SpansData). entry_for c.args.key s.board ≡ Some entry) (sym c.self.view_is) is)
