use Rattle.std.proofs.Common.{◌≡◌, None, Some, true, List, refl, sym, subst}
use Rattle.std.specs.Prelude.{is_some, IfSome}
use Rattle.tl_beats.specs.declared.Row.{Row}
use Rattle.tl_pieces.specs.Marks.{pass_of}
use Rattle.tl_pieces.specs.declared.key.PieceKey.{PieceKey}
use Rattle.tl_pieces.specs.Pieces.{Board, IsFirstWanted, IsWanted, HasTrueEntry, piece_at, result_of}
use Rattle.tl_check.specs.States.{SameSpan}
use Rattle.tl_check.specs.declared.state.SpanState.{SpanState}
use Rattle.tl_check.proofs.StateLaws.{shown_same}
use Rattle.tl_board.specs.Live.{IsLive}
use Rattle.tl_board.specs.Spans.{SpansData, IsSound, ChecksWindow, standing, manager_in}
use Rattle.tl_board.proofs.CheckLemmas.{first_there, still_sound, checks}
use Rattle.tl_board.proofs.LiveLemmas.{checked_has}
use Rattle.tl_board.proofs.spans.Spans.check_first.Goals as goal

pub checked-requires-clause-there : goal.checked-requires-clause-there
checked-requires-clause-there c =
    subst (λ (b : Board SpanState (List Row)). is_some (piece_at c.in-Some.key b) ≡ true) (sym c.first_wanted.ensures.same)
    (first_there (IsWanted SameSpan c.self.inside.pieces.openings) None c.self.inside.pieces.pieces c.in-Some.key (subst (IsFirstWanted SameSpan c.self.inside.pieces) c.in-Some.is c.first_wanted.ensures.first))

pub checked-requires-clause-live : goal.checked-requires-clause-live
checked-requires-clause-live c =
    subst (λ (b : Board SpanState (List Row)). IfSome c.args.live (IsLive b)) (sym c.first_wanted.ensures.same)
    (subst (λ (s : SpansData). IfSome c.args.live (IsLive s.board)) (sym c.self.view_is) c.requires.live)

pub keep_following-requires-clause-there : goal.keep_following-requires-clause-there
keep_following-requires-clause-there c =
    subst (λ (b : Board SpanState (List Row)). is_some (piece_at c.in-Some.key b) ≡ true) (sym c.first_wanted.ensures.same)
    (first_there (IsWanted SameSpan c.self.inside.pieces.openings) None c.self.inside.pieces.pieces c.in-Some.key (subst (IsFirstWanted SameSpan c.self.inside.pieces) c.in-Some.is c.first_wanted.ensures.first))

pub keep_following-requires-clause-same : goal.keep_following-requires-clause-same
keep_following-requires-clause-same c =
    let begins = c.in_ok-stored.ensures.span.begins.0 in
    shown_same (manager_in (standing (record { log = c.self.inside.log; board = c.first_wanted.new.self })) c.in-Some.key.owner) (pass_of c.in_ok-stored.stored).entry (pass_of c.in_ok-stored.stored).entry begins begins refl

pub invariant_of-self-3 : goal.invariant_of-self-3
invariant_of-self-3 c =
    still_sound (record { log = c.self.inside.log; board = c.first_wanted.new.self })
    (subst (λ (b : Board SpanState (List Row)). IsSound (record { log = c.self.inside.log; board = b })) (sym c.first_wanted.ensures.same) c.self.invariant)
    c.in-Some.key (pass_of c.in_ok-stored.stored) c.in_ok-stored.ensures.span c.keep_following.new.pieces c.keep_following.ensures

pub returns-clause-checked : goal.returns-clause-checked
returns-clause-checked c =
    subst (λ (k : PieceKey). ChecksWindow c.args.self.now k (record { log = c.self.inside.log; board = c.keep_following.new.pieces })) (sym c.in_ok-stored.ensures.key)
    (checks (record { log = c.self.inside.log; board = c.self.inside.pieces }) c.args.self.now c.first_wanted.new.self c.keep_following.new.pieces c.in-Some.key (pass_of c.in_ok-stored.stored)
    c.first_wanted.ensures.same c.self.view_is c.in_ok-stored.ensures.span c.in_ok-stored.ensures.entry c.keep_following.ensures)

pub returns-clause-entry : goal.returns-clause-entry
returns-clause-entry c =
    subst (HasTrueEntry SameSpan c.args.self.now.board) (sym c.in_ok-stored.ensures.key)
    (subst (λ (s : SpansData). HasTrueEntry SameSpan s.board c.in-Some.key) c.self.view_is
    (subst (λ found. IfSome found (HasTrueEntry SameSpan c.self.inside.pieces)) c.in-Some.is c.first_wanted.ensures.entry))

pub returns-clause-live : goal.returns-clause-live
returns-clause-live c = (
  pass_of c.in_ok-stored.stored,
  subst (λ (k : PieceKey). result_of (piece_at k c.keep_following.new.pieces) ≡ Some (pass_of c.in_ok-stored.stored)) (sym c.in_ok-stored.ensures.key)
      (checked_has c.first_wanted.new.self c.keep_following.new.pieces c.in-Some.key (pass_of c.in_ok-stored.stored) c.keep_following.ensures
      (subst (λ (b : Board SpanState (List Row)). is_some (piece_at c.in-Some.key b) ≡ true) (sym c.first_wanted.ensures.same)
      (first_there (IsWanted SameSpan c.self.inside.pieces.openings) None c.self.inside.pieces.pieces c.in-Some.key (subst (IsFirstWanted SameSpan c.self.inside.pieces) c.in-Some.is c.first_wanted.ensures.first)))),
  c.in_ok-stored.ensures.left,
)
