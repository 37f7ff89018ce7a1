use Rattle.std.proofs.Common.{◌≡◌, ◌<◌, ◌≤◌, ◌+◌, Some, None, true, false, sym, ap, subst, ◌∙◌, arith, rules}
use Rattle.std.specs.Prelude.{is_some}
use Rattle.tl_pieces.specs.declared.key.PieceKey.{PieceKey}
use Rattle.tl_pieces.specs.Pieces.{IsWanted}
use Rattle.tl_board.specs.Tally.{SameTally}
use Rattle.tl_desk.specs.Steps.{IsOut, IsFirstOutOf}
use Rattle.tl_desk.proofs.BoxLemmas.{away_there}
use Rattle.tl_desk.proofs.FirstLemmas.{AreFrom, IsFrom, begin_from, begin_first, pass_over, first_such, none_such, fewer_left}
use Rattle.tl_desk.proofs.recheck.first_waiting.Goals as goal

pub loop-found-init : goal.loop-found-init
loop-found-init g c = record {
  from = 0;
  passed = begin_from (IsOut c.args.boxes.now) (IsWanted SameTally c.args.windows.now.board.openings) None c.args.windows.now.board.pieces;
  next = begin_first (IsOut c.args.boxes.now) (IsWanted SameTally c.args.windows.now.board.openings) None c.args.windows.now.board.pieces c.args.first c.requires.first;
  fits = search rules;
}

pub returns-then-is_some : goal.returns-then-is_some
returns-then-is_some g c =
    let here : IsOut c.args.boxes.now c.in-Some.key.owner = sym (c.is_some.ensures ∙ ap is_some c.away.ensures) ∙ c.if-is_some.true in
    first_such (IsOut c.args.boxes.now) (IsWanted SameTally c.args.windows.now.board.openings) c.loop-found.invariant.from (Some c.in-Some.key) None c.args.windows.now.board.pieces c.loop-found.invariant.passed
    (subst (IsFrom (IsOut c.args.boxes.now) (IsWanted SameTally c.args.windows.now.board.openings) c.loop-found.invariant.from None c.args.windows.now.board.pieces) c.in-Some.is c.loop-found.invariant.next)
    (λ k is. (let same : c.in-Some.key ≡ k = (let both : Some c.in-Some.key ≡ Some k = is in cc) in subst (λ (x : PieceKey). IsOut c.args.boxes.now x.owner) same here))

pub returns-in_err-owner : goal.returns-in_err-owner
returns-in_err-owner g c =
    let last : 4294967296 ≤ c.in-Some.key.owner + 1 = search rules in
    let none : c.from_residual.result ≡ None = search rules in
    let passed : AreFrom (IsOut c.args.boxes.now) (IsWanted SameTally c.args.windows.now.board.openings) (c.in-Some.key.owner + 1) None c.args.windows.now.board.pieces =
    pass_over (IsOut c.args.boxes.now) (IsWanted SameTally c.args.windows.now.board.openings) c.loop-found.invariant.from c.in-Some.key None c.args.windows.now.board.pieces c.spans.ensures.board.keys c.loop-found.invariant.passed
    (subst (IsFrom (IsOut c.args.boxes.now) (IsWanted SameTally c.args.windows.now.board.openings) c.loop-found.invariant.from None c.args.windows.now.board.pieces) c.in-Some.is c.loop-found.invariant.next)
    (λ here. let never : true ≡ false = sym here ∙ sym (c.is_some.ensures ∙ ap is_some c.away.ensures) ∙ c.if-is_some.false in cc) in
    subst (IsFirstOutOf c.args.boxes.now c.args.windows.now.board) (sym none)
    (none_such (IsOut c.args.boxes.now) (IsWanted SameTally c.args.windows.now.board.openings) (c.in-Some.key.owner + 1) None c.args.windows.now.board.pieces passed
    (λ n here. let low : n < 4294967296 = c.requires.numbers n (away_there n c.args.boxes.now here) in omega (arith, low, last)))

pub loop-found-smaller : goal.loop-found-smaller
loop-found-smaller g c =
    let owner : c.in_ok-owner.owner ≡ c.in-Some.key.owner + 1 = search rules in
    let next : IsFrom (IsOut c.args.boxes.now) (IsWanted SameTally c.args.windows.now.board.openings) (c.in-Some.key.owner + 1) None c.args.windows.now.board.pieces c.next_wanted_watch-found.result =
    subst (λ o. IsFrom (IsOut c.args.boxes.now) (IsWanted SameTally c.args.windows.now.board.openings) o None c.args.windows.now.board.pieces c.next_wanted_watch-found.result) owner c.next_wanted_watch-found.ensures.next in
    fewer_left (IsOut c.args.boxes.now) (IsWanted SameTally c.args.windows.now.board.openings) c.loop-found.found c.next_wanted_watch-found.result c.in-Some.key None c.args.windows.now.board.pieces c.in-Some.is c.loop-found.invariant.fits next

pub loop-found-preserved : goal.loop-found-preserved
loop-found-preserved g c =
    let owner : c.in_ok-owner.owner ≡ c.in-Some.key.owner + 1 = search rules in
    let next : IsFrom (IsOut c.args.boxes.now) (IsWanted SameTally c.args.windows.now.board.openings) (c.in-Some.key.owner + 1) None c.args.windows.now.board.pieces c.next_wanted_watch-found.result =
    subst (λ o. IsFrom (IsOut c.args.boxes.now) (IsWanted SameTally c.args.windows.now.board.openings) o None c.args.windows.now.board.pieces c.next_wanted_watch-found.result) owner c.next_wanted_watch-found.ensures.next in
    let passed : AreFrom (IsOut c.args.boxes.now) (IsWanted SameTally c.args.windows.now.board.openings) (c.in-Some.key.owner + 1) None c.args.windows.now.board.pieces =
    pass_over (IsOut c.args.boxes.now) (IsWanted SameTally c.args.windows.now.board.openings) c.loop-found.invariant.from c.in-Some.key None c.args.windows.now.board.pieces c.spans.ensures.board.keys c.loop-found.invariant.passed
    (subst (IsFrom (IsOut c.args.boxes.now) (IsWanted SameTally c.args.windows.now.board.openings) c.loop-found.invariant.from None c.args.windows.now.board.pieces) c.in-Some.is c.loop-found.invariant.next)
    (λ here. let never : true ≡ false = sym here ∙ sym (c.is_some.ensures ∙ ap is_some c.away.ensures) ∙ c.if-is_some.false in cc) in
    record {
      from = c.in-Some.key.owner + 1;
      passed = passed;
      next = next;
      fits = search rules;
    }

pub returns : goal.returns
returns g c =
    first_such (IsOut c.args.boxes.now) (IsWanted SameTally c.args.windows.now.board.openings) c.loop-found.invariant.from None None c.args.windows.now.board.pieces c.loop-found.invariant.passed
    (subst (IsFrom (IsOut c.args.boxes.now) (IsWanted SameTally c.args.windows.now.board.openings) c.loop-found.invariant.from None c.args.windows.now.board.pieces) c.in_default.is c.loop-found.invariant.next)
    (λ k is. let never : None ≡ Some k = is in cc)
