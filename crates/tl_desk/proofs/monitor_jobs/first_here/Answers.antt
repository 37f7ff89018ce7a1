use Rattle.std.proofs.Common.{◌≡◌, ◌<◌, ◌≤◌, ◌+◌, Some, None, true, false, sym, subst, ◌∙◌, arith, rules}
use Rattle.tl_pieces.specs.declared.key.PieceKey.{PieceKey}
use Rattle.tl_pieces.specs.Pieces.{IsFree}
use Rattle.tl_board.specs.Tally.{SameTally}
use Rattle.tl_desk.specs.Jobs.{IsHere, IsFirstFreeHere}
use Rattle.tl_desk.proofs.BoxLemmas.{held_there}
use Rattle.tl_desk.proofs.FirstLemmas.{AreFrom, IsFrom, begin_from, begin_first, pass_over, first_such, none_such, fewer_left}
use Rattle.tl_desk.proofs.monitor_jobs.first_here.Goals as goal

pub loop-found-init : goal.loop-found-init
loop-found-init g c = record {
  from = 0;
  passed = begin_from (IsHere c.args.boxes.now) (IsFree SameTally c.args.windows.now.board.openings) None c.args.windows.now.board.pieces;
  next = begin_first (IsHere c.args.boxes.now) (IsFree SameTally c.args.windows.now.board.openings) None c.args.windows.now.board.pieces c.args.first c.requires.first;
  there = c.requires.there;
  fits = search rules;
}

pub returns-then-is_here-clause-first : goal.returns-then-is_here-clause-first
returns-then-is_here-clause-first g c =
    let here : IsHere c.args.boxes.now c.in-Some.key.owner = sym c.is_here.ensures ∙ c.if-is_here.true in
    first_such (IsHere c.args.boxes.now) (IsFree SameTally c.args.windows.now.board.openings) c.loop-found.invariant.from (Some c.in-Some.key) None c.args.windows.now.board.pieces c.loop-found.invariant.passed
    (subst (IsFrom (IsHere c.args.boxes.now) (IsFree SameTally c.args.windows.now.board.openings) c.loop-found.invariant.from None c.args.windows.now.board.pieces) c.in-Some.is c.loop-found.invariant.next)
    (λ k is. (let same : c.in-Some.key ≡ k = (let both : Some c.in-Some.key ≡ Some k = is in cc) in subst (λ (x : PieceKey). IsHere c.args.boxes.now x.owner) same here))

pub returns-in_err-owner-clause-first : goal.returns-in_err-owner-clause-first
returns-in_err-owner-clause-first g c =
    let last : 4294967296 ≤ c.in-Some.key.owner + 1 = search rules in
    let none : c.from_residual.result ≡ None = search rules in
    let passed : AreFrom (IsHere c.args.boxes.now) (IsFree SameTally c.args.windows.now.board.openings) (c.in-Some.key.owner + 1) None c.args.windows.now.board.pieces =
    pass_over (IsHere c.args.boxes.now) (IsFree SameTally c.args.windows.now.board.openings) c.loop-found.invariant.from c.in-Some.key None c.args.windows.now.board.pieces c.spans.ensures.board.keys c.loop-found.invariant.passed
    (subst (IsFrom (IsHere c.args.boxes.now) (IsFree SameTally c.args.windows.now.board.openings) c.loop-found.invariant.from None c.args.windows.now.board.pieces) c.in-Some.is c.loop-found.invariant.next)
    (λ here. let never : true ≡ false = sym here ∙ sym c.is_here.ensures ∙ c.if-is_here.false in cc) in
    subst (IsFirstFreeHere c.args.boxes.now c.args.windows.now.board) (sym none)
    (none_such (IsHere c.args.boxes.now) (IsFree SameTally c.args.windows.now.board.openings) (c.in-Some.key.owner + 1) None c.args.windows.now.board.pieces passed
    (λ n here. let low : n < 4294967296 = c.requires.numbers n (held_there n c.args.boxes.now here) in omega (arith, low, last)))

pub loop-found-smaller : goal.loop-found-smaller
loop-found-smaller g c =
    let owner : c.in_ok-owner.owner ≡ c.in-Some.key.owner + 1 = search rules in
    let next : IsFrom (IsHere c.args.boxes.now) (IsFree SameTally c.args.windows.now.board.openings) (c.in-Some.key.owner + 1) None c.args.windows.now.board.pieces c.next_free_watch-found.result =
    subst (λ o. IsFrom (IsHere c.args.boxes.now) (IsFree SameTally c.args.windows.now.board.openings) o None c.args.windows.now.board.pieces c.next_free_watch-found.result) owner c.next_free_watch-found.ensures.next in
    fewer_left (IsHere c.args.boxes.now) (IsFree SameTally c.args.windows.now.board.openings) c.loop-found.found c.next_free_watch-found.result c.in-Some.key None c.args.windows.now.board.pieces c.in-Some.is c.loop-found.invariant.fits next

pub loop-found-preserved : goal.loop-found-preserved
loop-found-preserved g c =
    let owner : c.in_ok-owner.owner ≡ c.in-Some.key.owner + 1 = search rules in
    let next : IsFrom (IsHere c.args.boxes.now) (IsFree SameTally c.args.windows.now.board.openings) (c.in-Some.key.owner + 1) None c.args.windows.now.board.pieces c.next_free_watch-found.result =
    subst (λ o. IsFrom (IsHere c.args.boxes.now) (IsFree SameTally c.args.windows.now.board.openings) o None c.args.windows.now.board.pieces c.next_free_watch-found.result) owner c.next_free_watch-found.ensures.next in
    let passed : AreFrom (IsHere c.args.boxes.now) (IsFree SameTally c.args.windows.now.board.openings) (c.in-Some.key.owner + 1) None c.args.windows.now.board.pieces =
    pass_over (IsHere c.args.boxes.now) (IsFree SameTally c.args.windows.now.board.openings) c.loop-found.invariant.from c.in-Some.key None c.args.windows.now.board.pieces c.spans.ensures.board.keys c.loop-found.invariant.passed
    (subst (IsFrom (IsHere c.args.boxes.now) (IsFree SameTally c.args.windows.now.board.openings) c.loop-found.invariant.from None c.args.windows.now.board.pieces) c.in-Some.is c.loop-found.invariant.next)
    (λ here. let never : true ≡ false = sym here ∙ sym c.is_here.ensures ∙ c.if-is_here.false in cc) in
    record {
      from = c.in-Some.key.owner + 1;
      passed = passed;
      next = next;
      there = c.next_free_watch-found.ensures.there;
      fits = search rules;
    }

pub returns-clause-first : goal.returns-clause-first
returns-clause-first g c =
    first_such (IsHere c.args.boxes.now) (IsFree SameTally c.args.windows.now.board.openings) c.loop-found.invariant.from None None c.args.windows.now.board.pieces c.loop-found.invariant.passed
    (subst (IsFrom (IsHere c.args.boxes.now) (IsFree SameTally c.args.windows.now.board.openings) c.loop-found.invariant.from None c.args.windows.now.board.pieces) c.in_default.is c.loop-found.invariant.next)
    (λ k is. let never : None ≡ Some k = is in cc)
