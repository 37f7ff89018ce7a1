use Rattle.std.proofs.Common.{◌≡◌, ◌+◌, ◌≤◌, ◌<◌, [], ◌++◌, ◌∷◌, true, false, arith, length, refl, subst, ◌∙◌, sym, ap}
use Rattle.tl_pieces.specs.Pieces.{IsBoard}
use Rattle.tl_check.specs.States.{SameSpan}
use Rattle.tl_board.specs.Live.{window_of}
use Rattle.tl_board.specs.Spans.{SpansData}
use Rattle.tl_board.specs.Recheck.{ChecksThese, ChecksSome}
use Rattle.tl_board.proofs.RecheckLemmas.{OneMore, begun, checks_one, few, one_longer, ended, in_error}
use Rattle.tl_board.proofs.spans.Spans.recheck_now.Goals as goal

-- the window that is checked
one : (c : goal.In_ok-live) → OneMore c.loop-alloc.invariant.keys c.args.self.now c.loop-alloc.self c.check_first.new.self
one c =
    checks_one c.loop-alloc.invariant.keys c.args.self.now c.loop-alloc.self c.check_first.new.self (window_of c.in_ok-live.live) c.loop-alloc.invariant.way
    (λ settled. let never : false ≡ true = sym c.loop-alloc-test.true ∙ c.settled.ensures.1 settled in cc) c.in_ok-live.ensures.first c.in_ok-live.ensures.entry c.in_ok-live.ensures.checked

-- not yet all are checked
room : (c : goal.In_ok-live) → c.loop-alloc.count + 1 ≤ length c.args.self.now.board.pieces
room c =
    let more = one c in
    let old : SpansData = c.args.self.now in
    let many : length (c.loop-alloc.invariant.keys ++ more.key ∷ []) ≤ length old.board.pieces = few SameSpan (c.loop-alloc.invariant.keys ++ more.key ∷ []) old.board c.check_first.new.self.board
    (subst (λ (s : SpansData). IsBoard s.board) c.self.view_is c.len.ensures.kept) more.way in
    let next : length (c.loop-alloc.invariant.keys ++ more.key ∷ []) ≡ length c.loop-alloc.invariant.keys + 1 = one_longer c.loop-alloc.invariant.keys more.key in
    omega (arith, many, next, c.loop-alloc.invariant.number)

pub loop-alloc-init : goal.loop-alloc-init
loop-alloc-init c = record { live = tt; log = refl; keys = []; number = refl; way = begun SameSpan c.args.self.now.board (subst (λ (s : SpansData). IsBoard s.board) c.self.view_is c.len.ensures.kept) }

pub check_first-requires : goal.check_first-requires
check_first-requires c = record { live = c.loop-alloc.invariant.live }

pub returns-in_err-live-clause-log : goal.returns-in_err-live-clause-log
returns-in_err-live-clause-log c = ap (λ (s : SpansData). s.log) (c.in_err-live.ensures.err) ∙ c.loop-alloc.invariant.log

pub returns-in_err-live-clause-err : goal.returns-in_err-live-clause-err
returns-in_err-live-clause-err c =
    in_error c.from_residual.result (ChecksSome SameSpan c.args.self.now.board c.check_first.new.self.board)
    (c.loop-alloc.invariant.keys, subst (λ (s : SpansData). ChecksThese SameSpan c.loop-alloc.invariant.keys c.args.self.now.board s.board) (sym c.in_err-live.ensures.err) c.loop-alloc.invariant.way.checked)

pub overflow_add-count : goal.overflow_add-count
overflow_add-count c =
    let most : length c.args.self.now.board.pieces < 18446744073709551616 = subst (λ (s : SpansData). length s.board.pieces < 18446744073709551616) c.self.view_is (subst (λ n. n < 18446744073709551616) c.len.ensures.exact c.len.type_inv) in
    omega (arith, room c, most)

pub loop-alloc-smaller : goal.loop-alloc-smaller
loop-alloc-smaller c = omega (arith, room c)

pub loop-alloc-preserved : goal.loop-alloc-preserved
loop-alloc-preserved c =
    let more = one c in
    record {
      live = c.in_ok-live.ensures.live;
      log = more.log ∙ c.loop-alloc.invariant.log;
      keys = c.loop-alloc.invariant.keys ++ more.key ∷ [];
      number = ap (λ n. n + 1) c.loop-alloc.invariant.number ∙ sym (one_longer c.loop-alloc.invariant.keys more.key);
      way = more.way;
    }

pub returns-clause-log : goal.returns-clause-log
returns-clause-log c = c.loop-alloc.invariant.log

pub returns-clause-ok : goal.returns-clause-ok
returns-clause-ok c =
    ended SameSpan c.loop-alloc.invariant.keys c.loop-alloc.count c.args.self.now.board c.loop-alloc.self.board c.loop-alloc.invariant.way c.loop-alloc.invariant.number (c.settled.ensures.0 c.loop-alloc-test.false)
