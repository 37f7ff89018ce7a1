use Rattle.std.proofs.Common.{◌≡◌, ◌+◌, ◌≤◌, [], ◌++◌, ◌∷◌, List, true, false, arith, length, refl, subst, ◌∙◌, sym, ap}
use Rattle.std.specs.Option.{IsSome}
use Rattle.tl_pieces.specs.declared.key.PieceKey.{PieceKey}
use Rattle.tl_pieces.specs.Pieces.{IsSettled}
use Rattle.tl_check.specs.States.{SameSpan}
use Rattle.tl_board.specs.Spans.{SpansData}
use Rattle.tl_board.proofs.RecheckLemmas.{IsUnderWay, begun, few, in_error, one_longer, ended, some_wanted}
use Rattle.tl_board.specs.Tally.{SameTally}
use Rattle.tl_board.specs.Watches.{WatchesData}
use Rattle.tl_desk.proofs.AttachedLemmas.{kept_none, kept_both, still_out}
use Rattle.tl_desk.proofs.TallyLemmas.{none_left, left_more, left_last}
use Rattle.tl_desk.proofs.WatchLemmas.{checked_one, first_is_here, none_is_out}
use Rattle.tl_desk.proofs.recheck.check_watches.Given.{Over}
use Rattle.tl_desk.proofs.recheck.check_watches.Goals as goal

pub loop-alloc-init : goal.loop-alloc-init
loop-alloc-init g c = record { spans = refl; boxes = kept_none c.args.boxes.now; left = none_left c.args.windows.now c.args.boxes.now; here = c.requires.here; keys = []; number = refl; way = begun SameTally c.args.windows.now.board c.spans.ensures.board }

pub unwrap-key-requires : goal.unwrap-key-requires
unwrap-key-requires g c =
    let all : IsSettled SameSpan c.loop-alloc.windows.spans.board = subst (λ (s : SpansData). IsSettled SameSpan s.board) (sym c.loop-alloc.invariant.spans) c.requires.settled in
    let found = some_wanted SameTally c.loop-alloc.windows.board c.next_watch.result c.loop-alloc.invariant.way.board c.next_watch.ensures.first
    (λ settled. let never : false ≡ true = sym c.loop-alloc-test.true ∙ c.settled.ensures.1 (all, settled) in cc) in
    subst IsSome (sym found.1) refl

pub check_here-requires-clause-here : goal.check_here-requires-clause-here
check_here-requires-clause-here g c = λ out.
    first_is_here c.args.boxes.now c.loop-alloc.windows.board c.next_watch.result c.unwrap-key.result c.loop-alloc.invariant.here c.next_watch.ensures.first c.unwrap-key.ensures
    (sym (still_out c.args.boxes.now c.loop-alloc.boxes c.loop-alloc.invariant.boxes c.unwrap-key.result.owner) ∙ out)

-- the window that is checked
one : (g : Over) (c : goal.In_ok-check_here g) → IsUnderWay SameTally (c.loop-alloc.invariant.keys ++ c.unwrap-key.result ∷ []) c.args.windows.now.board c.check_here.new.windows.board
one g c =
    checked_one c.loop-alloc.invariant.keys c.args.windows.now.board c.loop-alloc.windows c.next_watch.new.self c.check_here.new.windows c.next_watch.result c.unwrap-key.result c.loop-alloc.invariant.way
    c.next_watch.ensures.first c.unwrap-key.ensures c.next_watch.ensures.entry c.next_watch.ensures.same c.in_ok-check_here.ensures.ok

-- not yet all are checked
room : (g : Over) (c : goal.In_ok-check_here g) → c.loop-alloc.count + 1 ≤ length c.args.windows.now.board.pieces
room g c =
    let keys : List PieceKey = c.loop-alloc.invariant.keys ++ c.unwrap-key.result ∷ [] in
    let many : length keys ≤ length c.args.windows.now.board.pieces = few SameTally keys c.args.windows.now.board c.check_here.new.windows.board c.spans.ensures.board (one g c) in
    let next : length keys ≡ length c.loop-alloc.invariant.keys + 1 = one_longer c.loop-alloc.invariant.keys c.unwrap-key.result in
    omega (arith, many, next, c.loop-alloc.invariant.number)

pub overflow_add-count : goal.overflow_add-count
overflow_add-count g c = omega (arith, room g c, c.spans.ensures.few)

pub loop-alloc-smaller : goal.loop-alloc-smaller
loop-alloc-smaller g c = omega (arith, room g c)

pub loop-alloc-preserved : goal.loop-alloc-preserved
loop-alloc-preserved g c = record {
  spans = ap (λ (w : WatchesData). w.spans) c.in_ok-check_here.ensures.ok.rest ∙ ap (λ (w : WatchesData). w.spans) c.next_watch.ensures.same ∙ c.loop-alloc.invariant.spans;
  boxes = kept_both c.args.boxes.now c.loop-alloc.boxes c.check_here.new.boxes c.loop-alloc.invariant.boxes c.check_here.ensures.kept;
  left = left_more c.args.boxes.now c.loop-alloc.boxes c.check_here.new.boxes c.unwrap-key.result c.loop-alloc.invariant.boxes c.loop-alloc.windows c.next_watch.new.self c.check_here.new.windows c.next_watch.ensures.same
      c.in_ok-check_here.ensures.ok c.loop-alloc.invariant.left c.in_ok-check_here.ensures.tally;
  here = none_is_out c.args.boxes.now c.loop-alloc.windows c.next_watch.new.self c.check_here.new.windows c.next_watch.result c.unwrap-key.result c.loop-alloc.invariant.here
      c.next_watch.ensures.first c.unwrap-key.ensures c.next_watch.ensures.same c.in_ok-check_here.ensures.ok;
  keys = c.loop-alloc.invariant.keys ++ c.unwrap-key.result ∷ [];
  number = ap (λ n. n + 1) c.loop-alloc.invariant.number ∙ sym (one_longer c.loop-alloc.invariant.keys c.unwrap-key.result);
  way = one g c;
}

pub returns-clause-ok : goal.returns-clause-ok
returns-clause-ok g c =
    ended SameTally c.loop-alloc.invariant.keys c.loop-alloc.count c.args.windows.now.board c.loop-alloc.windows.board c.loop-alloc.invariant.way c.loop-alloc.invariant.number (c.settled.ensures.0 c.loop-alloc-test.false).1

pub returns-in_err-check_here-clause-left : goal.returns-in_err-check_here-clause-left
returns-in_err-check_here-clause-left g c =
    in_error c.from_residual.result _
    (left_last c.args.boxes.now c.loop-alloc.boxes c.check_here.new.boxes c.unwrap-key.result c.loop-alloc.invariant.boxes c.loop-alloc.windows c.next_watch.new.self c.check_here.new.windows c.next_watch.ensures.same
    c.in_err-check_here.ensures.err c.loop-alloc.invariant.left c.in_err-check_here.ensures.left)
