use Rattle.std.proofs.Common.{subst, rules, ◌≡◌, None, ◌<◌, sym}
use Rattle.tl_pieces.proofs.TouchedLemmas.{IsDoneTo, begun, ended, next_there, done_next, fewer, left_after}
use Rattle.tl_pieces.proofs.piece_map.PieceMap.touch_all.Goals as goal

pub loop-next-init : goal.loop-next-init
loop-next-init g c = begun c.args.owner c.args.self.now c.first_of-next.result c.first_of-next.ensures.order c.first_of-next.ensures.key

pub touch-requires : goal.touch-requires
touch-requires g c =
    next_there c.args.owner c.args.self.now c.loop-next.self c.in-Some.key (subst (IsDoneTo c.args.owner c.args.self.now c.loop-next.self) c.in-Some.is c.loop-next.invariant)

pub loop-next-smaller : goal.loop-next-smaller
loop-next-smaller g c =
    let old = c.args.self.now in
    let now = c.loop-next.self in
    subst (λ n. left_after c.next_of-next.result c.touch.new.self.pieces < left_after n now.pieces) (sym c.in-Some.is)
    (fewer c.args.owner old now c.in-Some.key (subst (IsDoneTo c.args.owner old now) c.in-Some.is c.loop-next.invariant) c.touch.new.self c.next_of-next.result c.touch.ensures c.next_of-next.ensures.key)

pub loop-next-preserved : goal.loop-next-preserved
loop-next-preserved g c =
    let old = c.args.self.now in
    let now = c.loop-next.self in
    done_next c.args.owner old now c.in-Some.key (subst (IsDoneTo c.args.owner old now) c.in-Some.is c.loop-next.invariant) c.touch.new.self c.next_of-next.result c.touch.ensures c.next_of-next.ensures.key

pub returns : goal.returns
returns g c =
    let none : c.loop-next.next ≡ None = search rules in
    ended c.args.owner c.args.self.now c.loop-next.self (subst (IsDoneTo c.args.owner c.args.self.now c.loop-next.self) none c.loop-next.invariant)
