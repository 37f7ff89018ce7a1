use Rattle.std.proofs.Common.{◌≡◌, ◌+◌, suc, length, sym, ap, subst, ◌∙◌, arith}
use Rattle.std.specs.Vec.Iter.{into_iter_items, into_iter_len}
use Rattle.tl_desk.specs.Plays.{AreOut}
use Rattle.tl_desk.proofs.PlayLemmas.{first_out, left_more, left_all}
use Rattle.tl_desk.proofs.desk.Desk.leave.Goals as goal

pub leave_one-requires : goal.leave_one-requires
leave_one-requires g c =
    first_out c.in-Some.place (into_iter_items c.next.new.self) c.loop-place.self (subst (λ ps. AreOut ps c.loop-place.self) c.in-Some.ensures.items c.loop-place.invariant.out)

pub loop-place-preserved : goal.loop-place-preserved
loop-place-preserved g c =
    let one : into_iter_len c.next.new.self + 1 ≡ into_iter_len c.loop-place.places = c.in-Some.ensures.len in
    let all : into_iter_len c.loop-place.places ≡ suc (length (into_iter_items c.next.new.self)) = c.loop-place.invariant.len ∙ ap length c.in-Some.ensures.items in
    record {
      out = c.leave_one.ensures.out (into_iter_items c.next.new.self) (subst (λ ps. AreOut ps c.loop-place.self) c.in-Some.ensures.items c.loop-place.invariant.out);
      len = omega (arith, one, all);
      left =
          left_more c.args.places.items c.args.self.now (into_iter_items c.loop-place.places) c.loop-place.self c.in-Some.place (into_iter_items c.next.new.self) c.leave_one.new.self
          c.loop-place.invariant.left c.log.ensures.desk c.in-Some.ensures.items c.leave_one.ensures.left;
    }

pub returns-in_default : goal.returns-in_default
returns-in_default g c =
    left_all c.args.places.items c.args.self.now (into_iter_items c.loop-place.places) c.loop-place.self c.loop-place.invariant.left c.log.ensures.desk (sym c.loop-place.invariant.len ∙ c.in_default.ensures.cases.0)
