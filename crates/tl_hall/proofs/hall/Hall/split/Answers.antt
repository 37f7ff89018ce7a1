use Rattle.std.proofs.Common.{false, ap, sym, ◌∙◌, subst, arith}
use Rattle.tl_hall.specs.Passes.{HallData, PassData, passed, IsAnother}
use Rattle.tl_hall.proofs.Keeping.{splits}
use Rattle.tl_hall.proofs.Passing.{rests_elder, rests_younger, is_another}
use Rattle.tl_hall.proofs.hall.Hall.split.Goals as goal

pub split_seat-requires : goal.split_seat-requires
split_seat-requires g c =
    let calm = c.pass.invariant.0 in
    (ap (λ (p : PassData). p.hall) c.pass.view_is ∙ (c.requires ∙ sym (ap (λ (r : HallData). r.hall) c.self.view_is)), omega (arith, c.self.invariant.0), splits _ _ _ calm.waits calm.lives)

pub invariant_of-result : goal.invariant_of-result
invariant_of-result g c = rests_elder c.pass.inside.seat.me c.split_seat.new.seat.me c.pass.invariant.0 false c.pass.invariant.1 c.split_seat.ensures.2

pub invariant_of-twin : goal.invariant_of-twin
invariant_of-twin g c = rests_younger c.pass.inside.seat.me c.split_seat.result.me c.pass.invariant.0 false c.pass.invariant.1 c.split_seat.ensures.4

pub returns-clause-second : goal.returns-clause-second
returns-clause-second g c =
    let twin = c.split_seat.result in
    subst (λ (p : PassData). IsAnother p (passed twin.table_id twin.me.0)) c.pass.view_is
    (is_another c.pass.inside.seat.table_id twin.table_id c.pass.inside.seat.me twin.me c.pass.invariant.0 c.split_seat.ensures.3 c.split_seat.ensures.4)
