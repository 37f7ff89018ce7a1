use Rattle.std.proofs.Common.{◌≡◌, true, false, ◌∷◌, refl, sym, subst, ◌∙◌}
use Rattle.tl_desk.specs.Core.{Core}
use Rattle.tl_desk.proofs.OldestLemmas.{AreLeft, all_left, first_out, others_left, first_is_oldest, none_left}
use Rattle.tl_desk.proofs.desk.Desk.oldest_live.Goals as goal

pub loop-ticket-init : goal.loop-ticket-init
loop-ticket-init g c =
    let inside : Core = record { windows = c.self.inside.windows; boxes = c.self.inside.boxes; reports = c.self.inside.reports.items; tickets = c.self.inside.tickets } in
    let all : AreLeft inside c.into_iter-ticket-iterator.result = subst (AreLeft inside) (sym (c.into_iter-ticket-iterator.ensures.into_iter_gives ∙ c.iter-ticket-items.ensures.exact)) (all_left inside c.self.invariant) in
    (tt, tt, subst (λ (k : Core). AreLeft k c.into_iter-ticket-iterator.result) c.self.view_is all)

pub is_live-requires : goal.is_live-requires
is_live-requires g c =
    let left : AreLeft c.args.self.now ((c.in-Some.ticket.now, c.in-Some.taken.now) ∷ c.next.new.self) = subst (AreLeft c.args.self.now) c.in-Some.ensures.steps c.loop-ticket.invariant.2 in
    (c.in-Some.taken.now, first_out c.args.self.now c.in-Some.ticket.now c.in-Some.taken.now c.next.new.self left, refl)

pub returns-then-is_live : goal.returns-then-is_live
returns-then-is_live g c =
    let left : AreLeft c.args.self.now ((c.in-Some.ticket.now, c.in-Some.taken.now) ∷ c.next.new.self) = subst (AreLeft c.args.self.now) c.in-Some.ensures.steps c.loop-ticket.invariant.2 in
    first_is_oldest c.args.self.now c.in-Some.ticket.now c.in-Some.taken.now c.next.new.self left (c.is_live.ensures.0 c.if-is_live.true)

pub loop-ticket-preserved : goal.loop-ticket-preserved
loop-ticket-preserved g c =
    let left : AreLeft c.args.self.now ((c.in-Some.ticket.now, c.in-Some.taken.now) ∷ c.next.new.self) = subst (AreLeft c.args.self.now) c.in-Some.ensures.steps c.loop-ticket.invariant.2 in
    (tt, tt, others_left c.args.self.now c.in-Some.ticket.now c.in-Some.taken.now c.next.new.self left (λ live. (let never : false ≡ true = sym c.if-is_live.false ∙ c.is_live.ensures.1 live in cc)))

pub returns : goal.returns
returns g c = none_left c.args.self.now (subst (AreLeft c.args.self.now) c.in-None.ensures.steps.0 c.loop-ticket.invariant.2)
