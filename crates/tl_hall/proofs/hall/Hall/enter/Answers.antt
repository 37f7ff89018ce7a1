use Rattle.std.proofs.Common.{ap, sym, ◌∙◌, subst, arith, rules}
use Rattle.tl_hall.specs.Passes.{HallData, IsResting}
use Rattle.tl_hall.specs.Rule.{Sat, Entered}
use Rattle.tl_hall.proofs.Keeping.{enters}
use Rattle.tl_hall.proofs.Seating.{carries, is_inside, is_seen, leads_there}
use Rattle.tl_hall.proofs.hall.Hall.enter.Goals as goal

pub compare_exchange-requires : goal.compare_exchange-requires
compare_exchange-requires g c =
    let i = c.loop.invariant in
    (i.2 ∙ (c.requires.hall ∙ sym (ap (λ (r : HallData). r.hall) c.self.view_is)), omega (arith, c.self.invariant.0), enters _ _ _ _ (subst IsResting (sym i.3) c.requires.resting))

pub desk_out-requires : goal.desk_out-requires
desk_out-requires g c =
    let i = c.loop.invariant in
    let x = c.compare_exchange.ensures in
    let calm = subst IsResting (sym i.3) c.requires.resting in
    let e = x.2.0 (search rules) in
    record { hall = x.0 ∙ (i.2 ∙ c.requires.hall); some = (e.core, carries _ _ calm e) }

pub returns-then-compare_exchange-eq0 : goal.returns-then-compare_exchange-eq0
returns-then-compare_exchange-eq0 g c =
    let i = c.loop.invariant in
    let x = c.compare_exchange.ensures in
    let out = c.desk_out.ensures in
    let m : Sat = c.args.seat.now.me in
    let m' : Sat = c.compare_exchange.new.seat.me in
    let m'' : Sat = c.desk_out.new.seat.me in
    let calm : IsResting m = c.requires.resting in
    let e : Entered m m' = subst (λ (y : Sat). Entered y m') i.3 (x.2.0 (search rules)) in
    record {
      hall = out.hall ∙ (x.0 ∙ i.2);
      inside = is_inside m m' m'' calm e out.now.1;
      saw = is_seen m m' m'' e out.now.1;
      desk = leads_there m m' m'' c.desk_out.result calm e out.now.0 out.now.1;
    }
