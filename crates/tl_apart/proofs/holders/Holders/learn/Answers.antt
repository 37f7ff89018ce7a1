use Rattle.std.proofs.Common.{Some, None, refl, subst}
use Rattle.tl_apart.specs.Holders.{IsPlace}
use Rattle.tl_apart.proofs.HolderLaws.{told_law, links_law, stay}
use Rattle.tl_apart.proofs.holders.Holders.learn.Goals as goal

pub returns-in-Some-clause-next : goal.returns-in-Some-clause-next
returns-in-Some-clause-next c known is =
    let link = c.args.event.now.place.link in
    let at : IsPlace link c.args.self.now.holders.items (Some c.in-Some.place) =
    subst (IsPlace link c.args.self.now.holders.items) c.in-Some.is (subst (λ hs. IsPlace link hs c.place_of.result) c.deref.ensures.value c.place_of.ensures) in
    told_law c.learn.result c.args.self.now _ known c.args.event.now c.in-Some.place c.index_mut.result.now c.learn.new.self is at refl c.index_mut.ensures.value
    c.learn.ensures.link c.learn.ensures.next

pub returns-in-Some-clause-clients : goal.returns-in-Some-clause-clients
returns-in-Some-clause-clients c = links_law c.args.self.now.holders.items c.in-Some.place c.index_mut.result.now c.learn.new.self c.index_mut.ensures.value c.learn.ensures.link

pub returns-in-None-clause-next : goal.returns-in-None-clause-next
returns-in-None-clause-next c known is =
    let link = c.args.event.now.place.link in
    let none : IsPlace link c.args.self.now.holders.items None =
    subst (IsPlace link c.args.self.now.holders.items) c.in-None.is (subst (λ hs. IsPlace link hs c.place_of.result) c.deref.ensures.value c.place_of.ensures) in
    record { rises = is.rises; each = stay known c.args.event.now c.args.self.now.holders.items none is.each }
