use Rattle.std.proofs.Common.{length, sym, ap, subst, ◌∙◌}
use Rattle.std.specs.Fork.{ChangesEach}
use Rattle.tl_apart.proofs.ListLaws.{written_back}
use Rattle.tl_apart.proofs.apart.Apart.beside.Goals as goal

pub returns-clause-changes : goal.returns-clause-changes
returns-clause-changes g c =
    let olds = c.args.self.now.feeds.items in
    let news = c.for_each_mut.new.s in
    subst (λ xs. ChangesEach g.F.Fn c.args.change.now olds xs) (sym (written_back olds news c.args.self.now.feeds.len (sym c.deref_mut.ensures.len ∙ ap length c.deref_mut.ensures.value) (c.for_each_mut.auto.s ∙ ap length c.deref_mut.ensures.value)))
    (subst (λ xs. ChangesEach g.F.Fn c.args.change.now xs news) c.deref_mut.ensures.value c.for_each_mut.ensures)
