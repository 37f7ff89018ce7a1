use Rattle.std.proofs.Common.{◌≡◌, Some, MatchOption, subst, ◌∙◌}
use Rattle.std.specs.Prelude.{slice_get}
use Rattle.tl_apart.specs.Feeds.{waiting_of, AreOwn, IsDone, IsNext}
use Rattle.tl_apart.specs.Told.{clients}
use Rattle.tl_apart.specs.declared.listener.Listener.{Listener}
use Rattle.tl_apart.proofs.ListLaws.{found_at}
use Rattle.tl_apart.proofs.ToldLaws.{of_link}
use Rattle.tl_apart.proofs.apart.Apart.next_of.Goals as goal

pub returns-in-Some-clause-next : goal.returns-in-Some-clause-next
returns-in-Some-clause-next c topo fs judged is low =
    let k = c.args.manager in
    let feeds = c.args.self.now.feeds.items in
    let listener : Listener = c.in-Some.listener.now in
    let at : slice_get c.args.self.now.listeners.items k ≡ Some listener = subst (λ ls. slice_get ls k ≡ Some listener) c.deref.ensures.value
    (found_at c.deref.result.now c.from.result k listener c.in-Some.ensures.lookup.0 c.in-Some.ensures.lookup.1 c.from.ensures) in
    let numbers : c.deref-in-Some-2.result.now ≡ clients topo k = c.deref-in-Some-2.ensures.value ∙ (is.are.known k listener at).numbers in
    let own : AreOwn feeds (clients topo k) = λ link e has h. of_link topo fs k (waiting_of feeds) (waiting_of feeds) (judged k) is.are.present (is.are.told k low) link e has h in
    let next = subst (λ cs. AreOwn feeds cs → MatchOption c.next_link.result (IsDone feeds cs c.args.until) (IsNext feeds cs c.args.until)) numbers
    (subst (λ fs. AreOwn fs c.deref-in-Some-2.result.now → MatchOption c.next_link.result (IsDone fs c.deref-in-Some-2.result.now c.args.until) (IsNext fs c.deref-in-Some-2.result.now c.args.until)) c.deref-in-Some.ensures.value
    c.next_link.ensures.next) in
    next own
