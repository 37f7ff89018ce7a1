use Rattle.std.proofs.Common.{◌≡◌, ℕ, [], Some, set, refl, sym, ap, subst, ◌∙◌}
use Rattle.std.specs.Prelude.{slice_get}
use Rattle.std.specs.Option.{option_map_or}
use Rattle.std.proofs.lemmas.Option.{slice_get-get_or}
use Rattle.tl_definitions.specs.Events.{all_shown, left_by_events}
use Rattle.tl_definitions.specs.Judging.{snapshot}
use Rattle.tl_apart.specs.Apart.{with_one, AreApart}
use Rattle.tl_apart.specs.Events.{said}
use Rattle.tl_apart.specs.Feeds.{waiting, IsFirst}
use Rattle.tl_apart.specs.Told.{bare, clients}
use Rattle.tl_apart.specs.declared.listener.Listener.{Listener}
use Rattle.tl_apart.proofs.ApartLaws.{one_event}
use Rattle.tl_apart.proofs.ListLaws.{get_other, total_less}
use Rattle.tl_apart.proofs.apart.Apart.judge_next.Goals as goal

pub returns-in_default-get_mut-clause-fewer : goal.returns-in_default-get_mut-clause-fewer
returns-in_default-get_mut-clause-fewer c some =
    let feeds = c.args.self.now.feeds.items in
    let i : ℕ = c.from.result in
    total_less feeds i c.in-Some.feed.now c.take_next.new.self (said c.in-Some-take_next.event) (slice_get-get_or feeds i c.in-Some.feed.now c.in-Some.ensures.item.3.0 ∙ ap Some (sym c.in-Some.ensures.item.1)) c.in-Some-take_next.ensures.next

pub returns-clause-fewer : goal.returns-clause-fewer
returns-clause-fewer c some =
    let feeds = c.args.self.now.feeds.items in
    let i : ℕ = c.from.result in
    total_less feeds i c.in-Some.feed.now c.take_next.new.self (said c.in-Some-take_next.event) (slice_get-get_or feeds i c.in-Some.feed.now c.in-Some.ensures.item.3.0 ∙ ap Some (sym c.in-Some.ensures.item.1)) c.in-Some-take_next.ensures.next

pub returns-clause-next : goal.returns-clause-next
returns-clause-next c topo fs judged is low first =
    let feeds = c.args.self.now.feeds.items in
    let listeners = c.args.self.now.listeners.items in
    let link : ℕ = c.args.link in
    let k : ℕ = c.args.manager in
    let feed = c.in-Some.feed.now in
    let next = c.take_next.new.self in
    let e = said c.in-Some-take_next.event in
    let i : ℕ = c.from.result in
    let j : ℕ = c.from-2.result in
    let same : i ≡ link = c.from.ensures in
    let alike : j ≡ k = c.from-2.ensures in
    let was : slice_get feeds i ≡ Some feed = slice_get-get_or feeds i feed c.in-Some.ensures.item.3.0 ∙ ap Some (sym c.in-Some.ensures.item.1) in
    let listener = c.in-Some-get_mut.listener.now in
    let heard : Listener = record { clients = listener.clients; holders = c.step.new.self } in
    let knew : slice_get listeners k ≡ Some listener = subst (λ n. slice_get listeners n ≡ Some listener) alike
    (slice_get-get_or listeners j listener c.in-Some-get_mut.ensures.item.3.0 ∙ ap Some (sym c.in-Some-get_mut.ensures.item.1)) in
    let known = left_by_events (all_shown (snapshot (bare topo k) [])) (judged k) in
    let shows = (is.are.known k listener knew).shows in
    let one = one_event topo fs judged feeds listeners c.args.self.now.rows.items is.are i feed next was k low (subst (IsFirst feeds (clients topo k)) (sym same) first) e c.in-Some-take_next.ensures.next
    c.take_next.ensures.rest listener heard knew refl c.step.ensures.clients (c.in_ok-step.ensures.next known shows) c.step.new.rows.items (c.in_ok-step.ensures.rows known shows) in (
      e,
      next.waiting,
      ap (λ o. option_map_or waiting o []) (subst (λ n. slice_get feeds n ≡ Some feed) same was) ∙ c.in-Some-take_next.ensures.next,
      record { on = is.on; are = subst (λ n. AreApart topo fs (with_one judged k e) (set feeds i next) (set listeners n heard) c.step.new.rows.items) (sym alike) one },
      λ n ne. ap (λ o. option_map_or waiting o []) (get_other feeds i n next (λ e. ne (e ∙ same))),
    )
