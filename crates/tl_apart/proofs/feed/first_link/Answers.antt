use Rattle.std.proofs.Common.{◌≡◌, ℕ, List, ◌∷◌, [], ◌++◌, MatchOption, take, drop, get_or, sym, ap, subst, ◌∙◌}
use Rattle.std.specs.List.{Contains}
use Rattle.std.proofs.lemmas.List.{take_more, take-append-drop, take_all}
use Rattle.std.proofs.lemmas.List.Elements.{Contains-get_or, Contains-append_left}
use Rattle.tl_apart.specs.Feeds.{AreSilent, IsFirstAt, first_of, placed}
use Rattle.tl_apart.proofs.FirstLaws.{one_more}
use Rattle.tl_apart.proofs.feed.first_link.Goals as goal

pub loop-client-preserved : goal.loop-client-preserved
loop-client-preserved c own =
    let feeds = c.args.feeds.now in
    let clients : List ℕ = c.args.clients.now in
    let i : ℕ = c.loop-client.client-index in
    let client : ℕ = get_or clients i 0 in
    let seen : (n : ℕ) → Contains (take i clients) n → Contains clients n =
    λ n h. subst (λ ns. Contains ns n) (take-append-drop i clients) (Contains-append_left (take i clients) (drop i clients) n h) in
    let best = one_more feeds clients own (take i clients) seen client (Contains-get_or clients i 0 c.loop-client-test.true) (placed c.loop-client.first) (c.loop-client.invariant own) in
    let is = c.first_of-first.ensures ∙ ap (first_of (placed c.loop-client.first) client) c.next_of.ensures in
    subst (λ links. MatchOption (placed c.first_of-first.result) (AreSilent feeds links) (λ b. IsFirstAt feeds links b.0 b.1)) (sym (take_more clients i 0 c.loop-client-test.true))
    (subst (λ first. MatchOption first (AreSilent feeds (take i clients ++ client ∷ [])) (λ b. IsFirstAt feeds (take i clients ++ client ∷ []) b.0 b.1)) (sym is) best)

pub returns-in-Some : goal.returns-in-Some
returns-in-Some c own =
    let feeds = c.args.feeds.now in
    let all : take c.loop-client.client-index c.args.clients.now ≡ c.args.clients.now = take_all c.loop-client.client-index c.args.clients.now c.loop-client-test.false in
    let had = subst (λ links. IsFirstAt feeds links c.in-Some.link c.in-Some.field-0-1.now) all
    (subst (λ first. MatchOption (placed first) (AreSilent feeds (take c.loop-client.client-index c.args.clients.now)) (λ b. IsFirstAt feeds (take c.loop-client.client-index c.args.clients.now) b.0 b.1)) c.in-Some.is (c.loop-client.invariant own)) in
    (had.0, had.1, had.2, had.3, had.5)

pub returns-in-None : goal.returns-in-None
returns-in-None c own =
    let feeds = c.args.feeds.now in
    let all : take c.loop-client.client-index c.args.clients.now ≡ c.args.clients.now = take_all c.loop-client.client-index c.args.clients.now c.loop-client-test.false in
    subst (AreSilent feeds) all
    (subst (λ first. MatchOption (placed first) (AreSilent feeds (take c.loop-client.client-index c.args.clients.now)) (λ b. IsFirstAt feeds (take c.loop-client.client-index c.args.clients.now) b.0 b.1)) c.in-None.is (c.loop-client.invariant own))
