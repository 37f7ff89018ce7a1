use Rattle.std.proofs.Common.{MatchOption, take}
use Rattle.tl_apart.specs.Feeds.{placed, AreOwn, AreSilent, IsFirstAt}
use Rattle.tl_apart.proofs.feed.first_link.Given as goal

abbrev pub invariant-loop-client : goal.invariant-loop-client
invariant-loop-client l = AreOwn l.feeds l.clients → MatchOption (placed l.first) (AreSilent l.feeds (take l.client-index l.clients)) (λ b. IsFirstAt l.feeds (take l.client-index l.clients) b.0 b.1)
