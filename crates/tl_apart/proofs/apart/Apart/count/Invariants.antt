use Rattle.std.proofs.Common.{◌≡◌, take}
use Rattle.tl_apart.specs.Apart.{count_in}
use Rattle.tl_apart.proofs.apart.Apart.count.Given as goal

abbrev pub invariant-loop-feed : goal.invariant-loop-feed
invariant-loop-feed l = l.count ≡ count_in (take l.feed-index l.self.feeds.items)
