use Rattle.std.proofs.Common.{◌≡◌, ℕ, ◌+◌, ◌<◌, length, take, get_or, sym, ap, subst, ◌∙◌}
use Rattle.tl_apart.specs.Apart.{count_in}
use Rattle.tl_apart.specs.FeedData.{FeedData}
use Rattle.tl_apart.proofs.ListLaws.{count_more}
use Rattle.tl_apart.proofs.apart.Apart.count.Goals as goal

pub loop-feed-preserved : goal.loop-feed-preserved
loop-feed-preserved c =
    let feeds = c.args.self.now.feeds.items in
    let i : ℕ = c.loop-feed.feed-index in
    let within : i < length feeds = subst (λ fs. i < length fs) c.deref-feed-items.ensures.value c.loop-feed-test.true in
    let one : c.count.result ≡ (get_or feeds i c.feed-item.result).count = c.count.ensures ∙ ap (λ (x : FeedData). x.count) (c.feed-item.is ∙ ap (λ fs. get_or fs i c.feed-item.result) c.deref-feed-items.ensures.value) in
    c.in_ok-count.ensures.1 ∙ ap (λ n. n + c.count.result) c.loop-feed.invariant ∙ ap (λ n. count_in (take i feeds) + n) one ∙ sym (count_more feeds i c.feed-item.result within)
