use Rattle.std.proofs.Common.{◌≡◌, ℕ, ◌++◌, append_assoc, take, get_or, sym, ap, ◌∙◌}
use Rattle.tl_apart.specs.Apart.{rows_in}
use Rattle.tl_apart.specs.FeedData.{FeedData}
use Rattle.tl_apart.proofs.ListLaws.{rows_more}
use Rattle.tl_apart.proofs.apart.all_rows.Goals as goal

pub loop-feed-preserved : goal.loop-feed-preserved
loop-feed-preserved c =
    let feeds = c.args.feeds.now in
    let i : ℕ = c.loop-feed.feed-index in
    let others = c.args.others.items in
    let one : c.rows.result.now ≡ (get_or feeds i c.feed-item.result).rows = c.rows.ensures ∙ ap (λ (x : FeedData). x.rows) c.feed-item.is in
    c.in_ok-extend_from_slice.ensures.items ∙ ap (λ rs. rs ++ c.rows.result.now) c.loop-feed.invariant ∙ ap (λ rs. (others ++ rows_in (take i feeds)) ++ rs) one
    ∙ append_assoc others (rows_in (take i feeds)) (get_or feeds i c.feed-item.result).rows ∙ ap (λ rs. others ++ rs) (sym (rows_more feeds i c.feed-item.result c.loop-feed-test.true))
