use Rattle.std.proofs.Common.{◌≡◌, ◌++◌, take}
use Rattle.tl_apart.specs.Apart.{rows_in}
use Rattle.tl_apart.proofs.apart.all_rows.Given as goal

abbrev pub invariant-loop-feed : goal.invariant-loop-feed
invariant-loop-feed l = l.rows.items ≡ l.fn.others.items ++ rows_in (take l.feed-index l.feeds)
