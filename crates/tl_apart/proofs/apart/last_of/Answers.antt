use Rattle.std.proofs.Common.{sym, ◌∙◌, arith}
use Rattle.tl_apart.proofs.ListLaws.{found_at}
use Rattle.tl_apart.proofs.apart.last_of.Goals as goal

pub returns : goal.returns
returns c =
    let feeds = c.args.feeds.now in
    let feed = c.in_ok-get.field-0.now in (
      feed,
      c.in_ok-newest.newest,
      found_at feeds c.from.result c.args.link feed c.in_ok-get.ensures.lookup.0 c.in_ok-get.ensures.lookup.1 c.from.ensures,
      sym c.newest.ensures ∙ c.in_ok-newest.was,
      omega arith,
    )
