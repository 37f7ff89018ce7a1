use Rattle.std.proofs.Common.{◌≡◌, [], sym, ◌∙◌, rules}
use Rattle.std.proofs.lemmas.List.{nil_from_length}
use Rattle.tl_stream.proofs.FeedLemmas.{cut_given}
use Rattle.tl_stream.proofs.feed.Feed.next.Goals as goal

pub returns-clause-given : goal.returns-clause-given
returns-clause-given g c =
    let none : c.self.inside.parsed.items ≡ [] = nil_from_length c.self.inside.parsed.items (search rules) in
    let gone : c.from.result.items ≡ [] = nil_from_length c.from.result.items (search rules) in
    let spent : c.pop_front-2.new.self.items ≡ [] = nil_from_length c.pop_front-2.new.self.items (search rules) in
    cut_given c.args.self.now c.self.inside.ahead c.fill.new.ahead c.cut_beside.new.ahead c.cut_one.new.ahead c.self.inside.parsed.items c.in_ok-cut_beside.field-0.items c.pop_front-2.new.self.items
    (g.I.ByteIn.remaining c.args.input.now) (g.I.ByteIn.remaining c.fill.new.input) c.in_ok-cut_one.field-0
    c.self.view_is none c.in_ok-is_end.ensures.kept c.in_ok-cut_beside.ensures (sym c.from.ensures.0 ∙ gone) c.in_ok-cut_one.ensures.ok spent
