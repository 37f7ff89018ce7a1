use Rattle.std.proofs.Common.{ℕ, List, get_or, ◌∙◌}
use Rattle.std.specs.List.Sorted.{IsStrictlySortedBy}
use Rattle.std.proofs.lemmas.List.Elements.{Contains-get_or}
use Rattle.std.proofs.lemmas.Option.{slice_get-get_or}
use Rattle.tl_definitions.specs.Positions.{beats_of_all}
use Rattle.tl_capture.specs.Windows.{beats_in}
use Rattle.tl_check.proofs.LinkByLink.{each_more}
use Rattle.tl_board.proofs.ApartLemmas.{own_window}
use Rattle.tl_board.proofs.apart.beats_apart.Goals as goal

pub window_beats-requires : goal.window_beats-requires
unfolding IsStrictlySortedBy
window_beats-requires c = (tt, tt)

pub loop-link-preserved : goal.loop-link-preserved
loop-link-preserved c =
    let links : List ℕ = c.args.links.now in
    let k : ℕ = c.loop-link.link-index in
    let link : ℕ = get_or links k 0 in
    each_more links k link (beats_in c.args.window (beats_of_all links c.args.present.now)) c.loop-link.lists.items c.push.new.self.items c.in_ok-own.own (slice_get-get_or links k 0 c.loop-link-test.true) c.loop-link.invariant
    (c.in_ok-own.ensures.exact ∙ own_window links c.args.present.now c.args.window link c.is_empty.ensures.kept (Contains-get_or links k 0 c.loop-link-test.true)) c.in_ok-push.ensures.items
