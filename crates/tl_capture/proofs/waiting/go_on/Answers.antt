use Rattle.std.proofs.Common.{◌≡◌, ◌++◌, drop}
use Rattle.tl_definitions.specs.Positions.{in_order}
use Rattle.tl_capture.specs.Cursors.{after, all_left}
use Rattle.tl_capture.specs.Waiting.{under_top, in_turn, AreReady}
use Rattle.tl_capture.proofs.StackLemmas.{under_stacked, moved_untied, top_first, top_moves, top_ends}
use Rattle.tl_capture.proofs.waiting.go_on.Goals as goal

pub put-requires-clause-stacked : goal.put-requires-clause-stacked
put-requires-clause-stacked c = under_stacked c.args.cursors.now.items (under_top c.args.cursors.now.items) c.args.top c.requires.ready c.requires.top

pub put-requires-clause-untied : goal.put-requires-clause-untied
put-requires-clause-untied c = moved_untied c.args.cursors.now.items (under_top c.args.cursors.now.items) c.args.top c.in-Some.moved c.args.more c.requires.ready c.requires.top c.in-Some.ensures

moves : (c : goal.After-put) → AreReady c.put.new.cursors.items × (in_turn c.put.new.cursors.items ≡ in_order (drop c.args.more (after c.args.top) ++ all_left (under_top c.args.cursors.now.items)))
moves c = top_moves c.args.cursors.now.items (under_top c.args.cursors.now.items) c.put.new.cursors.items c.args.top c.in-Some.moved c.args.more c.requires.ready c.requires.top c.in-Some.ensures
    c.put.ensures.moves c.put.ensures.stacked

pub returns-in-Some-clause-ready : goal.returns-in-Some-clause-ready
returns-in-Some-clause-ready c = (moves c).0

pub returns-in-Some-clause-next : goal.returns-in-Some-clause-next
returns-in-Some-clause-next c = top_first c.args.cursors.now.items (under_top c.args.cursors.now.items) c.args.top c.requires.ready c.requires.top

pub returns-in-Some-clause-left : goal.returns-in-Some-clause-left
returns-in-Some-clause-left c = (moves c).1

ends : (c : goal.After-drop_top) → AreReady c.drop_top.new.cursors.items × (in_turn c.drop_top.new.cursors.items ≡ in_order (drop c.args.more (after c.args.top) ++ all_left (under_top c.args.cursors.now.items)))
ends c = top_ends c.args.cursors.now.items (under_top c.args.cursors.now.items) c.drop_top.new.cursors.items c.args.top c.args.more c.requires.ready c.requires.top c.in-None.ensures c.drop_top.ensures.under

pub returns-in-None-clause-ready : goal.returns-in-None-clause-ready
returns-in-None-clause-ready c = (ends c).0

pub returns-in-None-clause-next : goal.returns-in-None-clause-next
returns-in-None-clause-next c = top_first c.args.cursors.now.items (under_top c.args.cursors.now.items) c.args.top c.requires.ready c.requires.top

pub returns-in-None-clause-left : goal.returns-in-None-clause-left
returns-in-None-clause-left c = (ends c).1
