use Rattle.std.proofs.Common.{rules, ◌≡◌, ◌∙◌, ◌≤◌, [], map, length, ap, sym, subst}
use Rattle.std.specs.Arc.{arc_value}
use Rattle.std.proofs.lemmas.List.{length-map, take_all}
use Rattle.tl_edits.specs.Inputs.{AreNumbered}
use Rattle.tl_edits.proofs.InputLaws.{blanks_more, none_numbered}
use Rattle.tl_edits.proofs.inputs.Inputs.new.Goals as goal

pub loop-preserved : goal.loop-preserved
loop-preserved c = (search rules) ∙ blanks_more [] (arc_value c.args.topo).managers c.loop.counter ([], 0) c.loop.regions.items (search rules) c.loop.invariant

pub invariant_of-result : goal.invariant_of-result
invariant_of-result c =
    let many : length (arc_value c.args.topo).managers ≤ c.loop.counter = search rules in
    let all : c.loop.regions.items ≡ map (λ manager. []) (arc_value c.args.topo).managers =
    c.loop.invariant ∙ ap (map (λ manager. [])) (take_all c.loop.counter (arc_value c.args.topo).managers many) in
    (ap length all ∙ length-map (arc_value c.args.topo).managers (λ manager. []), subst AreNumbered (sym all) (none_numbered (arc_value c.args.topo).managers))
