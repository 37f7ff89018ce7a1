use Rattle.std.proofs.Common.{rules, ◌≡◌, sym, map, subst}
use Rattle.std.specs.List.Sorted.{IsStrictlySortedBy}
use Rattle.std.specs.Ordering.{nat_cmp}
use Rattle.tl_edits.specs.Inputs.{attached}
use Rattle.tl_edits.proofs.InputLaws.{attached_rise}
use Rattle.tl_edits.proofs.inputs.Inputs.watches.Goals as goal

pub returns-clause-rise : goal.returns-clause-rise
returns-clause-rise c =
    let all : c.loop-monitor.watches.items ≡ attached c.self.inside.monitors.entries = search rules in
    subst (λ es. IsStrictlySortedBy nat_cmp (map (λ e. e.0) es)) (sym all) (attached_rise c.self.inside.monitors.entries c.iter-monitor-items.ensures.ordered)
