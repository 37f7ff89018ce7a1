use Rattle.std.proofs.Common.{ltb, leb, rules, List, subst}
use Rattle.std.proofs.lemmas.List.Sorted.{IsPartitionPoint-from_clause, IsPartitionedBy-leb, IsPartitionedBy-ltb}
use Rattle.tl_beats.specs.declared.Beat.{Beat}
use Rattle.tl_capture.proofs.CutLemmas.{cycles_rise, AreBounds, are_bounds}
use Rattle.tl_capture.proofs.cut.bounds.Goals as goal

pub returns : goal.returns
returns c =
    let beats : List Beat = c.beats-beats.result.now in
    let up = cycles_rise _ _ beats c.beats-beats.ensures.kept in
    let start = IsPartitionPoint-from_clause (λ (b : Beat). ltb b.cycle c.args.from) _ _ c.partition_point-start.ensures.partitioned (IsPartitionedBy-ltb (λ (b : Beat). b.cycle) beats c.args.from up) (λ a r q k. search rules) in
    let end = IsPartitionPoint-from_clause (λ (b : Beat). leb b.cycle c.args.to) _ _ c.partition_point-end.ensures.partitioned (IsPartitionedBy-leb (λ (b : Beat). b.cycle) beats c.args.to up) (λ a r q k. search rules) in
    let are = subst (λ bs. AreBounds bs c.args.from c.args.to c.partition_point-start.result c.partition_point-end.result) c.beats-beats.ensures.exact
    (are_bounds beats c.args.from c.args.to c.partition_point-start.result c.partition_point-end.result c.requires c.partition_point-start.ensures.bound c.partition_point-end.ensures.bound start end) in
    record { order = are.order; within = are.within; before = are.before; between = are.between; behind = are.behind }
