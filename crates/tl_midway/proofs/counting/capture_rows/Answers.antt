use Rattle.std.proofs.Common.{◌≡◌, ℕ, ◌+◌, [], length, ap, subst, ◌∙◌, arith}
use Rattle.std.specs.Io.Iter.{u64_saturate}
use Rattle.tl_check.specs.Captured.{areas_at}
use Rattle.tl_midway.specs.Counts.{managers_counted}
use Rattle.tl_midway.specs.LeadIns.{leads_in}
use Rattle.tl_midway.specs.Report.{ArePrinted}
use Rattle.tl_midway.proofs.counting.capture_rows.Goals as goal

none_first : (n : ℕ) → 0 + n ≡ n
none_first n = omega arith

pub returns-clause-rows : goal.returns-clause-rows
returns-clause-rows c =
    subst (λ law. ArePrinted law c.args.topo.now (areas_at []) c.args.present.now (length c.args.topo.now.managers) c.in_ok-rows.rows.items) c.in_ok-counts.ensures.law c.in_ok-rows.ensures.rows

pub returns-clause-lead_ins : goal.returns-clause-lead_ins
returns-clause-lead_ins c =
    (c.in_ok-rows.ensures.counts (λ asked. 0) c.in_ok-counts.ensures.none).lead_ins
    ∙ ap u64_saturate (none_first (managers_counted leads_in c.in_ok-counts.counts.law c.args.topo.now (areas_at []) c.args.present.now (length c.args.topo.now.managers)))
    ∙ ap (λ law. u64_saturate (managers_counted leads_in law c.args.topo.now (areas_at []) c.args.present.now (length c.args.topo.now.managers))) c.in_ok-counts.ensures.law
