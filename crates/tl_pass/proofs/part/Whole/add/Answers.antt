use Rattle.std.proofs.Common.{◌≡◌, ℕ, ◌+◌, ◌<◌, ◌≤◌, ◌++◌, length, sym, ap, subst, ◌∙◌, arith}
use Rattle.std.proofs.lemmas.Bool.Decides.{nat_tests}
use Rattle.std.proofs.lemmas.List.{length-append}
use Rattle.tl_topology.specs.Topology.{Topology}
use Rattle.tl_definitions.specs.Positions.{Recorded}
use Rattle.tl_pass.specs.Parts.{HasJudged}
use Rattle.tl_pass.specs.Reports.{standing, IsFoundIn}
use Rattle.tl_pass.proofs.JoinLaws.{judged_both}
use Rattle.tl_pass.proofs.LinkPassLaws.{report_members}
use Rattle.tl_pass.proofs.StandingLaws.{both_stand, standing_within}
use Rattle.tl_pass.proofs.part.Whole.add.Goals as goal

pub returns : goal.returns
returns c midway fs gs had came =
    let topo : Topology = c.args.topo.now in
    let first : ℕ = c.args.part.now.links.first in
    let next : ℕ = c.args.part.now.links.next in
    let not_before = c.if-links-self.false in
    let not_back = c.if-links.false in
    let above : c.args.self.now.next ≤ first = grind (arith, nat_tests) in
    let rising : first ≤ next = grind (arith, nat_tests) in
    let low : (f : Recorded) → f.link < c.args.self.now.next → f.link < first = λ f less. omega (arith, less, above) in
    let within = standing_within topo first next gs came.within in
    let lower : HasJudged midway topo first (standing topo fs) c.args.self.now.rows.items c.args.self.now.lead_ins = record {
      present = had.judged.present;
      below = λ f h. low f (had.judged.below f h);
      found = had.judged.found;
    } in
    let stand : standing topo (fs ++ gs) ≡ standing topo fs ++ standing topo gs = both_stand topo first next fs gs lower.below came.within in
    let items = c.in_ok-extend_from_slice.ensures.items ∙ ap (λ rs. c.args.self.now.rows.items ++ rs) c.deref.ensures.value in
    let part = c.args.part.now in
    let found : IsFoundIn midway topo (standing topo gs) part.found.rows.items part.found.lead_ins =
    record { members = report_members midway topo (standing topo gs) part.found.rows.items came.report.rows; counted = came.report.lead_ins } in
    let joined : HasJudged midway topo next (standing topo fs ++ standing topo gs) (c.args.self.now.rows.items ++ part.found.rows.items) c.saturating_add-self.result =
    judged_both midway topo first next (standing topo fs) (standing topo gs) c.args.self.now.rows.items part.found.rows.items c.args.self.now.lead_ins part.found.lead_ins
    (c.can_part.ensures c.if-not-can_part.false) lower came.report.rows.present (λ g h. (within g h).0) (λ g h. (within g h).1) rising found c.saturating_add-self.result c.saturating_add-self.ensures in
    record {
      count = c.in-Some.ensures.1 ∙ ap (λ n. n + c.args.part.now.fragments) had.count ∙ ap (λ n. length fs + n) came.count ∙ sym (length-append fs gs);
      judged = subst (λ rs. HasJudged midway topo next (standing topo (fs ++ gs)) rs c.saturating_add-self.result) (sym items)
          (subst (λ hs. HasJudged midway topo next hs (c.args.self.now.rows.items ++ part.found.rows.items) c.saturating_add-self.result) (sym stand) joined);
    }
