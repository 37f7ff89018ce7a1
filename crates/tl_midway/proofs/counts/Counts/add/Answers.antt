use Rattle.std.proofs.Common.{refl, rules}
use Rattle.tl_midway.specs.declared.counts.Counts.{Counts}
use Rattle.tl_midway.proofs.CountsLaws.{one_counted, none_counted, lead_in_counted}
use Rattle.tl_midway.proofs.counts.Counts.add.Goals as goal

pub returns-then-not-is_settled-clause-counts : goal.returns-then-not-is_settled-clause-counts
returns-then-not-is_settled-clause-counts c m start before stands serves n has =
    let new : Counts = record { law = c.args.self.now.law; lead_ins = c.one_more-self.result; by_rule = c.args.self.now.by_rule; unjudged = c.count_unjudged.new.counts } in
    one_counted m start before c.args.at.now n c.args.self.now new c.in_lead_in.result c.one_more-self.ensures (c.in_lead_in.ensures m start before stands)
    (c.count_unjudged.ensures m start before stands serves) refl has

pub returns-else-not-is_settled-clause-counts : goal.returns-else-not-is_settled-clause-counts
returns-else-not-is_settled-clause-counts c m start before stands serves n has =
    let new : Counts = record { law = c.args.self.now.law; lead_ins = c.one_more-self.result; by_rule = c.args.self.now.by_rule; unjudged = c.args.self.now.unjudged } in
    none_counted m start before c.args.at.now n c.args.self.now new c.in_lead_in.result c.one_more-self.ensures (c.in_lead_in.ensures m start before stands)
    refl refl (λ r. c.is_settled.ensures c.if-not-is_settled.false m start before r stands serves.declared) has

pub returns-then-not-self-clause-counts : goal.returns-then-not-self-clause-counts
returns-then-not-self-clause-counts c m start before stands serves n has =
    let new : Counts = record { law = c.args.self.now.law; lead_ins = c.one_more-self.result; by_rule = c.args.self.now.by_rule; unjudged = c.args.self.now.unjudged } in
    lead_in_counted m start before c.args.at.now n c.args.self.now new c.in_lead_in.result c.one_more-self.ensures (c.in_lead_in.ensures m start before stands)
    refl refl (search rules) has
