use Rattle.std.proofs.Common.{Ok}
use Rattle.tl_check.proofs.PlainLinkLaws.{still_formed}
use Rattle.tl_client_rules.proofs.ClientLaws.{next_law}
use Rattle.tl_apart.specs.LinkJudge.{alone}
use Rattle.tl_apart.proofs.JudgeLaws.{answered, message_next}
use Rattle.tl_apart.proofs.link_judge.LinkJudge.pass.Goals as goal

pub returns-clause-next : goal.returns-clause-next
returns-clause-next c s shows =
    let p = c.args.at.now in
    let terms = c.args.terms.now in
    let head = c.args.head.now in
    let held = next_law {E = Unit {0}} (Ok (tt {0})) terms.exponent c.args.self.now.client c.pass-2.new.self s.past p.beat head.request _ shows.client
    (answered s c.args.self.now p.beat _ head.op head.request terms.exponent shows c.requires.message c.requires.request) c.in_ok-pass-2.ensures.next in
    message_next (alone terms) s p c.args.self.now _ shows c.begin.ensures c.requires.head head.op c.requires.message head.request c.requires.request c.in_ok-pass.ensures.next held c.in_ok-keep_granted.ensures

pub returns-clause-formed : goal.returns-clause-formed
returns-clause-formed c = still_formed c.args.terms.now.decl.now c.args.at.now.beat c.args.self.now.bursts _ c.requires.beat c.requires.formed c.begin.ensures
