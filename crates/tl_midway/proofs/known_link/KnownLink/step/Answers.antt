use Rattle.std.specs.Prelude.{OnOk}
use Rattle.std.proofs.Common.{◌≡◌, Some, None, sym, subst, ◌∙◌}
use Rattle.tl_definitions.specs.Heads.{message_of}
use Rattle.tl_definitions.specs.Known.{known_with}
use Rattle.tl_midway.specs.KnownLink.{Shows}
use Rattle.tl_midway.proofs.KnownLaws.{stepped}
use Rattle.tl_midway.proofs.known_link.KnownLink.step.Goals as goal

pub returns-in-Some : goal.returns-in-Some
returns-in-Some c exponent past is =
    let head = c.args.head.now in
    let message : message_of c.args.link.now head ≡ Some c.in-Some.op = sym c.op_of.ensures ∙ c.in-Some.is in
    subst (λ found. OnOk c.change.result (Shows exponent c.change.new.self (known_with exponent c.args.certain past head found))) (sym message)
    (stepped c.change.result exponent c.args.certain c.args.self.now c.change.new.self past head c.in-Some.op is c.change.ensures.exponent c.change.ensures.past c.change.ensures.counted)

pub returns-in-None : goal.returns-in-None
returns-in-None c exponent past is =
    let message : message_of c.args.link.now c.args.head.now ≡ None = sym c.op_of.ensures ∙ c.in-None.is in
    subst (λ found. Shows exponent c.args.self.now (known_with exponent c.args.certain past c.args.head.now found)) (sym message) is
