use Rattle.std.proofs.Common.{◌||◌, Bool, Some, sym, ap, ◌∙◌}
use Rattle.tl_definitions.specs.Known.{bare, known_pasts}
use Rattle.tl_definitions.specs.Printed.{front}
use Rattle.tl_midway.specs.Unjudged.{asks}
use Rattle.tl_midway.specs.Asked.{message_surely}
use Rattle.tl_midway.proofs.AskedLaws.{of_message, strict_is}
use Rattle.tl_midway.proofs.HeadRowLaws.{found_stands}
use Rattle.tl_midway.proofs.known_pasts.KnownPasts.may_break.Goals as goal

pub returns-then-asks : goal.returns-then-asks
returns-then-asks c m start before stands declared =
    let p = c.args.at.now in
    let o = c.in-Some.op in
    let stood = found_stands m start before c.args.self.now stands p c.unwrap-place.result c.index.result.now (sym c.place.ensures ∙ c.unwrap-place.ensures) c.requires.own c.index.ensures in
    let one = c.asks.ensures m start before stands stood (strict_is m p.link c.args.link.now declared) in
    let surely : Bool = message_surely m (front m start before) p.link (bare o p.beat) c.args.rule in
    c.if-asks.true ∙ ap (λ t. t || surely) (sym c.if-asks.true ∙ one)
    ∙ sym (of_message m start before p c.args.link.now declared c.args.rule
    (λ o. asks m (known_pasts m start before) p.link (bare o p.beat) c.args.rule || message_surely m (front m start before) p.link (bare o p.beat) c.args.rule)
    (Some o) (sym c.op_of.ensures ∙ c.in-Some.is))

pub returns-else-asks : goal.returns-else-asks
returns-else-asks c m start before stands declared =
    let p = c.args.at.now in
    let o = c.in-Some.op in
    let stood = found_stands m start before c.args.self.now stands p c.unwrap-place.result c.index.result.now (sym c.place.ensures ∙ c.unwrap-place.ensures) c.requires.own c.index.ensures in
    let one = c.asks.ensures m start before stands stood (strict_is m p.link c.args.link.now declared) in
    let two = c.surely_breaks.ensures m start before stands stood (strict_is m p.link c.args.link.now declared) in
    ap (λ t. t || c.surely_breaks.result) (sym c.if-asks.false) ∙ (λ i. one i || two i)
    ∙ sym (of_message m start before p c.args.link.now declared c.args.rule
    (λ o. asks m (known_pasts m start before) p.link (bare o p.beat) c.args.rule || message_surely m (front m start before) p.link (bare o p.beat) c.args.rule)
    (Some o) (sym c.op_of.ensures ∙ c.in-Some.is))
