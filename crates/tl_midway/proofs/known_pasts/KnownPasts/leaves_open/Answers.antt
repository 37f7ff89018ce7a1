use Rattle.std.proofs.Common.{◌&&◌, Bool, false, sym, ap, ◌∙◌}
use Rattle.std.specs.Prelude.{not}
use Rattle.std.specs.Option.{option_map_or}
use Rattle.tl_tables.specs.declared.Op.{Op}
use Rattle.tl_definitions.specs.Known.{bare, known_pasts}
use Rattle.tl_definitions.specs.Printed.{front}
use Rattle.tl_midway.specs.Unjudged.{asks}
use Rattle.tl_midway.specs.Asked.{message_surely}
use Rattle.tl_midway.proofs.known_pasts.KnownPasts.leaves_open.Goals as goal

pub returns-then-asks : goal.returns-then-asks
returns-then-asks c m start before stands stood strict is =
    let p = c.args.at.now in
    let r = c.args.rule in
    let open_by : Op → Bool = λ o. asks m (known_pasts m start before) p.link (bare o p.beat) r && not (message_surely m (front m start before) p.link (bare o p.beat) r) in
    let one = c.asks.ensures m start before stands stood strict in
    let two = c.surely_breaks.ensures m start before stands stood strict in
    ap (λ t. t && not c.surely_breaks.result) (sym c.if-asks.true) ∙ (λ i. one i && not (two i))
    ∙ sym (ap (λ found. option_map_or open_by found false) (is ∙ c.in-Some.is))

pub returns-else-asks : goal.returns-else-asks
returns-else-asks c m start before stands stood strict is =
    let p = c.args.at.now in
    let r = c.args.rule in
    let surely : Op → Bool = λ o. message_surely m (front m start before) p.link (bare o p.beat) r in
    let open_by : Op → Bool = λ o. asks m (known_pasts m start before) p.link (bare o p.beat) r && not (surely o) in
    let one = c.asks.ensures m start before stands stood strict in
    c.if-asks.false ∙ ap (λ t. t && not (surely c.in-Some.op)) (sym c.if-asks.false ∙ one)
    ∙ sym (ap (λ found. option_map_or open_by found false) (is ∙ c.in-Some.is))
