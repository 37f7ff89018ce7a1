use Rattle.std.proofs.Common.{◌&&◌, Bool, None, Some, sym, ap, ◌∙◌}
use Rattle.std.specs.Prelude.{not}
use Rattle.tl_tables.specs.declared.Op.{Op}
use Rattle.tl_definitions.specs.Known.{KnownPast, bare, known_pasts}
use Rattle.tl_midway.specs.Asked.{is_plain}
use Rattle.tl_midway.specs.Unjudged.{is_unknown, asks}
use Rattle.tl_midway.proofs.AskedLaws.{of_message, plain_asks}
use Rattle.tl_midway.proofs.known_pasts.KnownPasts.asks_nothing.Goals as goal

pub returns-in-Some : goal.returns-in-Some
returns-in-Some c h m start before stands declared r =
    let p = c.args.at.now in
    let by : Op → Bool = λ o. asks m (known_pasts m start before) p.link (bare o p.beat) r in
    let stood = c.past-past.ensures m start before stands in
    of_message m start before p c.args.link.now declared r by (Some c.in-Some.op) (sym c.op_of.ensures ∙ c.in-Some.is)
    ∙ plain_asks m (known_pasts m start before) p.link c.in-Some.op p.beat r
    (sym (ap (λ (past : KnownPast). is_plain c.in-Some.op && not (is_unknown (past.flow.source p.beat.source))) stood.shows) ∙ sym c.asks_nothing.ensures ∙ h)

pub returns-in-None : goal.returns-in-None
returns-in-None c h m start before stands declared r =
    let p = c.args.at.now in
    let by : Op → Bool = λ o. asks m (known_pasts m start before) p.link (bare o p.beat) r in
    of_message m start before p c.args.link.now declared r by None (sym c.op_of.ensures ∙ c.in-None.is)
