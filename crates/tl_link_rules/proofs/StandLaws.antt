-- States that stand for the messages of one link among the beats of its manager.
use Rattle.std.proofs.Common.{◌≡◌, true, false, List, ◌++◌, refl, sym, ap, subst, ◌∙◌}
use Rattle.std.specs.Prelude.{filter}
use Rattle.tl_definitions.specs.Heads.{message_of, before_on, is_head}
use Rattle.tl_definitions.specs.Messages.{Message, with_message, messages_on}
use Rattle.tl_definitions.specs.Rules.{format_rules}
use Rattle.tl_link_rules.specs.Flow.{StandsFor}
use Rattle.tl_link_rules.specs.Laws.{HeadsAreStoodFor, LaterBeatsAreStoodFor, FoundRulesAreBroken}
use Rattle.tl_link_rules.proofs.LinkLaws.{heads_are_messages, later_beats_are_no_messages, flow_needs_its_link_alone}

pub heads_are_stood_for : HeadsAreStoodFor
heads_are_stood_for old new decl before p head stands next links is =
    let here : is_head (links p.link) (before_on p.link p.beat.chan before) ≡ true = ap (λ d. is_head d (before_on p.link p.beat.chan before)) is ∙ head in
    let own : List Message = messages_on links p.link before in
    subst (StandsFor new)
    (ap (λ d. with_message p.beat (message_of d p.beat) own) (sym is) ∙ sym (heads_are_messages links before p here))
    (next own (stands links is))

pub later_beats_are_stood_for : LaterBeatsAreStoodFor
later_beats_are_stood_for state decl before p later stands links is =
    let here : is_head (links p.link) (before_on p.link p.beat.chan before) ≡ false = ap (λ d. is_head d (before_on p.link p.beat.chan before)) is ∙ later in
    subst (StandsFor state) (sym (later_beats_are_no_messages links before p p.link here)) (stands links is)

pub found_rules_are_broken : FoundRulesAreBroken
found_rules_are_broken kept m before p state found permission manager flow head stands known =
    flow_needs_its_link_alone kept m before p permission manager flow head
    ∙ ap (λ rules. filter kept (format_rules m.exponent m.regions (m.links p.link) p.beat (message_of (m.links p.link) p.beat)) ++ rules)
    (sym (known (messages_on m.links p.link before) (stands m.links refl)))
