-- States that stand for the messages of one link among the beats of its manager, and the permission rules among those of a head.
use Rattle.std.proofs.Common.{◌≡◌, ℕ, Bool, true, false, cond, List, [], ◌++◌, Option, Some, None, refl, sym, ap, subst, ◌∙◌}
use Rattle.std.specs.Prelude.{filter}
use Rattle.std.specs.List.{list_any}
use Rattle.std.specs.Option.{option_map_or}
use Rattle.std.proofs.lemmas.List.{append-nil}
use Rattle.tl_tables.specs.declared.Op.{Op}
use Rattle.tl_tables.specs.declared.Rule.{Rule}
use Rattle.tl_beats.specs.declared.Placed.{Placed}
use Rattle.tl_definitions.specs.Heads.{message_of, last_head, before_on, is_head}
use Rattle.tl_definitions.specs.Messages.{Message, message_at, with_message, messages_on}
use Rattle.tl_definitions.specs.Past.{LinkPast, pasts_of}
use Rattle.tl_definitions.specs.Rules.{Manager, breaks_format, breaks_flow, breaks_permission, breaks_manager, format_order, flow_order, permission_order, manager_order, format_rules}
use Rattle.tl_definitions.specs.Breaks.{head_rules, later_rules}
use Rattle.tl_definitions.proofs.Lists.{kept_of_both, kept_order}
use Rattle.tl_definitions.proofs.SanityLaws.{none_of, first_kept}
use Rattle.tl_link_rules.specs.Flow.{flow_rules}
use Rattle.tl_link_rules.proofs.LinkLaws.{heads_are_messages, later_beats_are_no_messages}
use Rattle.tl_client_rules.specs.Client.{StandsFor, permission_rules}
use Rattle.tl_client_rules.specs.ClientLaws.{PermissionsNeedTheirLinkAlone, HeadsAreStoodFor, LaterBeatsAreStoodFor, FoundRulesAreBroken}

permissions_of : (kept : Rule → Bool) (m : Manager) (before : List Placed) (p : Placed) (found : Option Op) → list_any kept manager_order ≡ false
    → filter kept flow_order ≡ flow_order → filter kept permission_order ≡ permission_order → filter kept (head_rules m before p found)
    ≡ filter kept (format_rules m.exponent m.regions (m.links p.link) p.beat found) ++ flow_rules (messages_on m.links p.link before) p.beat found
    ++ permission_rules (m.links p.link).strict m.exponent (messages_on m.links p.link before) p.beat found
permissions_of kept m before p None manager flow permission =
    let first : List Rule = filter kept (format_rules m.exponent m.regions (m.links p.link) p.beat None) in
    sym (append-nil (first ++ []) ∙ append-nil first)
permissions_of kept m before p (Some o) manager flow permission =
    let pasts : ℕ → LinkPast = pasts_of m.links m.exponent before in
    let message : Message = message_at (messages_on m.links p.link before) p.beat o in
    let flow_test : Rule → Bool = breaks_flow (pasts p.link).flow message in
    let permission_test : Rule → Bool = breaks_permission (m.links p.link).strict m.exponent (pasts p.link).client message in
    let manager_test : Rule → Bool = breaks_manager m.clients m.exponent (λ client. (pasts client).client) p.link message in
    let format_part : List Rule = filter (breaks_format m.exponent m.regions (m.links p.link) o p.beat) format_order in
    let flow_part : List Rule = filter flow_test flow_order in
    let permission_part : List Rule = filter permission_test permission_order in
    first_kept kept (format_part ++ flow_part ++ permission_part) (filter manager_test manager_order) (none_of kept manager_test manager_order manager)
    ∙ kept_of_both kept (format_part ++ flow_part) permission_part
    ∙ ap (λ rules. rules ++ filter kept permission_part) (kept_of_both kept format_part flow_part)
    ∙ ap (λ rules. filter kept format_part ++ rules ++ filter kept permission_part) (kept_order kept flow_test flow_order ∙ ap (filter flow_test) flow)
    ∙ ap (λ rules. filter kept format_part ++ flow_part ++ rules) (kept_order kept permission_test permission_order ∙ ap (filter permission_test) permission)

pub permissions_need_their_link_alone : PermissionsNeedTheirLinkAlone
permissions_need_their_link_alone kept m before p manager flow permission head =
    ap (λ t. filter kept (cond t (head_rules m before p (message_of (m.links p.link) p.beat)) (option_map_or (later_rules (m.links p.link) p.beat) (last_head (m.links p.link) (before_on p.link p.beat.chan before)) []))) head
    ∙ permissions_of kept m before p (message_of (m.links p.link) p.beat) manager flow permission

pub heads_are_stood_for : HeadsAreStoodFor
heads_are_stood_for exponent flow old new decl before p head flow_stands stands next links is =
    let here : is_head (links p.link) (before_on p.link p.beat.chan before) ≡ true = ap (λ d. is_head d (before_on p.link p.beat.chan before)) is ∙ head in
    let own : List Message = messages_on links p.link before in
    subst (StandsFor exponent new)
    (ap (λ d. with_message p.beat (message_of d p.beat) own) (sym is) ∙ sym (heads_are_messages links before p here))
    (next own (flow_stands links is) (stands links is))

pub later_beats_are_stood_for : LaterBeatsAreStoodFor
later_beats_are_stood_for exponent state decl before p later stands links is =
    let here : is_head (links p.link) (before_on p.link p.beat.chan before) ≡ false = ap (λ d. is_head d (before_on p.link p.beat.chan before)) is ∙ later in
    subst (StandsFor exponent state) (sym (later_beats_are_no_messages links before p p.link here)) (stands links is)

pub found_rules_are_broken : FoundRulesAreBroken
found_rules_are_broken kept m before p flow client flows permissions manager flow_kept permission_kept head flow_stands stands flow_known known =
    let own : List Message = messages_on m.links p.link before in
    let first : List Rule = filter kept (format_rules m.exponent m.regions (m.links p.link) p.beat (message_of (m.links p.link) p.beat)) in
    permissions_need_their_link_alone kept m before p manager flow_kept permission_kept head
    ∙ ap (λ rules. first ++ rules ++ permission_rules (m.links p.link).strict m.exponent own p.beat (message_of (m.links p.link) p.beat)) (sym (flow_known own (flow_stands m.links refl)))
    ∙ ap (λ rules. first ++ flows ++ rules) (sym (known own (stands m.links refl)))
