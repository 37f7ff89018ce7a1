-- The messages of a link, beat by beat, and the flow rules among those of a head.
use Rattle.std.proofs.Common.{◌≡◌, ℕ, ◌==◌, ◌&&◌, Bool, true, false, cond, List, [], ◌++◌, Option, Some, None, refl, sym, ap, ◌∙◌, arith}
use Rattle.std.specs.Prelude.{filter}
use Rattle.std.specs.List.{list_any}
use Rattle.std.specs.Option.{option_map_or}
use Rattle.std.proofs.lemmas.Bool.Decides.{nat_tests}
use Rattle.std.proofs.lemmas.List.{append-nil}
use Rattle.tl_tables.specs.declared.Op.{Op}
use Rattle.tl_tables.specs.declared.Rule.{Rule}
use Rattle.tl_beats.specs.declared.Placed.{Placed}
use Rattle.tl_definitions.specs.Heads.{message_of, last_head, before_on}
use Rattle.tl_definitions.specs.Messages.{Message, message_at, with_message, at_head, messages_on}
use Rattle.tl_definitions.specs.Past.{LinkPast, pasts_of}
use Rattle.tl_definitions.specs.Rules.{Manager, breaks_format, breaks_flow, breaks_permission, breaks_manager, format_order, flow_order, permission_order, manager_order, format_rules}
use Rattle.tl_definitions.specs.Breaks.{head_rules, later_rules}
use Rattle.tl_definitions.proofs.Lists.{kept_of_both, kept_order}
use Rattle.tl_definitions.proofs.SanityLaws.{none_of, first_kept}
use Rattle.tl_link_rules.specs.Flow.{flow_rules}
use Rattle.tl_link_rules.specs.Laws.{HeadsAreMessages, LaterBeatsAreNoMessages, LinksAreApart, FlowNeedsItsLinkAlone}

both_true : (a b : Bool) → a ≡ true → b ≡ true → (a && b) ≡ true
both_true true b h g = g
both_true false b h g = h

second_false : (a b : Bool) → b ≡ false → (a && b) ≡ false
second_false true b h = h
second_false false b h = refl

pub heads_are_messages : HeadsAreMessages
heads_are_messages links before p head =
    let own : List Message = messages_on links p.link before in
    let same : (p.link == p.link) ≡ true = grind (arith, nat_tests) in
    ap (λ b. cond b (with_message p.beat (message_of (links p.link) p.beat) own) own) (both_true (p.link == p.link) (at_head links before p) same head)

pub later_beats_are_no_messages : LaterBeatsAreNoMessages
later_beats_are_no_messages links before p link later =
    let own : List Message = messages_on links link before in
    ap (λ b. cond b (with_message p.beat (message_of (links link) p.beat) own) own) (second_false (p.link == link) (at_head links before p) later)

pub links_are_apart : LinksAreApart
links_are_apart links before p link other =
    let own : List Message = messages_on links link before in
    ap (λ b. cond (b && at_head links before p) (with_message p.beat (message_of (links link) p.beat) own) own) other

-- ---- the flow rules among those of a head

flow_of : (kept : Rule → Bool) (m : Manager) (before : List Placed) (p : Placed) (found : Option Op) → list_any kept permission_order ≡ false → list_any kept manager_order ≡ false
    → filter kept flow_order ≡ flow_order → filter kept (head_rules m before p found)
    ≡ filter kept (format_rules m.exponent m.regions (m.links p.link) p.beat found) ++ flow_rules (messages_on m.links p.link before) p.beat found
flow_of kept m before p None permission manager flow = sym (append-nil (filter kept (format_rules m.exponent m.regions (m.links p.link) p.beat None)))
flow_of kept m before p (Some o) permission manager flow =
    let pasts : ℕ → LinkPast = pasts_of m.links m.exponent before in
    let message : Message = message_at (messages_on m.links p.link before) p.beat o in
    let format_part : List Rule = filter (breaks_format m.exponent m.regions (m.links p.link) o p.beat) format_order in
    let flow_part : List Rule = filter (breaks_flow (pasts p.link).flow message) flow_order in
    let permission_part : List Rule = filter (breaks_permission (m.links p.link).strict m.exponent (pasts p.link).client message) permission_order in
    let manager_part : List Rule = filter (breaks_manager m.clients m.exponent (λ client. (pasts client).client) p.link message) manager_order in
    first_kept kept (format_part ++ flow_part ++ permission_part) manager_part (none_of kept (breaks_manager m.clients m.exponent (λ client. (pasts client).client) p.link message) manager_order manager)
    ∙ first_kept kept (format_part ++ flow_part) permission_part (none_of kept (breaks_permission (m.links p.link).strict m.exponent (pasts p.link).client message) permission_order permission)
    ∙ kept_of_both kept format_part flow_part
    ∙ ap (λ rules. filter kept format_part ++ rules) (kept_order kept (breaks_flow (pasts p.link).flow message) flow_order ∙ ap (filter (breaks_flow (pasts p.link).flow message)) flow)

pub flow_needs_its_link_alone : FlowNeedsItsLinkAlone
flow_needs_its_link_alone kept m before p permission manager flow head =
    ap (λ t. filter kept (cond t (head_rules m before p (message_of (m.links p.link) p.beat)) (option_map_or (later_rules (m.links p.link) p.beat) (last_head (m.links p.link) (before_on p.link p.beat.chan before)) []))) head
    ∙ flow_of kept m before p (message_of (m.links p.link) p.beat) permission manager flow
