-- What follows from the definitions of bounds, and how a state stands for the beats of its link.
use Rattle.std.specs.Prelude.{◌≡◌, ℕ, ◌==◌, Bool, true, false, List, ◌∷◌, ◌++◌, None, filter}
use Rattle.std.specs.List.{list_any}
use Rattle.tl_tables.specs.declared.Perm.TheVariants as perm
use Rattle.tl_tables.specs.declared.Rule.{Rule}
use Rattle.tl_tables.specs.declared.Rule.TheVariants as rule
use Rattle.tl_tables.specs.Params.{is_lawful}
use Rattle.tl_topology.specs.declared.LinkDecl.{LinkDecl}
use Rattle.tl_beats.specs.declared.Placed.{Placed}
use Rattle.tl_definitions.specs.Heads.{message_of, before_on, is_head}
use Rattle.tl_definitions.specs.Messages.{Message, with_message, at_head, messages_on, round_down, bound_of}
use Rattle.tl_definitions.specs.Past.{ClientPast, client_past}
use Rattle.tl_definitions.specs.Rules.{Manager, flow_order, permission_order, manager_order, format_rules, breaks_permission}
use Rattle.tl_definitions.specs.Breaks.{rules_at}
use Rattle.tl_definitions.specs.Laws.{sets_block}
use Rattle.tl_link_rules.specs.declared.flow.FlowState.{FlowState}
use Rattle.tl_link_rules.specs.Flow as flow_state
use Rattle.tl_link_rules.specs.Flow.{flow_rules}
use Rattle.tl_client_rules.specs.declared.client.ClientState.{ClientState}
use Rattle.tl_client_rules.specs.Client.{StandsFor, StandsOn, permission_rules}

-- A message whose param is not lawful sets no bound, and claims and keeps nothing that a rule could forbid.
abbrev pub UnlawfulClaimsNothing : Type 0
UnlawfulClaimsNothing = (exponent : ℕ) (message : Message) → is_lawful message.op message.beat.param ≡ false →
    ((before : List Message) (block : ℕ) → bound_of exponent (message ∷ before) block ≡ bound_of exponent before block)
    × ((strict : Bool) (past : ClientPast) → (breaks_permission strict exponent past message rule.P1 ≡ false) × (breaks_permission strict exponent past message rule.P2 ≡ false)
    × (breaks_permission strict exponent past message rule.P4 ≡ false))

-- A message leaves the bounds of the blocks that it does not set.
abbrev pub OtherBlocksStay : Type 0
OtherBlocksStay = (exponent : ℕ) (message : Message) (before : List Message) (block : ℕ) → sets_block exponent block message ≡ false
    → bound_of exponent (message ∷ before) block ≡ bound_of exponent before block

-- Where no block begins, nothing is held, and no Probe or Grant is open.
abbrev pub OnlyBlocksAreHeld : Type 0
OnlyBlocksAreHeld = (exponent : ℕ) (before : List Message) (address : ℕ) → (round_down exponent address == address) ≡ false
    → (bound_of exponent before address ≡ perm.Nothing) × ((client_past exponent before).probe address ≡ None) × ((client_past exponent before).grants address ≡ 0)

-- Of the rules of a head, those that are no manager rules are its format rules, its flow rules and its permission rules, and these
-- need the messages of its own link alone.
abbrev pub PermissionsNeedTheirLinkAlone : Type 0
PermissionsNeedTheirLinkAlone = (kept : Rule → Bool) (m : Manager) (before : List Placed) (p : Placed) → list_any kept manager_order ≡ false
    → filter kept flow_order ≡ flow_order → filter kept permission_order ≡ permission_order → at_head m.links before p ≡ true
    → filter kept (rules_at m before p) ≡ filter kept (format_rules m.exponent m.regions (m.links p.link) p.beat (message_of (m.links p.link) p.beat))
    ++ flow_rules (messages_on m.links p.link before) p.beat (message_of (m.links p.link) p.beat)
    ++ permission_rules (m.links p.link).strict m.exponent (messages_on m.links p.link before) p.beat (message_of (m.links p.link) p.beat)

-- A state that stands for the messages of a link, and then, where a flow state stands for them too, for that of one more head,
-- stands for the beats with the head.
abbrev pub HeadsAreStoodFor : Type 0
HeadsAreStoodFor = (exponent : ℕ) (flow : FlowState) (old new : ClientState) (decl : LinkDecl) (before : List Placed) (p : Placed)
    → is_head decl (before_on p.link p.beat.chan before) ≡ true → flow_state.StandsOn flow decl p.link before → StandsOn exponent old decl p.link before
    → ((messages : List Message) → flow_state.StandsFor flow messages → StandsFor exponent old messages → StandsFor exponent new (with_message p.beat (message_of decl p.beat) messages))
    → StandsOn exponent new decl p.link (p ∷ before)

-- One that is not stepped by a later beat stands for the beats with that.
abbrev pub LaterBeatsAreStoodFor : Type 0
LaterBeatsAreStoodFor = (exponent : ℕ) (state : ClientState) (decl : LinkDecl) (before : List Placed) (p : Placed)
    → is_head decl (before_on p.link p.beat.chan before) ≡ false → StandsOn exponent state decl p.link before → StandsOn exponent state decl p.link (p ∷ before)

-- What is found of a head by states that stand for its link is, with its format rules, what it breaks of the rules kept.
abbrev pub FoundRulesAreBroken : Type 0
FoundRulesAreBroken = (kept : Rule → Bool) (m : Manager) (before : List Placed) (p : Placed) (flow : FlowState) (client : ClientState) (flows permissions : List Rule)
    → list_any kept manager_order ≡ false → filter kept flow_order ≡ flow_order → filter kept permission_order ≡ permission_order → at_head m.links before p ≡ true
    → flow_state.StandsOn flow (m.links p.link) p.link before → StandsOn m.exponent client (m.links p.link) p.link before
    → ((messages : List Message) → flow_state.StandsFor flow messages → flows ≡ flow_rules messages p.beat (message_of (m.links p.link) p.beat))
    → ((messages : List Message) → StandsFor m.exponent client messages → permissions ≡ permission_rules (m.links p.link).strict m.exponent messages p.beat (message_of (m.links p.link) p.beat))
    → filter kept (rules_at m before p) ≡ filter kept (format_rules m.exponent m.regions (m.links p.link) p.beat (message_of (m.links p.link) p.beat)) ++ flows ++ permissions
