-- What follows from the definitions of open requests, and how the messages of a link follow from its beats.
use Rattle.std.specs.Prelude.{◌≡◌, ℕ, ◌==◌, ◌&&◌, Bool, true, false, List, ◌∷◌, ◌++◌, Some, None, filter, if◌then◌else◌}
use Rattle.std.specs.List.{AllByRecursion, list_any}
use Rattle.tl_tables.specs.declared.Op.{Op}
use Rattle.tl_tables.specs.declared.Rule.{Rule}
use Rattle.tl_beats.specs.declared.Beat.{Beat}
use Rattle.tl_beats.specs.declared.Placed.{Placed}
use Rattle.tl_beats.specs.declared.Request.{Request}
use Rattle.tl_tables.specs.Kinds.{is_release_ack}
use Rattle.tl_definitions.specs.OpenTables.{Table, IsOpen}
use Rattle.tl_definitions.specs.Heads.{message_of, before_on, is_head}
use Rattle.tl_definitions.specs.Messages.{Links, Message, is_reply, request_of, message_at, with_message, at_head, messages_on}
use Rattle.tl_definitions.specs.Past.{flow_past}
use Rattle.tl_definitions.specs.Rules.{Manager, flow_order, permission_order, manager_order, format_rules}
use Rattle.tl_definitions.specs.Breaks.{rules_at}
use Rattle.tl_topology.specs.declared.LinkDecl.{LinkDecl}
use Rattle.tl_link_rules.specs.declared.flow.FlowState.{FlowState}
use Rattle.tl_link_rules.specs.Flow.{StandsFor, StandsOn, flow_rules}

-- The message closes the entry of this key.
abbrev pub closes_key : Table Message → ℕ → Message → Bool
closes_key table key message = table.closes message && (table.key message == key)

-- Where a key was opened and no newer message closes it, an opener is open on it: this one, or a newer one that opened it again.
abbrev pub OpenedStaysOpen : Type 0
OpenedStaysOpen = (table : Table Message) (newer older : List Message) (opener : Message) → table.opens opener ≡ true
    → AllByRecursion (λ message. closes_key table (table.key opener) message ≡ false) newer
    → (last : Message) × IsOpen table (newer ++ opener ∷ older) last × (table.key last ≡ table.key opener)

-- After a head that answers a request nothing is open on its source in the table of that request, whatever rules it breaks.
abbrev pub RepliesCloseTheirSource : Type 0
RepliesCloseTheirSource = (before : List Message) (o : Op) (beat : Beat) (request : Request) → request_of before o beat ≡ Some request
    → (if is_release_ack o then (flow_past (message_at before beat o ∷ before)).release beat.source
    else (flow_past (message_at before beat o ∷ before)).source beat.source) ≡ None

-- After a reply of channel D, whether it answers a request or not, no request is in flight on its source.
abbrev pub RepliesLeaveNoRequest : Type 0
RepliesLeaveNoRequest = (before : List Message) (reply : Message) → is_reply reply ≡ true → (flow_past (reply ∷ before)).source reply.beat.source ≡ None

-- A head is the newest message of its link, if its opcode is one.
abbrev pub HeadsAreMessages : Type 0
HeadsAreMessages = (links : Links) (before : List Placed) (p : Placed) → at_head links before p ≡ true
    → messages_on links p.link (p ∷ before) ≡ with_message p.beat (message_of (links p.link) p.beat) (messages_on links p.link before)

-- A later beat leaves the messages of each link as they were.
abbrev pub LaterBeatsAreNoMessages : Type 0
LaterBeatsAreNoMessages = (links : Links) (before : List Placed) (p : Placed) (link : ℕ) → at_head links before p ≡ false
    → messages_on links link (p ∷ before) ≡ messages_on links link before

-- A beat leaves the messages of other links as they were.
abbrev pub LinksAreApart : Type 0
LinksAreApart = (links : Links) (before : List Placed) (p : Placed) (link : ℕ) → (p.link == link) ≡ false
    → messages_on links link (p ∷ before) ≡ messages_on links link before

-- Of the rules of a head, those that are neither permission nor manager rules are its format rules and then its flow rules, and
-- these need the messages of its own link alone.
abbrev pub FlowNeedsItsLinkAlone : Type 0
FlowNeedsItsLinkAlone = (kept : Rule → Bool) (m : Manager) (before : List Placed) (p : Placed)
    → list_any kept permission_order ≡ false → list_any kept manager_order ≡ false → filter kept flow_order ≡ flow_order → at_head m.links before p ≡ true
    → filter kept (rules_at m before p) ≡ filter kept (format_rules m.exponent m.regions (m.links p.link) p.beat (message_of (m.links p.link) p.beat))
    ++ flow_rules (messages_on m.links p.link before) p.beat (message_of (m.links p.link) p.beat)

-- A state that stands for the messages of a link, and then for that of one more head, stands for the beats with the head.
abbrev pub HeadsAreStoodFor : Type 0
HeadsAreStoodFor = (old new : FlowState) (decl : LinkDecl) (before : List Placed) (p : Placed) → is_head decl (before_on p.link p.beat.chan before) ≡ true
    → StandsOn old decl p.link before → ((messages : List Message) → StandsFor old messages → StandsFor new (with_message p.beat (message_of decl p.beat) messages))
    → StandsOn new decl p.link (p ∷ before)

-- One that is not stepped by a later beat stands for the beats with that.
abbrev pub LaterBeatsAreStoodFor : Type 0
LaterBeatsAreStoodFor = (state : FlowState) (decl : LinkDecl) (before : List Placed) (p : Placed) → is_head decl (before_on p.link p.beat.chan before) ≡ false
    → StandsOn state decl p.link before → StandsOn state decl p.link (p ∷ before)

-- What is found of a head by a state that stands for its link is, with its format rules, what it breaks of the rules kept.
abbrev pub FoundRulesAreBroken : Type 0
FoundRulesAreBroken = (kept : Rule → Bool) (m : Manager) (before : List Placed) (p : Placed) (state : FlowState) (found : List Rule)
    → list_any kept permission_order ≡ false → list_any kept manager_order ≡ false → filter kept flow_order ≡ flow_order → at_head m.links before p ≡ true
    → StandsOn state (m.links p.link) p.link before
    → ((messages : List Message) → StandsFor state messages → found ≡ flow_rules messages p.beat (message_of (m.links p.link) p.beat))
    → filter kept (rules_at m before p) ≡ filter kept (format_rules m.exponent m.regions (m.links p.link) p.beat (message_of (m.links p.link) p.beat)) ++ found
