-- What the definitions of heads, open tables, requests and bounds mean, said of positions, and what follows from them.
use Rattle.std.specs.Prelude.{◌≡◌, ℕ, ◌+◌, ◌^◌, ◌<◌, ◌≤◌, ◌==◌, ◌||◌, ◌⊎◌, ◌↔◌, Bool, true, false, List, [], ◌∷◌, ◌++◌, Some, length, filter, if◌then◌else◌}
use Rattle.std.specs.List.{AllByRecursion, Contains, list_any}
use Rattle.std.specs.Option.{option_map_or}
use Rattle.tl_tables.specs.declared.Chan.TheVariants as chan
use Rattle.tl_tables.specs.declared.Op.{Op}
use Rattle.tl_tables.specs.declared.Perm.{Perm}
use Rattle.tl_tables.specs.declared.Perm.TheVariants as perm
use Rattle.tl_tables.specs.declared.Rule.{Rule}
use Rattle.tl_tables.specs.declared.Rule.TheVariants as rule
use Rattle.tl_tables.specs.Messages.{same_chan, replies_to}
use Rattle.tl_tables.specs.Params.{from_of, to_of, is_above}
use Rattle.tl_topology.specs.declared.LinkDecl.{LinkDecl}
use Rattle.tl_beats.specs.declared.Beat.{Beat}
use Rattle.tl_beats.specs.declared.Placed.{Placed}
use Rattle.tl_beats.specs.declared.Request.{Request}
use Rattle.tl_definitions.specs.declared.Unfinished.{Unfinished}
use Rattle.tl_tables.specs.Kinds.{is_acquire, is_grant, is_probe_ack, is_release, is_release_ack}
use Rattle.tl_definitions.specs.OpenTables.{Table, IsOpen, open_at, open_keys}
use Rattle.tl_definitions.specs.Heads.{message_of, beat_count, is_head, last_head, unfinished}
use Rattle.tl_definitions.specs.Messages.{Message, at_head, sources, releases, sinks, as_request, granted_block, request_of, message_at, block_of, round_down, claim, bound_of}
use Rattle.tl_definitions.specs.Past.{FlowPast, ClientPast, client_past}
use Rattle.tl_definitions.specs.Rules.{Manager, flow_order, permission_order, manager_order, format_rules, breaks_flow, breaks_permission}
use Rattle.tl_definitions.specs.Breaks.{rules_at}

-- A beat is a head when it is the first of its channel, or when some earlier head has as many beats as lead up to it.
abbrev pub HeadsAreByBursts : Type 0
HeadsAreByBursts = (link : LinkDecl) (before : List Beat) → (is_head link before ≡ true) ↔
    ((length before ≡ 0) ⊎ ((newer older : List Beat) × (j : Beat) × (before ≡ newer ++ j ∷ older) × (is_head link older ≡ true)
    × (length older + beat_count link j ≡ length before)))

-- None of the newer beats is a head.
abbrev pub NoHeads : LinkDecl → List Beat → List Beat → Type 0
NoHeads link [] older = Unit {0}
NoHeads link (beat ∷ newer) older = (is_head link (newer ++ older) ≡ false) × NoHeads link newer older

-- The greatest head below the next index.
abbrev pub IsLastHead : LinkDecl → List Beat → Beat → Type 0
IsLastHead link before head = (newer older : List Beat) × (before ≡ newer ++ head ∷ older) × (is_head link older ≡ true) × NoHeads link newer (head ∷ older)

-- A later beat has a head: the greatest below it.
abbrev pub LaterBeatsHaveAHead : Type 0
LaterBeatsHaveAHead = (link : LinkDecl) (before : List Beat) → is_head link before ≡ false
    → (head : Beat) × (last_head link before ≡ Some head) × IsLastHead link before head

-- A head of one beat is followed by a head.
abbrev pub OneBeatIsAll : Type 0
OneBeatIsAll = (link : LinkDecl) (before : List Beat) (beat : Beat) → is_head link before ≡ true → beat_count link beat ≡ 1
    → is_head link (beat ∷ before) ≡ true

-- Where each message has one beat, each beat is a head.
abbrev pub OneBeatMessagesAreHeads : Type 0
OneBeatMessagesAreHeads = (link : LinkDecl) (before : List Beat) → AllByRecursion (λ beat. beat_count link beat ≡ 1) before → is_head link before ≡ true

-- A head of n beats is the head of the next n - 1 beats of its channel, and the beat after these is a head.
abbrev pub MessagesOwnTheirBeats : Type 0
MessagesOwnTheirBeats = (link : LinkDecl) (before later : List Beat) (head : Beat) → is_head link before ≡ true → length later < beat_count link head
    → (last_head link (later ++ head ∷ before) ≡ Some head) × (is_head link (later ++ head ∷ before) ≡ ((length later + 1) == beat_count link head))

-- What is unfinished is the last head with as many beats as it has more than have come.
abbrev pub UnfinishedIsTheRest : Type 0
UnfinishedIsTheRest = (link : LinkDecl) (before : List Beat) (rest : Unfinished) → unfinished link before ≡ Some rest
    → (newer older : List Beat) × (before ≡ newer ++ rest.head ∷ older) × (is_head link older ≡ true)
    × ((length newer + 1) + rest.missing ≡ beat_count link rest.head) × (0 < rest.missing)

-- A beat that breaks F1 breaks no other rule.
abbrev pub NoMessageBreaksF1Alone : Type 0
NoMessageBreaksF1Alone = (m : Manager) (before : List Placed) (p : Placed) → Contains (rules_at m before p) rule.F1 → rules_at m before p ≡ rule.F1 ∷ []

-- Of the rules of a head, the format rules are those of the beat alone: any part of them needs no beats before it.
abbrev pub FormatNeedsNoPast : Type 0
FormatNeedsNoPast = (kept : Rule → Bool) (m : Manager) (before : List Placed) (p : Placed)
    → list_any kept flow_order ≡ false → list_any kept permission_order ≡ false → list_any kept manager_order ≡ false → at_head m.links before p ≡ true
    → filter kept (rules_at m before p) ≡ filter kept (format_rules m.exponent m.regions (m.links p.link) p.beat (message_of (m.links p.link) p.beat))

-- A table finds an opener under a key exactly where it is open.
abbrev pub EntriesAreOpen : Type 0
EntriesAreOpen = (table : Table Message) (before : List Message) (key : ℕ) (opener : Message)
    → (open_at table key before ≡ Some opener) ↔ (IsOpen table before opener × (table.key opener ≡ key))

-- At most one opener is open on a key.
abbrev pub OneEntry : Type 0
OneEntry = (table : Table Message) (before : List Message) (j k : Message) → IsOpen table before j → IsOpen table before k → table.key j ≡ table.key k → j ≡ k

-- The count of a test is above 0 exactly where some opener that passes it is open.
abbrev pub CountsAreOfOpen : Type 0
CountsAreOfOpen = (table : Table Message) (test : Message → Bool) (before : List Message) → (0 < length (open_keys table test before)) ↔
    ((opener : Message) × IsOpen table before opener × (test opener ≡ true))

-- So are the counts of a client's past: of the Acquires, the Releases and the Grants that are open on the block.
abbrev pub BlockCountsAreOfOpen : Type 0
BlockCountsAreOfOpen = (exponent : ℕ) (before : List Message) (block : ℕ) →
    ((0 < (client_past exponent before).acquires block) ↔ ((opener : Message) × IsOpen sources before opener × (is_acquire opener.op ≡ true)
    × (block_of exponent opener ≡ block)))
    × ((0 < (client_past exponent before).releases block) ↔ ((opener : Message) × IsOpen releases before opener × (block_of exponent opener ≡ block)))
    × ((0 < (client_past exponent before).grants block) ↔ ((opener : Message) × IsOpen sinks before opener × (granted_block exponent opener ≡ Some block)))

-- The request of a head on D is the opener that is open on its source: among Releases for a ReleaseAck, else among requests.
abbrev pub RequestsAreOpen : Type 0
RequestsAreOpen = (before : List Message) (o : Op) (beat : Beat) (request : Request) → same_chan beat.chan chan.D ≡ true
    → (request_of before o beat ≡ Some request) ↔ ((opener : Message) × IsOpen (if is_release_ack o then releases else sources) before opener
    × (opener.beat.source ≡ beat.source) × (as_request opener ≡ request))

-- A reply of the right kind and size to an open request breaks none of S2, S3 and S4.
abbrev pub FittingRepliesAreSound : Type 0
FittingRepliesAreSound = (past : FlowPast) (before : List Message) (o : Op) (beat : Beat) (request : Request)
    → request_of before o beat ≡ Some request → replies_to request.op o ≡ true → request.size ≡ beat.size
    → (breaks_flow past (message_at before beat o) rule.S2 ≡ false) × (breaks_flow past (message_at before beat o) rule.S3 ≡ false)
    × (breaks_flow past (message_at before beat o) rule.S4 ≡ false)

-- A block has its addresses: it begins at or below them, and ends above them.
abbrev pub BlocksHoldTheirAddresses : Type 0
BlocksHoldTheirAddresses = (exponent address : ℕ) → (round_down exponent address ≤ address) × (address < round_down exponent address + 2 ^ exponent)

-- The message sets the bound of the block.
abbrev pub sets_block : ℕ → ℕ → Message → Bool
sets_block exponent block message = option_map_or (λ set. set.0 == block) (claim exponent message) false

-- A bound is what the last message sets that sets it, and N where none does.
abbrev pub BoundsAreLastSet : Type 0
BoundsAreLastSet = (exponent : ℕ) (before : List Message) (block : ℕ) →
    ((newer older : List Message) × (message : Message) × (before ≡ newer ++ message ∷ older)
    × (claim exponent message ≡ Some (block, bound_of exponent before block)) × AllByRecursion (λ m. sets_block exponent block m ≡ false) newer)
    ⊎ (AllByRecursion (λ m. sets_block exponent block m ≡ false) before × (bound_of exponent before block ≡ perm.Nothing))

-- A denied Grant leaves all bounds as they were.
abbrev pub DeniedGivesNothing : Type 0
DeniedGivesNothing = (exponent : ℕ) (message : Message) (before : List Message) (block : ℕ) → is_grant message.op ≡ true → message.beat.denied ≡ true
    → bound_of exponent (message ∷ before) block ≡ bound_of exponent before block

-- A ProbeAck or Release with a lawful param leaves its client what it says, and other blocks as they were.
abbrev pub ReleaseLeaves : Type 0
ReleaseLeaves = (exponent : ℕ) (message : Message) (before : List Message) (to : Perm) → (is_probe_ack message.op || is_release message.op) ≡ true
    → to_of message.op message.beat.param ≡ Some to
    → (bound_of exponent (message ∷ before) (block_of exponent message) ≡ to)
    × ((block : ℕ) → (block_of exponent message == block) ≡ false → bound_of exponent (message ∷ before) block ≡ bound_of exponent before block)

-- On a strict link P1 and P2 are kept exactly where what is claimed is the bound.
abbrev pub StrictClaimsAreTheBound : Type 0
StrictClaimsAreTheBound = (exponent : ℕ) (past : ClientPast) (message : Message) (from : Perm)
    → (is_acquire message.op || is_probe_ack message.op || is_release message.op) ≡ true → from_of message.op message.beat.param ≡ Some from
    → ((breaks_permission true exponent past message rule.P1 ≡ false) × (breaks_permission true exponent past message rule.P2 ≡ false))
    ↔ (from ≡ past.bound (block_of exponent message))

-- Only Grants raise a bound, where P1 and P2 are kept, on a strict link or another.
abbrev pub OnlyGrantsRaise : Type 0
OnlyGrantsRaise = (strict : Bool) (exponent : ℕ) (message : Message) (before : List Message) (block : ℕ) → is_grant message.op ≡ false
    → breaks_permission strict exponent (client_past exponent before) message rule.P1 ≡ false
    → breaks_permission strict exponent (client_past exponent before) message rule.P2 ≡ false
    → is_above (bound_of exponent (message ∷ before) block) (bound_of exponent before block) ≡ false
