-- What the reason of a broken rule is, in the words of the definitions: the opener that is open, the last message that set a
-- bound, the head of a burst, or that there is none.
use Rattle.std.specs.Prelude.{ℕ, ◌≡◌, ◌≤◌, ◌==◌, ◌&&◌, ◌⊎◌, Bool, true, false, List, [], ◌∷◌, ◌++◌, Some, None, map}
use Rattle.std.specs.List.{Contains, AllByRecursion}
use Rattle.tl_tables.specs.declared.Chan.{Chan}
use Rattle.tl_tables.specs.declared.Op.{Op}
use Rattle.tl_tables.specs.declared.Perm.{Perm}
use Rattle.tl_tables.specs.declared.Rule.{Rule}
use Rattle.tl_tables.specs.declared.Rule.TheVariants as rule
use Rattle.tl_tables.specs.Kinds.{conflicts}
use Rattle.tl_tables.specs.Messages.{same_chan}
use Rattle.tl_beats.specs.declared.Placed.{Placed}
use Rattle.tl_definitions.specs.OpenTables.{Table, IsOpen}
use Rattle.tl_definitions.specs.Heads.{message_of}
use Rattle.tl_definitions.specs.Messages.{Message, Links, sources, releases, sinks, probes, round_down, granted_block, claim, bound_of, message_at, messages_on, at_head}
use Rattle.tl_definitions.specs.Rules.{Manager}
use Rattle.tl_definitions.specs.Breaks.{rules_at}
use Rattle.tl_definitions.specs.Laws.{sets_block}
use Rattle.tl_rows.specs.declared.origin.Origin.{Origin}
use Rattle.tl_rows.specs.declared.reason.Reason.{Reason}
use Rattle.tl_rows.specs.declared.reason.Reason.TheVariants as why
use Rattle.tl_rows.specs.Origins.{message, origins_on, placed}
use Rattle.tl_rows.specs.Reasons.{acquires, gives_back, grants, reason_at}

-- It names the opener that is open on this key.
abbrev pub NamesOpen : (Placed → Reason) → Table Message → ℕ → List Origin → Reason → Type 0
NamesOpen kind table key before reason =
    (opener : Origin) × IsOpen (placed table) before opener × (table.key (message opener) ≡ key) × (reason ≡ kind opener.place)

-- Nothing is open on this key, and it says so.
abbrev pub NamesNone : Table Message → ℕ → List Origin → Reason → Type 0
NamesNone table key before reason =
    ((opener : Origin) → IsOpen (placed table) before opener → table.key (message opener) ≡ key → ⊥) × (reason ≡ why.NoneBefore)

-- It names an opener that is open and passes the test: of all these, the one with the least key.
abbrev pub NamesFirst : (Placed → Reason) → Table Message → (Message → Bool) → List Origin → Reason → Type 0
NamesFirst kind table test before reason =
    (opener : Origin) × IsOpen (placed table) before opener × (test (message opener) ≡ true)
    × ((other : Origin) → IsOpen (placed table) before other → test (message other) ≡ true → table.key (message opener) ≤ table.key (message other))
    × (reason ≡ kind opener.place)

-- No message sets the bound of the block.
abbrev pub NoneSets : ℕ → ℕ → List Origin → Type 0
NoneSets exponent block before = AllByRecursion (λ origin. sets_block exponent block (message origin) ≡ false) before

-- It names the last message that sets the bound of the block.
abbrev pub NamesSetter : (Placed → Reason) → ℕ → ℕ → List Origin → Reason → Type 0
NamesSetter kind exponent block before reason =
    (newer older : List Origin) × (setter : Origin) × (before ≡ newer ++ setter ∷ older) × (sets_block exponent block (message setter) ≡ true)
    × NoneSets exponent block newer × (reason ≡ kind setter.place)

-- It names that of the client's own bound, if there is one.
abbrev pub NamesOwnSetter : ℕ → ℕ → List Origin → Reason → Type 0
NamesOwnSetter exponent block before reason =
    NamesSetter why.Setter exponent block before reason ⊎ (NoneSets exponent block before × (reason ≡ why.NoneBefore))

-- It names the last message that set the bound of another client of the manager, which forbids what the Grant sets.
abbrev pub NamesRival : Manager → (ℕ → List Origin) → ℕ → Message → Reason → Type 0
NamesRival m before link grant reason =
    (set : ℕ × Perm) × (claim m.exponent grant ≡ Some set) × (client : ℕ) × Contains m.clients client × ((client == link) ≡ false)
    × (conflicts set.1 (bound_of m.exponent (map message (before client)) set.0) ≡ true) × NamesSetter why.Rival m.exponent set.0 (before client) reason

-- It names the Probe of the Grant's block that is open at some client of the manager.
abbrev pub NamesAnyProbe : Manager → (ℕ → List Origin) → Message → Reason → Type 0
NamesAnyProbe m before grant reason =
    (block : ℕ) × (granted_block m.exponent grant ≡ Some block) × (client : ℕ) × Contains m.clients client
    × NamesOpen why.Probe (probes m.exponent) block (before client) reason

-- It names the Grant of the block that is open at some client of the manager.
abbrev pub NamesAnyGrant : Manager → (ℕ → List Origin) → ℕ → Reason → Type 0
NamesAnyGrant m before block reason =
    (client : ℕ) × Contains m.clients client × NamesFirst why.Grant sinks (grants m.exponent block) (before client) reason

-- What the reason of a head with this message is, where it breaks the rule.
abbrev pub HeadMeaning : Manager → (ℕ → List Origin) → Placed → Message → Rule → Reason → Type 0
HeadMeaning m before p head rule.S1 reason = NamesOpen why.Request sources p.beat.source (before p.link) reason
HeadMeaning m before p head rule.S2 reason = NamesNone sources p.beat.source (before p.link) reason
HeadMeaning m before p head rule.S3 reason = NamesOpen why.Request sources p.beat.source (before p.link) reason
HeadMeaning m before p head rule.S4 reason = NamesOpen why.Request sources p.beat.source (before p.link) reason
HeadMeaning m before p head rule.S5 reason = NamesNone releases p.beat.source (before p.link) reason
HeadMeaning m before p head rule.S6 reason = NamesOpen why.Release releases p.beat.source (before p.link) reason
HeadMeaning m before p head rule.S7 reason = NamesOpen why.Release releases p.beat.source (before p.link) reason
HeadMeaning m before p head rule.S8 reason = NamesOpen why.Grant sinks p.beat.sink (before p.link) reason
HeadMeaning m before p head rule.S9 reason = NamesNone sinks p.beat.sink (before p.link) reason
HeadMeaning m before p head rule.P1 reason = NamesOwnSetter m.exponent (round_down m.exponent p.beat.address) (before p.link) reason
HeadMeaning m before p head rule.P2 reason = NamesOwnSetter m.exponent (round_down m.exponent p.beat.address) (before p.link) reason
HeadMeaning m before p head rule.P3 reason = NamesNone (probes m.exponent) (round_down m.exponent p.beat.address) (before p.link) reason
HeadMeaning m before p head rule.P4 reason = NamesOpen why.Probe (probes m.exponent) (round_down m.exponent p.beat.address) (before p.link) reason
HeadMeaning m before p head rule.P5 reason = NamesOpen why.Probe (probes m.exponent) (round_down m.exponent p.beat.address) (before p.link) reason
HeadMeaning m before p head rule.P6 reason = NamesFirst why.Request sources (acquires m.exponent (round_down m.exponent p.beat.address)) (before p.link) reason
HeadMeaning m before p head rule.P7 reason = NamesFirst why.Request sources (acquires m.exponent (round_down m.exponent p.beat.address)) (before p.link) reason
HeadMeaning m before p head rule.P8 reason = NamesFirst why.Release releases (gives_back m.exponent (round_down m.exponent p.beat.address)) (before p.link) reason
HeadMeaning m before p head rule.M1 reason = NamesRival m before p.link head reason
HeadMeaning m before p head rule.M2 reason = NamesAnyProbe m before head reason
HeadMeaning m before p head rule.M3 reason = NamesAnyGrant m before (round_down m.exponent p.beat.address) reason
HeadMeaning m before p head _ reason = reason ≡ why.ByItself

-- None of the newer beats is a head of the channel.
abbrev pub NoHeads : Links → ℕ → Chan → List Placed → List Placed → Type 0
NoHeads links link chan [] older = Unit {0}
NoHeads links link chan (q ∷ newer) older =
    ((((q.link == link) && same_chan q.beat.chan chan) && at_head links (newer ++ older) q) ≡ false) × NoHeads links link chan newer older

-- It names the newest head on the channel of a later beat.
abbrev pub NamesHead : Links → List Placed → Placed → Reason → Type 0
NamesHead links before p reason =
    (newer older : List Placed) × (head : Placed) × (before ≡ newer ++ head ∷ older)
    × ((((head.link == p.link) && same_chan head.beat.chan p.beat.chan) && at_head links older head) ≡ true)
    × NoHeads links p.link p.beat.chan newer (head ∷ older) × (reason ≡ why.Head head)

-- Each rule that a beat breaks has the reason that is meant: that of a head with a message, of a head without one, or of a later
-- beat.
abbrev pub BrokenRulesHaveTheirReason : Type 0
BrokenRulesHaveTheirReason = (m : Manager) (before : List Placed) (p : Placed) (broken : Rule) → Contains (rules_at m before p) broken →
    ((at_head m.links before p ≡ true)
    × ((o : Op) → message_of (m.links p.link) p.beat ≡ Some o
    → HeadMeaning m (λ link. origins_on m.links link before) p (message_at (messages_on m.links p.link before) p.beat o) broken (reason_at m before p broken))
    × (message_of (m.links p.link) p.beat ≡ None → reason_at m before p broken ≡ why.ByItself))
    ⊎ ((at_head m.links before p ≡ false) × NamesHead m.links before p (reason_at m before p broken))
