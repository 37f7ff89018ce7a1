-- A rule that all that is known leaves open breaks is broken.
use Rattle.std.proofs.Common.{◌≡◌, ℕ, ◌-◌, ◌*◌, ◌/◌, ◌%◌, ◌^◌, ◌<◌, ◌≤◌, inl, inr, ◌==◌, ◌&&◌, ◌||◌, max, Bool, true, false, cond, List, [], ◌∷◌, length, map, Option, Some, None, refl, sym, ap, ◌∙◌, arith, div-mul-le_self, mul-le-mul_right, one-mul, pow_pos, mod-lt}
use Rattle.std.specs.Prelude.{nat_lt, nat_le, not, is_some, is_none, filter, bit_and}
use Rattle.std.specs.Option.{option_map_or, option_and_then}
use Rattle.std.specs.List.{Contains, list_any, list_all}
use Rattle.std.proofs.lemmas.Bool.Decides.{nat_tests}
use lib.Bits.{and_mask}
use Rattle.tl_tables.specs.declared.Chan.TheVariants as chan
use Rattle.tl_tables.specs.declared.Op.{Op}
use Rattle.tl_tables.specs.declared.Perm.{Perm}
use Rattle.tl_tables.specs.declared.Perm.TheVariants as perm
use Rattle.tl_tables.specs.declared.Rule.{Rule}
use Rattle.tl_tables.specs.declared.Rule.TheVariants as rule
use Rattle.tl_tables.specs.Messages.{same_chan, chan_number, carries_data_of, replies_to}
use Rattle.tl_tables.specs.Params.{from_of, to_of, is_above}
use Rattle.tl_tables.specs.Kinds.{is_acquire, is_probe, is_probe_ack, is_release, is_grant, is_release_ack, is_grant_ack, is_put_partial, conflicts}
use Rattle.tl_topology.specs.declared.LinkDecl.{LinkDecl}
use Rattle.tl_beats.specs.declared.Beat.{Beat}
use Rattle.tl_beats.specs.declared.Placed.{Placed}
use Rattle.tl_beats.specs.declared.Request.{Request}
use Rattle.tl_definitions.specs.declared.Unfinished.{Unfinished}
use Rattle.tl_definitions.specs.OpenTables.{Table, passes, open_at, entry_at, open_keys}
use Rattle.tl_definitions.specs.Heads.{message_of, before_on, beat_count}
use Rattle.tl_definitions.specs.Messages.{Message, as_request, sources, releases, sinks, is_request, is_reply, block_of, round_down, granted_block, claim, messages_on}
use Rattle.tl_definitions.specs.Past.{FlowPast, ClientPast, acquires_block, releases_block, grants_block}
use Rattle.tl_definitions.specs.Rules.{Manager, has_mask, active_lanes, is_mask_ok, breaks_format, breaks_flow, breaks_permission, breaks_manager, conflicts_with_other, is_wrong}
use Rattle.tl_definitions.specs.Breaks.{breaks_later, later_order, later_rules}
use Rattle.tl_definitions.specs.Judging.{Snapshot, snapshot, request_in, message_in, judged_head, judged_place}
use Rattle.tl_definitions.proofs.OrderLaws.{one_chan}
use Rattle.tl_definitions.proofs.TableLaws.{listed, kept_passes}
use Rattle.tl_definitions.proofs.Lists.{kept_from}
use Rattle.tl_definitions.specs.Readings.{Reading, due, rest}
use Rattle.tl_definitions.specs.Known.{Known, surely, KnownFlow, KnownClient, KnownPast, bare, answering, known_request}
use Rattle.tl_definitions.specs.Printed.{every_bound, some_key, breaks_flow_surely, breaks_permission_surely, conflicts_surely, breaks_manager_surely, Front, acquire_open, release_open, grant_open, breaks_surely, is_f1, breaks_past, breaks_by, beat_rules, printed_of}
use Rattle.tl_definitions.specs.Lawful.{Agrees, AllowsBurst, AllowsFlow, AllowsClient, AllowsPast}
use Rattle.tl_definitions.proofs.Sure.{and_parts, and_with, or_cases, surely_holds}
use Rattle.tl_definitions.proofs.Bursts.{all_pass, some_passes, passing}
use Rattle.tl_definitions.proofs.Steps.{answered_agrees}
use Rattle.tl_definitions.proofs.Members.{format_in, flow_in, permission_in, manager_in, later_in, f1_in}

-- Flow rules.
flow_sound : (sure : KnownFlow) (past : FlowPast) (request : Known (Option Request)) (answered : Option Request) (message : Message) (r : Rule) → AllowsFlow sure past → Agrees request answered
    → breaks_flow_surely sure request message r ≡ true → breaks_flow past (answering message answered) r ≡ true
flow_sound sure past request answered message rule.S1 a q h =
    and_with (is_request message) _ _ (surely_holds is_some (sure.source message.beat.source) (past.source message.beat.source) (a.source message.beat.source)) h
flow_sound sure past request answered message rule.S2 a q h = and_with (is_reply message) _ _ (surely_holds is_none request answered q) h
flow_sound sure past request answered message rule.S3 a q h = and_with (is_reply message) _ _ (surely_holds (passes (λ r. not (replies_to r.op message.op))) request answered q) h
flow_sound sure past request answered message rule.S4 a q h = and_with (is_reply message) _ _ (surely_holds (passes (λ r. not (r.size == message.beat.size))) request answered q) h
flow_sound sure past request answered message rule.S5 a q h = and_with (is_release_ack message.op) _ _ (surely_holds is_none request answered q) h
flow_sound sure past request answered message rule.S6 a q h =
    and_with (is_release message.op) _ _ (surely_holds is_some (sure.release message.beat.source) (past.release message.beat.source) (a.release message.beat.source)) h
flow_sound sure past request answered message rule.S7 a q h = and_with (is_release_ack message.op) _ _ (surely_holds (passes (λ r. not (r.size == message.beat.size))) request answered q) h
flow_sound sure past request answered message rule.S8 a q h =
    and_with (is_grant message.op) _ _ (surely_holds (λ is. is) (sure.sink message.beat.sink) (past.sink message.beat.sink) (a.sink message.beat.sink)) h
flow_sound sure past request answered message rule.S9 a q h =
    and_with (is_grant_ack message.op) _ _ (surely_holds not (sure.sink message.beat.sink) (past.sink message.beat.sink) (a.sink message.beat.sink)) h
flow_sound sure past request answered message _ a q h = cc

-- Bounds.
may_pass : (may passed : Bool) → may ≡ true → (not may || passed) ≡ true → passed ≡ true
may_pass true passed h g = g
may_pass false passed h g = cc

every_passes : (test bound : Perm → Bool) (held : Perm) → bound held ≡ true → every_bound test bound ≡ true → test held ≡ true
every_passes test bound held b h =
    let first = and_parts ((not (bound perm.Nothing) || test perm.Nothing) && (not (bound perm.Branch) || test perm.Branch)) (not (bound perm.Trunk) || test perm.Trunk) h in
    let second = and_parts (not (bound perm.Nothing) || test perm.Nothing) (not (bound perm.Branch) || test perm.Branch) first.0 in
    by_perm held b second.0 second.1 first.1
  where
    by_perm : (p : Perm) → bound p ≡ true → (not (bound perm.Nothing) || test perm.Nothing) ≡ true → (not (bound perm.Branch) || test perm.Branch) ≡ true → (not (bound perm.Trunk) || test perm.Trunk) ≡ true → test p ≡ true
    by_perm perm.Nothing b n br t = may_pass (bound perm.Nothing) (test perm.Nothing) b n
    by_perm perm.Branch b n br t = may_pass (bound perm.Branch) (test perm.Branch) b br
    by_perm perm.Trunk b n br t = may_pass (bound perm.Trunk) (test perm.Trunk) b t

claims_sound : (strict : Bool) (bound : Perm → Bool) (held : Perm) (claimed : Option Perm) → bound held ≡ true
    → option_map_or (λ from. every_bound (λ h. is_wrong strict h from) bound) claimed false ≡ true → option_map_or (is_wrong strict held) claimed false ≡ true
claims_sound strict bound held None b h = h
claims_sound strict bound held (Some from) b h = every_passes (λ p. is_wrong strict p from) bound held b h

-- Permission rules.
permission_sound : (strict : Bool) (exponent : ℕ) (sure : KnownClient) (past : ClientPast) (acquire release : Bool) (message : Message) (answered : Option Request) (r : Rule) → AllowsClient sure past
    → (acquire ≡ true → nat_lt 0 (past.acquires (block_of exponent message)) ≡ true) → (release ≡ true → nat_lt 0 (past.releases (block_of exponent message)) ≡ true)
    → breaks_permission_surely strict exponent sure acquire release message r ≡ true → breaks_permission strict exponent past (answering message answered) r ≡ true
permission_sound strict exponent sure past acquire release message answered rule.P1 a f g h =
    and_with (is_acquire message.op) _ _ (claims_sound strict (sure.bound (block_of exponent message)) (past.bound (block_of exponent message)) (from_of message.op message.beat.param) (a.bound (block_of exponent message))) h
permission_sound strict exponent sure past acquire release message answered rule.P2 a f g h =
    and_with (is_probe_ack message.op || is_release message.op) _ _
    (claims_sound strict (sure.bound (block_of exponent message)) (past.bound (block_of exponent message)) (from_of message.op message.beat.param) (a.bound (block_of exponent message))) h
permission_sound strict exponent sure past acquire release message answered rule.P3 a f g h =
    and_with (is_probe_ack message.op) _ _ (surely_holds is_none (sure.probe (block_of exponent message)) (past.probe (block_of exponent message)) (a.probe (block_of exponent message))) h
permission_sound strict exponent sure past acquire release message answered rule.P4 a f g h =
    and_with (is_probe_ack message.op) _ _
    (surely_holds (λ probe. option_map_or (λ to. option_map_or (is_above to) (option_and_then (λ cap. cap) probe) false) (to_of message.op message.beat.param) false)
    (sure.probe (block_of exponent message)) (past.probe (block_of exponent message)) (a.probe (block_of exponent message))) h
permission_sound strict exponent sure past acquire release message answered rule.P5 a f g h =
    and_with (is_probe message.op) _ _ (surely_holds is_some (sure.probe (block_of exponent message)) (past.probe (block_of exponent message)) (a.probe (block_of exponent message))) h
permission_sound strict exponent sure past acquire release message answered rule.P6 a f g h = and_with (is_acquire message.op) _ _ f h
permission_sound strict exponent sure past acquire release message answered rule.P7 a f g h = and_with (is_release message.op) _ _ f h
permission_sound strict exponent sure past acquire release message answered rule.P8 a f g h = and_with (is_acquire message.op || is_release message.op || is_probe_ack message.op) _ _ g h
permission_sound strict exponent sure past acquire release message answered _ a f g h = cc

-- Manager rules.
any_sound : {X : Type 0} (one two : X → Bool) (xs : List X) → ((x : X) → one x ≡ true → two x ≡ true) → list_any one xs ≡ true → list_any two xs ≡ true
any_sound one two xs f h = let known = passing one xs h in some_passes two xs known.0 known.1 (f known.0 known.2)

conflicts_sound : (clients : List ℕ) (sure : ℕ → KnownPast) (pasts : ℕ → ClientPast) (link : ℕ) (claimed : Option (ℕ × Perm)) → ((client : ℕ) → AllowsClient (sure client).client (pasts client))
    → option_map_or (conflicts_surely clients sure link) claimed false ≡ true → option_map_or (conflicts_with_other clients pasts link) claimed false ≡ true
conflicts_sound clients sure pasts link None a h = h
conflicts_sound clients sure pasts link (Some (block, set)) a h =
    any_sound (λ client. not (client == link) && every_bound (conflicts set) ((sure client).client.bound block)) (λ client. not (client == link) && conflicts set ((pasts client).bound block)) clients
    (λ client. and_with (not (client == link)) (every_bound (conflicts set) ((sure client).client.bound block)) (conflicts set ((pasts client).bound block))
    (every_passes (conflicts set) ((sure client).client.bound block) ((pasts client).bound block) ((a client).bound block)))
    h

probes_sound : (clients : List ℕ) (sure : ℕ → KnownPast) (pasts : ℕ → ClientPast) (granted : Option ℕ) → ((client : ℕ) → AllowsClient (sure client).client (pasts client))
    → option_map_or (λ block. list_any (λ client. surely is_some ((sure client).client.probe block)) clients) granted false ≡ true
    → option_map_or (λ block. list_any (λ client. is_some ((pasts client).probe block)) clients) granted false ≡ true
probes_sound clients sure pasts None a h = h
probes_sound clients sure pasts (Some block) a h =
    any_sound (λ client. surely is_some ((sure client).client.probe block)) (λ client. is_some ((pasts client).probe block)) clients
    (λ client. surely_holds is_some ((sure client).client.probe block) ((pasts client).probe block) ((a client).probe block)) h

manager_sound : (clients : List ℕ) (exponent : ℕ) (sure : ℕ → KnownPast) (grants : ℕ → ℕ → Bool) (pasts : ℕ → ClientPast) (link : ℕ) (request : Known (Option Request)) (answered : Option Request) (message : Message) (r : Rule)
    → ((client : ℕ) → AllowsClient (sure client).client (pasts client)) → Agrees request answered
    → ((client block : ℕ) → grants client block ≡ true → nat_lt 0 ((pasts client).grants block) ≡ true)
    → breaks_manager_surely clients exponent sure grants link request message r ≡ true → breaks_manager clients exponent pasts link (answering message answered) r ≡ true
manager_sound clients exponent sure grants pasts link request answered message rule.M1 a q g h =
    and_with (is_grant message.op) _ _ (λ t. conflicts_sound clients sure pasts link (claim exponent (answering message answered)) a
    (surely_holds (λ r. option_map_or (conflicts_surely clients sure link) (claim exponent (answering message r)) false) request answered q t)) h
manager_sound clients exponent sure grants pasts link request answered message rule.M2 a q g h =
    and_with (is_grant message.op) _ _ (λ t. probes_sound clients sure pasts (granted_block exponent (answering message answered)) a
    (surely_holds (λ r. option_map_or (λ block. list_any (λ client. surely is_some ((sure client).client.probe block)) clients) (granted_block exponent (answering message r)) false)
    request answered q t)) h
manager_sound clients exponent sure grants pasts link request answered message rule.M3 a q g h =
    and_with (is_probe message.op) _ _ (any_sound (λ client. grants client (block_of exponent message)) (λ client. nat_lt 0 ((pasts client).grants (block_of exponent message))) clients
    (λ client. g client (block_of exponent message))) h
manager_sound clients exponent sure grants pasts link request answered message _ a q g h = cc

-- Counts: what is open under a key is counted.
some_counted : (keys : List ℕ) (k : ℕ) → list_any (λ x. x == k) keys ≡ true → nat_lt 0 (length keys) ≡ true
some_counted [] k h = cc
some_counted (x ∷ keys) k h = grind (arith, nat_tests)

counted : {V : Type 0} (table : Table Message) (kept : Message → V) (test : V → Bool) (before : List Message) (key : ℕ) → passes test (entry_at table kept before key) ≡ true
    → nat_lt 0 (length (open_keys table (λ message. test (kept message)) before)) ≡ true
counted table kept test before key h =
    some_counted (open_keys table (λ message. test (kept message)) before) key
    (listed table (λ message. test (kept message)) before key ∙ sym (kept_passes test kept (open_at table key before)) ∙ h)

key_counted : {V : Type 0} (test : V → Bool) (sure : ℕ → Known (Option V)) (entries : ℕ → Option V) (keys : List ℕ) → ((key : ℕ) → Agrees (sure key) (entries key)) → some_key test sure keys ≡ true
    → (key : ℕ) × (passes test (entries key) ≡ true)
key_counted test sure entries keys a h =
    let known = passing (λ key. surely (passes test) (sure key)) keys h in
    (known.0, surely_holds (passes test) (sure known.0) (entries known.0) (a known.0) known.2)

-- A head that surely breaks a rule, by what is known, breaks it.
head_sound : (m : Manager) (f : Front) (before : List Placed) (p : Placed) (o : Op) (r : Rule) → ((link : ℕ) → AllowsPast (f.past link) ((snapshot m before).past link))
    → breaks_surely m f p.link (bare o p.beat) r ≡ true → Contains (judged_head m (snapshot m before) p (Some o)) r
head_sound m f before p o r a h =
    let s : Snapshot = snapshot m before in
    let message : Message = message_in (s.past p.link).flow p.beat o in
    let one : Message = bare o p.beat in
    let request : Known (Option Request) = known_request (f.past p.link).flow one in
    let true_request : Option Request = request_in (s.past p.link).flow o p.beat in
    let answered : Agrees request true_request = answered_agrees (f.past p.link) (s.past p.link) p.beat o (a p.link) in
    let format : Bool = breaks_format m.exponent m.regions (m.links p.link) o p.beat r in
    let flow : Bool = breaks_flow_surely (f.past p.link).flow request one r in
    let permission : Bool = breaks_permission_surely (m.links p.link).strict m.exponent (f.past p.link).client (acquire_open m f p.link one) (release_open m f p.link one) one r in
    let manager : Bool = breaks_manager_surely m.clients m.exponent f.past (grant_open f) p.link request one r in
    elim (or_cases (format || flow || permission) manager h) [
      | inl three ↦ elim (or_cases (format || flow) permission three) [
        | inl two ↦ elim (or_cases format flow two) [
          | inl is ↦ format_in m s.past p.link message r is
          | inr is ↦ flow_in m s.past p.link message r (flow_sound (f.past p.link).flow (s.past p.link).flow request true_request one r (a p.link).flow answered is)
        ]
        | inr is ↦ permission_in m s.past p.link message r
            (permission_sound (m.links p.link).strict m.exponent (f.past p.link).client (s.past p.link).client (acquire_open m f p.link one) (release_open m f p.link one) one true_request r (a p.link).client
            (λ found. (let known = key_counted (acquires_block m.exponent (block_of m.exponent one)) (f.past p.link).flow.source (s.past p.link).flow.source
            (map (λ beat. beat.source) (before_on p.link chan.A f.beats)) (a p.link).flow.source found in
            counted sources as_request (acquires_block m.exponent (block_of m.exponent one)) (messages_on m.links p.link before) known.0 known.1))
            (λ found. (let known = key_counted (releases_block m.exponent (block_of m.exponent one)) (f.past p.link).flow.release (s.past p.link).flow.release
            (map (λ beat. beat.source) (before_on p.link chan.C f.beats)) (a p.link).flow.release found in
            counted releases as_request (releases_block m.exponent (block_of m.exponent one)) (messages_on m.links p.link before) known.0 known.1))
            is)
      ]
      | inr is ↦ manager_in m s.past p.link message r
          (manager_sound m.clients m.exponent f.past (grant_open f) (λ client. (s.past client).client) p.link request true_request one r (λ client. (a client).client) answered
          (λ client block found. (let known = key_counted (grants_block block) (f.past client).client.granted (s.past client).client.granted
          (map (λ beat. beat.sink) (before_on client chan.D f.beats)) (a client).client.granted found in
          counted sinks (granted_block m.exponent) (grants_block block) (messages_on m.links client before) known.0 known.1))
          is)
    ]

-- A head of the past that is followed by later beats has data, and its size fills the link.
wide : (size width : ℕ) → 1 < max 1 (2 ^ size / width) → width ≤ 2 ^ size
wide size width h =
    let some : 1 ≤ 2 ^ size / width = omega arith in
    let more : 1 * width ≤ 2 ^ size / width * width = mul-le-mul_right width some in
    let all : 2 ^ size / width * width ≤ 2 ^ size = div-mul-le_self (2 ^ size) width in
    omega (arith, one-mul width)

pub has_later : (link : LinkDecl) (head : Beat) → 1 < beat_count link head → (o : Op) × (message_of link head ≡ Some o) × (carries_data_of o ≡ true) × (link.width ≤ 2 ^ head.size)
has_later link head more =
    elim (message_of link head) as (λ found. message_of link head ≡ found → 1 < option_map_or (λ o. cond (carries_data_of o) (max 1 (2 ^ head.size / link.width)) 1) found 1
    → (o : Op) × (message_of link head ≡ Some o) × (carries_data_of o ≡ true) × (link.width ≤ 2 ^ head.size)) [
      | None ↦ λ e lt. (let no : 1 < 1 = lt in absurd (omega arith))
      | Some o ↦ λ e lt. elim (carries_data_of o) as (λ t. carries_data_of o ≡ t → 1 < cond t (max 1 (2 ^ head.size / link.width)) 1
          → (o : Op) × (message_of link head ≡ Some o) × (carries_data_of o ≡ true) × (link.width ≤ 2 ^ head.size)) [
            | true ↦ λ d g. (o, e, d, wide head.size link.width g)
            | false ↦ λ d g. (let no : 1 < 1 = g in absurd (omega arith))
          ] refl lt
    ] refl more

no_lane : (partial : Bool) (mask width : ℕ) → 2 ^ width ≤ mask → cond partial (bit_and mask (2 ^ width - 1) == mask) (mask == 2 ^ width - 1) ≡ false
no_lane true mask width le =
    let masked : bit_and mask (2 ^ width - 1) ≡ mask % 2 ^ width = and_mask mask width in
    let less : mask % 2 ^ width < 2 ^ width = mod-lt mask (pow_pos width) in
    ap (λ n. n == mask) masked ∙ (let differ : (mask % 2 ^ width == mask) ≡ false = grind (arith, nat_tests) in differ)
no_lane false mask width le = let some : 0 < 2 ^ width = pow_pos width in grind (arith, nat_tests)

lanes_missing : (link : LinkDecl) (o : Op) (head beat : Beat) → link.width ≤ 2 ^ head.size → 2 ^ link.width ≤ beat.mask → is_mask_ok o beat.mask (active_lanes link.width head.size head.address) ≡ false
lanes_missing link o head beat fills high =
    let full : nat_le link.width (2 ^ head.size) ≡ true = grind (arith, nat_tests) in
    ap (λ t. is_mask_ok o beat.mask (cond t (2 ^ link.width - 1) ((2 ^ (2 ^ head.size) - 1) * 2 ^ round_down head.size (head.address % link.width)))) full ∙ no_lane (is_put_partial o) beat.mask link.width high

past_sound : (link : LinkDecl) (o : Op) (head beat : Beat) (r : Rule) → head.chan ≡ beat.chan → carries_data_of o ≡ true → link.width ≤ 2 ^ head.size → breaks_past link beat r ≡ true
    → breaks_later link o head beat r ≡ true
past_sound link o head beat rule.F5 same carries fills h =
    let parts = and_parts (has_mask beat.chan) (nat_le (2 ^ link.width) beat.mask) h in
    let over : nat_le (2 ^ link.width) beat.mask ≡ true = parts.1 in
    let high : 2 ^ link.width ≤ beat.mask = grind (arith, nat_tests) in
    ap (λ t. t && not (is_mask_ok o beat.mask (active_lanes link.width head.size head.address))) (ap has_mask same ∙ parts.0) ∙ ap not (lanes_missing link o head beat fills high)
past_sound link o head beat rule.F7 same carries fills h =
    ap (λ c. same_chan c chan.D && carries_data_of o && beat.denied && not beat.corrupt) same ∙ ap (λ t. same_chan beat.chan chan.D && t && beat.denied && not beat.corrupt) carries ∙ spared (same_chan beat.chan chan.D) beat.denied (not beat.corrupt) h
  where
    spared : (a b c : Bool) → (a && b && c) ≡ true → (a && true && b && c) ≡ true
    spared true b c g = g
    spared false b c g = cc
past_sound link o head beat _ same carries fills h = cc

later_member : (link : LinkDecl) (head beat : Beat) (found : Option Op) (r : Rule) → option_map_or (λ o. breaks_later link o head beat r) found false ≡ true
    → Contains (option_map_or (λ o. filter (breaks_later link o head beat) later_order) found []) r
later_member link head beat None r h = cc
later_member link head beat (Some o) r h = later_in link o head beat r h

head_member : (m : Manager) (f : Front) (before : List Placed) (p : Placed) (found : Option Op) (r : Rule) → ((link : ℕ) → AllowsPast (f.past link) ((snapshot m before).past link))
    → option_map_or (λ o. breaks_surely m f p.link (bare o p.beat) r) found (is_f1 r) ≡ true → Contains (judged_head m (snapshot m before) p found) r
head_member m f before p None r a h = f1_in r h
head_member m f before p (Some o) r a h = head_sound m f before p o r a h

past_member : (link : LinkDecl) (head beat : Beat) (missing : ℕ) (r : Rule) → 0 < missing → missing < beat_count link head → same_chan head.chan beat.chan ≡ true → breaks_past link beat r ≡ true
    → Contains (later_rules link beat head) r
past_member link head beat missing r some more on h =
    let known = has_later link head (omega arith) in
    let on_chan : (chan_number head.chan == chan_number beat.chan) ≡ true = on in
    let number_is : chan_number head.chan ≡ chan_number beat.chan = grind (arith, nat_tests) in
    let sound : breaks_later link known.0 head beat r ≡ true = past_sound link known.0 head beat r (one_chan head.chan beat.chan number_is) known.2 known.3 h in
    later_member link head beat (message_of link head) r (ap (λ found. option_map_or (λ o. breaks_later link o head beat r) found false) known.1 ∙ sound)

-- A printed rule is among the rules of the beat.
pub printed_sound : (m : Manager) (f : Front) (readings : List Reading) (before : List Placed) (p : Placed) (r : Rule) → ((link : ℕ) → AllowsPast (f.past link) ((snapshot m before).past link))
    → (burst : Option Unfinished) → AllowsBurst (m.links p.link) p.beat.chan readings burst → Contains (printed_of m f readings p) r → Contains (judged_place m (snapshot m before) p burst) r
printed_sound m f readings before p r a None b c =
    let all : list_all (breaks_by m f p r) readings ≡ true = (kept_from (λ x. list_all (breaks_by m f p x) readings) beat_rules r c).1 in
    head_member m f before p (message_of (m.links p.link) p.beat) r a (all_pass (breaks_by m f p r) readings due all b)
printed_sound m f readings before p r a (Some burst) b c =
    let all : list_all (breaks_by m f p r) readings ≡ true = (kept_from (λ x. list_all (breaks_by m f p x) readings) beat_rules r c).1 in
    elim (b.1) [
      | inl own ↦ later_member (m.links p.link) burst.head p.beat (message_of (m.links p.link) burst.head) r (all_pass (breaks_by m f p r) readings (rest burst.missing (Some burst.head)) all own)
      | inr old ↦ past_member (m.links p.link) burst.head p.beat burst.missing r b.0 old.1 old.2 (all_pass (breaks_by m f p r) readings (rest burst.missing None) all old.0)
    ]
