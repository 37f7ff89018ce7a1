-- A rule that doesn't leave a beat unjudged is printed exactly where the beat breaks it, whatever came before.
use Rattle.std.proofs.Common.{◌≡◌, ℕ, ◌<◌, ◌⊎◌, inl, inr, ◌==◌, ◌&&◌, ◌||◌, Bool, true, false, List, [], ◌++◌, reverse, Option, Some, None, refl, sym, ap, subst, ◌∙◌, arith, eqb-true}
use Rattle.std.specs.Prelude.{not, is_some, is_none, filter}
use Rattle.std.specs.Option.{option_map_or, option_and_then}
use Rattle.std.specs.List.{Contains, list_any, list_all}
use Rattle.std.proofs.lemmas.Bool.Decides.{nat_tests}
use Rattle.std.proofs.lemmas.List.Elements.{Contains-append_cases}
use Rattle.tl_tables.specs.declared.Chan.TheVariants as chan
use Rattle.tl_tables.specs.declared.Op.{Op}
use Rattle.tl_tables.specs.declared.Perm.{Perm}
use Rattle.tl_tables.specs.declared.Perm.TheVariants as perm
use Rattle.tl_tables.specs.declared.Rule.{Rule}
use Rattle.tl_tables.specs.declared.Rule.TheVariants as rule
use Rattle.tl_tables.specs.Messages.{same_chan, chan_number, carries_data_of, replies_to}
use Rattle.tl_tables.specs.Rules.{rule_number}
use Rattle.tl_tables.specs.Params.{from_of, to_of, is_above}
use Rattle.tl_tables.specs.Kinds.{is_acquire, is_probe, is_probe_ack, is_release, is_grant, is_release_ack, is_grant_ack, conflicts}
use Rattle.tl_topology.specs.declared.LinkDecl.{LinkDecl}
use Rattle.tl_beats.specs.declared.Beat.{Beat}
use Rattle.tl_beats.specs.declared.Placed.{Placed}
use Rattle.tl_beats.specs.declared.Request.{Request}
use Rattle.tl_definitions.specs.declared.Unfinished.{Unfinished}
use Rattle.tl_definitions.specs.Breaks.{breaks_later, later_order, later_rules, rules_at}
use Rattle.tl_definitions.specs.Heads.{message_of, before_on, beat_count}
use Rattle.tl_definitions.specs.Judging.{snapshot, request_in, message_in, judged_head, judged_place}
use Rattle.tl_definitions.specs.Known.{Known, unknown, known, surely, Beginning, KnownFlow, KnownClient, KnownPast, bare, answering, known_request, readings_of, known_snapshot}
use Rattle.tl_definitions.specs.Lawful.{Agrees, AllowsBurst, AllowsFlow, AllowsClient, AllowsPast, Allows, IsLawful, LeavesAtMost, any_past, at_heads}
use Rattle.tl_definitions.specs.Messages.{Message, is_request, is_reply, block_of, granted_block, claim}
use Rattle.tl_definitions.specs.OpenTables.{passes}
use Rattle.tl_definitions.specs.Past.{FlowPast, ClientPast}
use Rattle.tl_definitions.specs.Printed.{breaks_flow_surely, breaks_permission_surely, breaks_manager_surely, Front, front, acquire_open, release_open, grant_open, breaks_surely, is_f1, is_of_monitors, breaks_by, beat_rules, printed_rules}
use Rattle.tl_definitions.specs.Readings.{Reading, due, rest, told}
use Rattle.tl_definitions.specs.Rules.{Manager, has_mask, is_wrong, breaks_format, breaks_flow, breaks_permission, breaks_manager, conflicts_with_other, format_order, flow_order, permission_order, manager_order}
use Rattle.tl_definitions.proofs.Bursts.{all_pass, some_passes, passing}
use Rattle.tl_definitions.proofs.Judged.{has_later, printed_sound}
use Rattle.tl_definitions.proofs.JudgingLaws.{rules_law}
use Rattle.tl_definitions.proofs.Lengths.{lawful_pasts_leave_at_most}
use Rattle.tl_definitions.proofs.Lists.{contains_none, contains_cases, contains_kept, kept_from}
use Rattle.tl_definitions.proofs.MidwayLaws.{known_snapshots_allow}
use Rattle.tl_definitions.proofs.OrderLaws.{one_chan}
use Rattle.tl_definitions.proofs.ReportLaws.{one_rule}
use Rattle.tl_definitions.proofs.Steps.{answered_agrees}
use Rattle.tl_definitions.proofs.Sure.{and_parts, or_cases, or_first, or_second}
use Rattle.tl_midway.specs.Unjudged.{is_unknown, some_bound, maybe, asks_flow, asks_permission, may_conflict, asks_manager, asks, may_break_past, may_break, next_readings, is_unjudged, AreJudged, AnyPastIsJudged, PastsOfWholeMessagesAreJudged}
use Rattle.tl_midway.proofs.MemberLaws.{all_by_each}
use Rattle.tl_midway.proofs.ReadingLaws.{told_from}

-- ---- what holds surely holds or isn't known

known_or : {V : Type 0} (test : V → Bool) (sure : Known V) (value : V) → Agrees sure value → test value ≡ true → (surely test sure || is_unknown sure) ≡ true
known_or test unknown value a h = refl
known_or test (known v) value a h = or_first (test v) false (ap test a ∙ h)

either : (a s u t : Bool) → (t ≡ true → (s || u) ≡ true) → (a && t) ≡ true → ((a && s) || (a && u)) ≡ true
either true s u t f h = f h
either false s u t f h = cc

applies : (a s t : Bool) → (a && t) ≡ true → ((a && s) || a) ≡ true
applies true s t h = or_second s true refl
applies false s t h = cc

-- ---- flow rules

flow_complete : (sure : KnownFlow) (past : FlowPast) (request : Known (Option Request)) (answered : Option Request) (message : Message) (r : Rule) → AllowsFlow sure past → Agrees request answered
    → breaks_flow past (answering message answered) r ≡ true → (breaks_flow_surely sure request message r || asks_flow sure request message r) ≡ true
flow_complete sure past request answered message rule.S1 a q h =
    either (is_request message) _ _ _ (known_or is_some (sure.source message.beat.source) (past.source message.beat.source) (a.source message.beat.source)) h
flow_complete sure past request answered message rule.S2 a q h = either (is_reply message) _ _ _ (known_or is_none request answered q) h
flow_complete sure past request answered message rule.S3 a q h = either (is_reply message) _ _ _ (known_or (passes (λ r. not (replies_to r.op message.op))) request answered q) h
flow_complete sure past request answered message rule.S4 a q h = either (is_reply message) _ _ _ (known_or (passes (λ r. not (r.size == message.beat.size))) request answered q) h
flow_complete sure past request answered message rule.S5 a q h = either (is_release_ack message.op) _ _ _ (known_or is_none request answered q) h
flow_complete sure past request answered message rule.S6 a q h =
    either (is_release message.op) _ _ _ (known_or is_some (sure.release message.beat.source) (past.release message.beat.source) (a.release message.beat.source)) h
flow_complete sure past request answered message rule.S7 a q h = either (is_release_ack message.op) _ _ _ (known_or (passes (λ r. not (r.size == message.beat.size))) request answered q) h
flow_complete sure past request answered message rule.S8 a q h =
    either (is_grant message.op) _ _ _ (known_or (λ is. is) (sure.sink message.beat.sink) (past.sink message.beat.sink) (a.sink message.beat.sink)) h
flow_complete sure past request answered message rule.S9 a q h =
    either (is_grant_ack message.op) _ _ _ (known_or not (sure.sink message.beat.sink) (past.sink message.beat.sink) (a.sink message.beat.sink)) h
flow_complete sure past request answered message _ a q h = cc

-- ---- permission rules

bound_has : (test bound : Perm → Bool) (held : Perm) → bound held ≡ true → test held ≡ true → some_bound test bound ≡ true
bound_has test bound perm.Nothing b t =
    or_first (bound perm.Nothing && test perm.Nothing || bound perm.Branch && test perm.Branch) (bound perm.Trunk && test perm.Trunk)
    (or_first (bound perm.Nothing && test perm.Nothing) (bound perm.Branch && test perm.Branch) (λ i. b i && t i))
bound_has test bound perm.Branch b t =
    or_first (bound perm.Nothing && test perm.Nothing || bound perm.Branch && test perm.Branch) (bound perm.Trunk && test perm.Trunk)
    (or_second (bound perm.Nothing && test perm.Nothing) (bound perm.Branch && test perm.Branch) (λ i. b i && t i))
bound_has test bound perm.Trunk b t =
    or_second (bound perm.Nothing && test perm.Nothing || bound perm.Branch && test perm.Branch) (bound perm.Trunk && test perm.Trunk) (λ i. b i && t i)

claims_complete : (strict : Bool) (bound : Perm → Bool) (held : Perm) (claimed : Option Perm) → bound held ≡ true → option_map_or (is_wrong strict held) claimed false ≡ true
    → option_map_or (λ from. some_bound (λ h. is_wrong strict h from) bound) claimed false ≡ true
claims_complete strict bound held None b h = h
claims_complete strict bound held (Some from) b h = bound_has (λ x. is_wrong strict x from) bound held b h

permission_complete : (strict : Bool) (exponent : ℕ) (sure : KnownClient) (past : ClientPast) (acquire release : Bool) (message : Message) (answered : Option Request) (r : Rule) → AllowsClient sure past
    → breaks_permission strict exponent past (answering message answered) r ≡ true
    → (breaks_permission_surely strict exponent sure acquire release message r || asks_permission strict exponent sure message r) ≡ true
permission_complete strict exponent sure past acquire release message answered rule.P1 a h =
    either (is_acquire message.op) _ _ _ (λ t. or_second _ _ (claims_complete strict (sure.bound (block_of exponent message)) (past.bound (block_of exponent message)) (from_of message.op message.beat.param) (a.bound (block_of exponent message)) t)) h
permission_complete strict exponent sure past acquire release message answered rule.P2 a h =
    either (is_probe_ack message.op || is_release message.op) _ _ _
    (λ t. or_second _ _ (claims_complete strict (sure.bound (block_of exponent message)) (past.bound (block_of exponent message)) (from_of message.op message.beat.param) (a.bound (block_of exponent message)) t)) h
permission_complete strict exponent sure past acquire release message answered rule.P3 a h =
    either (is_probe_ack message.op) _ _ _ (known_or is_none (sure.probe (block_of exponent message)) (past.probe (block_of exponent message)) (a.probe (block_of exponent message))) h
permission_complete strict exponent sure past acquire release message answered rule.P4 a h =
    either (is_probe_ack message.op) _ _ _
    (known_or (λ probe. option_map_or (λ to. option_map_or (is_above to) (option_and_then (λ cap. cap) probe) false) (to_of message.op message.beat.param) false)
    (sure.probe (block_of exponent message)) (past.probe (block_of exponent message)) (a.probe (block_of exponent message))) h
permission_complete strict exponent sure past acquire release message answered rule.P5 a h =
    either (is_probe message.op) _ _ _ (known_or is_some (sure.probe (block_of exponent message)) (past.probe (block_of exponent message)) (a.probe (block_of exponent message))) h
permission_complete strict exponent sure past acquire release message answered rule.P6 a h = applies (is_acquire message.op) acquire _ h
permission_complete strict exponent sure past acquire release message answered rule.P7 a h = applies (is_release message.op) acquire _ h
permission_complete strict exponent sure past acquire release message answered rule.P8 a h =
    applies (is_acquire message.op || is_release message.op || is_probe_ack message.op) release _ h
permission_complete strict exponent sure past acquire release message answered _ a h = cc

-- ---- manager rules

any_to : {X : Type 0} (one two : X → Bool) (xs : List X) → ((x : X) → one x ≡ true → two x ≡ true) → list_any one xs ≡ true → list_any two xs ≡ true
any_to one two xs f h = let found = passing one xs h in some_passes two xs found.0 found.1 (f found.0 found.2)

other_and : (a b c : Bool) → (b ≡ true → c ≡ true) → (a && b) ≡ true → (a && c) ≡ true
other_and true b c f h = f h
other_and false b c f h = cc

conflicts_complete : (clients : List ℕ) (sure : ℕ → KnownPast) (pasts : ℕ → ClientPast) (link : ℕ) (claimed : Option (ℕ × Perm)) → ((client : ℕ) → AllowsClient (sure client).client (pasts client))
    → option_map_or (conflicts_with_other clients pasts link) claimed false ≡ true → option_map_or (may_conflict clients sure link) claimed false ≡ true
conflicts_complete clients sure pasts link None a h = h
conflicts_complete clients sure pasts link (Some (block, set)) a h =
    any_to (λ client. not (client == link) && conflicts set ((pasts client).bound block)) (λ client. not (client == link) && some_bound (conflicts set) ((sure client).client.bound block)) clients
    (λ client. other_and (not (client == link)) (conflicts set ((pasts client).bound block)) (some_bound (conflicts set) ((sure client).client.bound block))
    (bound_has (conflicts set) ((sure client).client.bound block) ((pasts client).bound block) ((a client).bound block)))
    h

-- A key that is open is known to be, or isn't known.
probes_complete : (clients : List ℕ) (sure : ℕ → KnownPast) (pasts : ℕ → ClientPast) (granted : Option ℕ) → ((client : ℕ) → AllowsClient (sure client).client (pasts client))
    → option_map_or (λ block. list_any (λ client. is_some ((pasts client).probe block)) clients) granted false ≡ true
    → (option_map_or (λ block. list_any (λ client. surely is_some ((sure client).client.probe block)) clients) granted false
    || option_map_or (λ block. list_any (λ client. is_unknown ((sure client).client.probe block)) clients) granted false) ≡ true
probes_complete clients sure pasts None a h = h
probes_complete clients sure pasts (Some block) a h =
    let shown : ℕ → Bool = λ client. surely is_some ((sure client).client.probe block) in
    let hidden : ℕ → Bool = λ client. is_unknown ((sure client).client.probe block) in
    let found = passing (λ client. is_some ((pasts client).probe block)) clients h in
    elim (or_cases (shown found.0) (hidden found.0) (known_or is_some ((sure found.0).client.probe block) ((pasts found.0).probe block) ((a found.0).probe block) found.2)) [
      | inl is ↦ or_first (list_any shown clients) (list_any hidden clients) (some_passes shown clients found.0 found.1 is)
      | inr is ↦ or_second (list_any shown clients) (list_any hidden clients) (some_passes hidden clients found.0 found.1 is)
    ]

-- What holds of the request that a head answers.
asked_or : (sure may : Option Request → Bool) (request : Known (Option Request)) (answered : Option Request) → Agrees request answered → (sure answered || may answered) ≡ true
    → (surely sure request || maybe may request) ≡ true
asked_or sure may unknown answered a h = refl
asked_or sure may (known r) answered a h = (λ i. sure (a i) || may (a i)) ∙ h

manager_complete : (clients : List ℕ) (exponent : ℕ) (sure : ℕ → KnownPast) (grants : ℕ → ℕ → Bool) (pasts : ℕ → ClientPast) (link : ℕ) (request : Known (Option Request)) (answered : Option Request) (message : Message) (r : Rule)
    → ((client : ℕ) → AllowsClient (sure client).client (pasts client)) → Agrees request answered → breaks_manager clients exponent pasts link (answering message answered) r ≡ true
    → (breaks_manager_surely clients exponent sure grants link request message r || asks_manager clients exponent sure link request message r) ≡ true
manager_complete clients exponent sure grants pasts link request answered message rule.M1 a q h =
    either (is_grant message.op) _ _ _
    (λ t. asked_or _ (λ r. option_map_or (may_conflict clients sure link) (claim exponent (answering message r)) false) request answered q
    (or_second _ _ (conflicts_complete clients sure pasts link (claim exponent (answering message answered)) a t))) h
manager_complete clients exponent sure grants pasts link request answered message rule.M2 a q h =
    either (is_grant message.op) _ _ _
    (λ t. asked_or (λ r. option_map_or (λ block. list_any (λ client. surely is_some ((sure client).client.probe block)) clients) (granted_block exponent (answering message r)) false)
    (λ r. option_map_or (λ block. list_any (λ client. is_unknown ((sure client).client.probe block)) clients) (granted_block exponent (answering message r)) false) request answered q
    (probes_complete clients sure pasts (granted_block exponent (answering message answered)) a t)) h
manager_complete clients exponent sure grants pasts link request answered message rule.M3 a q h =
    applies (is_probe message.op) _ _ h
manager_complete clients exponent sure grants pasts link request answered message _ a q h = cc

-- ---- a head

seven : (f s p m a b c : Bool) → (f ≡ true) ⊎ (((s || a) ≡ true) ⊎ (((p || b) ≡ true) ⊎ ((m || c) ≡ true))) → ((f || s || p || m) || (a || b || c)) ≡ true
seven true s p m a b c h = refl
seven false true p m a b c h = refl
seven false false true m a b c h = refl
seven false false false true a b c h = refl
seven false false false false true b c h = refl
seven false false false false false true c h = refl
seven false false false false false false true h = refl
seven false false false false false false false h = elim h [
  | inl e ↦ cc
  | inr g ↦ elim g [ inl e ↦ cc | inr k ↦ elim k [ inl e ↦ cc | inr e ↦ cc ] ]
]

abbrev on_message : Manager → Front → Placed → Rule → Op → Bool
on_message m f p r o = breaks_surely m f p.link (bare o p.beat) r || asks m f.past p.link (bare o p.beat) r

head_complete : (m : Manager) (f : Front) (before : List Placed) (p : Placed) (o : Op) (r : Rule) → ((link : ℕ) → AllowsPast (f.past link) ((snapshot m before).past link))
    → Contains (judged_head m (snapshot m before) p (Some o)) r → on_message m f p r o ≡ true
head_complete m f before p o r a h =
    let s = snapshot m before in
    let message : Message = message_in (s.past p.link).flow p.beat o in
    let one : Message = bare o p.beat in
    let request : Known (Option Request) = known_request (f.past p.link).flow one in
    let true_request : Option Request = request_in (s.past p.link).flow o p.beat in
    let answered : Agrees request true_request = answered_agrees (f.past p.link) (s.past p.link) p.beat o (a p.link) in
    let formats : List Rule = filter (breaks_format m.exponent m.regions (m.links p.link) message.op message.beat) format_order in
    let flows : List Rule = filter (breaks_flow (s.past p.link).flow message) flow_order in
    let permissions : List Rule = filter (breaks_permission (m.links p.link).strict m.exponent (s.past p.link).client message) permission_order in
    let managers : List Rule = filter (breaks_manager m.clients m.exponent (λ client. (s.past client).client) p.link message) manager_order in
    seven (breaks_format m.exponent m.regions (m.links p.link) o p.beat r) (breaks_flow_surely (f.past p.link).flow request one r)
    (breaks_permission_surely (m.links p.link).strict m.exponent (f.past p.link).client (acquire_open m f p.link one) (release_open m f p.link one) one r)
    (breaks_manager_surely m.clients m.exponent f.past (grant_open f) p.link request one r)
    (asks_flow (f.past p.link).flow request one r) (asks_permission (m.links p.link).strict m.exponent (f.past p.link).client one r) (asks_manager m.clients m.exponent f.past p.link request one r)
    (elim (Contains-append_cases (formats ++ flows ++ permissions) managers r h) [
      | inl three ↦ elim (Contains-append_cases (formats ++ flows) permissions r three) [
        | inl two ↦ elim (Contains-append_cases formats flows r two) [
          | inl is ↦ inl (kept_from (breaks_format m.exponent m.regions (m.links p.link) message.op message.beat) format_order r is).1
          | inr is ↦ inr (inl (flow_complete (f.past p.link).flow (s.past p.link).flow request true_request one r (a p.link).flow answered
              (kept_from (breaks_flow (s.past p.link).flow message) flow_order r is).1))
        ]
        | inr is ↦ inr (inr (inl (permission_complete (m.links p.link).strict m.exponent (f.past p.link).client (s.past p.link).client (acquire_open m f p.link one) (release_open m f p.link one) one true_request r (a p.link).client
            (kept_from (breaks_permission (m.links p.link).strict m.exponent (s.past p.link).client message) permission_order r is).1)))
      ]
      | inr is ↦ inr (inr (inr (manager_complete m.clients m.exponent f.past (grant_open f) (λ client. (s.past client).client) p.link request true_request one r (λ client. (a client).client) answered
          (kept_from (breaks_manager m.clients m.exponent (λ client. (s.past client).client) p.link message) manager_order r is).1)))
    ])

is_f1_of : (r : Rule) → rule.F1 ≡ r → is_f1 r ≡ true
is_f1_of r e = sym (ap is_f1 e)

head_may : (m : Manager) (f : Front) (before : List Placed) (p : Placed) (found : Option Op) (r : Rule) → ((link : ℕ) → AllowsPast (f.past link) ((snapshot m before).past link))
    → Contains (judged_head m (snapshot m before) p found) r
    → (option_map_or (λ o. breaks_surely m f p.link (bare o p.beat) r) found (is_f1 r) || option_map_or (λ o. asks m f.past p.link (bare o p.beat) r) found false) ≡ true
head_may m f before p None r a h = elim (contains_cases rule.F1 [] r h) [
  | inl e ↦ or_first (is_f1 r) false (is_f1_of r e)
  | inr none ↦ absurd (contains_none r none)
]
head_may m f before p (Some o) r a h = head_complete m f before p o r a h

-- ---- a later beat

later_breaks : (link : LinkDecl) (head beat : Beat) (found : Option Op) (r : Rule) → Contains (option_map_or (λ o. filter (breaks_later link o head beat) later_order) found []) r
    → option_map_or (λ o. breaks_later link o head beat r) found false ≡ true
later_breaks link head beat None r h = absurd (contains_none r h)
later_breaks link head beat (Some o) r h = (kept_from (breaks_later link o head beat) later_order r h).1

past_may : (link : LinkDecl) (o : Op) (head beat : Beat) (r : Rule) → head.chan ≡ beat.chan → breaks_later link o head beat r ≡ true → may_break_past beat r ≡ true
past_may link o head beat rule.F5 same h = sym (ap has_mask same) ∙ (and_parts (has_mask head.chan) _ h).0
past_may link o head beat rule.F7 same h =
    ap (λ c. same_chan c chan.D && beat.denied && not beat.corrupt) (sym same) ∙ spared (same_chan head.chan chan.D) (carries_data_of o) beat.denied (not beat.corrupt) h
  where
    spared : (a d b c : Bool) → (a && d && b && c) ≡ true → (a && b && c) ≡ true
    spared true true b c g = g
    spared true false b c g = cc
    spared false d b c g = cc
past_may link o head beat rule.U1 same h = refl
past_may link o head beat _ same h = cc

past_member_may : (link : LinkDecl) (head beat : Beat) (missing : ℕ) (r : Rule) → 0 < missing → missing < beat_count link head → same_chan head.chan beat.chan ≡ true
    → Contains (later_rules link beat head) r → may_break_past beat r ≡ true
past_member_may link head beat missing r some more on h =
    let later = has_later link head (omega arith) in
    let on_chan : (chan_number head.chan == chan_number beat.chan) ≡ true = on in
    let number_is : chan_number head.chan ≡ chan_number beat.chan = grind (arith, nat_tests) in
    past_may link later.0 head beat r (one_chan head.chan beat.chan number_is)
    (ap (λ found. option_map_or (λ o. breaks_later link o head beat r) found false) (sym later.1) ∙ later_breaks link head beat (message_of link head) r h)

-- ---- a beat: some reading may break what it breaks

module _ (m : Manager) (f : Front) (readings : List Reading) (before : List Placed) (p : Placed) (r : Rule) (a : (link : ℕ) → AllowsPast (f.past link) ((snapshot m before).past link)) where
  pub broken_may : (burst : Option Unfinished) → AllowsBurst (m.links p.link) p.beat.chan readings burst → Contains (judged_place m (snapshot m before) p burst) r
      → list_any (may_break m f p r) readings ≡ true
  broken_may None b h = some_passes (may_break m f p r) readings due b (head_may m f before p (message_of (m.links p.link) p.beat) r a h)
  broken_may (Some burst) b h = elim (b.1) [
    | inl own ↦ some_passes (may_break m f p r) readings (rest burst.missing (Some burst.head)) own (later_breaks (m.links p.link) burst.head p.beat (message_of (m.links p.link) burst.head) r h)
    | inr old ↦ some_passes (may_break m f p r) readings (rest burst.missing None) old.0 (past_member_may (m.links p.link) burst.head p.beat burst.missing r b.0 old.1 old.2 h)
  ]

-- No beat breaks a rule of monitors.
none_of_monitors : (m : Manager) (f : Front) (p : Placed) (x : Reading) → may_break m f p rule.X1 x ≡ false
none_of_monitors m f p due = elim (message_of (m.links p.link) p.beat) as (λ found. (option_map_or (λ o. breaks_surely m f p.link (bare o p.beat) rule.X1) found false
    || option_map_or (λ o. asks m f.past p.link (bare o p.beat) rule.X1) found false) ≡ false) [ None ↦ refl | Some o ↦ refl ]
none_of_monitors m f p (rest missing None) = refl
none_of_monitors m f p (rest missing (Some head)) = elim (message_of (m.links p.link) head) as (λ found. option_map_or (λ (o : Op). false) found false ≡ false) [ None ↦ refl | Some o ↦ refl ]

among : (rules : List Rule) (r : Rule) → list_any (λ s. rule_number s == rule_number r) rules ≡ true → Contains rules r
among rules r h =
    let found = passing (λ s. rule_number s == rule_number r) rules h in
    subst (Contains rules) (one_rule found.0 r (eqb-true (rule_number found.0) (rule_number r) found.2)) found.1

in_order : (r : Rule) → is_of_monitors r ≡ false → list_any (λ s. rule_number s == rule_number r) beat_rules ≡ true
in_order rule.X1 h = cc
in_order _ h = refl

of_no_monitor : (m : Manager) (f : Front) (p : Placed) (readings : List Reading) (r : Rule) → list_any (may_break m f p r) readings ≡ true → is_of_monitors r ≡ false
of_no_monitor m f p readings rule.X1 h = (let found = passing (may_break m f p rule.X1) readings h in let clash : true ≡ false = sym found.2 ∙ none_of_monitors m f p found.0 in cc)
of_no_monitor m f p readings _ h = refl

-- ---- what is printed

judged_all : (may all : Bool) → (may && not all) ≡ false → may ≡ true → all ≡ true
judged_all true true h e = refl
judged_all true false h e = cc
judged_all false all h e = cc

module _ (m : Manager) (start : Beginning) (newer before : List Placed) (p : Placed) (r : Rule) (allows : Allows m (known_snapshot m start newer) (snapshot m before)) where
  broken_printed : is_unjudged r m start newer p ≡ false → Contains (rules_at m before p) r → Contains (printed_rules m start newer p) r
  broken_printed judged h =
      let f : Front = front m start newer in
      let next : List Reading = next_readings m start newer p in
      let may : list_any (may_break m f p r) next ≡ true =
      broken_may m f next before p r allows.past ((snapshot m before).burst p.link p.beat.chan) (allows.burst p.link p.beat.chan) (subst (λ rules. Contains rules r) (sym (rules_law m before p)) h) in
      let all : list_all (breaks_by m f p r) next ≡ true = judged_all (list_any (may_break m f p r) next) (list_all (breaks_by m f p r) next) judged may in
      let told : list_all (breaks_by m f p r) (readings_of m start newer p) ≡ true =
      all_by_each (breaks_by m f p r) (readings_of m start newer p)
      (λ x c. all_pass (breaks_by m f p r) next x all (told_from start.by_fields (m.links p.link) p.beat (before_on p.link p.beat.chan newer) next x c)) in
      contains_kept (λ x. list_all (breaks_by m f p x) (readings_of m start newer p)) beat_rules r (among beat_rules r (in_order r (of_no_monitor m f p next r may))) told

  printed_broken : start.by_fields ≡ false → Contains (printed_rules m start newer p) r → Contains (rules_at m before p) r
  printed_broken plain h =
      let next : List Reading = next_readings m start newer p in
      let all_kept : readings_of m start newer p ≡ next = ap (λ b. told b (m.links p.link) p.beat (before_on p.link p.beat.chan newer) next) plain in
      subst (λ rules. Contains rules r) (rules_law m before p)
      (printed_sound m (front m start newer) (readings_of m start newer p) before p r allows.past ((snapshot m before).burst p.link p.beat.chan)
      (subst (λ readings. AllowsBurst (m.links p.link) p.beat.chan readings ((snapshot m before).burst p.link p.beat.chan)) (sym all_kept) (allows.burst p.link p.beat.chan)) h)

past_judged : (m : Manager) (start : Beginning) (past beats : List Placed) → start.by_fields ≡ false → IsLawful m past → LeavesAtMost m start past → AreJudged m start past beats
past_judged m start past beats plain lawful most earlier later p r parts judged =
    let allows : Allows m (known_snapshot m start (reverse earlier)) (snapshot m (reverse (past ++ earlier))) = known_snapshots_allow m start past earlier plain lawful most in (
      broken_printed m start (reverse earlier) (reverse (past ++ earlier)) p r allows judged,
      printed_broken m start (reverse earlier) (reverse (past ++ earlier)) p r allows plain,
    )

pub any_past_is_judged : AnyPastIsJudged
any_past_is_judged m past beats lawful = past_judged m (any_past m) past beats refl lawful (lawful_pasts_leave_at_most m past lawful)

pub pasts_of_whole_messages_are_judged : PastsOfWholeMessagesAreJudged
pasts_of_whole_messages_are_judged m past beats lawful most = past_judged m at_heads past beats refl lawful most
