-- Each rule that a beat breaks has the reason that is meant.
use Rattle.std.proofs.Common.{◌≡◌, ◌⊎◌, inl, inr, ℕ, ◌==◌, ◌&&◌, Bool, true, false, cond, List, [], ◌∷◌, ◌++◌, map, Option, Some, None, refl, sym, ap, subst, ◌∙◌, arith}
use Rattle.std.specs.Prelude.{filter}
use Rattle.std.specs.List.{Contains}
use Rattle.std.specs.Option.{option_map, option_map_or}
use Rattle.std.proofs.lemmas.Bool.Decides.{nat_tests}
use Rattle.tl_tables.specs.declared.Chan.{Chan}
use Rattle.tl_tables.specs.declared.Chan.TheVariants as chan
use Rattle.tl_tables.specs.declared.Op.{Op}
use Rattle.tl_tables.specs.declared.Rule.{Rule}
use Rattle.tl_tables.specs.declared.Rule.TheVariants as rule
use Rattle.tl_tables.specs.Messages.{same_chan}
use Rattle.tl_topology.specs.declared.LinkDecl.{LinkDecl}
use Rattle.tl_beats.specs.declared.Beat.{Beat}
use Rattle.tl_beats.specs.declared.Placed.{Placed}
use Rattle.tl_definitions.specs.Heads.{message_of, before_on, is_head, last_head}
use Rattle.tl_definitions.specs.Messages.{Message, Links, message_at, messages_on, at_head}
use Rattle.tl_definitions.specs.Past.{past_of}
use Rattle.tl_definitions.specs.Rules.{Manager, breaks_format, breaks_flow, breaks_permission, breaks_manager, format_order, flow_order, permission_order, manager_order, rules_of_message}
use Rattle.tl_definitions.specs.Breaks.{head_rules, breaks_later, later_order, later_rules, rules_at}
use Rattle.tl_definitions.proofs.HeadLaws.{later_beats_have_a_head}
use Rattle.tl_definitions.proofs.Lists.{kept_from, contains_none}
use Rattle.tl_client_rules.proofs.Carried.{carried}
use Rattle.tl_rows.specs.declared.origin.Origin.{Origin}
use Rattle.tl_rows.specs.declared.reason.Reason.TheVariants as why
use Rattle.tl_rows.specs.Origins.{message, origins_on, head_before}
use Rattle.tl_rows.specs.Reasons.{trails_of, head_reason, later_reason, reason_at}
use Rattle.tl_rows.specs.Meanings.{HeadMeaning, NoHeads, NamesHead, BrokenRulesHaveTheirReason}
use Rattle.tl_rows.proofs.ManagerLaws.{later_law, head_law}
use Rattle.tl_rows.proofs.MeaningLaws.{as_messages}
use Rattle.tl_rows.proofs.HeadMeanings.{broken_in, head_meaning}

-- ---- the newest head of a channel

same_is : (a b : Chan) → same_chan a b ≡ true → a ≡ b
same_is chan.A chan.A h = refl
same_is chan.A chan.B h = cc
same_is chan.A chan.C h = cc
same_is chan.A chan.D h = cc
same_is chan.A chan.E h = cc
same_is chan.B chan.A h = cc
same_is chan.B chan.B h = refl
same_is chan.B chan.C h = cc
same_is chan.B chan.D h = cc
same_is chan.B chan.E h = cc
same_is chan.C chan.A h = cc
same_is chan.C chan.B h = cc
same_is chan.C chan.C h = refl
same_is chan.C chan.D h = cc
same_is chan.C chan.E h = cc
same_is chan.D chan.A h = cc
same_is chan.D chan.B h = cc
same_is chan.D chan.C h = cc
same_is chan.D chan.D h = refl
same_is chan.D chan.E h = cc
same_is chan.E chan.A h = cc
same_is chan.E chan.B h = cc
same_is chan.E chan.C h = cc
same_is chan.E chan.D h = cc
same_is chan.E chan.E h = refl

and_parts : (a b : Bool) → (a && b) ≡ true → (a ≡ true) × (b ≡ true)
and_parts true b h = (refl, h)
and_parts false b h = cc

-- As plain beats it is the newest head of the definitions.
last_of : (links : Links) (link : ℕ) (c : Chan) (before : List Placed) → option_map (λ (q : Placed). q.beat) (head_before links link c before) ≡ last_head (links link) (before_on link c before)
last_of links link c [] = refl
last_of links link c (q ∷ before) =
    let older : List Beat = before_on link c before in
    elim ((q.link == link) && same_chan q.beat.chan c) as (λ b. ((q.link == link) && same_chan q.beat.chan c) ≡ b
    → option_map (λ (r : Placed). r.beat) (cond (b && at_head links before q) (Some q) (head_before links link c before)) ≡ last_head (links link) (cond b (q.beat ∷ older) older)) [
      | false ↦ λ e. last_of links link c before
      | true ↦ λ e. (let parts = and_parts (q.link == link) (same_chan q.beat.chan c) e in
          let here : q.link ≡ link = (let t = parts.0 in grind (arith, nat_tests)) in
          let on : q.beat.chan ≡ c = same_is q.beat.chan c parts.1 in
          let same : at_head links before q ≡ is_head (links link) older = ap (λ n. is_head (links n) (before_on n q.beat.chan before)) here ∙ ap (λ k. is_head (links link) (before_on link k before)) on in
          ap (λ b. option_map (λ (r : Placed). r.beat) (cond b (Some q) (head_before links link c before))) same
          ∙ elim (is_head (links link) older) as (λ b. option_map (λ (r : Placed). r.beat) (cond b (Some q) (head_before links link c before)) ≡ cond b (Some q.beat) (last_head (links link) older)) [
            | true ↦ refl
            | false ↦ last_of links link c before
          ])
    ] refl

some_from : (found : Option Placed) (head : Beat) → option_map (λ (q : Placed). q.beat) found ≡ Some head → (q : Placed) × (found ≡ Some q)
some_from None head h = cc
some_from (Some q) head h = (q, refl)

head_found : (links : Links) (link : ℕ) (c : Chan) (before : List Placed) (head : Placed) → head_before links link c before ≡ Some head
    → (newer older : List Placed) × (before ≡ newer ++ head ∷ older) × ((((head.link == link) && same_chan head.beat.chan c) && at_head links older head) ≡ true) × NoHeads links link c newer (head ∷ older)
head_found links link c [] head h = cc
head_found links link c (q ∷ before) head h =
    elim (((q.link == link) && same_chan q.beat.chan c) && at_head links before q) as (λ b. (((q.link == link) && same_chan q.beat.chan c) && at_head links before q) ≡ b
    → cond b (Some q) (head_before links link c before) ≡ Some head
    → (newer older : List Placed) × (q ∷ before ≡ newer ++ head ∷ older) × ((((head.link == link) && same_chan head.beat.chan c) && at_head links older head) ≡ true) × NoHeads links link c newer (head ∷ older)) [
      | true ↦ λ e g. (let same : q ≡ head = ap (λ o. option_map_or (λ z. z) o q) g in
          subst (λ x. (newer older : List Placed) × (q ∷ before ≡ newer ++ x ∷ older) × ((((x.link == link) && same_chan x.beat.chan c) && at_head links older x) ≡ true) × NoHeads links link c newer (x ∷ older))
          same ([], before, refl, e, tt))
      | false ↦ λ e g. (let r = head_found links link c before head g in
          (q ∷ r.0, r.1, ap (λ bs. q ∷ bs) r.2, r.3, (subst (λ bs. (((q.link == link) && same_chan q.beat.chan c) && at_head links bs q) ≡ false) r.2 e, r.4)))
    ] refl h

-- ---- a later beat

later_named : (link : LinkDecl) (o : Op) (head beat : Beat) (broken : Rule) (found : Option Placed) → breaks_later link o head beat broken ≡ true
    → later_reason found broken ≡ option_map_or why.Head found why.NoneBefore
later_named link o head beat rule.F5 found h = refl
later_named link o head beat rule.F7 found h = refl
later_named link o head beat rule.U1 found h = refl
later_named link o head beat _ found h = cc

later_by_message : (link : LinkDecl) (beat head : Beat) (o : Option Op) (broken : Rule) (found : Option Placed)
    → Contains (option_map_or (λ op. filter (breaks_later link op head beat) later_order) o []) broken → later_reason found broken ≡ option_map_or why.Head found why.NoneBefore
later_by_message link beat head None broken found h = absurd (contains_none broken h)
later_by_message link beat head (Some o) broken found h = later_named link o head beat broken found (kept_from (breaks_later link o head beat) later_order broken h).1

later_by_head : (link : LinkDecl) (beat : Beat) (last : Option Beat) (broken : Rule) (found : Option Placed) → Contains (option_map_or (later_rules link beat) last []) broken
    → later_reason found broken ≡ option_map_or why.Head found why.NoneBefore
later_by_head link beat None broken found h = absurd (contains_none broken h)
later_by_head link beat (Some head) broken found h = later_by_message link beat head (message_of link head) broken found h

later_case : (m : Manager) (before : List Placed) (p : Placed) (broken : Rule) → Contains (rules_at m before p) broken → at_head m.links before p ≡ false
    → NamesHead m.links before p (reason_at m before p broken)
later_case m before p broken h later =
    let own : List Beat = before_on p.link p.beat.chan before in
    let rules : Contains (option_map_or (later_rules (m.links p.link) p.beat) (last_head (m.links p.link) own) []) broken =
    subst (λ b. Contains (cond b (head_rules m before p (message_of (m.links p.link) p.beat)) (option_map_or (later_rules (m.links p.link) p.beat) (last_head (m.links p.link) own) [])) broken) later h in
    let last = later_beats_have_a_head (m.links p.link) own later in
    let found = some_from (head_before m.links p.link p.beat.chan before) last.0 (last_of m.links p.link p.beat.chan before ∙ last.1) in
    let r = head_found m.links p.link p.beat.chan before found.0 found.1 in
    let named : reason_at m before p broken ≡ why.Head found.0 =
    sym (later_law m before p broken (head_before m.links p.link p.beat.chan before) later refl)
    ∙ later_by_head (m.links p.link) p.beat (last_head (m.links p.link) own) broken (head_before m.links p.link p.beat.chan before) rules
    ∙ ap (λ o. option_map_or why.Head o why.NoneBefore) found.1 in
    (r.0, r.1, found.0, r.2, r.3, r.4, named)

-- ---- a head

head_case : (m : Manager) (before : List Placed) (p : Placed) (broken : Rule) → Contains (rules_at m before p) broken → at_head m.links before p ≡ true → (o : Op)
    → message_of (m.links p.link) p.beat ≡ Some o
    → HeadMeaning m (λ link. origins_on m.links link before) p (message_at (messages_on m.links p.link before) p.beat o) broken (reason_at m before p broken)
head_case m before p broken h is o opcode =
    let origins : ℕ → List Origin = λ link. origins_on m.links link before in
    let same : (λ link. map message (origins link)) ≡ (λ link. messages_on m.links link before) = λ i. λ link. as_messages m.links link before i in
    let as_head : Contains (head_rules m before p (message_of (m.links p.link) p.beat)) broken =
    subst (λ b. Contains (cond b (head_rules m before p (message_of (m.links p.link) p.beat)) (option_map_or (later_rules (m.links p.link) p.beat) (last_head (m.links p.link) (before_on p.link p.beat.chan before)) [])) broken) is h in
    let rules : Contains (head_rules m before p (Some o)) broken = subst (λ f. Contains (head_rules m before p f) broken) opcode as_head in
    subst (HeadMeaning m origins p (message_at (messages_on m.links p.link before) p.beat o) broken) (head_law m before p broken (Some o) is opcode)
    (subst (λ (ms : ℕ → List Message). Contains (rules_of_message m (λ link. past_of m.exponent (ms link)) p.link (message_at (ms p.link) p.beat o)) broken
    → HeadMeaning m origins p (message_at (ms p.link) p.beat o) broken (head_reason m.clients m.exponent (trails_of m.links m.exponent before) p o broken)) same
    (λ found. head_meaning m origins p o (carried (m.links p.link).level p.beat.chan p.beat.opcode o opcode) broken
    (broken_in (breaks_format m.exponent m.regions (m.links p.link) o p.beat) (breaks_flow (past_of m.exponent (map message (origins p.link))).flow (message_at (map message (origins p.link)) p.beat o))
    (breaks_permission (m.links p.link).strict m.exponent (past_of m.exponent (map message (origins p.link))).client (message_at (map message (origins p.link)) p.beat o))
    (breaks_manager m.clients m.exponent (λ client. (past_of m.exponent (map message (origins client))).client) p.link (message_at (map message (origins p.link)) p.beat o))
    format_order flow_order permission_order manager_order broken found))
    rules)

pub broken_rules_have_their_reason : BrokenRulesHaveTheirReason
broken_rules_have_their_reason m before p broken h =
    elim (at_head m.links before p) as (λ b. at_head m.links before p ≡ b → ((b ≡ true)
    × ((o : Op) → message_of (m.links p.link) p.beat ≡ Some o
    → HeadMeaning m (λ link. origins_on m.links link before) p (message_at (messages_on m.links p.link before) p.beat o) broken (reason_at m before p broken))
    × (message_of (m.links p.link) p.beat ≡ None → reason_at m before p broken ≡ why.ByItself))
    ⊎ ((b ≡ false) × NamesHead m.links before p (reason_at m before p broken))) [
      | true ↦ λ e. inl (refl, head_case m before p broken h e, λ none. sym (head_law m before p broken None e none))
      | false ↦ λ e. inr (refl, later_case m before p broken h e)
    ] refl
