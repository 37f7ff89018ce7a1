-- A link without caches whose channels begin at heads: what is printed of its beats is what they break after the capture alone, but for the flow rules of sources that no message of the capture has named.
use Rattle.std.proofs.Common.{◌≡◌, ℕ, ◌-◌, ◌==◌, ◌&&◌, ◌||◌, Bool, true, false, cond, List, [], ◌∷◌, ◌++◌, map, Option, Some, None, refl, sym, ap, ◌∙◌, append_assoc, append-nil}
use Rattle.std.specs.Prelude.{not, filter, nat_lt, is_some, is_none}
use Rattle.std.specs.Option.{option_map, option_map_or}
use Rattle.std.specs.List.{list_all}
use Rattle.tl_tables.specs.declared.Chan.{Chan}
use Rattle.tl_tables.specs.declared.Chan.TheVariants as chan
use Rattle.tl_tables.specs.declared.Op.{Op}
use Rattle.tl_tables.specs.declared.Rule.{Rule}
use Rattle.tl_tables.specs.declared.Rule.TheVariants as rule
use Rattle.tl_tables.specs.Messages.{same_chan, replies_to}
use Rattle.tl_tables.specs.Kinds.{is_acquire, is_probe, is_probe_ack, is_release, is_grant, is_release_ack, is_grant_ack}
use Rattle.tl_topology.specs.declared.LinkDecl.{LinkDecl}
use Rattle.tl_beats.specs.declared.Beat.{Beat}
use Rattle.tl_beats.specs.declared.Placed.{Placed}
use Rattle.tl_beats.specs.declared.Request.{Request}
use Rattle.tl_definitions.specs.declared.Unfinished.{Unfinished}
use Rattle.tl_definitions.specs.Breaks.{breaks_later, later_order, later_rules}
use Rattle.tl_definitions.specs.Heads.{message_of, before_on, after_beat, left, beat_count}
use Rattle.tl_definitions.specs.Judging.{message_in, past_with}
use Rattle.tl_definitions.specs.Known.{Known, unknown, known, surely, Beginning, KnownFlow, bare, known_request, readings_of, known_pasts, known_with}
use Rattle.tl_definitions.specs.LinkPasses.{LinkSnapshot, link_rules, link_head, link_place, link_next}
use Rattle.tl_definitions.specs.Messages.{Message, as_request, sources}
use Rattle.tl_definitions.specs.OpenTables.{passes, touches, if_opens}
use Rattle.tl_definitions.specs.Past.{FlowPast}
use Rattle.tl_definitions.specs.Printed.{Front, front, breaks_flow_surely, breaks_manager_surely, grant_open, printed_rules, printed_of}
use Rattle.tl_definitions.specs.Readings.{Reading, due, rest, told, readings_after, reading_after, lacking, or_all, is_refuted, may_begin, must_begin, missing_of, first_readings}
use Rattle.tl_definitions.specs.Rules.{Manager, breaks_format, breaks_flow, breaks_permission, format_order, flow_order, permission_order, manager_order}
use Rattle.tl_definitions.proofs.LinkLaws.{itself}
use Rattle.tl_definitions.proofs.Lists.{kept_of_both}
use Rattle.tl_midway.proofs.PlainMessages.{IsPlain, plain_message, kinds}
use Rattle.tl_midway.specs.Named.{named, read_as, Follows, is_flow, is_kept, named_by, seen_after, seen_first}
use Rattle.tl_midway.specs.KnownLink.{permission_surely}
use Rattle.tl_midway.specs.Asked.{is_plain}
use Rattle.tl_midway.specs.Standing.{later_broken}
use Rattle.tl_midway.proofs.PrintedLaws.{head_broken, head_printed, later_printed}

-- ---- one reading

pub told_alone : (by_fields : Bool) (link : LinkDecl) (beat : Beat) (before : List Beat) (x : Reading) → told by_fields link beat before (x ∷ []) ≡ x ∷ []
told_alone false link beat before x = refl
told_alone true link beat before x =
    elim (missing_of x == missing_of x) as (λ b. (missing_of x == missing_of x) ≡ b → told true link beat before (x ∷ []) ≡ x ∷ []) [
      | true ↦ λ e. untold e
      | false ↦ λ e. (let never : false ≡ true = sym e ∙ itself (missing_of x) in cc)
    ] refl
  where
    untold : (missing_of x == missing_of x) ≡ true → told true link beat before (x ∷ []) ≡ x ∷ []
    untold e = ap (λ b. cond ((not b || false) || false) (or_all (filter (λ reading. not (is_refuted link beat before reading)) (x ∷ [])) (x ∷ [])) (x ∷ [])) e

lacking_as : (head : Beat) (missing : ℕ) → lacking missing (Some head) ≡ read_as (left head missing)
lacking_as head missing = elim (nat_lt 0 missing) as (λ b. cond b (rest missing (Some head)) due ≡ read_as (cond b (Some (record { head = head; missing = missing })) None)) [ true ↦ refl | false ↦ refl ]

after_alone : (link : LinkDecl) (beat : Beat) (burst : Option Unfinished) → reading_after link beat (read_as burst) ≡ read_as (after_beat link beat burst)
after_alone link beat None = lacking_as beat (beat_count link beat - 1)
after_alone link beat (Some burst) = lacking_as burst.head (burst.missing - 1)

-- ---- flow rules

and_true : (b : Bool) → (b && true) ≡ b
and_true true = refl
and_true false = refl

and_false : (b : Bool) → (b && false) ≡ false
and_false true = refl
and_false false = refl

sure_as : (x : Bool) (test : Option Request → Bool) (e : Option Request) (seen : Bool) → (x && surely test (cond seen (known e) unknown)) ≡ ((x && test e) && (seen || false))
sure_as x test e true = sym (and_true (x && test e))
sure_as x test e false = and_false x ∙ sym (and_false (x && test e))

reply_as : (d a : Bool) (test : Option Request → Bool) (e other : Option Request) (sure elsewhere : Known (Option Request)) (seen : Bool) → a ≡ false → sure ≡ cond seen (known e) unknown
    → ((d && not a) && surely test (cond d (cond a elsewhere sure) (known None))) ≡ (((d && not a) && test (cond d (cond a other e) None)) && (seen || false))
reply_as false a test e other sure elsewhere seen never is = refl
reply_as true true test e other sure elsewhere seen never is = absurd cc
reply_as true false test e other sure elsewhere seen never is = ap (surely test) is ∙ sure_as true test e seen

none_as : (a x y k : Bool) → a ≡ false → (a && x) ≡ ((a && y) && k)
none_as true x y k never = absurd cc
none_as false x y k never = refl

module _ (past : FlowPast) (sure : KnownFlow) (seen : ℕ → Bool) (o : Op) (beat : Beat) (is : (key : ℕ) → sure.source key ≡ named seen past key) (plain : is_plain o ≡ true) where
  abbrev kind : (is_acquire o ≡ false) × (is_probe o ≡ false) × (is_probe_ack o ≡ false) × (is_release o ≡ false) × (is_grant o ≡ false) × (is_release_ack o ≡ false) × (is_grant_ack o ≡ false)
  kind = kinds o plain

  abbrev surely_broken : Rule → Bool
  surely_broken = breaks_flow_surely sure (known_request sure (bare o beat)) (bare o beat)

  abbrev broken : Rule → Bool
  broken = breaks_flow past (message_in past beat o)

  pub flow_named : (r : Rule) → surely_broken r ≡ (broken r && is_kept (seen beat.source) r)
  flow_named rule.S1 = ap (λ k. same_chan beat.chan chan.A && surely is_some k) (is beat.source) ∙ sure_as (same_chan beat.chan chan.A) is_some (past.source beat.source) (seen beat.source)
  flow_named rule.S2 = reply_as (same_chan beat.chan chan.D) (is_release_ack o) is_none (past.source beat.source) (past.release beat.source) (sure.source beat.source) (sure.release beat.source) (seen beat.source) kind.5 (is beat.source)
  flow_named rule.S3 = reply_as (same_chan beat.chan chan.D) (is_release_ack o) (passes (λ (answered : Request). not (replies_to answered.op o))) (past.source beat.source) (past.release beat.source)
      (sure.source beat.source) (sure.release beat.source) (seen beat.source) kind.5 (is beat.source)
  flow_named rule.S4 = reply_as (same_chan beat.chan chan.D) (is_release_ack o) (passes (λ (answered : Request). not (answered.size == beat.size))) (past.source beat.source) (past.release beat.source)
      (sure.source beat.source) (sure.release beat.source) (seen beat.source) kind.5 (is beat.source)
  flow_named rule.S5 = none_as (is_release_ack o) _ _ (is_kept (seen beat.source) rule.S5) kind.5
  flow_named rule.S6 = none_as (is_release o) _ _ (is_kept (seen beat.source) rule.S6) kind.3
  flow_named rule.S7 = none_as (is_release_ack o) _ _ (is_kept (seen beat.source) rule.S7) kind.5
  flow_named rule.S8 = none_as (is_grant o) _ _ (is_kept (seen beat.source) rule.S8) kind.4
  flow_named rule.S9 = none_as (is_grant_ack o) _ _ (is_kept (seen beat.source) rule.S9) kind.6
  flow_named _ = refl

-- ---- filters

filter_both : (p q t : Rule → Bool) (rs : List Rule) → ((r : Rule) → t r ≡ (p r && q r)) → filter t rs ≡ filter q (filter p rs)
filter_both p q t [] same = refl
filter_both p q t (r ∷ rs) same =
    ap (λ b. cond b (r ∷ filter t rs) (filter t rs)) (same r)
    ∙ ap (λ xs. cond (p r && q r) (r ∷ xs) xs) (filter_both p q t rs same)
    ∙ elim (p r) as (λ b. cond (b && q r) (r ∷ filter q (filter p rs)) (filter q (filter p rs)) ≡ filter q (cond b (r ∷ filter p rs) (filter p rs))) [ true ↦ refl | false ↦ refl ]

none_of : (t : Rule → Bool) (rs : List Rule) → ((r : Rule) → t r ≡ false) → filter t rs ≡ []
none_of t [] never = refl
none_of t (r ∷ rs) never = ap (λ b. cond b (r ∷ filter t rs) (filter t rs)) (never r) ∙ none_of t rs never

is_kept_own : (seen : Bool) (r : Rule) → not (is_flow r) ≡ true → is_kept seen r ≡ true
is_kept_own true r own = refl
is_kept_own false r own = own

first_of_both : (a b : Bool) → (a && b) ≡ true → a ≡ true
first_of_both true b h = refl
first_of_both false b h = h

second_of_both : (a b : Bool) → (a && b) ≡ true → b ≡ true
second_of_both true b h = h
second_of_both false b h = cc

kept_whole : (seen : Bool) (rs : List Rule) → list_all (λ r. not (is_flow r)) rs ≡ true → filter (is_kept seen) rs ≡ rs
kept_whole seen [] own = refl
kept_whole seen (r ∷ rs) own =
    ap (λ b. cond b (r ∷ filter (is_kept seen) rs) (filter (is_kept seen) rs)) (is_kept_own seen r (first_of_both (not (is_flow r)) (list_all (λ r. not (is_flow r)) rs) own))
    ∙ ap (λ xs. r ∷ xs) (kept_whole seen rs (second_of_both (not (is_flow r)) (list_all (λ r. not (is_flow r)) rs) own))

filter_swapped : (p q : Rule → Bool) (rs : List Rule) → filter q (filter p rs) ≡ filter p (filter q rs)
filter_swapped p q rs = sym (filter_both p q (λ r. p r && q r) rs (λ r. refl)) ∙ filter_both q p (λ r. p r && q r) rs (λ r. swap (p r) (q r))
  where
    swap : (a b : Bool) → (a && b) ≡ (b && a)
    swap true b = sym (and_true b)
    swap false b = sym (and_false b)

kept_some : (seen : Bool) (p : Rule → Bool) (rs : List Rule) → list_all (λ r. not (is_flow r)) rs ≡ true → filter (is_kept seen) (filter p rs) ≡ filter p rs
kept_some seen p rs own = filter_swapped p (is_kept seen) rs ∙ ap (filter p) (kept_whole seen rs own)

-- ---- rules of a head

false_and : (a x : Bool) → a ≡ false → (a && x) ≡ false
false_and true x never = absurd cc
false_and false x never = refl

either_false : (a b : Bool) → a ≡ false → b ≡ false → (a || b) ≡ false
either_false true b never other = absurd cc
either_false false b never other = other

module _ (m : Manager) (start : Beginning) (before : List Placed) (p : Placed) (seen : ℕ → Bool) (s : LinkSnapshot) (follows : Follows m start p.link seen s before) (below : IsPlain (m.links p.link)) where
  abbrev link : LinkDecl
  link = m.links p.link

  abbrev f : Front
  f = front m start before

  abbrev kept : Rule → Bool
  kept = is_kept (seen p.beat.source)

  alone : readings_of m start before p ≡ read_as (s.burst p.beat.chan) ∷ []
  alone =
      ap (told start.by_fields link p.beat (before_on p.link p.beat.chan before)) (follows.readings p.beat.chan)
      ∙ told_alone start.by_fields link p.beat (before_on p.link p.beat.chan before) (read_as (s.burst p.beat.chan))

  module _ (o : Op) (is : message_of link p.beat ≡ Some o) where
    abbrev message : Message
    message = bare o p.beat

    abbrev full : Message
    full = message_in s.past.flow p.beat o

    plain : is_plain o ≡ true
    plain = plain_message link p.beat o below is

    abbrev own : (is_acquire o ≡ false) × (is_probe o ≡ false) × (is_probe_ack o ≡ false) × (is_release o ≡ false) × (is_grant o ≡ false) × (is_release_ack o ≡ false) × (is_grant_ack o ≡ false)
    own = kinds o plain

    no_permission : (r : Rule) → permission_surely link.strict m f p.link message r ≡ false
    no_permission rule.P1 = false_and (is_acquire o) _ own.0
    no_permission rule.P2 = false_and (is_probe_ack o || is_release o) _ (either_false (is_probe_ack o) (is_release o) own.2 own.3)
    no_permission rule.P3 = false_and (is_probe_ack o) _ own.2
    no_permission rule.P4 = false_and (is_probe_ack o) _ own.2
    no_permission rule.P5 = false_and (is_probe o) _ own.1
    no_permission rule.P6 = false_and (is_acquire o) _ own.0
    no_permission rule.P7 = false_and (is_release o) _ own.3
    no_permission rule.P8 = false_and (is_acquire o || is_release o || is_probe_ack o) _ (either_false (is_acquire o || is_release o) (is_probe_ack o) (either_false (is_acquire o) (is_release o) own.0 own.3) own.2)
    no_permission _ = refl

    no_plain_permission : (r : Rule) → breaks_permission link.strict m.exponent s.past.client full r ≡ false
    no_plain_permission rule.P1 = false_and (is_acquire o) _ own.0
    no_plain_permission rule.P2 = false_and (is_probe_ack o || is_release o) _ (either_false (is_probe_ack o) (is_release o) own.2 own.3)
    no_plain_permission rule.P3 = false_and (is_probe_ack o) _ own.2
    no_plain_permission rule.P4 = false_and (is_probe_ack o) _ own.2
    no_plain_permission rule.P5 = false_and (is_probe o) _ own.1
    no_plain_permission rule.P6 = false_and (is_acquire o) _ own.0
    no_plain_permission rule.P7 = false_and (is_release o) _ own.3
    no_plain_permission rule.P8 = false_and (is_acquire o || is_release o || is_probe_ack o) _ (either_false (is_acquire o || is_release o) (is_probe_ack o) (either_false (is_acquire o) (is_release o) own.0 own.3) own.2)
    no_plain_permission _ = refl

    no_manager : (r : Rule) → breaks_manager_surely m.clients m.exponent f.past (grant_open f) p.link (known_request (f.past p.link).flow message) message r ≡ false
    no_manager rule.M1 = false_and (is_grant o) _ own.4
    no_manager rule.M2 = false_and (is_grant o) _ own.4
    no_manager rule.M3 = false_and (is_probe o) _ own.1
    no_manager _ = refl

    -- What is printed of a head with a message is what it breaks, but for flow rules of sources that weren't named.
    head_kept : head_broken m f p (Some o) ≡ filter kept (link_head m s p (Some o))
    head_kept =
        let format : List Rule = filter (breaks_format m.exponent m.regions link o p.beat) format_order in
        let flow : List Rule = filter (breaks_flow s.past.flow full) flow_order in
        let sure : List Rule = filter (breaks_flow_surely (f.past p.link).flow (known_request (f.past p.link).flow message) message) flow_order in
        let named_flow : sure ≡ filter kept flow = filter_both (breaks_flow s.past.flow full) kept _ flow_order (flow_named s.past.flow (f.past p.link).flow seen o p.beat follows.source plain) in
        let permissions : List Rule = filter (breaks_permission link.strict m.exponent s.past.client full) permission_order in
        let sure_permissions : List Rule = filter (permission_surely link.strict m f p.link message) permission_order in
        let across : List Rule = filter (breaks_manager_surely m.clients m.exponent f.past (grant_open f) p.link (known_request (f.past p.link).flow message) message) manager_order in
        let whole : filter kept ((format ++ flow) ++ permissions) ≡ (format ++ filter kept flow) ++ [] =
        kept_of_both kept (format ++ flow) permissions
        ∙ ap (λ rs. filter kept (format ++ flow) ++ filter kept rs) (none_of _ permission_order no_plain_permission)
        ∙ ap (λ rs. rs ++ []) (kept_of_both kept format flow ∙ ap (λ rs. rs ++ filter kept flow) (kept_some (seen p.beat.source) (breaks_format m.exponent m.regions link o p.beat) format_order refl)) in
        ap (λ rs. format ++ ((rs ++ sure_permissions) ++ across)) named_flow
        ∙ ap (λ rs. format ++ ((filter kept flow ++ rs) ++ across)) (none_of _ permission_order no_permission)
        ∙ ap (λ rs. format ++ ((filter kept flow ++ []) ++ rs)) (none_of _ manager_order no_manager)
        ∙ ap (λ rs. format ++ rs) (append-nil (filter kept flow ++ []))
        ∙ sym (append_assoc format (filter kept flow) [])
        ∙ sym whole

  heads : head_broken m f p (message_of link p.beat) ≡ filter kept (link_head m s p (message_of link p.beat))
  heads = elim (message_of link p.beat) as (λ found. message_of link p.beat ≡ found → head_broken m f p found ≡ filter kept (link_head m s p found)) [
    | None ↦ λ is. sym (kept_whole (seen p.beat.source) (rule.F1 ∷ []) refl)
    | Some o ↦ λ is. head_kept o is
  ] refl

  laters : (burst : Unfinished) → later_broken link p.beat (rest burst.missing (Some burst.head) ∷ []) ≡ filter kept (later_rules link p.beat burst.head)
  laters burst = elim (message_of link burst.head) as (λ found. filter (λ r. option_map_or (λ o. breaks_later link o burst.head p.beat r) found false && true) later_order
      ≡ filter kept (option_map_or (λ o. filter (breaks_later link o burst.head p.beat) later_order) found [])) [
        | None ↦ none_of (λ r. false && true) later_order (λ r. refl)
        | Some o ↦ (λ i. filter (λ r. and_true (breaks_later link o burst.head p.beat r) i) later_order) ∙ sym (kept_some (seen p.beat.source) (breaks_later link o burst.head p.beat) later_order refl)
      ]

  -- What is printed of a beat is what it breaks, but for flow rules of sources that weren't named.
  pub rules_kept : printed_rules m start before p ≡ filter kept (link_rules m s p)
  rules_kept = elim (s.burst p.beat.chan) as (λ burst. s.burst p.beat.chan ≡ burst → printed_rules m start before p ≡ filter kept (link_place m s p burst)) [
    | None ↦ λ e. ap (λ readings. printed_of m f readings p) (alone ∙ ap (λ burst. read_as burst ∷ []) e) ∙ head_printed m f p (due ∷ []) refl refl ∙ heads
    | Some burst ↦ λ e. ap (λ readings. printed_of m f readings p) (alone ∙ ap (λ burst. read_as burst ∷ []) e) ∙ later_printed m f p (rest burst.missing (Some burst.head) ∷ []) refl ∙ laters burst
  ] refl

-- ---- one beat more

may_as_due : (burst : Option Unfinished) → may_begin (read_as burst ∷ []) ≡ is_none burst
may_as_due None = refl
may_as_due (Some burst) = refl

must_as_due : (burst : Option Unfinished) → must_begin (read_as burst ∷ []) ≡ is_none burst
must_as_due None = refl
must_as_due (Some burst) = refl

module _ (m : Manager) (start : Beginning) (before : List Placed) (p : Placed) (seen : ℕ → Bool) (s : LinkSnapshot) (follows : Follows m start p.link seen s before) where
  abbrev decl : LinkDecl
  decl = m.links p.link

  abbrev burst : Option Unfinished
  burst = s.burst p.beat.chan

  one_reading : readings_of m start before p ≡ read_as burst ∷ []
  one_reading =
      ap (told start.by_fields decl p.beat (before_on p.link p.beat.chan before)) (follows.readings p.beat.chan)
      ∙ told_alone start.by_fields decl p.beat (before_on p.link p.beat.chan before) (read_as burst)

  next_readings : (c : Chan) → readings_after decl (start.most p.link c) start.by_fields (before_on p.link c (p ∷ before)) ≡ read_as ((link_next m s p).burst c) ∷ []
  next_readings c =
      ap (λ b. readings_after decl (start.most p.link c) start.by_fields (cond (b && same_chan p.beat.chan c) (p.beat ∷ before_on p.link c before) (before_on p.link c before))) (itself p.link)
      ∙ elim (same_chan p.beat.chan c) as (λ b. readings_after decl (start.most p.link c) start.by_fields (cond b (p.beat ∷ before_on p.link c before) (before_on p.link c before))
      ≡ read_as (cond b (after_beat decl p.beat (s.burst c)) (s.burst c)) ∷ []) [
        | true ↦ ap (λ readings. map (reading_after decl p.beat) (told start.by_fields decl p.beat (before_on p.link c before) readings)) (follows.readings c)
            ∙ ap (map (reading_after decl p.beat)) (told_alone start.by_fields decl p.beat (before_on p.link c before) (read_as (s.burst c)))
            ∙ ap (λ x. x ∷ []) (after_alone decl p.beat (s.burst c))
        | false ↦ follows.readings c
      ]

  -- What is known of a source after a certain head.
  head_source : (found : Option Op) (key : ℕ) → (known_with m.exponent true (known_pasts m start before p.link) p.beat found).flow.source key
      ≡ named (λ k. named_by p.beat found k || seen k) (past_with m.exponent s.past p.beat found).flow key
  head_source None key = follows.source key
  head_source (Some o) key = left_is o key ∙ both (touches sources key (bare o p.beat)) (seen key) (option_map as_request (if_opens sources (bare o p.beat))) (s.past.flow.source key) ((known_pasts m start before p.link).flow.source key) (follows.source key) ∙ sym (right_is o key)
    where
      left_is : (o : Op) (key : ℕ) → (known_with m.exponent true (known_pasts m start before p.link) p.beat (Some o)).flow.source key
          ≡ cond (touches sources key (bare o p.beat)) (known (option_map as_request (if_opens sources (bare o p.beat)))) ((known_pasts m start before p.link).flow.source key)
      left_is o key = refl

      made_alike : (o : Op) → option_map as_request (if_opens sources (message_in s.past.flow p.beat o)) ≡ option_map as_request (if_opens sources (bare o p.beat))
      made_alike o = elim (same_chan p.beat.chan chan.A) as (λ b. option_map as_request (cond b (Some (message_in s.past.flow p.beat o)) None) ≡ option_map as_request (cond b (Some (bare o p.beat)) None)) [ true ↦ refl | false ↦ refl ]

      right_is : (o : Op) (key : ℕ) → named (λ k. named_by p.beat (Some o) k || seen k) (past_with m.exponent s.past p.beat (Some o)).flow key
          ≡ cond (touches sources key (bare o p.beat) || seen key) (known (cond (touches sources key (bare o p.beat)) (option_map as_request (if_opens sources (bare o p.beat))) (s.past.flow.source key))) unknown
      right_is o key = ap (λ made. cond (touches sources key (bare o p.beat) || seen key) (known (cond (touches sources key (bare o p.beat)) made (s.past.flow.source key))) unknown) (made_alike o)

      both : (t seen : Bool) (made old : Option Request) (sure : Known (Option Request)) → sure ≡ cond seen (known old) unknown
          → cond t (known made) sure ≡ cond (t || seen) (known (cond t made old)) unknown
      both true seen made old sure is = refl
      both false seen made old sure is = is

  next_source : (key : ℕ) → (known_pasts m start (p ∷ before) p.link).flow.source key ≡ named (seen_after m s p seen) (link_next m s p).past.flow key
  next_source key =
      ap (λ b. (cond (b && may_begin (readings_of m start before p))
      (known_with m.exponent (must_begin (readings_of m start before p)) (known_pasts m start before p.link) p.beat (message_of decl p.beat)) (known_pasts m start before p.link)).flow.source key) (itself p.link)
      ∙ ap (λ readings. (cond (may_begin readings) (known_with m.exponent (must_begin readings) (known_pasts m start before p.link) p.beat (message_of decl p.beat)) (known_pasts m start before p.link)).flow.source key) one_reading
      ∙ elim burst as (λ found. (cond (may_begin (read_as found ∷ [])) (known_with m.exponent (must_begin (read_as found ∷ [])) (known_pasts m start before p.link) p.beat (message_of decl p.beat)) (known_pasts m start before p.link)).flow.source key
      ≡ named (λ k. (is_none found && named_by p.beat (message_of decl p.beat) k) || seen k) (cond (is_none found) (past_with m.exponent s.past p.beat (message_of decl p.beat)) s.past).flow key) [
        | None ↦ head_source (message_of decl p.beat) key
        | Some one ↦ follows.source key
      ]

  pub follows_next : Follows m start p.link (seen_after m s p seen) (link_next m s p) (p ∷ before)
  follows_next = record { readings = next_readings; source = next_source }

-- ---- before all beats

pub follows_first : (m : Manager) (start : Beginning) (link : ℕ) (s : LinkSnapshot) → ((c : Chan) → start.most link c ≡ 0) → ((c : Chan) → s.burst c ≡ None) → ((key : ℕ) → s.past.flow.source key ≡ None)
    → Follows m start link (seen_first (m.links link)) s []
follows_first m start link s most bursts past = record {
  readings = λ c. ap first_readings (most c) ∙ ap (λ burst. read_as burst ∷ []) (sym (bursts c));
  source = λ key. ap (λ entry. first_source key entry) (sym (past key)) ∙ both key;
}
  where
    first_source : ℕ → Option Request → Known (Option Request)
    first_source key entry = cond (nat_lt key (m.links link).sources) unknown (known entry)

    both : (key : ℕ) → first_source key (s.past.flow.source key) ≡ named (seen_first (m.links link)) s.past.flow key
    both key = elim (nat_lt key (m.links link).sources) as (λ b. cond b unknown (known (s.past.flow.source key)) ≡ cond (not b) (known (s.past.flow.source key)) unknown) [ true ↦ refl | false ↦ refl ]
