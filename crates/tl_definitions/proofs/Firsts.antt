-- What a lawful past leaves is allowed by what is known at first.
use Rattle.std.proofs.Common.{◌≡◌, ℕ, zero, suc, ◌≤◌, ◌==◌, ◌&&◌, ◌||◌, Bool, true, false, cond, true≢false, List, [], ◌∷◌, ◌++◌, map, Option, Some, None, refl, sym, ap, subst, ◌∙◌, arith}
use Rattle.std.specs.Prelude.{nat_lt, not}
use Rattle.std.specs.Option.{option_map, option_map_or}
use Rattle.std.specs.List.{Contains}
use Rattle.std.proofs.lemmas.Bool.Decides.{nat_tests}
use Rattle.tl_tables.specs.declared.Chan.{Chan}
use Rattle.tl_tables.specs.declared.Chan.TheVariants as chan
use Rattle.tl_tables.specs.declared.Level.{Level}
use Rattle.tl_tables.specs.declared.Level.TheVariants as level
use Rattle.tl_tables.specs.declared.Op.{Op}
use Rattle.tl_tables.specs.declared.Op.TheVariants as op
use Rattle.tl_tables.specs.declared.Rule.{Rule}
use Rattle.tl_tables.specs.declared.Rule.TheVariants as rule
use Rattle.tl_tables.specs.Messages.{op_at, same_chan, level_le}
use Rattle.tl_tables.specs.Kinds.{is_release}
use Rattle.tl_beats.specs.declared.Placed.{Placed}
use Rattle.tl_beats.specs.declared.Request.{Request}
use Rattle.tl_definitions.specs.OpenTables.{Table, touches, entry_at}
use Rattle.tl_definitions.specs.Heads.{message_of, before_on, last_head, unfinished}
use Rattle.tl_definitions.specs.Messages.{Message, as_request, sources, releases, message_at, messages_on, with_message, at_head}
use Rattle.tl_definitions.specs.Past.{pasts_of}
use Rattle.tl_definitions.specs.Rules.{Manager, breaks_format, has_size, rules_of_message}
use Rattle.tl_definitions.specs.Breaks.{head_rules, later_rules, rules_at, row_of, rows_after}
use Rattle.tl_definitions.specs.Judging.{snapshot}
use Rattle.tl_definitions.proofs.TableLaws.{entry_next}
use Rattle.tl_definitions.proofs.Lists.{contains_none, onto}
use Rattle.tl_definitions.specs.Known.{unknown, known, Beginning, known_snapshot}
use Rattle.tl_definitions.specs.Lawful.{missing_in, Agrees, Allows}
use Rattle.tl_definitions.proofs.Sure.{and_parts}
use Rattle.tl_definitions.proofs.Bursts.{burst_first}
use Rattle.tl_definitions.proofs.Members.{format_in}

-- No beat of these, the newest first, breaks a rule.
abbrev pub IsClean : Manager → List Placed → Type 0
IsClean m [] = Unit {0}
IsClean m (p ∷ before) = (rules_at m before p ≡ []) × IsClean m before

none_of_both : {X : Type 0} (xs ys : List X) → xs ++ ys ≡ [] → (xs ≡ []) × (ys ≡ [])
none_of_both [] ys h = (refl, h)
none_of_both (x ∷ xs) ys h = cc

none_mapped : {X Y : Type 0} (f : X → Y) (xs : List X) → map f xs ≡ [] → xs ≡ []
none_mapped f [] h = refl
none_mapped f (x ∷ xs) h = cc

pub clean_onto : (m : Manager) (before past : List Placed) → rows_after m before past ≡ [] → IsClean m before → IsClean m (onto before past)
clean_onto m before [] h c = c
clean_onto m before (p ∷ past) h c =
    let parts = none_of_both (map (row_of p) (rules_at m before p)) (rows_after m (p ∷ before) past) h in
    clean_onto m (p ∷ before) past parts.1 (none_mapped (row_of p) (rules_at m before p) parts.0, c)

-- A head of a lawful past breaks no format rule.
pub keeps_format : (m : Manager) (before : List Placed) (p : Placed) (o : Op) → rules_at m before p ≡ [] → at_head m.links before p ≡ true → message_of (m.links p.link) p.beat ≡ Some o → (r : Rule)
    → breaks_format m.exponent m.regions (m.links p.link) o p.beat r ≡ false
keeps_format m before p o none head found r =
    let message : Message = message_at (messages_on m.links p.link before) p.beat o in
    let is : rules_at m before p ≡ rules_of_message m (pasts_of m.links m.exponent before) p.link message =
    ap (λ t. cond t (head_rules m before p (message_of (m.links p.link) p.beat)) (option_map_or (later_rules (m.links p.link) p.beat) (last_head (m.links p.link) (before_on p.link p.beat.chan before)) [])) head
    ∙ ap (head_rules m before p) found in
    elim (breaks_format m.exponent m.regions (m.links p.link) o p.beat r) as (λ t. breaks_format m.exponent m.regions (m.links p.link) o p.beat r ≡ t → t ≡ false) [
      | true ↦ λ e. absurd (contains_none r (subst (λ rules. Contains rules r) (sym is ∙ none) (format_in m (pasts_of m.links m.exponent before) p.link message r e)))
      | false ↦ λ e. refl
    ] refl

-- The channels of openers by source have sources.
a_sized : (c : Chan) → same_chan c chan.A ≡ true → has_size c ≡ true
a_sized chan.E h = cc
a_sized _ h = refl

e_no_release : (l : Level) (code : ℕ) (o : Op) → op_at l chan.E code ≡ Some o → is_release o ≡ true → ⊥
unfolding op_at
e_no_release l zero o f h = elim (level_le level.C l) as (λ t. cond t (Some op.GrantAck) None ≡ Some o → ⊥) [
  | true ↦ λ g. (let is : op.GrantAck ≡ o = cc in true≢false (sym h ∙ sym (ap is_release is)))
  | false ↦ λ g. true≢false cc
] f
e_no_release l (suc code) o f h = true≢false cc

release_sized : (l : Level) (c : Chan) (code : ℕ) (o : Op) → op_at l c code ≡ Some o → is_release o ≡ true → has_size c ≡ true
release_sized l chan.E code o f h = absurd (e_no_release l code o f h)
release_sized l _ code o f h = refl

low_source : (sized low : Bool) → sized ≡ true → (sized && not low) ≡ false → low ≡ true
low_source true true h g = refl
low_source true false h g = cc
low_source false low h g = cc

-- Nothing is open on a source that isn't below the link's number of sources.
closed_next : (table : Table Message) (before : List Message) (message : Message) (key : ℕ) → entry_at table as_request before key ≡ None
    → (table.opens message ≡ true → (table.key message == key) ≡ true → ⊥) → entry_at table as_request (message ∷ before) key ≡ None
closed_next table before message key earlier never =
    sym (entry_next table as_request before message key)
    ∙ elim (touches table key message) as (λ t. touches table key message ≡ t → cond t (option_map as_request (cond (table.opens message) (Some message) None)) (entry_at table as_request before key) ≡ None) [
      | true ↦ λ e. elim (table.opens message) as (λ o. table.opens message ≡ o → option_map as_request (cond o (Some message) None) ≡ None) [
        | true ↦ λ o. absurd (never o (and_parts (table.opens message || table.closes message) (table.key message == key) e).1)
        | false ↦ λ o. refl
      ] refl
      | false ↦ λ e. earlier
    ] refl

-- A head on a source at or above that number isn't of a lawful past.
too_high : (m : Manager) (before : List Placed) (p : Placed) (o : Op) (link key : ℕ) → rules_at m before p ≡ [] → at_head m.links before p ≡ true → p.link ≡ link → message_of (m.links link) p.beat ≡ Some o
    → nat_lt key (m.links link).sources ≡ false → has_size p.beat.chan ≡ true → (p.beat.source == key) ≡ true → ⊥
too_high m before p o link key none head link_is found high sized same =
    let there : message_of (m.links p.link) p.beat ≡ Some o = subst (λ l. message_of (m.links l) p.beat ≡ Some o) (sym link_is) found in
    let low : nat_lt p.beat.source (m.links p.link).sources ≡ true =
    low_source (has_size p.beat.chan) (nat_lt p.beat.source (m.links p.link).sources) sized (keeps_format m before p o none head there rule.F9) in
    let key_is : p.beat.source ≡ key = grind (arith, nat_tests) in
    true≢false (sym (subst (λ l. nat_lt p.beat.source (m.links l).sources ≡ true) link_is low) ∙ ap (λ k. nat_lt k (m.links link).sources) key_is ∙ high)

source_closed : (m : Manager) (before : List Placed) (link key : ℕ) → IsClean m before → nat_lt key (m.links link).sources ≡ false → entry_at sources as_request (messages_on m.links link before) key ≡ None
source_closed m [] link key c high = refl
source_closed m (p ∷ before) link key c high =
    let old : List Message = messages_on m.links link before in
    let earlier = source_closed m before link key c.1 high in
    elim ((p.link == link) && at_head m.links before p) as (λ t. ((p.link == link) && at_head m.links before p) ≡ t
    → entry_at sources as_request (cond t (with_message p.beat (message_of (m.links link) p.beat) old) old) key ≡ None) [
      | true ↦ λ e. (let parts = and_parts (p.link == link) (at_head m.links before p) e in
          let on : (p.link == link) ≡ true = parts.0 in
          let link_is : p.link ≡ link = grind (arith, nat_tests) in
          elim (message_of (m.links link) p.beat) as (λ found. message_of (m.links link) p.beat ≡ found → entry_at sources as_request (with_message p.beat found old) key ≡ None) [
            | None ↦ λ f. earlier
            | Some o ↦ λ f. closed_next sources old (message_at old p.beat o) key earlier
                (λ opens same. too_high m before p o link key c.0 parts.1 link_is f high (a_sized p.beat.chan opens) same)
          ] refl)
      | false ↦ λ e. earlier
    ] refl

release_closed : (m : Manager) (before : List Placed) (link key : ℕ) → IsClean m before → nat_lt key (m.links link).sources ≡ false → entry_at releases as_request (messages_on m.links link before) key ≡ None
release_closed m [] link key c high = refl
release_closed m (p ∷ before) link key c high =
    let old : List Message = messages_on m.links link before in
    let earlier = release_closed m before link key c.1 high in
    elim ((p.link == link) && at_head m.links before p) as (λ t. ((p.link == link) && at_head m.links before p) ≡ t
    → entry_at releases as_request (cond t (with_message p.beat (message_of (m.links link) p.beat) old) old) key ≡ None) [
      | true ↦ λ e. (let parts = and_parts (p.link == link) (at_head m.links before p) e in
          let on : (p.link == link) ≡ true = parts.0 in
          let link_is : p.link ≡ link = grind (arith, nat_tests) in
          elim (message_of (m.links link) p.beat) as (λ found. message_of (m.links link) p.beat ≡ found → entry_at releases as_request (with_message p.beat found old) key ≡ None) [
            | None ↦ λ f. earlier
            | Some o ↦ λ f. closed_next releases old (message_at old p.beat o) key earlier
                (λ opens same. too_high m before p o link key c.0 parts.1 link_is f high (release_sized (m.links link).level p.beat.chan p.beat.opcode o f opens) same)
          ] refl)
      | false ↦ λ e. earlier
    ] refl

first_agrees : (low : Bool) (entry : Option Request) → (low ≡ false → entry ≡ None) → Agrees (cond low unknown (known None)) entry
first_agrees true entry f = tt
first_agrees false entry f = sym (f refl)

pub first_allows : (m : Manager) (start : Beginning) (before : List Placed) → IsClean m before
    → ((link : ℕ) (chan : Chan) → missing_in (unfinished (m.links link) (before_on link chan before)) ≤ start.most link chan)
    → Allows m (known_snapshot m start []) (snapshot m before)
first_allows m start before c most = record {
  burst = λ link chan. burst_first (m.links link) link chan (start.most link chan) before (most link chan);
  past = λ link. record {
    flow = record {
      source = λ key. first_agrees (nat_lt key (m.links link).sources) (entry_at sources as_request (messages_on m.links link before) key) (λ high. source_closed m before link key c high);
      release = λ key. first_agrees (nat_lt key (m.links link).sources) (entry_at releases as_request (messages_on m.links link before) key) (λ high. release_closed m before link key c high);
      sink = λ key. tt;
    };
    client = record {
      probe = λ block. tt;
      bound = λ block. refl;
      granted = λ key. tt;
    };
  };
}
