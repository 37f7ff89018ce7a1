-- What is printed of links without caches depends on the beats of each link alone.
use Rattle.std.proofs.Common.{◌≡◌, ℕ, ◌==◌, ◌&&◌, ◌||◌, Bool, true, false, cond, List, [], ◌∷◌, ◌++◌, Option, Some, None, refl, sym, ap, subst, ◌∙◌}
use Rattle.std.specs.Prelude.{map, filter}
use Rattle.std.specs.Option.{option_map_or}
use Rattle.std.specs.List.{list_all}
use Rattle.tl_tables.specs.declared.Chan.{Chan}
use Rattle.tl_tables.specs.declared.Chan.TheVariants as chan
use Rattle.tl_tables.specs.declared.Rule.{Rule}
use Rattle.tl_tables.specs.declared.Rule.TheVariants as rule
use Rattle.tl_tables.specs.Messages.{same_chan}
use Rattle.tl_tables.specs.Kinds.{is_grant, is_probe}
use Rattle.tl_beats.specs.declared.Beat.{Beat}
use Rattle.tl_beats.specs.declared.Placed.{Placed}
use Rattle.tl_beats.specs.declared.Request.{Request}
use Rattle.tl_beats.specs.declared.Row.{Row}
use Rattle.tl_definitions.specs.Breaks.{row_of}
use Rattle.tl_definitions.specs.Heads.{message_of, before_on}
use Rattle.tl_definitions.specs.Known.{Known, Beginning, KnownPast, bare, known_request, readings_of, known_pasts, known_with}
use Rattle.tl_definitions.specs.LinkPasses.{on_link}
use Rattle.tl_definitions.specs.Messages.{Message, block_of}
use Rattle.tl_definitions.specs.Printed.{Front, front, is_f1, breaks_by, breaks_surely, breaks_flow_surely, breaks_permission_surely, breaks_manager_surely, has_acquire, has_release, acquire_open, release_open, grant_open, beat_rules, printed_of, printed_rules, printed_after}
use Rattle.tl_definitions.specs.Readings.{Reading, due, rest, readings_at, may_begin, must_begin}
use Rattle.tl_definitions.specs.Rules.{Manager, breaks_format}
use Rattle.tl_midway.proofs.PlainMessages.{IsPlain, plain_message, kinds}
use Rattle.tl_definitions.proofs.LinkLaws.{same_link}
use Rattle.tl_definitions.proofs.Lists.{kept_of_both}

-- ---- a link's readings and what is known of its past

pub before_own : (link : ℕ) (c : Chan) (before : List Placed) → before_on link c (on_link link before) ≡ before_on link c before
before_own link c [] = refl
before_own link c (p ∷ before) =
    elim (p.link == link) as (λ b. (p.link == link) ≡ b → before_on link c (cond b (p ∷ on_link link before) (on_link link before))
    ≡ cond (b && same_chan p.beat.chan c) (p.beat ∷ before_on link c before) (before_on link c before)) [
      | true ↦ λ e. ap (λ t. cond (t && same_chan p.beat.chan c) (p.beat ∷ before_on link c (on_link link before)) (before_on link c (on_link link before))) e
          ∙ ap (λ bs. cond (same_chan p.beat.chan c) (p.beat ∷ bs) bs) (before_own link c before)
      | false ↦ λ e. before_own link c before
    ] refl

pub readings_own : (m : Manager) (start : Beginning) (before : List Placed) (p : Placed) → readings_of m start (on_link p.link before) p ≡ readings_of m start before p
readings_own m start before p = ap (readings_at (m.links p.link) (start.most p.link p.beat.chan) start.by_fields p.beat) (before_own p.link p.beat.chan before)

abbrev stepped : Manager → ℕ → Placed → Bool → List Reading → KnownPast → KnownPast
stepped m link p here readings old = cond (here && may_begin readings) (known_with m.exponent (must_begin readings) old p.beat (message_of (m.links link) p.beat)) old

pub past_own : (m : Manager) (start : Beginning) (before : List Placed) (link : ℕ) → known_pasts m start (on_link link before) link ≡ known_pasts m start before link
past_own m start [] link = refl
past_own m start (p ∷ before) link =
    elim (p.link == link) as (λ b. (p.link == link) ≡ b → known_pasts m start (cond b (p ∷ on_link link before) (on_link link before)) link
    ≡ stepped m link p b (readings_of m start before p) (known_pasts m start before link)) [
      | true ↦ λ e. (let own : readings_of m start (on_link link before) p ≡ readings_of m start before p =
          ap (λ l. readings_of m start (on_link l before) p) (sym (same_link p.link link e)) ∙ readings_own m start before p in
          ap (λ b. stepped m link p b (readings_of m start (on_link link before) p) (known_pasts m start (on_link link before) link)) e
          ∙ ap (λ readings. stepped m link p true readings (known_pasts m start (on_link link before) link)) own
          ∙ ap (stepped m link p true (readings_of m start before p)) (past_own m start before link))
      | false ↦ λ e. past_own m start before link
    ] refl

-- ---- a beat's rules

-- A message that is no Grant and no Probe breaks no rule of its manager for sure.
no_managers : (clients : List ℕ) (exponent : ℕ) (pasts : ℕ → KnownPast) (grants : ℕ → ℕ → Bool) (link : ℕ) (request : Known (Option Request)) (message : Message) (r : Rule)
    → is_grant message.op ≡ false → is_probe message.op ≡ false → breaks_manager_surely clients exponent pasts grants link request message r ≡ false
no_managers clients exponent pasts grants link request message rule.M1 g p = cc
no_managers clients exponent pasts grants link request message rule.M2 g p = cc
no_managers clients exponent pasts grants link request message rule.M3 g p = cc
no_managers clients exponent pasts grants link request message _ g p = refl

-- The rules of its link's own, by what the front has for the link.
abbrev own_surely : Manager → ℕ → Message → KnownPast → List Beat → List Beat → Rule → Bool
own_surely m link message past on_a on_c r =
    breaks_format m.exponent m.regions (m.links link) message.op message.beat r
    || breaks_flow_surely past.flow (known_request past.flow message) message r
    || breaks_permission_surely (m.links link).strict m.exponent past.client (has_acquire m.exponent past on_a (block_of m.exponent message)) (has_release m.exponent past on_c (block_of m.exponent message)) message r
    || false

head_own : (m : Manager) (f : Front) (link : ℕ) (message : Message) (r : Rule) → is_grant message.op ≡ false → is_probe message.op ≡ false
    → breaks_surely m f link message r ≡ own_surely m link message (f.past link) (before_on link chan.A f.beats) (before_on link chan.C f.beats) r
head_own m f link message r g p =
    ap (λ b. breaks_format m.exponent m.regions (m.links link) message.op message.beat r
    || breaks_flow_surely (f.past link).flow (known_request (f.past link).flow message) message r
    || breaks_permission_surely (m.links link).strict m.exponent (f.past link).client (acquire_open m f link message) (release_open m f link message) message r
    || b) (no_managers m.clients m.exponent f.past (grant_open f) link (known_request (f.past link).flow message) message r g p)

head_alike : (m : Manager) (start : Beginning) (before : List Placed) (p : Placed) (message : Message) (r : Rule) → is_grant message.op ≡ false → is_probe message.op ≡ false
    → breaks_surely m (front m start (on_link p.link before)) p.link message r ≡ breaks_surely m (front m start before) p.link message r
head_alike m start before p message r g q =
    head_own m (front m start (on_link p.link before)) p.link message r g q
    ∙ ap (λ past. own_surely m p.link message past (before_on p.link chan.A (on_link p.link before)) (before_on p.link chan.C (on_link p.link before)) r) (past_own m start before p.link)
    ∙ ap (λ on_a. own_surely m p.link message (known_pasts m start before p.link) on_a (before_on p.link chan.C (on_link p.link before)) r) (before_own p.link chan.A before)
    ∙ ap (λ on_c. own_surely m p.link message (known_pasts m start before p.link) (before_on p.link chan.A before) on_c r) (before_own p.link chan.C before)
    ∙ sym (head_own m (front m start before) p.link message r g q)

pub by_alike : (m : Manager) (start : Beginning) (before : List Placed) (p : Placed) (r : Rule) (reading : Reading) → IsPlain (m.links p.link)
    → breaks_by m (front m start (on_link p.link before)) p r reading ≡ breaks_by m (front m start before) p r reading
by_alike m start before p r due plain =
    elim (message_of (m.links p.link) p.beat) as (λ found. message_of (m.links p.link) p.beat ≡ found
    → option_map_or (λ o. breaks_surely m (front m start (on_link p.link before)) p.link (bare o p.beat) r) found (is_f1 r) ≡ option_map_or (λ o. breaks_surely m (front m start before) p.link (bare o p.beat) r) found (is_f1 r)) [
      | None ↦ λ e. refl
      | Some o ↦ λ e. (let kind = kinds o (plain_message (m.links p.link) p.beat o plain e) in head_alike m start before p (bare o p.beat) r kind.4 kind.1)
    ] refl
by_alike m start before p r (rest missing (Some head)) plain = refl
by_alike m start before p r (rest missing None) plain = refl

pub rules_alike : (m : Manager) (start : Beginning) (before : List Placed) (p : Placed) → IsPlain (m.links p.link) → printed_rules m start (on_link p.link before) p ≡ printed_rules m start before p
rules_alike m start before p plain =
    ap (λ readings. printed_of m (front m start (on_link p.link before)) readings p) (readings_own m start before p)
    ∙ λ i. filter (λ r. list_all (λ reading. by_alike m start before p r reading plain i) (readings_of m start before p)) beat_rules

-- ---- rows

-- The rows of a link are those of its own beats.
pub rows_own : (m : Manager) (start : Beginning) (before beats : List Placed) (link : ℕ) → IsPlain (m.links link)
    → filter (λ (row : Row). row.link == link) (printed_after m start before beats) ≡ printed_after m start (on_link link before) (on_link link beats)
rows_own m start before [] link plain = refl
rows_own m start before (p ∷ beats) link plain =
    let test : Row → Bool = λ row. row.link == link in
    kept_of_both test (map (row_of p) (printed_rules m start before p)) (printed_after m start (p ∷ before) beats)
    ∙ ap (λ rows. filter test (map (row_of p) (printed_rules m start before p)) ++ rows) (rows_own m start (p ∷ before) beats link plain)
    ∙ elim (p.link == link) as (λ b. (p.link == link) ≡ b
    → filter test (map (row_of p) (printed_rules m start before p)) ++ printed_after m start (cond b (p ∷ on_link link before) (on_link link before)) (on_link link beats)
    ≡ printed_after m start (on_link link before) (cond b (p ∷ on_link link beats) (on_link link beats))) [
      | true ↦ λ e. (let here : p.link ≡ link = same_link p.link link e in
          ap (λ rows. rows ++ printed_after m start (p ∷ on_link link before) (on_link link beats))
          (all_here m start before p link e ∙ ap (map (row_of p)) (sym (rules_alike m start before p (subst (λ l. IsPlain (m.links l)) (sym here) plain)) ∙ ap (λ l. printed_rules m start (on_link l before) p) here)))
      | false ↦ λ e. ap (λ rows. rows ++ printed_after m start (on_link link before) (on_link link beats)) (none_here m start before p link e)
    ] refl
  where
    all_here : (m : Manager) (start : Beginning) (before : List Placed) (p : Placed) (link : ℕ) → (p.link == link) ≡ true
        → filter (λ (row : Row). row.link == link) (map (row_of p) (printed_rules m start before p)) ≡ map (row_of p) (printed_rules m start before p)
    all_here m start before p link e = every (printed_rules m start before p)
      where
        every : (rules : List Rule) → filter (λ (row : Row). row.link == link) (map (row_of p) rules) ≡ map (row_of p) rules
        every [] = refl
        every (r ∷ rules) = ap (λ b. cond b (row_of p r ∷ filter (λ (row : Row). row.link == link) (map (row_of p) rules)) (filter (λ (row : Row). row.link == link) (map (row_of p) rules))) e
            ∙ ap (λ rows. row_of p r ∷ rows) (every rules)

    none_here : (m : Manager) (start : Beginning) (before : List Placed) (p : Placed) (link : ℕ) → (p.link == link) ≡ false
        → filter (λ (row : Row). row.link == link) (map (row_of p) (printed_rules m start before p)) ≡ []
    none_here m start before p link e = no (printed_rules m start before p)
      where
        no : (rules : List Rule) → filter (λ (row : Row). row.link == link) (map (row_of p) rules) ≡ []
        no [] = refl
        no (r ∷ rules) = ap (λ b. cond b (row_of p r ∷ filter (λ (row : Row). row.link == link) (map (row_of p) rules)) (filter (λ (row : Row). row.link == link) (map (row_of p) rules))) e ∙ no rules
