-- What is counted of links without caches adds up by link.
use Rattle.std.proofs.Common.{◌≡◌, ℕ, ◌+◌, ◌==◌, ◌&&◌, ◌||◌, Bool, true, false, cond, List, [], ◌∷◌, inl, inr, Option, Some, None, refl, sym, ap, subst, ◌∙◌, arith}
use Rattle.std.specs.Prelude.{not}
use Rattle.std.specs.Option.{option_map_or}
use Rattle.std.specs.List.{Contains, list_any, list_all}
use Rattle.std.specs.List.Sorted.{IsStrictlySortedBy}
use Rattle.std.specs.Ordering.{nat_cmp}
use Rattle.std.specs.declared.cmp.Ordering.TheVariants.{Less}
use Rattle.tl_tables.specs.declared.Rule.{Rule}
use Rattle.tl_tables.specs.declared.Rule.TheVariants as rule
use Rattle.tl_tables.specs.Kinds.{is_grant, is_probe}
use Rattle.tl_topology.specs.declared.LinkDecl.{LinkDecl}
use Rattle.tl_beats.specs.declared.Placed.{Placed}
use Rattle.tl_beats.specs.declared.Request.{Request}
use Rattle.tl_definitions.specs.Heads.{message_of}
use Rattle.tl_definitions.specs.Known.{Known, Beginning, KnownPast, bare, known_request, known_pasts}
use Rattle.tl_definitions.specs.LinkPasses.{on_link}
use Rattle.tl_definitions.specs.Messages.{Message}
use Rattle.tl_definitions.specs.OpenTables.{one_if}
use Rattle.tl_definitions.specs.Printed.{front, breaks_by}
use Rattle.tl_definitions.specs.Readings.{Reading, due, rest, readings_after, in_lead_in}
use Rattle.tl_definitions.specs.Rules.{Manager}
use Rattle.tl_definitions.proofs.LinkLaws.{itself, same_link}
use Rattle.tl_definitions.proofs.Lists.{contains_none, contains_here, contains_there, contains_cases, all_of}
use Rattle.tl_capture.proofs.PresentLemmas.{less_is}
use Rattle.tl_midway.specs.Counts.{Test, counted_after}
use Rattle.tl_midway.specs.LeadIns.{leads_in}
use Rattle.tl_midway.specs.Unjudged.{asks, asks_flow, asks_permission, asks_manager, may_break, next_readings, is_unjudged}
use Rattle.tl_midway.proofs.ApartLaws.{before_own, past_own, by_alike}
use Rattle.tl_midway.proofs.PlainMessages.{IsPlain, plain_message, kinds}

-- Of links of a kind the test asks about the beats of the beat's own link alone.
abbrev pub IsOwnOf : (LinkDecl → Type 0) → Test → Manager → Beginning → Type 0
IsOwnOf Kind test m start = (before : List Placed) (p : Placed) → Kind (m.links p.link) → test m start (on_link p.link before) p ≡ test m start before p

abbrev pub IsOwn : Test → Manager → Beginning → Type 0
IsOwn test m start = IsOwnOf IsPlain test m start

pub lead_ins_are_own : (Kind : LinkDecl → Type 0) (m : Manager) (start : Beginning) → IsOwnOf Kind leads_in m start
lead_ins_are_own Kind m start before p kind =
    ap (λ beats. in_lead_in (readings_after (m.links p.link) (start.most p.link p.beat.chan) start.by_fields beats)) (before_own p.link p.beat.chan before)

-- ---- beats that are left unjudged

no_asks : (clients : List ℕ) (exponent : ℕ) (pasts : ℕ → KnownPast) (link : ℕ) (request : Known (Option Request)) (message : Message) (r : Rule)
    → is_grant message.op ≡ false → is_probe message.op ≡ false → asks_manager clients exponent pasts link request message r ≡ false
no_asks clients exponent pasts link request message rule.M1 g p = cc
no_asks clients exponent pasts link request message rule.M2 g p = cc
no_asks clients exponent pasts link request message rule.M3 g p = p
no_asks clients exponent pasts link request message _ g p = refl

abbrev own_asks : Manager → ℕ → Message → KnownPast → Rule → Bool
own_asks m link message past r =
    asks_flow past.flow (known_request past.flow message) message r || asks_permission (m.links link).strict m.exponent past.client message r || false

asks_own : (m : Manager) (pasts : ℕ → KnownPast) (link : ℕ) (message : Message) (r : Rule) → is_grant message.op ≡ false → is_probe message.op ≡ false
    → asks m pasts link message r ≡ own_asks m link message (pasts link) r
asks_own m pasts link message r g p =
    ap (λ b. asks_flow (pasts link).flow (known_request (pasts link).flow message) message r || asks_permission (m.links link).strict m.exponent (pasts link).client message r || b)
    (no_asks m.clients m.exponent pasts link (known_request (pasts link).flow message) message r g p)

may_alike : (m : Manager) (start : Beginning) (before : List Placed) (p : Placed) (r : Rule) (reading : Reading) → IsPlain (m.links p.link)
    → may_break m (front m start (on_link p.link before)) p r reading ≡ may_break m (front m start before) p r reading
may_alike m start before p r due plain =
    ap (λ b. b || option_map_or (λ o. asks m (known_pasts m start (on_link p.link before)) p.link (bare o p.beat) r) (message_of (m.links p.link) p.beat) false) (by_alike m start before p r due plain)
    ∙ ap (λ b. breaks_by m (front m start before) p r due || b)
    (elim (message_of (m.links p.link) p.beat) as (λ found. message_of (m.links p.link) p.beat ≡ found
    → option_map_or (λ o. asks m (known_pasts m start (on_link p.link before)) p.link (bare o p.beat) r) found false ≡ option_map_or (λ o. asks m (known_pasts m start before) p.link (bare o p.beat) r) found false) [
      | None ↦ λ e. refl
      | Some o ↦ λ e. (let kind = kinds o (plain_message (m.links p.link) p.beat o plain e) in
          asks_own m (known_pasts m start (on_link p.link before)) p.link (bare o p.beat) r kind.4 kind.1
          ∙ ap (λ past. own_asks m p.link (bare o p.beat) past r) (past_own m start before p.link)
          ∙ sym (asks_own m (known_pasts m start before) p.link (bare o p.beat) r kind.4 kind.1))
    ] refl)
may_alike m start before p r (rest missing None) plain = refl
may_alike m start before p r (rest missing (Some head)) plain = by_alike m start before p r (rest missing (Some head)) plain

pub unjudged_are_own : (r : Rule) (m : Manager) (start : Beginning) → IsOwn (is_unjudged r) m start
unjudged_are_own r m start before p plain =
    ap (λ readings. list_any (may_break m (front m start (on_link p.link before)) p r) readings && not (list_all (breaks_by m (front m start (on_link p.link before)) p r) readings))
    (ap (λ beats. readings_after (m.links p.link) (start.most p.link p.beat.chan) start.by_fields beats) (before_own p.link p.beat.chan before))
    ∙ λ i. list_any (λ reading. may_alike m start before p r reading plain i) (next_readings m start before p)
    && not (list_all (λ reading. by_alike m start before p r reading plain i) (next_readings m start before p))

-- ---- counts

-- Of each of these links its own.
abbrev pub by_links : Test → Manager → Beginning → List ℕ → List Placed → List Placed → ℕ
by_links test m start [] before beats = 0
by_links test m start (link ∷ links) before beats = counted_after test m start (on_link link before) (on_link link beats) + by_links test m start links before beats

module _ (Kind : LinkDecl → Type 0) (test : Test) (m : Manager) (start : Beginning) (own : IsOwnOf Kind test m start) where
  none_left : (links : List ℕ) (before : List Placed) → by_links test m start links before [] ≡ 0
  none_left [] before = refl
  none_left (link ∷ links) before = let known : by_links test m start links before [] ≡ 0 = none_left links before in omega arith

  elsewhere : (links : List ℕ) (before beats : List Placed) (p : Placed) → (Contains links p.link → ⊥) → by_links test m start links (p ∷ before) beats ≡ by_links test m start links before (p ∷ beats)
  elsewhere [] before beats p away = refl
  elsewhere (link ∷ links) before beats p away =
      elim (p.link == link) as (λ b. (p.link == link) ≡ b → counted_after test m start (cond b (p ∷ on_link link before) (on_link link before)) (on_link link beats) + by_links test m start links (p ∷ before) beats
      ≡ counted_after test m start (on_link link before) (cond b (p ∷ on_link link beats) (on_link link beats)) + by_links test m start links before (p ∷ beats)) [
        | true ↦ λ e. absurd (away (subst (λ n. Contains (link ∷ links) n) (sym (same_link p.link link e)) (contains_here link links)))
        | false ↦ λ e. ap (λ n. counted_after test m start (on_link link before) (on_link link beats) + n) (elsewhere links before beats p (λ h. away (contains_there link links p.link h)))
      ] refl

  one_more : (links : List ℕ) (before beats : List Placed) (p : Placed) → IsStrictlySortedBy nat_cmp links → Contains links p.link → Kind (m.links p.link)
      → one_if (test m start before p) + by_links test m start links (p ∷ before) beats ≡ by_links test m start links before (p ∷ beats)
  unfolding IsStrictlySortedBy
  one_more [] before beats p up has plain = absurd (contains_none p.link has)
  one_more (link ∷ links) before beats p up has plain =
      elim (p.link == link) as (λ b. (p.link == link) ≡ b → one_if (test m start before p) + (counted_after test m start (cond b (p ∷ on_link link before) (on_link link before)) (on_link link beats) + by_links test m start links (p ∷ before) beats)
      ≡ counted_after test m start (on_link link before) (cond b (p ∷ on_link link beats) (on_link link beats)) + by_links test m start links before (p ∷ beats)) [
        | true ↦ λ e. (let here : p.link ≡ link = same_link p.link link e in
            let alike : test m start (on_link link before) p ≡ test m start before p = ap (λ l. test m start (on_link l before) p) (sym here) ∙ own before p plain in
            let more : by_links test m start links (p ∷ before) beats ≡ by_links test m start links before (p ∷ beats) =
            elsewhere links before beats p (λ h. let lt = less_is link p.link (all_of (λ n. nat_cmp link n ≡ Less) links up.0 p.link h) in absurd (omega arith)) in
            let same : one_if (test m start (on_link link before) p) ≡ one_if (test m start before p) = ap one_if alike in
            omega arith)
        | false ↦ λ e. (let there : Contains links p.link = elim (contains_cases link links p.link has) [
          | inl is ↦ (let yes : (p.link == link) ≡ true = ap (λ n. p.link == n) is ∙ itself p.link in let never : false ≡ true = sym e ∙ yes in cc)
          | inr h ↦ h
        ] in
            let rest_of = one_more links before beats p up.1 there plain in omega arith)
      ] refl

  pub counts_add_up : (links : List ℕ) (before beats : List Placed) → IsStrictlySortedBy nat_cmp links → ((p : Placed) → Contains beats p → Contains links p.link × Kind (m.links p.link))
      → counted_after test m start before beats ≡ by_links test m start links before beats
  counts_add_up links before [] up all = sym (none_left links before)
  counts_add_up links before (p ∷ beats) up all =
      let here = all p (contains_here p beats) in
      ap (λ n. one_if (test m start before p) + n) (counts_add_up links (p ∷ before) beats up (λ q h. all q (contains_there p beats q h)))
      ∙ one_more links before beats p up here.0 here.1
