-- Where bursts are told by their fields: a beat of a lead-in differs from its head, or the printed rows are certain.
use Rattle.std.proofs.Common.{◌≡◌, ℕ, ◌+◌, ◌<◌, ◌≤◌, ◌⊎◌, inl, inr, ◌==◌, ◌&&◌, Bool, true, false, cond, List, [], ◌∷◌, ◌++◌, length, map, Option, Some, None, refl, sym, ap, subst, ◌∙◌, arith}
use Rattle.std.specs.Prelude.{not, reverse, filter}
use Rattle.std.specs.Option.{option_map_or}
use Rattle.std.specs.List.{Contains, AllByRecursion}
use Rattle.std.proofs.lemmas.List.{reverse-append}
use Rattle.std.proofs.lemmas.List.Elements.{Contains-append_left, Contains-append_right, Contains-append_cases}
use Rattle.std.proofs.lemmas.Bool.Decides.{nat_tests}
use Rattle.tl_tables.specs.declared.Chan.{Chan}
use Rattle.tl_tables.specs.declared.Rule.{Rule}
use Rattle.tl_tables.specs.declared.Rule.TheVariants as rule
use Rattle.tl_tables.specs.Messages.{same_chan, chan_number}
use Rattle.tl_topology.specs.declared.LinkDecl.{LinkDecl}
use Rattle.tl_beats.specs.declared.Beat.{Beat}
use Rattle.tl_beats.specs.declared.Placed.{Placed}
use Rattle.tl_beats.specs.declared.Row.{Row}
use Rattle.tl_definitions.specs.declared.Unfinished.{Unfinished}
use Rattle.tl_definitions.specs.Heads.{before_on, beat_count, unfinished, after_beat}
use Rattle.tl_definitions.specs.Rules.{Manager}
use Rattle.tl_definitions.specs.Breaks.{is_alike, breaks_later, later_order, later_rules, rules_at, row_of, rows_after}
use Rattle.tl_definitions.specs.Judging.{Snapshot, snapshot, judged_place, judged_next}
use Rattle.tl_definitions.proofs.HeadLaws.{unfinished_is_the_rest}
use Rattle.tl_definitions.proofs.JudgingLaws.{rules_law, next_snapshot}
use Rattle.tl_definitions.proofs.OrderLaws.{one_chan}
use Rattle.tl_definitions.proofs.ReportLaws.{rows_are_breaks}
use Rattle.tl_definitions.proofs.Lists.{contains_none, contains_here, contains_mapped, mapped_from, all_of, onto, onto_reverse}
use Rattle.tl_definitions.specs.Readings.{Reading, first_readings, in_lead_in, readings_after}
use Rattle.tl_definitions.specs.Known.{Beginning, readings_of, known_snapshot}
use Rattle.tl_definitions.specs.Printed.{front, printed_rules, printed_after}
use Rattle.tl_definitions.specs.Lawful.{missing_in, AllowsBurst, Allows, told_bursts}
use Rattle.tl_definitions.specs.MidwayLaws.{IsInLeadIn, ToldRowsAreCertain}
use Rattle.tl_definitions.proofs.Sure.{and_parts}
use Rattle.tl_definitions.proofs.Bursts.{on_channel, due_first, rest_first}
use Rattle.tl_definitions.proofs.Steps.{step_allows}
use Rattle.tl_definitions.proofs.Members.{later_in}
use Rattle.tl_definitions.proofs.Firsts.{IsClean, clean_onto, first_allows}
use Rattle.tl_definitions.proofs.Judged.{has_later, printed_sound}
use Rattle.tl_definitions.proofs.Lengths.{clean_leaves}
use Rattle.tl_definitions.proofs.LeadIns.{lead_front, Tells, IsLikeHead, tells_allows, kept_tells, tells_next}
use Rattle.tl_definitions.proofs.MidwayLaws.{after_past}

-- The readings of a channel and its beats so far.
abbrev read_on : Manager → Beginning → List Placed → ℕ → Chan → List Reading
read_on m start newer link chan = readings_after (m.links link) (start.most link chan) start.by_fields (before_on link chan newer)

abbrev TellsOn : Manager → Beginning → List Placed → Snapshot → ℕ → Chan → Type 0
TellsOn m start newer s link chan =
    Tells (m.links link) chan (in_lead_in (read_on m start newer link chan)) (read_on m start newer link chan) (before_on link chan newer) (s.burst link chan)

chans_of : (chan : Chan) (beats : List Beat) → AllByRecursion (λ (b : Beat). same_chan b.chan chan ≡ true) beats → AllByRecursion (λ (b : Beat). b.chan ≡ chan) beats
chans_of chan [] all = tt
chans_of chan (b ∷ beats) all =
    let test : (chan_number b.chan == chan_number chan) ≡ true = all.0 in
    let number : chan_number b.chan ≡ chan_number chan = grind (arith, nat_tests) in
    (one_chan b.chan chan number, chans_of chan beats all.1)

own_chans : (link : ℕ) (chan : Chan) (before : List Placed) → AllByRecursion (λ (b : Beat). b.chan ≡ chan) (before_on link chan before)
own_chans link chan before = chans_of chan (before_on link chan before) (on_channel link chan before)

-- At first.
tells_first : (m : Manager) (start : Beginning) (before : List Placed) (link : ℕ) (chan : Chan) → missing_in (unfinished (m.links link) (before_on link chan before)) ≤ start.most link chan
    → TellsOn m start [] (snapshot m before) link chan
tells_first m start before link chan le =
    let decl : LinkDecl = m.links link in
    let own : List Beat = before_on link chan before in
    let readings : List Reading = first_readings (start.most link chan) in
    elim (unfinished decl own) as (λ u. unfinished decl own ≡ u → missing_in u ≤ start.most link chan → Tells decl chan (in_lead_in readings) readings [] u) [
      | None ↦ λ e l. due_first (start.most link chan)
      | Some burst ↦ λ e l. (let known = unfinished_is_the_rest decl own burst e in
          let all = known.4 in
          let fewer : burst.missing < beat_count decl burst.head = omega arith in
          let long : burst.missing + length {A = Beat} [] < beat_count decl burst.head = omega arith in
          let member : Contains own burst.head = subst (λ bs. Contains bs burst.head) (sym known.2) (Contains-append_right known.0 (burst.head ∷ known.1) burst.head (contains_here burst.head known.1)) in
          (known.5, fewer, all_of (λ (b : Beat). b.chan ≡ chan) own (own_chans link chan before) burst.head member, inr (rest_first (start.most link chan) burst.missing known.5 l, long, λ h. tt)))
    ] refl le

-- A later beat is like its head, or breaks U1.
alike_or : (link : LinkDecl) (beat head : Beat) → 1 < beat_count link head → (is_alike head beat ≡ true) ⊎ Contains (later_rules link beat head) rule.U1
alike_or link beat head more =
    let later = has_later link head more in
    elim (is_alike head beat) as (λ t. is_alike head beat ≡ t → (t ≡ true) ⊎ Contains (later_rules link beat head) rule.U1) [
      | true ↦ λ e. inl refl
      | false ↦ λ e. inr (subst (λ found. Contains (option_map_or (λ o. filter (breaks_later link o head beat) later_order) found []) rule.U1) (sym later.1)
          (later_in link later.0 head beat rule.U1 (ap not e)))
    ] refl

like_or : (m : Manager) (before : List Placed) (p : Placed) (lead : Bool) (readings : List Reading) (beats : List Beat) (burst : Option Unfinished) → Tells (m.links p.link) p.beat.chan lead readings beats burst
    → IsLikeHead burst p.beat ⊎ Contains (judged_place m (snapshot m before) p burst) rule.U1
like_or m before p lead readings beats None t = inl tt
like_or m before p lead readings beats (Some burst) t =
    let some : 0 < burst.missing = t.0 in
    let more : burst.missing < beat_count (m.links p.link) burst.head = t.1 in
    let two : 1 < beat_count (m.links p.link) burst.head = omega arith in
    alike_or (m.links p.link) p.beat burst.head two

-- What is known of all links after a front.
record IsTold (m : Manager) (start : Beginning) (past newer : List Placed) : Type 0 where
  allows : Allows m (known_snapshot m start newer) (snapshot m (newer ++ past))
  tells : (link : ℕ) (chan : Chan) → TellsOn m start newer (snapshot m (newer ++ past)) link chan

-- The beat's own readings tell what is unfinished before it, where it is like its head in a lead-in.
own_tells : (m : Manager) (start : Beginning) (newer : List Placed) (p : Placed) (s : Snapshot) → TellsOn m start newer s p.link p.beat.chan
    → (in_lead_in (read_on m start newer p.link p.beat.chan) ≡ true → IsLikeHead (s.burst p.link p.beat.chan) p.beat)
    → Tells (m.links p.link) p.beat.chan (in_lead_in (read_on m start newer p.link p.beat.chan)) (readings_of m start newer p) (before_on p.link p.beat.chan newer) (s.burst p.link p.beat.chan)
own_tells m start newer p s t like =
    kept_tells start.by_fields (m.links p.link) p.beat.chan p.beat (before_on p.link p.beat.chan newer) (read_on m start newer p.link p.beat.chan) (s.burst p.link p.beat.chan) refl
    (own_chans p.link p.beat.chan newer) like t

next_tells : (m : Manager) (start : Beginning) (newer : List Placed) (p : Placed) (s : Snapshot) (link : ℕ) (chan : Chan) → TellsOn m start newer s p.link p.beat.chan
    → (in_lead_in (read_on m start newer p.link p.beat.chan) ≡ true → IsLikeHead (s.burst p.link p.beat.chan) p.beat) → TellsOn m start newer s link chan
    → TellsOn m start (p ∷ newer) (judged_next m s p) link chan
next_tells m start newer p s link chan here like old =
    let own : List Beat = before_on link chan newer in
    let mine : List Beat = before_on p.link p.beat.chan newer in
    let next : Tells (m.links p.link) p.beat.chan (in_lead_in (readings_after (m.links p.link) (start.most p.link p.beat.chan) start.by_fields (p.beat ∷ mine)))
    (readings_after (m.links p.link) (start.most p.link p.beat.chan) start.by_fields (p.beat ∷ mine)) (p.beat ∷ mine) (after_beat (m.links p.link) p.beat (s.burst p.link p.beat.chan)) =
    tells_next (m.links p.link) p.beat.chan (in_lead_in (read_on m start newer p.link p.beat.chan)) (in_lead_in (readings_after (m.links p.link) (start.most p.link p.beat.chan) start.by_fields (p.beat ∷ mine)))
    p.beat mine (readings_of m start newer p) (s.burst p.link p.beat.chan) refl (lead_front (m.links p.link) (start.most p.link p.beat.chan) start.by_fields p.beat mine) like (own_tells m start newer p s here like) in
    elim ((p.link == link) && same_chan p.beat.chan chan) as (λ t. ((p.link == link) && same_chan p.beat.chan chan) ≡ t
    → Tells (m.links link) chan (in_lead_in (readings_after (m.links link) (start.most link chan) start.by_fields (cond t (p.beat ∷ own) own)))
    (readings_after (m.links link) (start.most link chan) start.by_fields (cond t (p.beat ∷ own) own)) (cond t (p.beat ∷ own) own)
    (cond t (after_beat (m.links link) p.beat (s.burst link chan)) (s.burst link chan))) [
      | true ↦ λ e. (let parts = and_parts (p.link == link) (same_chan p.beat.chan chan) e in
          let on_link : (p.link == link) ≡ true = parts.0 in
          let on_chan : (chan_number p.beat.chan == chan_number chan) ≡ true = parts.1 in
          let link_is : p.link ≡ link = grind (arith, nat_tests) in
          let number_is : chan_number p.beat.chan ≡ chan_number chan = grind (arith, nat_tests) in
          let chan_is : p.beat.chan ≡ chan = one_chan p.beat.chan chan number_is in
          let by_link = subst (λ l. Tells (m.links l) p.beat.chan (in_lead_in (readings_after (m.links l) (start.most l p.beat.chan) start.by_fields (p.beat ∷ before_on l p.beat.chan newer)))
          (readings_after (m.links l) (start.most l p.beat.chan) start.by_fields (p.beat ∷ before_on l p.beat.chan newer)) (p.beat ∷ before_on l p.beat.chan newer)
          (after_beat (m.links l) p.beat (s.burst l p.beat.chan))) link_is next in
          subst (λ c. Tells (m.links link) c (in_lead_in (readings_after (m.links link) (start.most link c) start.by_fields (p.beat ∷ before_on link c newer)))
          (readings_after (m.links link) (start.most link c) start.by_fields (p.beat ∷ before_on link c newer)) (p.beat ∷ before_on link c newer)
          (after_beat (m.links link) p.beat (s.burst link c))) chan_is by_link)
      | false ↦ λ e. old
    ] refl

told_next : (m : Manager) (start : Beginning) (past newer : List Placed) (p : Placed) → IsTold m start past newer
    → (in_lead_in (read_on m start newer p.link p.beat.chan) ≡ true → IsLikeHead ((snapshot m (newer ++ past)).burst p.link p.beat.chan) p.beat) → IsTold m start past (p ∷ newer)
told_next m start past newer p is like =
    let s : Snapshot = snapshot m (newer ++ past) in
    let own = own_tells m start newer p s (is.tells p.link p.beat.chan) like in
    let read : AllowsBurst (m.links p.link) p.beat.chan (readings_of m start newer p) (s.burst p.link p.beat.chan) =
    tells_allows (m.links p.link) p.beat.chan (in_lead_in (read_on m start newer p.link p.beat.chan)) (readings_of m start newer p) (before_on p.link p.beat.chan newer) (s.burst p.link p.beat.chan) own in
    record {
      allows = subst (Allows m (known_snapshot m start (p ∷ newer))) (next_snapshot m (newer ++ past) p) (step_allows m start newer p s read is.allows);
      tells = λ link chan. subst (λ t. TellsOn m start (p ∷ newer) t link chan) (next_snapshot m (newer ++ past) p)
          (next_tells m start newer p s link chan (is.tells p.link p.beat.chan) like (is.tells link chan));
    }

-- A beat of a lead-in differs from its head, or is like it where it has one.
differs_or : (m : Manager) (start : Beginning) (past newer : List Placed) (p : Placed) → IsTold m start past newer
    → (IsInLeadIn m start newer p × Contains (rules_at m (newer ++ past) p) rule.U1)
    ⊎ (in_lead_in (read_on m start newer p.link p.beat.chan) ≡ true → IsLikeHead ((snapshot m (newer ++ past)).burst p.link p.beat.chan) p.beat)
differs_or m start past newer p is =
    let burst : Option Unfinished = (snapshot m (newer ++ past)).burst p.link p.beat.chan in
    let lead : Bool = in_lead_in (read_on m start newer p.link p.beat.chan) in
    elim (like_or m (newer ++ past) p lead (read_on m start newer p.link p.beat.chan) (before_on p.link p.beat.chan newer) burst (is.tells p.link p.beat.chan)) [
      | inl like ↦ inr (λ h. like)
      | inr has ↦ elim lead as (λ t. lead ≡ t → ((t ≡ true) × Contains (rules_at m (newer ++ past) p) rule.U1) ⊎ (t ≡ true → IsLikeHead burst p.beat)) [
        | true ↦ λ e. inl (refl, subst (λ rules. Contains rules rule.U1) (rules_law m (newer ++ past) p) has)
        | false ↦ λ e. inr (λ h. cc)
      ] refl
    ]

rule_told : (m : Manager) (start : Beginning) (past newer : List Placed) (p : Placed) (r : Rule) → IsTold m start past newer
    → (in_lead_in (read_on m start newer p.link p.beat.chan) ≡ true → IsLikeHead ((snapshot m (newer ++ past)).burst p.link p.beat.chan) p.beat)
    → Contains (printed_rules m start newer p) r → Contains (rules_at m (newer ++ past) p) r
rule_told m start past newer p r is like h =
    let s : Snapshot = snapshot m (newer ++ past) in
    subst (λ rules. Contains rules r) (rules_law m (newer ++ past) p)
    (printed_sound m (front m start newer) (readings_of m start newer p) (newer ++ past) p r is.allows.past (s.burst p.link p.beat.chan)
    (tells_allows (m.links p.link) p.beat.chan (in_lead_in (read_on m start newer p.link p.beat.chan)) (readings_of m start newer p) (before_on p.link p.beat.chan newer) (s.burst p.link p.beat.chan)
    (own_tells m start newer p s (is.tells p.link p.beat.chan) like)) h)

abbrev DiffersAfter : Manager → Beginning → List Placed → List Placed → List Placed → Type 0
DiffersAfter m start past newer beats = (earlier later : List Placed) × (p : Placed) × (beats ≡ earlier ++ p ∷ later) × IsInLeadIn m start (onto newer earlier) p
    × Contains (rules_at m (onto newer earlier ++ past) p) rule.U1

rows_told : (m : Manager) (start : Beginning) (past newer beats : List Placed) → IsTold m start past newer
    → DiffersAfter m start past newer beats ⊎ ((row : Row) → Contains (printed_after m start newer beats) row → Contains (rows_after m (newer ++ past) beats) row)
rows_told m start past newer [] is = inr (λ row h. absurd (contains_none row h))
rows_told m start past newer (p ∷ beats) is = elim (differs_or m start past newer p is) [
  | inl differs ↦ inl ([], beats, p, refl, differs.0, differs.1)
  | inr like ↦ elim (rows_told m start past (p ∷ newer) beats (told_next m start past newer p is like)) [
    | inl later ↦ inl (p ∷ later.0, later.1, later.2, ap (λ ps. p ∷ ps) later.3, later.4, later.5)
    | inr rows ↦ inr (λ row h. elim (Contains-append_cases (map (row_of p) (printed_rules m start newer p)) (printed_after m start (p ∷ newer) beats) row h) [
      | inl first ↦ (let found = mapped_from (row_of p) (printed_rules m start newer p) row first in
          Contains-append_left (map (row_of p) (rules_at m (newer ++ past) p)) (rows_after m (p ∷ newer ++ past) beats) row
          (subst (Contains (map (row_of p) (rules_at m (newer ++ past) p))) found.2
          (contains_mapped (row_of p) (rules_at m (newer ++ past) p) found.0 (rule_told m start past newer p found.0 is like found.1))))
      | inr after ↦ Contains-append_right (map (row_of p) (rules_at m (newer ++ past) p)) (rows_after m (p ∷ newer ++ past) beats) row (rows row after)
    ])
  ]
]

pub told_rows_are_certain : ToldRowsAreCertain
told_rows_are_certain m past beats lawful =
    let start : Beginning = told_bursts m in
    let before : List Placed = onto [] past in
    let clean : IsClean m before = clean_onto m [] past lawful tt in
    let first : IsTold m start before [] = record {
      allows = first_allows m start before clean (λ link chan. clean_leaves m before link chan clean);
      tells = λ link chan. tells_first m start before link chan (clean_leaves m before link chan clean);
    } in
    elim (rows_told m start before [] beats first) [
      | inl d ↦ inl (
        d.0,
        d.1,
        d.2,
        d.3,
        subst (λ front. IsInLeadIn m start front d.2) (onto_reverse [] d.0) d.4,
        subst (λ front. Contains (rules_at m front d.2) rule.U1) (fronts past d.0) d.5,
      )
      | inr rows ↦ inr (λ row h. (rows_are_breaks m (past ++ beats) row).0 (after_past m [] past beats row (rows row h)))
    ]
  where
    fronts : (past earlier : List Placed) → onto [] earlier ++ onto [] past ≡ reverse (past ++ earlier)
    fronts past earlier = ap (λ xs. xs ++ onto [] past) (onto_reverse [] earlier) ∙ ap (λ ys. reverse earlier ++ ys) (onto_reverse [] past) ∙ sym (reverse-append past earlier)
