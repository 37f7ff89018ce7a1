-- A fragment whose beats come in pieces.
use Rattle.std.proofs.Common.{◌≡◌, ℕ, zero, suc, cond, ◌+◌, ◌-◌, ◌<◌, ◌≤◌, ◌==◌, inl, inr, true, false, Bool, List, [], ◌∷◌, ◌++◌, append-nil, length, get_or, take, Option, Some, None, refl, sym, ap, subst, ◌∙◌, arith}
use Rattle.std.specs.Prelude.{◌↔◌, map, filter, slice_get}
use Rattle.std.specs.List.{All, AllAdjacentBelow, Contains, flat_map, list_any}
use Rattle.std.specs.List.Sorted.{IsStrictlySortedBy}
use Rattle.std.specs.Option.{option_map_or}
use Rattle.std.proofs.lemmas.Bool.{cases_lt, or_left, or_right}
use Rattle.std.proofs.lemmas.Bool.Decides.{nat_tests}
use Rattle.std.proofs.lemmas.List.{length-append, length-take-le, map-append, get_or-append-add}
use Rattle.std.proofs.lemmas.Grind.{flat_map-append}
use Rattle.std.proofs.lemmas.List.Elements.{All-append, All-cons, All-nil}
use Rattle.std.proofs.lemmas.Option.{slice_get-get_or}
use Rattle.std.proofs.Math.ListN.{get_or-append}
use Rattle.std.proofs.Math.Seq.{take-suc}
use Rattle.tl_tables.specs.declared.Rule.{Rule}
use Rattle.tl_topology.specs.Regions.{Area, areas_of}
use Rattle.tl_topology.specs.Topology.{Topology, number_of_name}
use Rattle.tl_topology.specs.declared.LinkDecl.{LinkDecl}
use Rattle.tl_beats.specs.Beats.{rises, IsWellFormed}
use Rattle.tl_beats.specs.Fragments.{Frag, AreBeats}
use Rattle.tl_beats.specs.Reading.{rises_behind}
use Rattle.tl_beats.specs.declared.Beat.{Beat}
use Rattle.tl_beats.specs.declared.Placed.{Placed}
use Rattle.tl_beats.specs.declared.Row.{Row}
use Rattle.tl_definitions.specs.Breaks.{row_of}
use Rattle.tl_definitions.specs.Captures.{manager_beats}
use Rattle.tl_definitions.specs.Heads.{message_of}
use Rattle.tl_definitions.specs.Judging.{Snapshot, snapshot, judging, judged_head, judged_place, judged_rules}
use Rattle.tl_definitions.specs.LinkPasses.{LinkSnapshot, link_head, link_judging, link_next, link_place, link_rules}
use Rattle.tl_definitions.specs.Managers.{declared_links}
use Rattle.tl_definitions.specs.Passes.{Judge, rows_judged, left_after}
use Rattle.tl_definitions.specs.Positions.{Recorded, all_placed, beats_of, beats_of_all, by_range, in_order, links_of, placed_from, placed_beats}
use Rattle.tl_definitions.specs.Report.{of_manager, Finds}
use Rattle.tl_definitions.specs.Rules.{Manager}
use Rattle.tl_definitions.specs.declared.Unfinished.{Unfinished}
use Rattle.tl_definitions.proofs.ChainLaws.{rows_judged-append, left_after-append}
use Rattle.tl_definitions.proofs.JudgingLaws.{all_exact}
use Rattle.tl_definitions.proofs.LinkLaws.{itself}
use Rattle.tl_definitions.proofs.Lists.{contains_none, contains_cases}
use Rattle.tl_definitions.proofs.ReportLaws.{rows_are_breaks}
use Rattle.tl_capture.specs.Present.{recorded, IsCapture, IsPresent}
use Rattle.tl_capture.proofs.LawLemmas.{one_link_is_its_own}
use Rattle.tl_capture.proofs.PresentLemmas.{placed_is_of}
use Rattle.tl_check.specs.Apart.{one_link, opening, judged_rows, Shows}
use Rattle.tl_check.specs.declared.apart.PlainLink.{PlainLink}
use Rattle.tl_check.specs.States.{shown}
use Rattle.tl_check.proofs.PassLaws.{rows_alone}
use Rattle.tl_apart.specs.Told.{bare, clients}
use Rattle.tl_pass.specs.Parts.{HasNoCaches}
use Rattle.tl_pass.specs.Reports.{standing, IsFound}
use Rattle.tl_pass.specs.Solo.{later, last_of, last_or, lone, longer, without_beats, AreJudged, AreOf, HasFound, HasLeft, IsOneOf, Leaves}
use Rattle.tl_pass.specs.declared.solo.Left.{Left}
use Rattle.tl_pass.specs.declared.solo.Left.TheVariants as left
use Rattle.tl_pass.proofs.JoinLaws.{from_link, manager_is, no_row, no_row_on, not_any, of_a_manager, of_some_manager, on_some, FoundAt}
use Rattle.tl_pass.proofs.StandingLaws.{one_added}

-- ---- beats that stand on other lines

abbrev at : ℕ → ℕ → ℕ → Beat → Placed
at link number line beat = record { link = link; fragment = number; line = line; beat = beat }

-- A judge that reads no line: of a beat on another line it says the same, and leaves the same.
abbrev IsLineless : {S : Type 0} → Judge S → Type 0
IsLineless {S} judge = (s : S) (link number a b : ℕ) (beat : Beat) → (judge.next s (at link number b beat) ≡ judge.next s (at link number a beat))
    × ((lines : ℕ) → b ≡ a + lines → judge.rows s (at link number b beat) ≡ map (later lines) (judge.rows s (at link number a beat)))

row_moved : (link number a b lines : ℕ) (beat : Beat) (rules : List Rule) → b ≡ a + lines → map (row_of (at link number b beat)) rules ≡ map (later lines) (map (row_of (at link number a beat)) rules)
row_moved link number a b lines beat [] is = refl
row_moved link number a b lines beat (rule ∷ rules) is =
    ap (λ n. row_of (at link number n beat) rule ∷ map (row_of (at link number b beat)) rules) is
    ∙ ap (λ rows. later lines (row_of (at link number a beat) rule) ∷ rows) (row_moved link number a b lines beat rules is)

place_moved : (m : Manager) (s : Snapshot) (link number a b : ℕ) (beat : Beat) (burst : Option Unfinished) → judged_place m s (at link number b beat) burst ≡ judged_place m s (at link number a beat) burst
place_moved m s link number a b beat None =
    elim (message_of (m.links link) beat) as (λ found. judged_head m s (at link number b beat) found ≡ judged_head m s (at link number a beat) found) [ None ↦ refl | Some o ↦ refl ]
place_moved m s link number a b beat (Some burst) = refl

own_place_moved : (m : Manager) (s : LinkSnapshot) (link number a b : ℕ) (beat : Beat) (burst : Option Unfinished) → link_place m s (at link number b beat) burst ≡ link_place m s (at link number a beat) burst
own_place_moved m s link number a b beat None =
    elim (message_of (m.links link) beat) as (λ found. link_head m s (at link number b beat) found ≡ link_head m s (at link number a beat) found) [ None ↦ refl | Some o ↦ refl ]
own_place_moved m s link number a b beat (Some burst) = refl

of_manager_lineless : (m : Manager) → IsLineless (judging m)
of_manager_lineless m s link number a b beat = (
  refl,
  λ lines is.
      ap (map (row_of (at link number b beat))) (place_moved m s link number a b beat (s.burst link beat.chan)) ∙ row_moved link number a b lines beat (judged_rules m s (at link number a beat)) is,
)

of_link_lineless : (m : Manager) → IsLineless (link_judging m)
of_link_lineless m s link number a b beat = (
  refl,
  λ lines is.
      ap (map (row_of (at link number b beat))) (own_place_moved m s link number a b beat (s.burst beat.chan)) ∙ row_moved link number a b lines beat (link_rules m s (at link number a beat)) is,
)

-- ---- the beats of a piece after those before

pub placed_more : (link number line : ℕ) (xs ys : List Beat) → placed_from link number line (xs ++ ys) ≡ placed_from link number line xs ++ placed_from link number (line + length xs) ys
placed_more link number line [] ys = ap (λ n. placed_from link number n ys) (let e : line ≡ line + 0 = omega arith in e)
placed_more link number line (x ∷ xs) ys = ap (λ ps. at link number line x ∷ ps) (placed_more link number (line + 1) xs ys
    ∙ ap (λ n. placed_from link number (line + 1) xs ++ placed_from link number n ys) (let e : line + 1 + length xs ≡ line + suc (length xs) = omega arith in e))

module _ {S : Type 0} (judge : Judge S) (lineless : IsLineless judge) where
  rows_later : (s : S) (link number a b lines : ℕ) (beats : List Beat) → b ≡ a + lines
      → rows_judged judge s (placed_from link number b beats) ≡ map (later lines) (rows_judged judge s (placed_from link number a beats))
  rows_later s link number a b lines [] is = refl
  rows_later s link number a b lines (beat ∷ beats) is =
      let next : S = judge.next s (at link number a beat) in
      let here : List Row = judge.rows s (at link number a beat) in
      let moved = lineless s link number a b beat in
      ap (λ t. judge.rows s (at link number b beat) ++ rows_judged judge t (placed_from link number (b + 1) beats)) moved.0
      ∙ ap (λ rows. rows ++ rows_judged judge next (placed_from link number (b + 1) beats)) (moved.1 lines is)
      ∙ ap (λ rows. map (later lines) here ++ rows) (rows_later next link number (a + 1) (b + 1) lines beats (omega (arith, is)))
      ∙ sym (map-append (later lines) here (rows_judged judge next (placed_from link number (a + 1) beats)))

  left_later : (s : S) (link number a b : ℕ) (beats : List Beat) → left_after judge s (placed_from link number b beats) ≡ left_after judge s (placed_from link number a beats)
  left_later s link number a b [] = refl
  left_later s link number a b (beat ∷ beats) =
      ap (λ t. left_after judge t (placed_from link number (b + 1) beats)) (lineless s link number a b beat).0
      ∙ left_later (judge.next s (at link number a beat)) link number (a + 1) (b + 1) beats

  -- The beats of a piece after those before, whose rows say other lines.
  pub judged_more : (start mid end : S) (link number : ℕ) (xs ys : List Beat) (rows more : List Row) → AreJudged judge start (placed_from link number 2 xs) mid rows
      → AreJudged judge mid (placed_from link number 2 ys) end more → AreJudged judge start (placed_from link number 2 (xs ++ ys)) end (rows ++ map (later (length xs)) more)
  judged_more start mid end link number xs ys rows more one two =
      let before : List Placed = placed_from link number 2 xs in
      let moved : List Placed = placed_from link number (2 + length xs) ys in
      let left = two.0 ∙ sym (left_later mid link number 2 (2 + length xs) ys) ∙ ap (λ t. left_after judge t moved) one.0 ∙ sym (left_after-append judge start before moved) ∙ ap (left_after judge start) (sym (placed_more link number 2 xs ys)) in
      let later_rows = ap (map (later (length xs))) two.1 ∙ sym (rows_later mid link number 2 (2 + length xs) (length xs) ys refl) ∙ ap (λ t. rows_judged judge t moved) one.0 in
      let found = ap (λ rs. rs ++ map (later (length xs)) more) one.1 ∙ ap (λ rs. rows_judged judge start before ++ rs) later_rows
      ∙ sym (rows_judged-append judge start before moved) ∙ ap (rows_judged judge start) (sym (placed_more link number 2 xs ys)) in
      (left, found)

  -- One beat more.
  pub judged_one : (start mid end : S) (link number : ℕ) (xs : List Beat) (beat : Beat) (line : ℕ) (rows all : List Row) → AreJudged judge start (placed_from link number 2 xs) mid rows
      → line ≡ 2 + length xs → end ≡ judge.next mid (at link number line beat) → all ≡ rows ++ judge.rows mid (at link number line beat)
      → AreJudged judge start (placed_from link number 2 (xs ++ beat ∷ [])) end all
  judged_one start mid end link number xs beat line rows all one here next put =
      let before : List Placed = placed_from link number 2 xs in
      let p : Placed = at link number line beat in
      let placed : placed_from link number 2 (xs ++ beat ∷ []) ≡ before ++ p ∷ [] = placed_more link number 2 xs (beat ∷ []) ∙ ap (λ n. before ++ at link number n beat ∷ []) (sym here) in (
        next ∙ ap (λ t. judge.next t p) one.0 ∙ sym (left_after-append judge start before (p ∷ [])) ∙ ap (left_after judge start) (sym placed),
        put ∙ ap (λ rs. rs ++ judge.rows mid p) one.1 ∙ ap (λ t. rows_judged judge start before ++ judge.rows t p) one.0
            ∙ ap (λ rs. rows_judged judge start before ++ rs) (sym (append-nil (judge.rows (left_after judge start before) p)))
            ∙ sym (rows_judged-append judge start before (p ∷ [])) ∙ ap (rows_judged judge start) (sym placed),
      )

pub same_at : (xs ys : List Beat) (i : ℕ) (d : Beat) → xs ≡ ys → get_or xs i d ≡ get_or ys i d
same_at xs ys i d same = ap (λ beats. get_or beats i d) same

-- One beat more of a link that is judged by itself.
module _ (decl : LinkDecl) (exponent : ℕ) where
  abbrev own : Judge LinkSnapshot
  own = link_judging (one_link decl exponent [])

  one_more : (s t : LinkSnapshot) (link number i : ℕ) (beats : List Beat) (p : Placed) (d : Beat) (rows all : List Row) → p.link ≡ link → p.fragment ≡ number → p.line ≡ i + 2 → p.beat ≡ get_or beats i d
      → i < length beats → AreJudged own s (placed_from link number 2 (take i beats)) t rows → all ≡ rows ++ own.rows t p → AreJudged own s (placed_from link number 2 (take (i + 1) beats)) (own.next t p) all
  one_more s t link number i beats p d rows all on of line is low judged put =
      let beat : Beat = p.beat in
      let same : p ≡ at link number (i + 2) beat = (λ j. record { link = on j; fragment = of j; line = line j; beat = beat }) in
      let taken : length (take i beats) ≡ i = length-take-le i beats (omega (arith, low)) in
      let longer : take (i + 1) beats ≡ take i beats ++ beat ∷ [] = (let one : i + 1 ≡ suc i = omega arith in ap (λ n. take n beats) one) ∙ take-suc beats i d low ∙ ap (λ b. take i beats ++ b ∷ []) (sym is) in
      subst (λ bs. AreJudged own s (placed_from link number 2 bs) (own.next t p) all) (sym longer)
      (judged_one own (of_link_lineless (one_link decl exponent [])) s t (own.next t p) link number (take i beats) beat (i + 2) rows all judged (omega (arith, taken))
      (ap (own.next t) same) (put ∙ ap (λ q. rows ++ own.rows t q) same))

  pub link_step : (regions : List (ℕ × Area)) (s t : LinkSnapshot) (link number i : ℕ) (beats : List Beat) (p : Placed) (d : Beat) (state : PlainLink) (rows all : List Row) → regions ≡ [] → p.link ≡ link → p.fragment ≡ number
      → p.line ≡ i + 2 → p.beat ≡ get_or beats i d → i < length beats → AreJudged own s (placed_from link number 2 (take i beats)) t rows
      → Shows state (link_next (one_link decl exponent (areas_of regions)) t p) → all ≡ rows ++ map (row_of p) (link_rules (one_link decl exponent (areas_of regions)) t p)
      → (u : LinkSnapshot) × Shows state u × AreJudged own s (placed_from link number 2 (take (i + 1) beats)) u all
  link_step regions s t link number i beats p d state rows all none on of line is low judged shows put =
      let next = subst (λ rs. Shows state (link_next (one_link decl exponent (areas_of rs)) t p)) none shows in
      let found = subst (λ rs. all ≡ rows ++ map (row_of p) (link_rules (one_link decl exponent (areas_of rs)) t p)) none put in
      (own.next t p, next, one_more s t link number i beats p d rows all on of line is low judged found)

-- What is left and found with a piece more.
pub found_more : (topo : Topology) (k link number : ℕ) (xs ys : List Beat) (old new : Left) (rows more : List Row) → HasFound topo k link (placed_from link number 2 xs) old rows
    → Leaves topo k link (placed_from link number 2 ys) old new more → HasFound topo k link (placed_from link number 2 (xs ++ ys)) new (rows ++ map (later (length xs)) more)
found_more topo k link number xs ys (left.Manager old) (left.Manager new) rows more had gone =
    let m : Manager = bare topo k in
    (gone.is_of, judged_more (judging m) (of_manager_lineless m) (snapshot m []) (shown old) (shown new) link number xs ys rows more had.1 (gone.left, gone.found))
found_more topo k link number xs ys (left.Link old) (left.Link new) rows more had gone =
    let m : Manager = lone topo k link in
    let s : LinkSnapshot = had.2 in
    let next = gone.1 s had.3 in
    (had.0, gone.0, next.0, next.1, judged_more (link_judging m) (of_link_lineless m) (opening m.exponent) s next.0 link number xs ys rows more had.4 next.2)
found_more topo k link number xs ys (left.Manager old) (left.Link new) rows more had gone = absurd gone
found_more topo k link number xs ys (left.Link old) (left.Manager new) rows more had gone = absurd gone

pub has_left : (topo : Topology) (k link : ℕ) (beats : List Placed) (state : Left) (rows : List Row) → HasFound topo k link beats state rows → HasLeft topo k link state
has_left topo k link beats (left.Manager state) rows had = had.0
has_left topo k link beats (left.Link state) rows had = (had.0, had.1)

pub last_more : (xs ys : List Beat) → last_or (last_of xs) ys ≡ last_of (xs ++ ys)
last_more xs [] = ap last_of (sym (append-nil xs))
last_more xs (y ∷ ys) =
    let n : ℕ = length ys in
    let sum : length (xs ++ y ∷ ys) ≡ length xs + suc n = length-append xs (y ∷ ys) in
    let own : last_of (y ∷ ys) ≡ Some (get_or (y ∷ ys) n y) = ap (slice_get (y ∷ ys)) (let e : suc n - 1 ≡ n = omega arith in e) ∙ slice_get-get_or (y ∷ ys) n y (omega arith) in
    let at_end : last_of (xs ++ y ∷ ys) ≡ Some (get_or (xs ++ y ∷ ys) (length xs + n) y) =
    ap (slice_get (xs ++ y ∷ ys)) (let e : length (xs ++ y ∷ ys) - 1 ≡ length xs + n = omega (arith, sum) in e) ∙ slice_get-get_or (xs ++ y ∷ ys) (length xs + n) y (omega (arith, sum)) in
    ap (λ o. option_map_or (λ beat. Some beat) o (last_of xs)) own ∙ ap Some (sym (get_or-append-add xs (y ∷ ys) n y)) ∙ sym at_end

module _ (first last : ℕ) (xs ys : List Beat) (one : AreBeats first last xs) (two : AreBeats first last ys) (seam : (beat : Beat) → slice_get ys 0 ≡ Some beat → rises_behind (last_of xs) beat ≡ true) where
  abbrev Rises : Beat → Beat → Type 0
  Rises a b = rises a b ≡ true

  at_seam : (k : ℕ) (d : Beat) → k + 1 ≡ length xs → k + 1 < length (xs ++ ys) → Rises (get_or (xs ++ ys) k d) (get_or (xs ++ ys) (k + 1) d)
  at_seam k d is lt =
      let sum : length (xs ++ ys) ≡ length xs + length ys = length-append xs ys in
      let some : 0 < length ys = omega (arith, sum, lt, is) in
      let left : get_or (xs ++ ys) k d ≡ get_or xs k d = get_or-append xs ys d k (omega (arith, is)) in
      let here : length xs + 0 ≡ k + 1 = omega (arith, is) in
      let right : get_or (xs ++ ys) (k + 1) d ≡ get_or ys 0 d = subst (λ n. get_or (xs ++ ys) n d ≡ get_or ys 0 d) here (get_or-append-add xs ys 0 d) in
      let newest : slice_get xs (length xs - 1) ≡ Some (get_or xs k d) = ap (slice_get xs) (let e : length xs - 1 ≡ k = omega (arith, is) in e) ∙ slice_get-get_or xs k d (omega (arith, is)) in
      rw (left, right) (subst (λ o. rises_behind o (get_or ys 0 d) ≡ true) newest (seam (get_or ys 0 d) (slice_get-get_or ys 0 d some)))

  past_seam : (k : ℕ) (d : Beat) → length xs ≤ k → k + 1 < length (xs ++ ys) → Rises (get_or (xs ++ ys) k d) (get_or (xs ++ ys) (k + 1) d)
  past_seam k d past lt =
      let sum : length (xs ++ ys) ≡ length xs + length ys = length-append xs ys in
      let j : ℕ = k - length xs in
      let here : length xs + j ≡ k = omega (arith, past) in
      let there : length xs + (j + 1) ≡ k + 1 = omega (arith, past) in
      let left : get_or (xs ++ ys) k d ≡ get_or ys j d = subst (λ n. get_or (xs ++ ys) n d ≡ get_or ys j d) here (get_or-append-add xs ys j d) in
      let right : get_or (xs ++ ys) (k + 1) d ≡ get_or ys (j + 1) d = subst (λ n. get_or (xs ++ ys) n d ≡ get_or ys (j + 1) d) there (get_or-append-add xs ys (j + 1) d) in
      rw (left, right) (two.rising j d (omega (arith, sum, lt, past)))

  rising_both : AllAdjacentBelow Rises (xs ++ ys) (length (xs ++ ys))
  rising_both k d lt = elim (cases_lt (k + 1) (length xs)) [
    | inl below ↦
        let left : get_or (xs ++ ys) k d ≡ get_or xs k d = get_or-append xs ys d k (omega (arith, below)) in
        rw (left, get_or-append xs ys d (k + 1) below) (one.rising k d below)
    | inr above ↦ elim (cases_lt k (length xs)) [
      | inl low ↦ at_seam k d (omega (arith, low, above)) lt
      | inr past ↦ past_seam k d past lt
    ]
  ]

  -- Beats after others, with room for both.
  pub beats_joined : length xs + length ys ≤ 65536 → AreBeats first last (xs ++ ys)
  beats_joined room = record {
    few = omega (arith, room, length-append xs ys);
    formed = All-append IsWellFormed xs ys one.formed two.formed;
    within = All-append (λ (b : Beat). (first ≤ b.cycle) × (b.cycle ≤ last)) xs ys one.within two.within;
    rising = rising_both;
  }

-- ---- one fragment alone

pub no_beats_of : (link : ℕ) (f : Frag) → f.first ≤ f.last → IsCapture (recorded link (record f { beats = [] }))
no_beats_of link f order = record {
  order = order;
  beats = record { few = omega arith; formed = λ k d lt. absurd (omega (arith, lt)); within = λ k d lt. absurd (omega (arith, lt)); rising = λ k d lt. absurd (omega (arith, lt)) };
}

pub one_present : (f : Recorded) → IsCapture f → IsPresent (f ∷ [])
unfolding IsStrictlySortedBy
one_present f is = record { each = one; apart = (tt, tt); numbers = (tt, tt) }
  where
    one : All IsCapture (f ∷ [])
    one zero d lt = is
    one (suc k) d lt = absurd (omega arith)

own_kept : (f : Recorded) → filter (λ (g : Recorded). g.link == f.link) (f ∷ []) ≡ f ∷ []
own_kept f = ap (λ t. cond t (f ∷ []) []) (itself f.link)

pub own_of_one : (f : Recorded) → beats_of f.link (f ∷ []) ≡ placed_beats f
own_of_one f = ap (λ fs. all_placed (by_range fs)) (own_kept f) ∙ append-nil (placed_beats f)

pub all_of_one : (f : Recorded) → IsPresent (f ∷ []) → beats_of_all (f.link ∷ []) (f ∷ []) ≡ placed_beats f
all_of_one f is = one_link_is_its_own f.link (f ∷ []) is ∙ own_of_one f

module _ (topo : Topology) (k : ℕ) (f : Recorded) (is : IsCapture f) (on : Contains (clients topo k) f.link) where
  -- What stands of it for a manager that has its link, and for one that has not.
  abbrev beats_by : Bool → List Placed
  beats_by has = in_order (all_placed (cond has (f ∷ []) []))

  any_link : (links : List ℕ) → Contains links f.link → list_any (λ link. f.link == link) links ≡ true
  any_link [] h = absurd (contains_none f.link h)
  any_link (link ∷ links) h = elim (contains_cases link links f.link h) [
    | inl same ↦ or_left (f.link == link) (list_any (λ n. f.link == n) links) (subst (λ n. (f.link == n) ≡ true) (sym same) (itself f.link))
    | inr there ↦ or_right (f.link == link) (list_any (λ n. f.link == n) links) (any_link links there)
  ]

  is_of_link : list_any (λ link. f.link == link) (f.link ∷ []) ≡ true
  is_of_link = or_left (f.link == f.link) false (itself f.link)

  -- Its manager has its beats.
  pub own_beats : manager_beats topo (f ∷ []) k ≡ placed_beats f
  own_beats = ap (λ t. beats_by t) (any_link (clients topo k) on ∙ sym is_of_link) ∙ all_of_one f (one_present f is)

  -- Another has none.
  pub no_beats : (j : ℕ) → (j ≡ k → ⊥) → manager_beats topo (f ∷ []) j ≡ []
  no_beats j other = ap (λ t. beats_by t) (not_any f.link (clients topo j) (λ h. other (sym (manager_is topo j f.link h) ∙ manager_is topo k f.link on)))

  -- Rows of its beats, judged one after the other, are what is found of it.
  abbrev m : Manager
  m = bare topo k

  in_its : (row : Row) → Contains (rows_judged (judging m) (snapshot m []) (placed_beats f)) row ↔ FoundAt None topo (f ∷ []) k row
  in_its row = (
    (λ h. subst (λ ps. Finds (of_manager m ps) row) (sym own_beats) ((rows_are_breaks m (placed_beats f) row).0 (subst (λ rows. Contains rows row) (all_exact m [] (placed_beats f)) h))),
    (λ h. subst (λ rows. Contains rows row) (sym (all_exact m [] (placed_beats f))) ((rows_are_breaks m (placed_beats f) row).1 (subst (λ ps. Finds (of_manager m ps) row) own_beats h))),
  )

  of_one_manager : (rows : List Row) → k < length topo.managers → ((row : Row) → Contains rows row ↔ FoundAt None topo (f ∷ []) k row) → (row : Row) → Contains rows row ↔ IsFound None topo (f ∷ []) row
  of_one_manager rows below its row = (
    (λ h. of_a_manager None topo (f ∷ []) row k below ((its row).0 h)),
    (λ found.
        let at_one = of_some_manager None topo (f ∷ []) row found in
        elim (at_one.0 == k) as (λ t. (at_one.0 == k) ≡ t → Contains rows row) [
          | true ↦ λ e. (let same : at_one.0 ≡ k = grind (arith, nat_tests) in (its row).1 (subst (λ j. FoundAt None topo (f ∷ []) j row) same at_one.2))
          | false ↦ λ e. absurd (no_row None (bare topo at_one.0) (manager_beats topo (f ∷ []) at_one.0) row
              (no_beats at_one.0 (λ same. absurd (let both : true ≡ false = sym (ap (λ j. j == k) same ∙ itself k) ∙ e in cc))) at_one.2)
        ] refl),
  )

  -- So are those of its link's beats by themselves, where no link has caches.
  module _ (plain : HasNoCaches topo) (row : Row) where
    own_rows : judged_rows m (beats_of f.link (f ∷ [])) ≡ judged_rows (lone topo k f.link) (placed_beats f)
    own_rows = ap (judged_rows m) (own_of_one f) ∙ rows_alone m (links_of (declared_links topo) f.link) (opening m.exponent) (placed_beats f)
        (λ p h. ap (links_of (declared_links topo)) (placed_is_of f.link f.number 2 f.beats p h).0)

    no_other : (link : ℕ) → (f.link == link) ≡ false → beats_of link (f ∷ []) ≡ []
    no_other link e = ap (λ t. all_placed (by_range (cond t (f ∷ []) []))) e

    on_it : (link : ℕ) → Contains (judged_rows m (beats_of link (f ∷ []))) row → Contains (judged_rows (lone topo k f.link) (placed_beats f)) row
    on_it link h = elim (f.link == link) as (λ t. (f.link == link) ≡ t → Contains (judged_rows (lone topo k f.link) (placed_beats f)) row) [
      | true ↦ λ e. (let same : f.link ≡ link = grind (arith, nat_tests) in
          subst (λ rows. Contains rows row) own_rows (subst (λ n. Contains (judged_rows m (beats_of n (f ∷ []))) row) (sym same) h))
      | false ↦ λ e. absurd (no_row_on None m (beats_of link (f ∷ [])) row (no_other link e) h)
    ] refl

    in_own : Contains (judged_rows (lone topo k f.link) (placed_beats f)) row ↔ FoundAt None topo (f ∷ []) k row
    in_own = (
      (λ h. from_link topo plain (f ∷ []) (one_present f is) k row None f.link on (subst (λ rows. Contains rows row) (sym own_rows) h)),
      (λ h. let found = on_some topo plain (f ∷ []) (one_present f is) k row None h in on_it found.0 found.2),
    )

  -- Whichever way they were judged.
  pub found_of_one : k < length topo.managers → (state : Left) (rows : List Row) → HasFound topo k f.link (placed_beats f) state rows → (row : Row) → Contains rows row ↔ IsFound None topo (f ∷ []) row
  found_of_one below (left.Manager state) rows had = of_one_manager rows below (λ row.
      subst (λ rs. Contains rs row ↔ FoundAt None topo (f ∷ []) k row) (sym had.1.1) (in_its row))
  found_of_one below (left.Link state) rows had = of_one_manager rows below (λ row.
      subst (λ rs. Contains rs row ↔ FoundAt None topo (f ∷ []) k row) (sym had.4.1) (in_own had.0 row))

pub one_stands : (topo : Topology) (link : ℕ) (f : Frag) → number_of_name topo.links f.link ≡ Some link → standing topo (f ∷ []) ≡ recorded link f ∷ []
one_stands topo link f named = one_added topo [] f link named

-- ---- the pieces of a fragment

pub no_pieces : (f : Frag) → AreOf (without_beats f) []
no_pieces f = record { each = All-nil (IsOneOf (without_beats f)); beats = refl }

pub one_piece_more : (f piece : Frag) (ps : List Frag) → AreOf f ps → IsOneOf f piece → AreOf (longer f piece) (ps ++ piece ∷ [])
one_piece_more f piece ps are one = record {
  each = All-append (IsOneOf (longer f piece)) ps (piece ∷ []) are.each (All-cons (IsOneOf (longer f piece)) piece [] one (All-nil (IsOneOf (longer f piece))));
  beats = ap (λ bs. bs ++ piece.beats) are.beats ∙ ap (λ bs. flat_map (λ (p : Frag). p.beats) ps ++ bs) (sym (append-nil piece.beats)) ∙ sym (flat_map-append (λ (p : Frag). p.beats) ps (piece ∷ []));
}
