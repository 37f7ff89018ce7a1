-- What is found of some links and what is found of others is found of all of them, where nothing that is judged together is parted.
use Rattle.std.proofs.Common.{◌≡◌, ℕ, zero, suc, ◌+◌, ◌<◌, ◌≤◌, inl, inr, Bool, true, false, ◌||◌, List, [], ◌∷◌, ◌++◌, length, get_or, refl, sym, ap, subst, ◌∙◌, arith}
use Rattle.std.specs.Prelude.{◌==◌, ◌↔◌, ◌⊎◌, Option, Some, None, filter, not, nat_lt, reverse}
use Rattle.std.specs.Io.Iter.{u64_saturate}
use Rattle.std.specs.List.{Contains, list_any}
use Rattle.std.specs.List.Sorted.{IsStrictlySortedBy}
use Rattle.std.specs.Option.{option_map_or}
use Rattle.std.specs.Ordering.{nat_cmp}
use Rattle.std.specs.declared.cmp.Ordering.TheVariants.{Less}
use Rattle.std.proofs.lemmas.Bool.Decides.{nat_tests}
use Rattle.std.proofs.lemmas.List.{append-nil, length-map}
use Rattle.std.proofs.lemmas.List.Elements.{Contains-append_left, Contains-append_right, Contains-append_cases, filter-append, All-append}
use Rattle.std.proofs.lemmas.Option.{slice_get-get_or}
use Rattle.tl_topology.specs.Regions.{Area}
use Rattle.tl_topology.specs.Topology.{Topology}
use Rattle.tl_topology.specs.declared.LinkDecl.{LinkDecl}
use Rattle.tl_beats.specs.declared.Placed.{Placed}
use Rattle.tl_beats.specs.declared.Row.{Row}
use Rattle.tl_definitions.specs.Captures.{captures_from, manager_beats}
use Rattle.tl_definitions.specs.Managers.{declared_links, manager_at}
use Rattle.tl_definitions.specs.Positions.{Recorded, all_placed, beats_of, beats_of_all, by_range, clients_of, in_order, no_link}
use Rattle.tl_definitions.specs.Report.{of_manager, Finds, FindsIn}
use Rattle.tl_definitions.specs.Known.{Beginning}
use Rattle.tl_definitions.specs.LinkPasses.{on_link}
use Rattle.tl_definitions.specs.Printed.{printed_after}
use Rattle.tl_definitions.specs.Rules.{Manager}
use Rattle.tl_definitions.proofs.LinkLaws.{itself}
use Rattle.tl_definitions.proofs.Lists.{contains_none, contains_here, contains_there, contains_cases, contains_kept, kept_from, none_kept, all_by, all_of}
use Rattle.tl_definitions.proofs.OrderLaws.{then_less, below}
use Rattle.tl_definitions.proofs.ReportLaws.{stands_in}
use Rattle.tl_client_rules.proofs.ClientsLaws.{clients_below}
use Rattle.tl_client_rules.proofs.DeclaredLaws.{client_is_declared}
use Rattle.tl_capture.specs.Present.{IsCapture, IsPresent, AreNumbered, is_of, range_order}
use Rattle.tl_capture.proofs.EntryLemmas.{all_kept}
use Rattle.tl_capture.proofs.LawLemmas.{links_are_kept, one_link_is_its_own}
use Rattle.tl_capture.proofs.PresentLemmas.{no_ranges}
use Rattle.tl_check.specs.Apart.{judged_rows, rows_of_links}
use Rattle.tl_check.specs.Captured.{areas_at}
use Rattle.tl_check.specs.Managers.{has_caches, cached_links, plain_links, AreMerged}
use Rattle.tl_check.proofs.CaptureLaws.{capture_with, linked_in}
use Rattle.tl_check.proofs.PassLaws.{links_are_found}
use Rattle.tl_check.proofs.ScratchLaws.{finds_alone}
use Rattle.tl_midway.specs.Counts.{manager_counted, managers_counted}
use Rattle.tl_midway.specs.LeadIns.{leads_in, lead_ins_of}
use Rattle.tl_midway.specs.Midway.{beginning_of}
use Rattle.tl_midway.specs.Walked.{rows_by}
use Rattle.tl_midway.specs.declared.midway.Midway.{Midway}
use Rattle.tl_midway.proofs.ApartLaws.{rows_own}
use Rattle.tl_midway.proofs.LeadInsByLink.{link_lead_ins, links_lead_ins, manager_lead_ins}
use Rattle.tl_midway.proofs.MidwayReportLaws.{printed_from}
use Rattle.tl_pass.specs.Parts.{HasNoCaches, manager_of, IsCut, CanPart, AreFrom, HasJudged}
use Rattle.tl_pass.specs.Reports.{IsFound, IsFoundIn, CountsLeadIns}

both_sums : (a b c x y z : ℕ) → a ≡ b + c → x ≡ y + z → a + x ≡ (b + y) + (c + z)
both_sums a b c x y z one two = omega (arith, one, two)

both_sums_after : (x y z a b c : ℕ) → x ≡ y + z → a ≡ b + c → x + a ≡ (y + b) + (z + c)
both_sums_after x y z a b c one two = omega (arith, one, two)

-- A list in strict order after another, all of it above.
strict_both : (xs ys : List Recorded) → IsStrictlySortedBy range_order xs → IsStrictlySortedBy range_order ys → ((x y : Recorded) → Contains xs x → Contains ys y → range_order x y ≡ Less)
    → IsStrictlySortedBy range_order (xs ++ ys)
unfolding IsStrictlySortedBy
strict_both [] ys s t above = t
strict_both (x ∷ xs) ys s t above = (
  all_by (λ y. range_order x y ≡ Less) (xs ++ ys) (λ y h. elim (Contains-append_cases xs ys y h) [
    | inl a ↦ all_of (λ z. range_order x z ≡ Less) xs s.0 y a
    | inr b ↦ above x y (contains_here x xs) b
  ]),
  strict_both xs ys s.1 t (λ z y h g. above z y (contains_there x xs z h) g),
)

-- ---- numbers of links

any_is : (n : ℕ) (ls : List ℕ) → list_any (λ l. n == l) ls ≡ true → Contains ls n
any_is n [] h = absurd (cc)
any_is n (l ∷ ls) h = elim (n == l) as (λ b. (n == l) ≡ b → (b || list_any (λ l. n == l) ls) ≡ true → Contains (l ∷ ls) n) [
  | true ↦ λ e g. (let same : n ≡ l = grind (arith, nat_tests) in subst (Contains (l ∷ ls)) (sym same) (contains_here l ls))
  | false ↦ λ e g. contains_there l ls n (any_is n ls g)
] refl h

pub not_any : (n : ℕ) (ls : List ℕ) → (Contains ls n → ⊥) → list_any (λ l. n == l) ls ≡ false
not_any n ls other = elim (list_any (λ l. n == l) ls) as (λ t. list_any (λ l. n == l) ls ≡ t → list_any (λ l. n == l) ls ≡ false) [
  | true ↦ λ e. absurd (other (any_is n ls e))
  | false ↦ λ e. e
] refl

-- ---- the captures of managers

abbrev pub none : ℕ → List Area
none = areas_at []

capture_from : {X : Type 0} (topo : Topology) (fs : List Recorded) (number : ℕ) (managers : List X) (row : Row) → FindsIn (captures_from topo none fs number managers ++ []) row
    → (k : ℕ) × (number ≤ k) × (k < number + length managers) × Finds (capture_with topo none fs k) row
capture_from topo fs number [] row found = absurd (contains_none found.0 found.1)
capture_from topo fs number (m ∷ managers) row found = elim (contains_cases (capture_with topo none fs number) (captures_from topo none fs (number + 1) managers ++ []) found.0 found.1) [
  | inl is ↦ (number, omega arith, omega arith, subst (λ c. Finds c row) (sym is) found.2)
  | inr there ↦ (let known = capture_from topo fs (number + 1) managers row (found.0, there, found.2) in
      let from : number + 1 ≤ known.0 = known.1 in
      let below : known.0 < (number + 1) + length managers = known.2 in
      (known.0, omega arith, omega arith, known.3))
]

capture_there : {X : Type 0} (topo : Topology) (fs : List Recorded) (number : ℕ) (managers : List X) (row : Row) (k : ℕ) → number ≤ k → k < number + length managers
    → Finds (capture_with topo none fs k) row → FindsIn (captures_from topo none fs number managers ++ []) row
capture_there topo fs number [] row k from below h = absurd (let lt : k < number + 0 = below in omega arith)
capture_there topo fs number (m ∷ managers) row k from below h = elim (k == number) as (λ t. (k == number) ≡ t → FindsIn (captures_from topo none fs number (m ∷ managers) ++ []) row) [
  | true ↦ λ e. (let same : k ≡ number = grind (arith, nat_tests) in (
    capture_with topo none fs number,
    contains_here (capture_with topo none fs number) (captures_from topo none fs (number + 1) managers ++ []),
    subst (λ n. Finds (capture_with topo none fs n) row) same h,
  ))
  | false ↦ λ e. (let above : number + 1 ≤ k = grind (arith, nat_tests) in
      let known = capture_there topo fs (number + 1) managers row k above (let less : k < number + length (m ∷ managers) = below in omega arith) h in
      (known.0, contains_there (capture_with topo none fs number) (captures_from topo none fs (number + 1) managers ++ []) known.0 known.1, known.2))
] refl

-- ---- what is found of a manager's beats

-- The row is found in these beats of a manager: of a whole run, or of a capture that begins so.
abbrev pub FoundOf : Option Midway → Manager → List Placed → Row → Type 0
FoundOf None m beats row = Finds (of_manager m beats) row
FoundOf (Some law) m beats row = Contains (rows_by law m beats) row

abbrev pub FoundAt : Option Midway → Topology → List Recorded → ℕ → Row → Type 0
FoundAt midway topo fs k row = FoundOf midway (manager_at topo k (none k)) (manager_beats topo fs k) row

pub of_some_manager : (midway : Option Midway) (topo : Topology) (fs : List Recorded) (row : Row) → IsFound midway topo fs row → (k : ℕ) × (k < length topo.managers) × FoundAt midway topo fs k row
of_some_manager None topo fs row is = let at = capture_from topo fs 0 topo.managers row is in (at.0, omega (arith, at.2), at.3)
of_some_manager (Some law) topo fs row is = is

pub of_a_manager : (midway : Option Midway) (topo : Topology) (fs : List Recorded) (row : Row) (k : ℕ) → k < length topo.managers → FoundAt midway topo fs k row → IsFound midway topo fs row
of_a_manager None topo fs row k below h = capture_there topo fs 0 topo.managers row k (omega arith) (omega (arith, below)) h
of_a_manager (Some law) topo fs row k below h = (k, below, h)

pub no_row : (midway : Option Midway) (m : Manager) (beats : List Placed) (row : Row) → beats ≡ [] → FoundOf midway m beats row → ⊥
no_row None m beats row empty h = let stands = stands_in (of_manager m beats) row h in contains_none stands.0 (subst (λ ps. Contains ps stands.0) empty stands.1)
no_row (Some law) m beats row empty h = contains_none row (subst (λ ps. Contains (rows_by law m ps) row) empty h)

-- ---- a manager of links without caches

-- The same of the beats of one of its links.
abbrev pub OnLink : Option Midway → Manager → List Placed → Row → Type 0
OnLink None m beats row = Contains (judged_rows m beats) row
OnLink (Some law) m beats row = Contains (rows_by law m beats) row

pub no_row_on : (midway : Option Midway) (m : Manager) (beats : List Placed) (row : Row) → beats ≡ [] → OnLink midway m beats row → ⊥
no_row_on None m beats row empty h = contains_none row (subst (λ ps. Contains (judged_rows m ps) row) empty h)
no_row_on (Some law) m beats row empty h = contains_none row (subst (λ ps. Contains (rows_by law m ps) row) empty h)

some_link : (m : Manager) (fs : List Recorded) (links : List ℕ) (row : Row) → Contains (rows_of_links m fs links) row
    → (link : ℕ) × Contains links link × Contains (judged_rows m (beats_of link fs)) row
some_link m fs [] row h = absurd (contains_none row h)
some_link m fs (link ∷ links) row h = elim (Contains-append_cases (judged_rows m (beats_of link fs)) (rows_of_links m fs links) row h) [
  | inl a ↦ (link, contains_here link links, a)
  | inr b ↦ (let known = some_link m fs links row b in (known.0, contains_there link links known.0 known.1, known.2))
]

each_link : (m : Manager) (fs : List Recorded) (links : List ℕ) (link : ℕ) (row : Row) → Contains links link → Contains (judged_rows m (beats_of link fs)) row
    → Contains (rows_of_links m fs links) row
each_link m fs [] link row has h = absurd (contains_none link has)
each_link m fs (first ∷ links) link row has h = elim (contains_cases first links link has) [
  | inl is ↦ Contains-append_left (judged_rows m (beats_of first fs)) (rows_of_links m fs links) row (subst (λ n. Contains (judged_rows m (beats_of n fs)) row) (sym is) h)
  | inr there ↦ Contains-append_right (judged_rows m (beats_of first fs)) (rows_of_links m fs links) row (each_link m fs links link row there h)
]

module _ (topo : Topology) (plain : HasNoCaches topo) where
  abbrev links : ℕ → List ℕ
  links k = clients_of k (declared_links topo)

  abbrev served : ℕ → Manager
  served k = manager_at topo k (none k)

  client_plain : (k link : ℕ) → Contains (links k) link → has_caches topo link ≡ false
  client_plain k link h =
      let below : link < 0 + length (declared_links topo) = clients_below k 0 (declared_links topo) link h in
      let many = length-map topo.links (λ (p : List ℕ × LinkDecl). p.1) in
      let less : link < length topo.links = omega (arith, below, many) in
      plain link less

  no_cached : (k : ℕ) → cached_links topo (links k) ≡ []
  no_cached k = none_kept (has_caches topo) (links k) (client_plain k)

  all_plain : (k : ℕ) → plain_links topo (links k) ≡ links k
  all_plain k = all_kept (λ link. not (has_caches topo link)) (links k) (λ link h. ap not (client_plain k link h))

  nothing_merged : (fs : List Recorded) (k : ℕ) → AreMerged (served k) (beats_of_all (cached_links topo (links k)) fs) []
  nothing_merged fs k =
      let no_beat : beats_of_all [] fs ≡ [] = none_placed fs in
      subst (λ ls. AreMerged (served k) (beats_of_all ls fs) []) (sym (no_cached k))
      (subst (λ (ps : List Placed). AreMerged (served k) ps []) (sym no_beat) (λ row. ((λ h. h), (λ h. h))))
    where
      none_placed : (fs : List Recorded) → beats_of_all [] fs ≡ []
      none_placed [] = refl
      none_placed (f ∷ fs) = none_placed fs

  -- What a manager's capture finds is found of one of its links.
  module _ (fs : List Recorded) (is : IsPresent fs) (k : ℕ) (row : Row) where
    both_ways : Contains (rows_of_links (served k) fs (plain_links topo (links k))) row ↔ FindsIn (capture_with topo none fs k ∷ []) row
    both_ways = links_are_found topo fs is k (none k) (rows_of_links (served k) fs (plain_links topo (links k))) [] (rows_of_links (served k) fs (plain_links topo (links k)))
        refl (nothing_merged fs k) (sym (append-nil (rows_of_links (served k) fs (plain_links topo (links k))))) row

    on_some_whole : Finds (capture_with topo none fs k) row → (link : ℕ) × Contains (links k) link × Contains (judged_rows (served k) (beats_of link fs)) row
    on_some_whole h = some_link (served k) fs (links k) row
        (subst (λ ls. Contains (rows_of_links (served k) fs ls) row) (all_plain k) (both_ways.1 (capture_with topo none fs k, contains_here (capture_with topo none fs k) [], h)))

    from_link_whole : (link : ℕ) → Contains (links k) link → Contains (judged_rows (served k) (beats_of link fs)) row → Finds (capture_with topo none fs k) row
    from_link_whole link on h = finds_alone (capture_with topo none fs k) row
        (both_ways.0 (subst (λ ls. Contains (rows_of_links (served k) fs ls) row) (sym (all_plain k)) (each_link (served k) fs (links k) link row on h)))

    abbrev beats : List Placed
    beats = manager_beats topo fs k

    own_of : (link : ℕ) → Contains (links k) link → on_link link beats ≡ beats_of link fs
    own_of link on = links_are_kept (links k) fs link is on

    on_some_middle : (law : Midway) → Contains (rows_by law (served k) beats) row → (link : ℕ) × Contains (links k) link × Contains (rows_by law (served k) (beats_of link fs)) row
    on_some_middle law h =
        let start : Beginning = beginning_of law (served k) in
        let from = printed_from (served k) start [] beats row h in
        let p : Placed = from.0 in
        let on : Contains (links k) p.link = linked_in topo fs is (links k) p from.1 in
        let here : row.link ≡ p.link = ap (λ (r : Row). r.link) from.2 in
        let kept : Contains (filter (λ (r : Row). r.link == p.link) (printed_after (served k) start [] beats)) row =
        contains_kept (λ (r : Row). r.link == p.link) (printed_after (served k) start [] beats) row h (ap (λ n. n == p.link) here ∙ itself p.link) in (
          p.link,
          on,
          subst (λ ps. Contains (printed_after (served k) start [] ps) row) (own_of p.link on)
              (subst (λ rows. Contains rows row) (rows_own (served k) start [] beats p.link (client_plain k p.link on)) kept),
        )

    from_link_middle : (law : Midway) (link : ℕ) → Contains (links k) link → Contains (rows_by law (served k) (beats_of link fs)) row → Contains (rows_by law (served k) beats) row
    from_link_middle law link on h =
        let start : Beginning = beginning_of law (served k) in
        (kept_from (λ (r : Row). r.link == link) (printed_after (served k) start [] beats) row
        (subst (λ rows. Contains rows row) (sym (rows_own (served k) start [] beats link (client_plain k link on)))
        (subst (λ ps. Contains (printed_after (served k) start [] ps) row) (sym (own_of link on)) h))).0

    pub on_some : (midway : Option Midway) → FoundAt midway topo fs k row → (link : ℕ) × Contains (links k) link × OnLink midway (served k) (beats_of link fs) row
    on_some None h = on_some_whole h
    on_some (Some law) h = on_some_middle law h

    pub from_link : (midway : Option Midway) (link : ℕ) → Contains (links k) link → OnLink midway (served k) (beats_of link fs) row → FoundAt midway topo fs k row
    from_link None link on h = from_link_whole link on h
    from_link (Some law) link on h = from_link_middle law link on h

-- A link of a manager's is of that manager.
pub manager_is : (topo : Topology) (k link : ℕ) → Contains (clients_of k (declared_links topo)) link → manager_of topo link ≡ k
manager_is topo k link h =
    let decls : List LinkDecl = declared_links topo in
    let found = client_is_declared k link decls h in
    let below : link < 0 + length decls = clients_below k 0 decls link h in
    let within : link < length decls = omega arith in
    let one : get_or decls link no_link ≡ found.0 = ap (λ o. option_map_or (λ (z : LinkDecl). z) o no_link) (sym (slice_get-get_or decls link no_link within) ∙ found.1) in
    ap (λ (d : LinkDecl). d.manager) one ∙ found.2

-- ---- some links, and others after them

-- What is found of both is found of one of them.
pub record Joins (midway : Option Midway) (topo : Topology) (fs gs : List Recorded) : Type 0 where
  pub come : (k : ℕ) (row : Row) → FoundAt midway topo (fs ++ gs) k row → FoundAt midway topo fs k row ⊎ FoundAt midway topo gs k row
  pub first : (k : ℕ) (row : Row) → FoundAt midway topo fs k row → FoundAt midway topo (fs ++ gs) k row
  pub second : (k : ℕ) (row : Row) → FoundAt midway topo gs k row → FoundAt midway topo (fs ++ gs) k row

module _ (link : ℕ) (fs gs : List Recorded) (below_it : (f : Recorded) → Contains fs f → f.link < link) (from_it : AreFrom link gs) where
  apart : IsPresent fs → IsPresent gs → IsPresent (fs ++ gs)
  apart one two = record {
    each = All-append IsCapture fs gs one.each two.each;
    apart = strict_both fs gs one.apart two.apart (λ f g h k. let low : f.link < link = below_it f h in let high : link ≤ g.link = from_it g k in let less : f.link < g.link = omega arith in
        then_less (nat_cmp f.link g.link) (nat_cmp f.last g.first) (below f.link g.link less));
    numbers = numbered_both fs below_it one.numbers;
  }
    where
      numbered_both : (hs : List Recorded) → ((f : Recorded) → Contains hs f → f.link < link) → AreNumbered hs → AreNumbered (hs ++ gs)
      numbered_both [] lower n = two.numbers
      numbered_both (h ∷ hs) lower n = (
        all_by (λ (g : Recorded). is_of h.link h.number g ≡ false) (hs ++ gs) (λ g k. elim (Contains-append_cases hs gs g k) [
          | inl a ↦ all_of (λ (g : Recorded). is_of h.link h.number g ≡ false) hs n.0 g a
          | inr b ↦ (let high : link ≤ g.link = from_it g b in let less : h.link < link = lower h (contains_here h hs) in grind (arith, nat_tests))
        ]),
        numbered_both hs (λ f k. lower f (contains_there h hs f k)) n.1,
      )

  -- ---- links without caches

  first_beats : (l : ℕ) → nat_lt l link ≡ true → beats_of l (fs ++ gs) ≡ beats_of l fs
  first_beats l e = ap (λ hs. all_placed (by_range hs)) (filter-append (λ (f : Recorded). f.link == l) fs gs
      ∙ ap (λ hs. filter (λ (f : Recorded). f.link == l) fs ++ hs) (none_kept (λ (f : Recorded). f.link == l) gs (λ g h. let high : link ≤ g.link = from_it g h in grind (arith, nat_tests)))
      ∙ append-nil (filter (λ (f : Recorded). f.link == l) fs))

  second_beats : (l : ℕ) → nat_lt l link ≡ false → beats_of l (fs ++ gs) ≡ beats_of l gs
  second_beats l e = ap (λ hs. all_placed (by_range hs)) (filter-append (λ (f : Recorded). f.link == l) fs gs
      ∙ ap (λ hs. hs ++ filter (λ (f : Recorded). f.link == l) gs)
      (none_kept (λ (f : Recorded). f.link == l) fs (λ f h. let less : f.link < link = below_it f h in grind (arith, nat_tests))))

  none_second : (l : ℕ) → nat_lt l link ≡ true → beats_of l gs ≡ []
  none_second l e = ap (λ hs. all_placed (by_range hs)) (none_kept (λ (f : Recorded). f.link == l) gs (λ g h. let high : link ≤ g.link = from_it g h in grind (arith, nat_tests)))

  none_first : (l : ℕ) → nat_lt l link ≡ false → beats_of l fs ≡ []
  none_first l e = ap (λ hs. all_placed (by_range hs)) (none_kept (λ (f : Recorded). f.link == l) fs (λ f h. let less : f.link < link = below_it f h in grind (arith, nat_tests)))

  module _ (midway : Option Midway) where
    one_of : (m : Manager) (l : ℕ) (row : Row) → OnLink midway m (beats_of l (fs ++ gs)) row → OnLink midway m (beats_of l fs) row ⊎ OnLink midway m (beats_of l gs) row
    one_of m l row h = elim (nat_lt l link) as (λ t. nat_lt l link ≡ t → OnLink midway m (beats_of l fs) row ⊎ OnLink midway m (beats_of l gs) row) [
      | true ↦ λ e. inl (subst (λ ps. OnLink midway m ps row) (first_beats l e) h)
      | false ↦ λ e. inr (subst (λ ps. OnLink midway m ps row) (second_beats l e) h)
    ] refl

    of_first : (m : Manager) (l : ℕ) (row : Row) → OnLink midway m (beats_of l fs) row → OnLink midway m (beats_of l (fs ++ gs)) row
    of_first m l row h = elim (nat_lt l link) as (λ t. nat_lt l link ≡ t → OnLink midway m (beats_of l (fs ++ gs)) row) [
      | true ↦ λ e. subst (λ ps. OnLink midway m ps row) (sym (first_beats l e)) h
      | false ↦ λ e. absurd (no_row_on midway m (beats_of l fs) row (none_first l e) h)
    ] refl

    of_second : (m : Manager) (l : ℕ) (row : Row) → OnLink midway m (beats_of l gs) row → OnLink midway m (beats_of l (fs ++ gs)) row
    of_second m l row h = elim (nat_lt l link) as (λ t. nat_lt l link ≡ t → OnLink midway m (beats_of l (fs ++ gs)) row) [
      | true ↦ λ e. absurd (no_row_on midway m (beats_of l gs) row (none_second l e) h)
      | false ↦ λ e. subst (λ ps. OnLink midway m ps row) (sym (second_beats l e)) h
    ] refl

    plain_joins : (topo : Topology) → HasNoCaches topo → IsPresent fs → IsPresent gs → Joins midway topo fs gs
    plain_joins topo plain one two = record {
      come = λ k row h. (let on = on_some topo plain (fs ++ gs) (apart one two) k row midway h in elim (one_of (served topo plain k) on.0 row on.2) [
        | inl a ↦ inl (from_link topo plain fs one k row midway on.0 on.1 a)
        | inr b ↦ inr (from_link topo plain gs two k row midway on.0 on.1 b)
      ]);
      first = λ k row h. (let on = on_some topo plain fs one k row midway h in from_link topo plain (fs ++ gs) (apart one two) k row midway on.0 on.1 (of_first (served topo plain k) on.0 row on.2));
      second = λ k row h. (let on = on_some topo plain gs two k row midway h in from_link topo plain (fs ++ gs) (apart one two) k row midway on.0 on.1 (of_second (served topo plain k) on.0 row on.2));
    }

  -- ---- managers whose links are on one side

  module _ (topo : Topology) (k : ℕ) where
    abbrev own : List ℕ
    own = clients_of k (declared_links topo)

    abbrev on_own : Recorded → Bool
    on_own f = list_any (λ l. f.link == l) own

    not_own : (f : Recorded) → (Contains own f.link → ⊥) → on_own f ≡ false
    not_own f other = not_any f.link own other

    on_first : ((l : ℕ) → Contains own l → l < link) → manager_beats topo (fs ++ gs) k ≡ manager_beats topo fs k
    on_first low = ap (λ hs. in_order (all_placed hs)) (filter-append on_own fs gs
        ∙ ap (λ hs. filter on_own fs ++ hs) (none_kept on_own gs (λ g h. not_own g (λ c. let less : g.link < link = low g.link c in let high : link ≤ g.link = from_it g h in omega arith)))
        ∙ append-nil (filter on_own fs))

    on_second : ((l : ℕ) → Contains own l → link ≤ l) → manager_beats topo (fs ++ gs) k ≡ manager_beats topo gs k
    on_second high = ap (λ hs. in_order (all_placed hs)) (filter-append on_own fs gs
        ∙ ap (λ hs. hs ++ filter on_own gs) (none_kept on_own fs (λ f h. not_own f (λ c. let above : link ≤ f.link = high f.link c in let less : f.link < link = below_it f h in omega arith))))

    nothing_after : ((l : ℕ) → Contains own l → l < link) → manager_beats topo gs k ≡ []
    nothing_after low = ap (λ hs. in_order (all_placed hs)) (none_kept on_own gs (λ g h. not_own g (λ c. let less : g.link < link = low g.link c in let high : link ≤ g.link = from_it g h in omega arith)))

    nothing_before : ((l : ℕ) → Contains own l → link ≤ l) → manager_beats topo fs k ≡ []
    nothing_before high = ap (λ hs. in_order (all_placed hs)) (none_kept on_own fs (λ f h. not_own f (λ c. let above : link ≤ f.link = high f.link c in let less : f.link < link = below_it f h in omega arith)))

    -- Either side has all of the manager's links.
    side : IsCut topo link → ((l : ℕ) → Contains own l → l < link) ⊎ ((l : ℕ) → Contains own l → link ≤ l)
    side cut = elim (list_any (λ l. nat_lt l link) own) as (λ t. list_any (λ l. nat_lt l link) own ≡ t → ((l : ℕ) → Contains own l → l < link) ⊎ ((l : ℕ) → Contains own l → link ≤ l)) [
      | true ↦ λ e. (let low = some_low own e in inl (λ l h. elim (nat_lt l link) as (λ t. nat_lt l link ≡ t → l < link) [
        | true ↦ λ e2. grind (arith, nat_tests)
        | false ↦ λ e2. (let high : link ≤ l = grind (arith, nat_tests) in absurd (cut low.0 l low.2 high (within l h) (managed low.0 low.1 ∙ sym (managed l h))))
      ] refl))
      | false ↦ λ e. inr (λ l h. no_low own e l h)
    ] refl
      where
        some_low : (ls : List ℕ) → list_any (λ l. nat_lt l link) ls ≡ true → (l : ℕ) × Contains ls l × (l < link)
        some_low [] h = absurd (cc)
        some_low (l ∷ ls) h = elim (nat_lt l link) as (λ b. nat_lt l link ≡ b → (b || list_any (λ l. nat_lt l link) ls) ≡ true → (n : ℕ) × Contains (l ∷ ls) n × (n < link)) [
          | true ↦ λ e g. (let less : l < link = grind (arith, nat_tests) in (l, contains_here l ls, less))
          | false ↦ λ e g. (let known = some_low ls g in (known.0, contains_there l ls known.0 known.1, known.2))
        ] refl h

        no_low : (ls : List ℕ) → list_any (λ l. nat_lt l link) ls ≡ false → (l : ℕ) → Contains ls l → link ≤ l
        no_low [] h l c = absurd (contains_none l c)
        no_low (n ∷ ls) h l c = elim (nat_lt n link) as (λ b. nat_lt n link ≡ b → (b || list_any (λ l. nat_lt l link) ls) ≡ false → link ≤ l) [
          | true ↦ λ e g. absurd (let wrong : true ≡ false = g in cc)
          | false ↦ λ e g. elim (contains_cases n ls l c) [ inl same ↦ (let high : link ≤ n = grind (arith, nat_tests) in subst (λ m. link ≤ m) same high) | inr there ↦ no_low ls g l there ]
        ] refl h

        within : (l : ℕ) → Contains own l → l < length topo.links
        within l h =
            let less : l < 0 + length (declared_links topo) = clients_below k 0 (declared_links topo) l h in
            omega (arith, less, length-map topo.links (λ (p : List ℕ × LinkDecl). p.1))

        managed : (l : ℕ) → Contains own l → manager_of topo l ≡ k
        managed l h = manager_is topo k l h

  module _ (midway : Option Midway) (topo : Topology) where
    abbrev serves : ℕ → Manager
    serves k = manager_at topo k (none k)

    cut_joins : IsCut topo link → Joins midway topo fs gs
    cut_joins cut = record {
      come = λ k row h. elim (side topo k cut) [
        | inl low ↦ inl (subst (λ ps. FoundOf midway (serves k) ps row) (on_first topo k low) h)
        | inr high ↦ inr (subst (λ ps. FoundOf midway (serves k) ps row) (on_second topo k high) h)
      ];
      first = λ k row h. elim (side topo k cut) [
        | inl low ↦ subst (λ ps. FoundOf midway (serves k) ps row) (sym (on_first topo k low)) h
        | inr high ↦ absurd (no_row midway (serves k) (manager_beats topo fs k) row (nothing_before topo k high) h)
      ];
      second = λ k row h. elim (side topo k cut) [
        | inl low ↦ absurd (no_row midway (serves k) (manager_beats topo gs k) row (nothing_after topo k low) h)
        | inr high ↦ subst (λ ps. FoundOf midway (serves k) ps row) (sym (on_second topo k high)) h
      ];
    }

    joins : CanPart topo link → IsPresent fs → IsPresent gs → Joins midway topo fs gs
    joins can one two = elim can [ inl plain ↦ plain_joins midway topo plain one two | inr cut ↦ cut_joins cut ]

  -- ---- beats of lead-ins

  module _ (law : Midway) (topo : Topology) (one : IsPresent fs) (two : IsPresent gs) where
    own_lead_ins : (m : Manager) (start : Beginning) (l : ℕ) → link_lead_ins m start (fs ++ gs) l ≡ link_lead_ins m start fs l + link_lead_ins m start gs l
    own_lead_ins m start l = elim (nat_lt l link) as (λ t. nat_lt l link ≡ t → link_lead_ins m start (fs ++ gs) l ≡ link_lead_ins m start fs l + link_lead_ins m start gs l) [
      | true ↦ λ e. first_only (link_lead_ins m start (fs ++ gs) l) (link_lead_ins m start fs l) (link_lead_ins m start gs l)
          (counted_on (one_link_is_its_own l (fs ++ gs) (apart one two) ∙ first_beats l e ∙ sym (one_link_is_its_own l fs one))) (counted_on (one_link_is_its_own l gs two ∙ none_second l e))
      | false ↦ λ e. second_only (link_lead_ins m start (fs ++ gs) l) (link_lead_ins m start fs l) (link_lead_ins m start gs l)
          (counted_on (one_link_is_its_own l (fs ++ gs) (apart one two) ∙ second_beats l e ∙ sym (one_link_is_its_own l gs two))) (counted_on (one_link_is_its_own l fs one ∙ none_first l e))
    ] refl
      where
        counted_on : {xs ys : List Placed} → xs ≡ ys → lead_ins_of m start (reverse xs) ≡ lead_ins_of m start (reverse ys)
        counted_on same = ap (λ ps. lead_ins_of m start (reverse ps)) same

        first_only : (a b c : ℕ) → a ≡ b → c ≡ 0 → a ≡ b + c
        first_only a b c same none = omega (arith, same, none)

        second_only : (a b c : ℕ) → a ≡ c → b ≡ 0 → a ≡ b + c
        second_only a b c same none = omega (arith, same, none)

    of_links : (m : Manager) (start : Beginning) (ls : List ℕ) → links_lead_ins m start (fs ++ gs) ls ≡ links_lead_ins m start fs ls + links_lead_ins m start gs ls
    of_links m start [] = refl
    of_links m start (l ∷ ls) =
        both_sums (link_lead_ins m start (fs ++ gs) l) (link_lead_ins m start fs l) (link_lead_ins m start gs l) (links_lead_ins m start (fs ++ gs) ls) (links_lead_ins m start fs ls) (links_lead_ins m start gs ls)
        (own_lead_ins m start l) (of_links m start ls)

    of_managers : (n : ℕ) → managers_counted leads_in law topo none (fs ++ gs) n ≡ managers_counted leads_in law topo none fs n + managers_counted leads_in law topo none gs n
    of_managers zero = refl
    of_managers (suc n) =
        let m : Manager = manager_at topo n (none n) in
        let start : Beginning = beginning_of law m in
        let ls : List ℕ = clients_of n (declared_links topo) in
        both_sums_after (managers_counted leads_in law topo none (fs ++ gs) n) (managers_counted leads_in law topo none fs n) (managers_counted leads_in law topo none gs n)
        (manager_counted leads_in law topo none (fs ++ gs) n) (manager_counted leads_in law topo none fs n) (manager_counted leads_in law topo none gs n) (of_managers n)
        (manager_lead_ins topo (none n) (fs ++ gs) n law (apart one two) ∙ of_links m start ls
        ∙ λ i. sym (manager_lead_ins topo (none n) fs n law one) i + sym (manager_lead_ins topo (none n) gs n law two) i)

  lead_ins_of_both : (midway : Option Midway) (topo : Topology) (a b c : ℕ) → IsPresent fs → IsPresent gs → CountsLeadIns midway topo fs a → CountsLeadIns midway topo gs b → c ≡ u64_saturate (a + b)
      → CountsLeadIns midway topo (fs ++ gs) c
  lead_ins_of_both None topo a b c one two first second is = tt
  lead_ins_of_both (Some law) topo a b c one two first second is =
      is ∙ saturated a b (managers_counted leads_in law topo none fs (length topo.managers)) (managers_counted leads_in law topo none gs (length topo.managers)) first second
      ∙ ap u64_saturate (sym (of_managers law topo one two (length topo.managers)))
    where
      saturated : (a b n k : ℕ) → a ≡ u64_saturate n → b ≡ u64_saturate k → u64_saturate (a + b) ≡ u64_saturate (n + k)
      saturated a b n k first second = omega (arith, first, second)

-- ---- both

module _ (midway : Option Midway) (topo : Topology) (link next : ℕ) (fs gs : List Recorded) (rows more : List Row) (a b : ℕ) (can : CanPart topo link) (had : HasJudged midway topo link fs rows a)
    (two : IsPresent gs) (from_it : AreFrom link gs) (short : (g : Recorded) → Contains gs g → g.link < next) (less : link ≤ next) (found : IsFoundIn midway topo gs more b) where
  both : Joins midway topo fs gs
  both = joins link fs gs had.below from_it midway topo can had.present two

  come_from : (row : Row) → IsFound midway topo (fs ++ gs) row → Contains (rows ++ more) row
  come_from row is =
      let at = of_some_manager midway topo (fs ++ gs) row is in
      elim (both.come at.0 row at.2) [
        | inl h ↦ Contains-append_left rows more row ((had.found.members row).1 (of_a_manager midway topo fs row at.0 at.1 h))
        | inr h ↦ Contains-append_right rows more row ((found.members row).1 (of_a_manager midway topo gs row at.0 at.1 h))
      ]

  go_to : (row : Row) → Contains (rows ++ more) row → IsFound midway topo (fs ++ gs) row
  go_to row h = elim (Contains-append_cases rows more row h) [
    | inl k ↦ (let at = of_some_manager midway topo fs row ((had.found.members row).0 k) in of_a_manager midway topo (fs ++ gs) row at.0 at.1 (both.first at.0 row at.2))
    | inr k ↦ (let at = of_some_manager midway topo gs row ((found.members row).0 k) in of_a_manager midway topo (fs ++ gs) row at.0 at.1 (both.second at.0 row at.2))
  ]

  pub judged_both : (count : ℕ) → count ≡ u64_saturate (a + b) → HasJudged midway topo next (fs ++ gs) (rows ++ more) count
  judged_both count is = record {
    present = apart link fs gs had.below from_it had.present two;
    below = λ f h. elim (Contains-append_cases fs gs f h) [
      | inl k ↦ (let lower : f.link < link = had.below f k in omega (arith, less, lower))
      | inr k ↦ short f k
    ];
    found = record {
      members = λ row. (go_to row, come_from row);
      counted = lead_ins_of_both link fs gs had.below from_it midway topo a b count had.present two had.found.counted found.counted is;
    };
  }

-- ---- nothing

pub nothing : IsPresent []
nothing = record { each = no_ranges.each; apart = no_ranges.apart; numbers = tt }

no_beat : (topo : Topology) (k : ℕ) → manager_beats topo [] k ≡ []
no_beat topo k = refl

none_found : (midway : Option Midway) (topo : Topology) (row : Row) → IsFound midway topo [] row → ⊥
none_found midway topo row is =
    let at = of_some_manager midway topo [] row is in
    no_row midway (manager_at topo at.0 (none at.0)) (manager_beats topo [] at.0) row (no_beat topo at.0) at.2

none_counted : (law : Midway) (topo : Topology) (n : ℕ) → managers_counted leads_in law topo none [] n ≡ 0
none_counted law topo zero = refl
none_counted law topo (suc n) = nothing_more (managers_counted leads_in law topo none [] n) (none_counted law topo n)
  where
    nothing_more : (k : ℕ) → k ≡ 0 → k + 0 ≡ 0
    nothing_more k is = omega (arith, is)

no_lead_ins : (midway : Option Midway) (topo : Topology) → CountsLeadIns midway topo [] 0
no_lead_ins None topo = tt
no_lead_ins (Some law) topo = ap u64_saturate (sym (none_counted law topo (length topo.managers)))

pub none_judged : (midway : Option Midway) (topo : Topology) (next : ℕ) → HasJudged midway topo next [] [] 0
none_judged midway topo next = record {
  present = nothing;
  below = λ f h. absurd (contains_none f h);
  found = record {
    members = λ row. ((λ h. absurd (contains_none row h)), (λ is. absurd (none_found midway topo row is)));
    counted = no_lead_ins midway topo;
  };
}
