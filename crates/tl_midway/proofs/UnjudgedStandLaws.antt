-- Whether a rule leaves a beat unjudged, by what the beat is.
use Rattle.std.proofs.Common.{◌≡◌, ℕ, ◌==◌, ◌&&◌, ◌||◌, Bool, true, false, cond, List, [], ◌∷◌, Option, Some, None, refl, sym, ap, ◌∙◌, eqb-true}
use Rattle.std.specs.Prelude.{not, filter}
use Rattle.std.specs.List.{list_any, list_all}
use Rattle.std.specs.Option.{option_map_or}
use Rattle.tl_tables.specs.declared.Op.{Op}
use Rattle.tl_tables.specs.declared.Rule.{Rule}
use Rattle.tl_tables.specs.declared.Rule.TheVariants as rule
use Rattle.tl_tables.specs.Rules.{rule_number}
use Rattle.tl_topology.specs.Regions.{Area}
use Rattle.tl_topology.specs.declared.LinkDecl.{LinkDecl}
use Rattle.tl_beats.specs.declared.Beat.{Beat}
use Rattle.tl_beats.specs.declared.Placed.{Placed}
use Rattle.tl_definitions.specs.Heads.{message_of}
use Rattle.tl_definitions.specs.Known.{Beginning, bare, known_request}
use Rattle.tl_definitions.specs.Printed.{Front, front, grant_open, breaks_flow_surely, breaks_manager_surely, breaks_surely, is_f1, breaks_by}
use Rattle.tl_definitions.specs.Readings.{Reading, due, rest, is_due, may_begin, must_begin}
use Rattle.tl_definitions.specs.Rules.{Manager, breaks_format, format_order, format_rules}
use Rattle.tl_definitions.proofs.Bursts.{some_passes, passing}
use Rattle.tl_definitions.proofs.ReportLaws.{one_rule}
use Rattle.tl_midway.specs.Asked.{message_surely, head_asks, head_open, head_may, is_among, is_of_later}
use Rattle.tl_midway.specs.KnownLink.{permission_surely}
use Rattle.tl_midway.specs.Members.{SameMembers}
use Rattle.tl_midway.specs.Reading.{breaks_as, may_as}
use Rattle.tl_midway.specs.Standing.{later_open}
use Rattle.tl_midway.specs.Unjudged.{asks, may_break}
use Rattle.tl_midway.proofs.MemberLaws.{iff_same, any_same, all_same}
use Rattle.tl_midway.proofs.PrintedLaws.{only_due, agree_f5, agree_f7, agree_u1, nothing_else, some_fails, one_fails}
use Rattle.tl_midway.proofs.ReadingLaws.{due_is}

-- ---- answers

or_false : (b : Bool) → (b || false) ≡ b
or_false true = refl
or_false false = refl

and_true : (b : Bool) → (b && true) ≡ b
and_true true = refl
and_true false = refl

never_both : (b : Bool) → ((b || false) && not b) ≡ false
never_both true = refl
never_both false = refl

-- What is asked about and not surely broken, of three parts beside a fourth that is false where something is asked about.
open_of_three : (f s p m a : Bool) → (a ≡ true → f ≡ false) → (((f || s || p || m) || a) && not (f || s || p || m)) ≡ (a && not (s || p || m))
open_of_three true s p m true g = (let clash : true ≡ false = g refl in cc)
open_of_three true s p m false g = refl
open_of_three false true p m true g = refl
open_of_three false true p m false g = refl
open_of_three false false true m true g = refl
open_of_three false false true m false g = refl
open_of_three false false false true true g = refl
open_of_three false false false true false g = refl
open_of_three false false false false true g = refl
open_of_three false false false false false g = refl

may_of_three : (f s p m a : Bool) → ((f || s || p || m) || a) ≡ ((a || (s || p || m)) || f)
may_of_three true s p m true = refl
may_of_three true true p m false = refl
may_of_three true false true m false = refl
may_of_three true false false true false = refl
may_of_three true false false false false = refl
may_of_three false true p m true = refl
may_of_three false true p m false = refl
may_of_three false false true m true = refl
may_of_three false false true m false = refl
may_of_three false false false true true = refl
may_of_three false false false true false = refl
may_of_three false false false false true = refl
may_of_three false false false false false = refl

fails : (b : Bool) → not b ≡ true → b ≡ false
fails true h = cc
fails false h = refl

-- ---- format rules

kept_among : (test : Rule → Bool) (rules : List Rule) (r : Rule) → is_among (filter test rules) r ≡ (test r && is_among rules r)
kept_among test [] r = elim (test r) as (λ t. false ≡ (t && false)) [ true ↦ refl | false ↦ refl ]
kept_among test (s ∷ rules) r =
    elim (rule_number s == rule_number r) as (λ t. (rule_number s == rule_number r) ≡ t → is_among (cond (test s) (s ∷ filter test rules) (filter test rules)) r ≡ (test r && (t || is_among rules r))) [
      | true ↦ λ e. (let same : test s ≡ test r = ap test (one_rule s r (eqb-true (rule_number s) (rule_number r) e)) in
          ap (λ b. is_among (cond b (s ∷ filter test rules) (filter test rules)) r) same
          ∙ elim (test r) as (λ b. test r ≡ b → is_among (cond b (s ∷ filter test rules) (filter test rules)) r ≡ (b && true)) [
            | true ↦ λ g. ap (λ t. t || is_among (filter test rules) r) e
            | false ↦ λ g. kept_among test rules r ∙ ap (λ b. b && is_among rules r) g
          ] refl)
      | false ↦ λ e. elim (test s) as (λ b. is_among (cond b (s ∷ filter test rules) (filter test rules)) r ≡ (test r && is_among rules r)) [
        | true ↦ ap (λ b. b || is_among (filter test rules) r) e ∙ kept_among test rules r
        | false ↦ kept_among test rules r
      ]
    ] refl

format_among : (exponent : ℕ) (areas : List Area) (link : LinkDecl) (o : Op) (beat : Beat) (r : Rule) → is_among (filter (breaks_format exponent areas link o beat) format_order) r ≡ breaks_format exponent areas link o beat r
format_among exponent areas link o beat r = kept_among (breaks_format exponent areas link o beat) format_order r ∙ at r
  where
    at : (r : Rule) → (breaks_format exponent areas link o beat r && is_among format_order r) ≡ breaks_format exponent areas link o beat r
    at rule.F2 = and_true (breaks_format exponent areas link o beat rule.F2)
    at rule.F3 = and_true (breaks_format exponent areas link o beat rule.F3)
    at rule.F4 = and_true (breaks_format exponent areas link o beat rule.F4)
    at rule.F5 = and_true (breaks_format exponent areas link o beat rule.F5)
    at rule.F6 = and_true (breaks_format exponent areas link o beat rule.F6)
    at rule.F7 = and_true (breaks_format exponent areas link o beat rule.F7)
    at rule.F8 = and_true (breaks_format exponent areas link o beat rule.F8)
    at rule.F9 = and_true (breaks_format exponent areas link o beat rule.F9)
    at rule.F10 = and_true (breaks_format exponent areas link o beat rule.F10)
    at _ = refl

f1_among : (r : Rule) → is_among (rule.F1 ∷ []) r ≡ is_f1 r
f1_among rule.F1 = refl
f1_among _ = refl

-- What a beat breaks as a head of format rules and F1.
abbrev format_of : Manager → LinkDecl → Beat → Rule → Option Op → Bool
format_of m link beat r None = is_f1 r
format_of m link beat r (Some o) = breaks_format m.exponent m.regions link o beat r

formats_among : (m : Manager) (link : LinkDecl) (beat : Beat) (r : Rule) (found : Option Op) → is_among (format_rules m.exponent m.regions link beat found) r ≡ format_of m link beat r found
formats_among m link beat r None = f1_among r
formats_among m link beat r (Some o) = format_among m.exponent m.regions link o beat r

module _ (m : Manager) (start : Beginning) (before : List Placed) (p : Placed) (readings : List Reading) where
  abbrev f : Front
  f = front m start before

  abbrev link : LinkDecl
  link = m.links p.link

  abbrev found : Option Op
  found = message_of link p.beat

  -- ---- rules of later beats

  may_agree : (r : Rule) → ((x : Reading) → breaks_by m f p r x ≡ breaks_as link p.beat r x) → ((o : Op) → asks m f.past p.link (bare o p.beat) r ≡ false) → (x : Reading) → may_break m f p r x ≡ may_as link p.beat r x
  may_agree r agree none due =
      elim found as (λ k. (breaks_by m f p r due || option_map_or (λ o. asks m f.past p.link (bare o p.beat) r) k false) ≡ breaks_by m f p r due) [
        | None ↦ or_false (breaks_by m f p r due)
        | Some o ↦ ap (λ b. breaks_by m f p r due || b) (none o) ∙ or_false (breaks_by m f p r due)
      ] ∙ agree due
  may_agree r agree none (rest missing None) = refl
  may_agree r agree none (rest missing (Some head)) = agree (rest missing (Some head))

  later_is : (r : Rule) → ((x : Reading) → breaks_by m f p r x ≡ breaks_as link p.beat r x) → ((o : Op) → asks m f.past p.link (bare o p.beat) r ≡ false)
      → later_open link p.beat r readings ≡ (list_any (may_break m f p r) readings && not (list_all (breaks_by m f p r) readings))
  later_is r agree none = λ i. list_any (λ x. sym (may_agree r agree none x) i) readings && not (list_all (λ x. sym (agree x) i) readings)

  pub later_unjudged : (r : Rule) → is_of_later r ≡ true → later_open link p.beat r readings ≡ (list_any (may_break m f p r) readings && not (list_all (breaks_by m f p r) readings))
  later_unjudged rule.F5 h = later_is rule.F5 (agree_f5 m f p) (λ o. refl)
  later_unjudged rule.F7 h = later_is rule.F7 (agree_f7 m f p) (λ o. refl)
  later_unjudged rule.U1 h = later_is rule.U1 (agree_u1 m f p) (λ o. refl)
  later_unjudged _ h = cc

  -- ---- other rules

  abbrev due_may : Rule → Option Op → Bool
  due_may r k = option_map_or (λ o. breaks_surely m f p.link (bare o p.beat) r) k (is_f1 r) || option_map_or (λ o. asks m f.past p.link (bare o p.beat) r) k false

  rest_never : (r : Rule) → is_of_later r ≡ false → (x : Reading) → is_due x ≡ false → may_break m f p r x ≡ false
  rest_never r h due e = cc
  rest_never r h (rest missing (Some head)) e = nothing_else m f p r h missing (Some head)
  rest_never rule.F5 h (rest missing None) e = cc
  rest_never rule.F7 h (rest missing None) e = cc
  rest_never rule.U1 h (rest missing None) e = cc
  rest_never _ h (rest missing None) e = refl

  never_may : (r : Rule) → is_of_later r ≡ false → may_begin readings ≡ false → list_any (may_break m f p r) readings ≡ false
  never_may r h none = iff_same (list_any (may_break m f p r) readings) false
      (λ g. (let known = passing (may_break m f p r) readings g in
      let other : is_due known.0 ≡ false = elim (is_due known.0) as (λ b. is_due known.0 ≡ b → b ≡ false) [
        | true ↦ λ e. sym (some_passes is_due readings known.0 known.1 e) ∙ none
        | false ↦ λ e. refl
      ] refl in
      sym (rest_never r h known.0 other) ∙ known.2))
      (λ g. cc)

  may_is : (r : Rule) → is_of_later r ≡ false → may_begin readings ≡ true → list_any (may_break m f p r) readings ≡ due_may r found
  may_is r h some = iff_same (list_any (may_break m f p r) readings) (due_may r found)
      (λ g. (let known = passing (may_break m f p r) readings g in
      elim (is_due known.0) as (λ b. is_due known.0 ≡ b → due_may r found ≡ true) [
        | true ↦ λ e. ap (may_break m f p r) (sym (due_is known.0 e)) ∙ known.2
        | false ↦ λ e. (let clash : false ≡ true = sym (rest_never r h known.0 e) ∙ known.2 in cc)
      ] refl))
      (λ g. (let known = passing is_due readings some in
      some_passes (may_break m f p r) readings known.0 known.1 (ap (may_break m f p r) (due_is known.0 known.2) ∙ g)))

  -- A later beat: the rule leaves nothing open.
  pub none_unjudged : (r : Rule) → is_of_later r ≡ false → may_begin readings ≡ false → false ≡ (list_any (may_break m f p r) readings && not (list_all (breaks_by m f p r) readings))
  none_unjudged r h none = sym (ap (λ b. b && not (list_all (breaks_by m f p r) readings)) (never_may r h none))

  asks_no_format : (o : Op) (r : Rule) → asks m f.past p.link (bare o p.beat) r ≡ true → breaks_format m.exponent m.regions link o p.beat r ≡ false
  asks_no_format o rule.F2 h = cc
  asks_no_format o rule.F3 h = cc
  asks_no_format o rule.F4 h = cc
  asks_no_format o rule.F5 h = cc
  asks_no_format o rule.F6 h = cc
  asks_no_format o rule.F7 h = cc
  asks_no_format o rule.F8 h = cc
  asks_no_format o rule.F9 h = cc
  asks_no_format o rule.F10 h = cc
  asks_no_format o _ h = refl

  abbrev flow : Op → Rule → Bool
  flow o r = breaks_flow_surely (f.past p.link).flow (known_request (f.past p.link).flow (bare o p.beat)) (bare o p.beat) r

  abbrev permission : Op → Rule → Bool
  permission o r = permission_surely link.strict m f p.link (bare o p.beat) r

  abbrev across : Op → Rule → Bool
  across o r = breaks_manager_surely m.clients m.exponent f.past (grant_open f) p.link (known_request (f.past p.link).flow (bare o p.beat)) (bare o p.beat) r

  -- A certain head.
  head_cases : (r : Rule) (k : Option Op) → (due_may r k && not (option_map_or (λ o. breaks_surely m f p.link (bare o p.beat) r) k (is_f1 r)))
      ≡ option_map_or (λ o. asks m f.past p.link (bare o p.beat) r && not (message_surely m f p.link (bare o p.beat) r)) k false
  head_cases r None = never_both (is_f1 r)
  head_cases r (Some o) =
      open_of_three (breaks_format m.exponent m.regions link o p.beat r) (flow o r) (permission o r) (across o r) (asks m f.past p.link (bare o p.beat) r) (asks_no_format o r)

  pub head_unjudged : (r : Rule) → is_of_later r ≡ false → must_begin readings ≡ true → may_begin readings ≡ true
      → head_open m start before p r ≡ (list_any (may_break m f p r) readings && not (list_all (breaks_by m f p r) readings))
  head_unjudged r h must may =
      let all : list_all (breaks_by m f p r) readings ≡ breaks_by m f p r due =
      all_same (breaks_by m f p r) readings (due ∷ []) (only_due readings must may) ∙ and_true (breaks_by m f p r due) in
      sym (head_cases r found) ∙ (λ i. sym (may_is r h may) i && not (sym all i))

  -- A beat that may be a later one.
  may_cases : (r : Rule) (k : Option Op) → due_may r k
      ≡ (option_map_or (λ o. asks m f.past p.link (bare o p.beat) r || message_surely m f p.link (bare o p.beat) r) k false || format_of m link p.beat r k)
  may_cases r None = or_false (is_f1 r)
  may_cases r (Some o) =
      may_of_three (breaks_format m.exponent m.regions link o p.beat r) (flow o r) (permission o r) (across o r) (asks m f.past p.link (bare o p.beat) r)

  other_fails : (r : Rule) → is_of_later r ≡ false → (x : Reading) → is_due x ≡ false → breaks_by m f p r x ≡ false
  other_fails r h due e = cc
  other_fails r h (rest missing head) e = nothing_else m f p r h missing head

  pub maybe_unjudged : (r : Rule) → is_of_later r ≡ false → must_begin readings ≡ false → may_begin readings ≡ true
      → (head_may m start before p r || is_among (format_rules m.exponent m.regions link p.beat found) r)
      ≡ (list_any (may_break m f p r) readings && not (list_all (breaks_by m f p r) readings))
  maybe_unjudged r h must may =
      let other = some_fails m f p readings must in
      let none : list_all (breaks_by m f p r) readings ≡ false = one_fails m f p (breaks_by m f p r) readings other.0 other.1 (other_fails r h other.0 other.2) in
      ap (λ b. head_may m start before p r || b) (formats_among m link p.beat r found) ∙ sym (may_cases r found) ∙ sym (may_is r h may)
      ∙ sym (and_true (list_any (may_break m f p r) readings)) ∙ (λ i. list_any (may_break m f p r) readings && not (sym none i))

-- ---- of the link as it is declared

pub open_same : (m : Manager) (p : Placed) (link : LinkDecl) → m.links p.link ≡ link → (r : Rule) (xs ys : List Reading) → SameMembers xs ys
    → later_open link p.beat r xs ≡ later_open (m.links p.link) p.beat r ys
open_same m p link declared r xs ys same =
    (λ i. any_same (may_as link p.beat r) xs ys same i && not (all_same (breaks_as link p.beat r) xs ys same i)) ∙ ap (λ d. later_open d p.beat r ys) (sym declared)

pub format_same : (m : Manager) (p : Placed) (link : LinkDecl) (areas : List Area) (exponent : ℕ) → m.links p.link ≡ link → m.regions ≡ areas → exponent ≡ m.exponent → (r : Rule)
    → is_among (format_rules exponent areas link p.beat (message_of link p.beat)) r ≡ is_among (format_rules m.exponent m.regions (m.links p.link) p.beat (message_of (m.links p.link) p.beat)) r
format_same m p link areas exponent declared regions power r =
    ap (λ e. is_among (format_rules e areas link p.beat (message_of link p.beat)) r) power
    ∙ ap (λ xs. is_among (format_rules m.exponent xs link p.beat (message_of link p.beat)) r) (sym regions)
    ∙ ap (λ d. is_among (format_rules m.exponent m.regions d p.beat (message_of d p.beat)) r) (sym declared)

-- ---- a later beat of a head of the capture

sole_judged : (b : Bool) → ((b || false) && not (b && true)) ≡ false
sole_judged true = refl
sole_judged false = refl

pub settled_judged : (m : Manager) (start : Beginning) (before : List Placed) (p : Placed) (r : Rule) (xs ys : List Reading) (head : Beat) (missing : ℕ) → xs ≡ rest missing (Some head) ∷ [] → SameMembers xs ys
    → (list_any (may_break m (front m start before) p r) ys && not (list_all (breaks_by m (front m start before) p r) ys)) ≡ false
settled_judged m start before p r xs ys head missing is same =
    let may : Reading → Bool = may_break m (front m start before) p r in
    let by : Reading → Bool = breaks_by m (front m start before) p r in
    (λ i. sym (any_same may xs ys same) i && not (sym (all_same by xs ys same) i)) ∙ ap (λ zs. list_any may zs && not (list_all by zs)) is ∙ sole_judged (by (rest missing (Some head)))

-- ---- a head about which nothing is asked

asked_judged : (b a : Bool) → a ≡ false → (((b || a) || false) && not (b && true)) ≡ false
asked_judged true true h = cc
asked_judged true false h = refl
asked_judged false true h = cc
asked_judged false false h = refl

pub plain_judged : (m : Manager) (start : Beginning) (before : List Placed) (p : Placed) (r : Rule) (ys : List Reading) → must_begin ys ≡ true → may_begin ys ≡ true → head_asks m start before p r ≡ false
    → (list_any (may_break m (front m start before) p r) ys && not (list_all (breaks_by m (front m start before) p r) ys)) ≡ false
plain_judged m start before p r ys must may none =
    let test : Reading → Bool = may_break m (front m start before) p r in
    let by : Reading → Bool = breaks_by m (front m start before) p r in
    let same = only_due ys must may in
    (λ i. any_same test ys (due ∷ []) same i && not (all_same by ys (due ∷ []) same i)) ∙ asked_judged (by due) (head_asks m start before p r) none
