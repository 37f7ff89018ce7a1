-- The rules that are printed of a beat, by what it is.
use Rattle.std.proofs.Common.{◌≡◌, ℕ, ◌==◌, ◌&&◌, ◌||◌, inl, inr, Bool, true, false, cond, List, [], ◌∷◌, ◌++◌, Option, Some, None, refl, sym, ap, subst, ◌∙◌, arith}
use Rattle.std.specs.Prelude.{not, filter}
use Rattle.std.specs.List.{Contains, list_all}
use Rattle.std.specs.Option.{option_map_or}
use Rattle.std.proofs.lemmas.Bool.Decides.{nat_tests}
use Rattle.std.proofs.lemmas.List.Elements.{filter_agree}
use Rattle.tl_tables.specs.declared.Op.{Op}
use Rattle.tl_tables.specs.declared.Chan.TheVariants as chan
use Rattle.tl_tables.specs.declared.Rule.{Rule}
use Rattle.tl_tables.specs.declared.Rule.TheVariants as rule
use Rattle.tl_tables.specs.Messages.{same_chan}
use Rattle.tl_topology.specs.declared.LinkDecl.{LinkDecl}
use Rattle.tl_beats.specs.declared.Beat.{Beat}
use Rattle.tl_beats.specs.declared.Placed.{Placed}
use Rattle.tl_definitions.specs.Heads.{message_of}
use Rattle.tl_definitions.specs.Messages.{Message}
use Rattle.tl_definitions.specs.Rules.{Manager, breaks_format, format_order, flow_order, permission_order, manager_order, breaks_mask, breaks_denied}
use Rattle.tl_definitions.specs.Breaks.{same_bit, same_request, same_reply, is_alike, breaks_later}
use Rattle.tl_definitions.specs.Readings.{Reading, due, rest, is_due, may_begin, must_begin}
use Rattle.tl_definitions.specs.Known.{bare, known_request}
use Rattle.tl_definitions.specs.Printed.{Front, grant_open, breaks_flow_surely, breaks_manager_surely, breaks_surely, breaks_by, is_f1, beat_rules, printed_of}
use Rattle.tl_definitions.proofs.Bursts.{all_pass, passing}
use Rattle.tl_definitions.proofs.Lists.{contains_none, contains_here, contains_there, contains_cases, kept_of_both}
use Rattle.tl_midway.specs.Members.{SameMembers}
use Rattle.tl_midway.specs.Reading.{breaks_as}
use Rattle.tl_midway.specs.Standing.{later_broken}
use Rattle.tl_midway.specs.KnownLink.{permission_surely}
use Rattle.tl_midway.specs.KnownPasts.{message_broken}
use Rattle.tl_midway.proofs.MemberLaws.{all_same}
use Rattle.tl_midway.proofs.ReadingLaws.{due_is}

-- ---- one answer of four

only_first : (a b c d : Bool) → b ≡ false → c ≡ false → d ≡ false → (a || b || c || d) ≡ a
only_first true b c d g h i = refl
only_first false false false false g h i = refl
only_first false true c d g h i = cc
only_first false false true d g h i = cc
only_first false false false true g h i = cc

only_second : (a b c d : Bool) → a ≡ false → c ≡ false → d ≡ false → (a || b || c || d) ≡ b
only_second false true c d g h i = refl
only_second false false false false g h i = refl
only_second true b c d g h i = cc
only_second false false true d g h i = cc
only_second false false false true g h i = cc

only_third : (a b c d : Bool) → a ≡ false → b ≡ false → d ≡ false → (a || b || c || d) ≡ c
only_third false false true d g h i = refl
only_third false false false false g h i = refl
only_third true b c d g h i = cc
only_third false true c d g h i = cc
only_third false false false true g h i = cc

only_fourth : (a b c d : Bool) → a ≡ false → b ≡ false → c ≡ false → (a || b || c || d) ≡ d
only_fourth false false false true g h i = refl
only_fourth false false false false g h i = refl
only_fourth true b c d g h i = cc
only_fourth false true c d g h i = cc
only_fourth false false true d g h i = cc

filter_within : (p q : Rule → Bool) (rs : List Rule) → ((r : Rule) → Contains rs r → p r ≡ q r) → filter p rs ≡ filter q rs
filter_within p q [] same = refl
filter_within p q (r ∷ rs) same =
    ap (λ b. cond b (r ∷ filter p rs) (filter p rs)) (same r (contains_here r rs))
    ∙ ap (λ xs. cond (q r) (r ∷ xs) xs) (filter_within p q rs (λ x c. same x (contains_there r rs x c)))

is_not : (b : Bool) → not b ≡ true → b ≡ false
is_not true h = cc
is_not false h = refl

never : (q : Rule → Bool) (rs : List Rule) (r : Rule) → list_all (λ x. not (q x)) rs ≡ true → Contains rs r → q r ≡ false
never q rs r none c = is_not (q r) (all_pass (λ x. not (q x)) rs r none c)

-- ---- a certain head

and_true : (b : Bool) → (b && true) ≡ b
and_true true = refl
and_true false = refl

pub only_due : (readings : List Reading) → must_begin readings ≡ true → may_begin readings ≡ true → SameMembers readings (due ∷ [])
only_due readings must may = record {
  there = λ x c. subst (Contains (due ∷ [])) (sym (due_is x (all_pass is_due readings x must c))) (contains_here due []);
  back = λ x c. elim (contains_cases due [] x c) [
    | inl e ↦ (let found = passing is_due readings may in subst (Contains readings) (due_is found.0 found.2 ∙ e) found.1)
    | inr r ↦ absurd (contains_none x r)
  ];
}

module _ (m : Manager) (f : Front) (p : Placed) where
  abbrev link : LinkDecl
  link = m.links p.link

  module _ (o : Op) where
    abbrev message : Message
    message = bare o p.beat

    abbrev format : Rule → Bool
    format = breaks_format m.exponent m.regions link o p.beat

    abbrev flow : Rule → Bool
    flow = breaks_flow_surely (f.past p.link).flow (known_request (f.past p.link).flow message) message

    abbrev permission : Rule → Bool
    permission = permission_surely link.strict m f p.link message

    abbrev across : Rule → Bool
    across = breaks_manager_surely m.clients m.exponent f.past (grant_open f) p.link (known_request (f.past p.link).flow message) message

    message_rules : filter (breaks_surely m f p.link message) beat_rules ≡ filter format format_order ++ message_broken link.strict m f p.link message
    message_rules =
        let all : Rule → Bool = breaks_surely m f p.link message in
        let on_format : filter all format_order ≡ filter format format_order = filter_within all format format_order
        (λ r c. only_first (format r) (flow r) (permission r) (across r) (never flow format_order r refl c) (never permission format_order r refl c) (never across format_order r refl c)) in
        let on_flow : filter all flow_order ≡ filter flow flow_order = filter_within all flow flow_order
        (λ r c. only_second (format r) (flow r) (permission r) (across r) (never format flow_order r refl c) (never permission flow_order r refl c) (never across flow_order r refl c)) in
        let on_permission : filter all permission_order ≡ filter permission permission_order = filter_within all permission permission_order
        (λ r c. only_third (format r) (flow r) (permission r) (across r) (never format permission_order r refl c) (never flow permission_order r refl c) (never across permission_order r refl c)) in
        let on_manager : filter all manager_order ≡ filter across manager_order = filter_within all across manager_order
        (λ r c. only_fourth (format r) (flow r) (permission r) (across r) (never format manager_order r refl c) (never flow manager_order r refl c) (never permission manager_order r refl c)) in
        kept_of_both all format_order (flow_order ++ permission_order ++ manager_order)
        ∙ (λ i. on_format i ++ (kept_of_both all (flow_order ++ permission_order) manager_order ∙ (λ j. (kept_of_both all flow_order permission_order ∙ (λ k. on_flow k ++ on_permission k)) j ++ on_manager j)) i)

  -- The rules of a certain head: its format rules, then those of its message.
  abbrev pub head_broken : Option Op → List Rule
  head_broken None = rule.F1 ∷ []
  head_broken (Some o) = filter (breaks_format m.exponent m.regions link o p.beat) format_order ++ message_broken link.strict m f p.link (bare o p.beat)

  pub head_printed : (readings : List Reading) → must_begin readings ≡ true → may_begin readings ≡ true → printed_of m f readings p ≡ head_broken (message_of link p.beat)
  head_printed readings must may =
      filter_agree (λ r. list_all (breaks_by m f p r) readings) (λ r. breaks_by m f p r due)
      (λ r. all_same (breaks_by m f p r) readings (due ∷ []) (only_due readings must may) ∙ and_true (breaks_by m f p r due)) beat_rules
      ∙ elim (message_of link p.beat) as (λ found. filter (λ r. option_map_or (λ o. breaks_surely m f p.link (bare o p.beat) r) found (is_f1 r)) beat_rules ≡ head_broken found) [
        | None ↦ refl
        | Some o ↦ message_rules o
      ]

  -- ---- a beat that may be a later one

  number_itself : (n : ℕ) → (n == n) ≡ true
  number_itself n = grind (arith, nat_tests)

  bit_itself : (b : Bool) → same_bit b b ≡ true
  bit_itself true = refl
  bit_itself false = refl

  alike_itself : (beat : Beat) → is_alike beat beat ≡ true
  alike_itself beat = elim (same_chan beat.chan chan.D) as (λ t. cond t (same_reply beat beat) (same_request beat beat) ≡ true) [
    | true ↦ λ i. number_itself beat.opcode i && number_itself beat.param i && number_itself beat.size i && number_itself beat.source i && number_itself beat.sink i && bit_itself beat.denied i
    | false ↦ λ i. number_itself beat.opcode i && number_itself beat.param i && number_itself beat.size i && number_itself beat.source i && number_itself beat.address i
  ]

  -- A head breaks F5, F7 and U1 as a later beat of itself.
  pub agree_f5 : (x : Reading) → breaks_by m f p rule.F5 x ≡ breaks_as link p.beat rule.F5 x
  agree_f5 due = elim (message_of link p.beat) as (λ found. option_map_or (λ o. breaks_surely m f p.link (bare o p.beat) rule.F5) found false ≡ option_map_or (λ o. breaks_later link o p.beat p.beat rule.F5) found false) [
    | None ↦ refl
    | Some o ↦ only_first (breaks_mask link o p.beat p.beat) false false false refl refl refl
  ]
  agree_f5 (rest missing None) = refl
  agree_f5 (rest missing (Some head)) = refl

  pub agree_f7 : (x : Reading) → breaks_by m f p rule.F7 x ≡ breaks_as link p.beat rule.F7 x
  agree_f7 due = elim (message_of link p.beat) as (λ found. option_map_or (λ o. breaks_surely m f p.link (bare o p.beat) rule.F7) found false ≡ option_map_or (λ o. breaks_later link o p.beat p.beat rule.F7) found false) [
    | None ↦ refl
    | Some o ↦ only_first (breaks_denied o p.beat p.beat) false false false refl refl refl
  ]
  agree_f7 (rest missing None) = refl
  agree_f7 (rest missing (Some head)) = refl

  pub agree_u1 : (x : Reading) → breaks_by m f p rule.U1 x ≡ breaks_as link p.beat rule.U1 x
  agree_u1 due = elim (message_of link p.beat) as (λ found. option_map_or (λ o. breaks_surely m f p.link (bare o p.beat) rule.U1) found false ≡ option_map_or (λ o. breaks_later link o p.beat p.beat rule.U1) found false) [
    | None ↦ refl
    | Some o ↦ sym (ap not (alike_itself p.beat))
  ]
  agree_u1 (rest missing None) = refl
  agree_u1 (rest missing (Some head)) = refl

  abbrev is_later : Rule → Bool
  is_later rule.F5 = true
  is_later rule.F7 = true
  is_later rule.U1 = true
  is_later _ = false

  -- A later beat breaks no other rule.
  pub nothing_else : (r : Rule) → is_later r ≡ false → (missing : ℕ) (head : Option Beat) → breaks_by m f p r (rest missing head) ≡ false
  nothing_else rule.F5 h missing head = cc
  nothing_else rule.F7 h missing head = cc
  nothing_else rule.U1 h missing head = cc
  nothing_else _ h missing None = refl
  nothing_else _ h missing (Some head) = elim (message_of link head) as (λ found. option_map_or (λ (o : Op). false) found false ≡ false) [ None ↦ refl | Some o ↦ refl ]

  pub one_fails : (test : Reading → Bool) (readings : List Reading) (x : Reading) → Contains readings x → test x ≡ false → list_all test readings ≡ false
  one_fails test readings x c h = elim (list_all test readings) as (λ b. list_all test readings ≡ b → b ≡ false) [
    | true ↦ λ e. (let passes : test x ≡ true = all_pass test readings x e c in cc)
    | false ↦ λ e. refl
  ] refl

  pub some_fails : (readings : List Reading) → must_begin readings ≡ false → (x : Reading) × Contains readings x × (is_due x ≡ false)
  some_fails [] h = cc
  some_fails (x ∷ readings) h = elim (is_due x) as (λ b. is_due x ≡ b → (b && must_begin readings) ≡ false → (y : Reading) × Contains (x ∷ readings) y × (is_due y ≡ false)) [
    | true ↦ λ e g. (let found = some_fails readings g in (found.0, contains_there x readings found.0 found.1, found.2))
    | false ↦ λ e g. (x, contains_here x readings, e)
  ] refl h

  other_reading : (r : Rule) → is_later r ≡ false → (x : Reading) → is_due x ≡ false → breaks_by m f p r x ≡ false
  other_reading r h due e = cc
  other_reading r h (rest missing head) e = nothing_else r h missing head

  all_agree : (readings : List Reading) → must_begin readings ≡ false → (r : Rule) → list_all (breaks_by m f p r) readings ≡ (is_later r && list_all (breaks_as link p.beat r) readings)
  all_agree readings must rule.F5 = λ i. list_all (λ x. agree_f5 x i) readings
  all_agree readings must rule.F7 = λ i. list_all (λ x. agree_f7 x i) readings
  all_agree readings must rule.U1 = λ i. list_all (λ x. agree_u1 x i) readings
  all_agree readings must r = (let found = some_fails readings must in one_fails (breaks_by m f p r) readings found.0 found.1 (other_reading r refl found.0 found.2))

  pub later_printed : (readings : List Reading) → must_begin readings ≡ false → printed_of m f readings p ≡ later_broken link p.beat readings
  later_printed readings must =
      filter_agree (λ r. list_all (breaks_by m f p r) readings) (λ r. is_later r && list_all (breaks_as link p.beat r) readings) (all_agree readings must) beat_rules
