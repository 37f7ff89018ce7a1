-- What is unfinished on a channel is among its readings.
use Rattle.std.proofs.Common.{◌≡◌, ℕ, zero, suc, ◌-◌, ◌<◌, ◌≤◌, inl, inr, ◌&&◌, ◌||◌, Bool, true, false, cond, List, [], ◌∷◌, map, Option, Some, None, refl, sym, ap, subst, ◌∙◌, arith}
use Rattle.std.specs.Prelude.{nat_lt, ◌==◌}
use Rattle.std.specs.List.{Contains, AllByRecursion, list_any, list_all}
use Rattle.std.proofs.lemmas.Bool.Decides.{nat_tests}
use Rattle.std.proofs.lemmas.List.Elements.{Contains-append_right}
use Rattle.tl_tables.specs.declared.Chan.{Chan}
use Rattle.tl_tables.specs.Messages.{same_chan}
use Rattle.tl_topology.specs.declared.LinkDecl.{LinkDecl}
use Rattle.tl_beats.specs.declared.Beat.{Beat}
use Rattle.tl_beats.specs.declared.Placed.{Placed}
use Rattle.tl_definitions.specs.declared.Unfinished.{Unfinished}
use Rattle.tl_definitions.specs.Heads.{before_on, beat_count, unfinished, left, after_beat}
use Rattle.tl_definitions.proofs.HeadLaws.{unfinished_is_the_rest}
use Rattle.tl_definitions.proofs.Lists.{contains_none, contains_here, contains_there, contains_cases, contains_mapped, all_of}
use Rattle.tl_definitions.specs.Readings.{Reading, due, rest, lacking, reading_after, first_readings}
use Rattle.tl_definitions.specs.Lawful.{missing_in, AllowsBurst}
use Rattle.tl_definitions.proofs.Sure.{and_parts}

module _ {X : Type 0} where
  -- A test that all members pass, some member passes.
  pub all_pass : (test : X → Bool) (xs : List X) (x : X) → list_all test xs ≡ true → Contains xs x → test x ≡ true
  all_pass test [] x h c = absurd (contains_none x c)
  all_pass test (y ∷ ys) x h c = let parts = and_parts (test y) (list_all test ys) h in elim (contains_cases y ys x c) [
    | inl e ↦ subst (λ z. test z ≡ true) e parts.0
    | inr r ↦ all_pass test ys x parts.1 r
  ]

  pub some_passes : (test : X → Bool) (xs : List X) (x : X) → Contains xs x → test x ≡ true → list_any test xs ≡ true
  some_passes test [] x c t = absurd (contains_none x c)
  some_passes test (y ∷ ys) x c t =
      elim (test y) as (λ b. test y ≡ b → (b || list_any test ys) ≡ true) [
        | true ↦ λ e. refl
        | false ↦ λ e. elim (contains_cases y ys x c) [
          | inl same ↦ (let clash : true ≡ false = sym t ∙ sym (ap test same) ∙ e in cc)
          | inr r ↦ some_passes test ys x r t
        ]
      ] refl

  -- Some member passes.
  pub passing : (test : X → Bool) (xs : List X) → list_any test xs ≡ true → (x : X) × Contains xs x × (test x ≡ true)
  passing test [] h = cc
  passing test (y ∷ ys) h =
      elim (test y) as (λ b. test y ≡ b → (b || list_any test ys) ≡ true → (x : X) × Contains (y ∷ ys) x × (test x ≡ true)) [
        | true ↦ λ e _. (y, contains_here y ys, e)
        | false ↦ λ e g. (let known = passing test ys g in (known.0, contains_there y ys known.0 known.1, known.2))
      ] refl h

-- A reading after one more beat allows what is then unfinished.
lacks : (link : LinkDecl) (chan : Chan) (readings : List Reading) (head : Beat) (missing : ℕ) → Contains readings (lacking missing (Some head)) → AllowsBurst link chan readings (left head missing)
lacks link chan readings head missing c =
    elim (nat_lt 0 missing) as (λ t. nat_lt 0 missing ≡ t → Contains readings (cond t (rest missing (Some head)) due) → AllowsBurst link chan readings (cond t (Some (record { head = head; missing = missing })) None)) [
      | true ↦ λ e d. (let some : 0 < missing = grind (arith, nat_tests) in (some, inl d))
      | false ↦ λ e d. d
    ] refl c

lacks_past : (link : LinkDecl) (chan : Chan) (readings : List Reading) (head : Beat) (missing : ℕ) → Contains readings (lacking missing None) → missing < beat_count link head → same_chan head.chan chan ≡ true
    → AllowsBurst link chan readings (left head missing)
lacks_past link chan readings head missing c more on =
    elim (nat_lt 0 missing) as (λ t. nat_lt 0 missing ≡ t → Contains readings (cond t (rest missing None) due) → AllowsBurst link chan readings (cond t (Some (record { head = head; missing = missing })) None)) [
      | true ↦ λ e d. (let some : 0 < missing = grind (arith, nat_tests) in (some, inr (d, more, on)))
      | false ↦ λ e d. d
    ] refl c

pub burst_moves : (link : LinkDecl) (chan : Chan) (beat : Beat) (readings : List Reading) (burst : Option Unfinished) → AllowsBurst link chan readings burst
    → AllowsBurst link chan (map (reading_after link beat) readings) (after_beat link beat burst)
burst_moves link chan beat readings None a = lacks link chan (map (reading_after link beat) readings) beat (beat_count link beat - 1) (contains_mapped (reading_after link beat) readings due a)
burst_moves link chan beat readings (Some burst) a = elim (a.1) [
  | inl c ↦ lacks link chan (map (reading_after link beat) readings) burst.head (burst.missing - 1) (contains_mapped (reading_after link beat) readings (rest burst.missing (Some burst.head)) c)
  | inr p ↦ (let fewer : burst.missing - 1 < beat_count link burst.head = (let more = p.1 in omega arith) in
      lacks_past link chan (map (reading_after link beat) readings) burst.head (burst.missing - 1) (contains_mapped (reading_after link beat) readings (rest burst.missing None) p.0) fewer p.2)
]

-- The first readings.
pub due_first : (most : ℕ) → Contains (first_readings most) due
due_first zero = contains_here due []
due_first (suc most) = contains_there (rest (suc most) None) (first_readings most) due (due_first most)

pub rest_first : (most missing : ℕ) → 0 < missing → missing ≤ most → Contains (first_readings most) (rest missing None)
rest_first zero missing some le = absurd (omega arith)
rest_first (suc most) missing some le =
    elim (missing == suc most) as (λ t. (missing == suc most) ≡ t → Contains (rest (suc most) None ∷ first_readings most) (rest missing None)) [
      | true ↦ λ e. (let same : suc most ≡ missing = grind (arith, nat_tests) in
          subst (λ k. Contains (rest (suc most) None ∷ first_readings most) (rest k None)) same (contains_here (rest (suc most) None) (first_readings most)))
      | false ↦ λ e. (let less : missing ≤ most = grind (arith, nat_tests) in
          contains_there (rest (suc most) None) (first_readings most) (rest missing None) (rest_first most missing some less))
    ] refl

-- The beats of a channel are of the channel.
pub on_channel : (link : ℕ) (chan : Chan) (before : List Placed) → AllByRecursion (λ (b : Beat). same_chan b.chan chan ≡ true) (before_on link chan before)
on_channel link chan [] = tt
on_channel link chan (p ∷ before) =
    elim ((p.link == link) && same_chan p.beat.chan chan) as (λ t. ((p.link == link) && same_chan p.beat.chan chan) ≡ t
    → AllByRecursion (λ (b : Beat). same_chan b.chan chan ≡ true) (cond t (p.beat ∷ before_on link chan before) (before_on link chan before))) [
      | true ↦ λ e. ((and_parts (p.link == link) (same_chan p.beat.chan chan) e).1, on_channel link chan before)
      | false ↦ λ e. on_channel link chan before
    ] refl

pub burst_first : (link : LinkDecl) (number : ℕ) (chan : Chan) (most : ℕ) (before : List Placed) → missing_in (unfinished link (before_on number chan before)) ≤ most
    → AllowsBurst link chan (first_readings most) (unfinished link (before_on number chan before))
burst_first link number chan most before le =
    elim (unfinished link (before_on number chan before)) as (λ u. unfinished link (before_on number chan before) ≡ u → missing_in u ≤ most → AllowsBurst link chan (first_readings most) u) [
      | None ↦ λ e l. due_first most
      | Some burst ↦ λ e l. (let known = unfinished_is_the_rest link (before_on number chan before) burst e in
          let fewer : burst.missing < beat_count link burst.head = (let all = known.4 in omega arith) in
          let member : Contains (before_on number chan before) burst.head =
          subst (λ bs. Contains bs burst.head) (sym known.2) (Contains-append_right known.0 (burst.head ∷ known.1) burst.head (contains_here burst.head known.1)) in
          (known.5, inr (rest_first most burst.missing known.5 l, fewer, all_of (λ (b : Beat). same_chan b.chan chan ≡ true) (before_on number chan before) (on_channel number chan before) burst.head member)))
    ] refl le
