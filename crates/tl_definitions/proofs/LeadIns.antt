-- Lead-ins: they are a front of the channel's beats, and the fields of their beats drop no reading by which the beats are alike.
use Rattle.std.proofs.Common.{◌≡◌, ℕ, zero, suc, ◌+◌, ◌-◌, ◌/◌, ◌^◌, ◌<◌, ◌⊎◌, inl, inr, ◌==◌, ◌&&◌, ◌||◌, max, Bool, true, false, cond, List, [], ◌∷◌, length, map, Option, Some, None, refl, sym, ap, subst, ◌∙◌, arith}
use Rattle.std.specs.Prelude.{nat_lt, nat_le, not, filter}
use Rattle.std.specs.Option.{option_map_or}
use Rattle.std.specs.List.{Contains, AllByRecursion, list_any}
use Rattle.std.proofs.lemmas.Bool.Decides.{nat_tests}
use Rattle.tl_tables.specs.declared.Chan.{Chan}
use Rattle.tl_tables.specs.declared.Chan.TheVariants as chan
use Rattle.tl_tables.specs.Messages.{same_chan, carries_data_of, op_at}
use Rattle.tl_topology.specs.declared.LinkDecl.{LinkDecl}
use Rattle.tl_beats.specs.declared.Beat.{Beat}
use Rattle.tl_definitions.specs.declared.Unfinished.{Unfinished}
use Rattle.tl_definitions.specs.Heads.{message_of, beat_count, left, after_beat}
use Rattle.tl_definitions.specs.Breaks.{same_bit, same_request, same_reply, is_alike}
use Rattle.tl_definitions.proofs.HeadLaws.{positive}
use Rattle.tl_definitions.proofs.Lists.{contains_none, contains_mapped, mapped_from, contains_kept, kept_from, all_of}
use Rattle.tl_definitions.specs.Readings.{Reading, due, rest, missing_of, lacking, reading_after, first_readings, in_lead_in, first_of, has_data, is_refuted, or_all, told, readings_after}
use Rattle.tl_definitions.specs.Lawful.{AllowsBurst}
use Rattle.tl_definitions.proofs.Sure.{and_parts}
use Rattle.tl_definitions.proofs.Bursts.{some_passes, passing}
use Rattle.tl_definitions.proofs.Judged.{has_later}

-- A message that isn't over lacks some beat.
abbrev Lacks : Reading → Type 0
Lacks due = Unit {0}
Lacks (rest missing head) = 0 < missing

lacking_lacks : (missing : ℕ) (head : Option Beat) → Lacks (lacking missing head)
lacking_lacks missing head =
    elim (nat_lt 0 missing) as (λ t. nat_lt 0 missing ≡ t → Lacks (cond t (rest missing head) due)) [
      | true ↦ λ e. (let some : 0 < missing = grind (arith, nat_tests) in some)
      | false ↦ λ e. tt
    ] refl

first_lack : (most : ℕ) → AllByRecursion Lacks (first_readings most)
first_lack zero = (tt, tt)
first_lack (suc most) = (omega arith, first_lack most)

one_lacks : (link : LinkDecl) (beat : Beat) (reading : Reading) → Lacks (reading_after link beat reading)
one_lacks link beat due = lacking_lacks (beat_count link beat - 1) (Some beat)
one_lacks link beat (rest missing head) = lacking_lacks (missing - 1) head

after_lack : (link : LinkDecl) (beat : Beat) (readings : List Reading) → AllByRecursion Lacks (map (reading_after link beat) readings)
after_lack link beat [] = tt
after_lack link beat (reading ∷ readings) = (one_lacks link beat reading, after_lack link beat readings)

readings_lack : (link : LinkDecl) (most : ℕ) (by_fields : Bool) (before : List Beat) → AllByRecursion Lacks (readings_after link most by_fields before)
readings_lack link most by_fields [] = first_lack most
readings_lack link most by_fields (beat ∷ before) = after_lack link beat (told by_fields link beat before (readings_after link most by_fields before))

missing_lacking : (missing : ℕ) (head : Option Beat) → missing_of (lacking missing head) ≡ missing
missing_lacking missing head =
    elim (nat_lt 0 missing) as (λ t. nat_lt 0 missing ≡ t → missing_of (cond t (rest missing head) due) ≡ missing) [
      | true ↦ λ e. refl
      | false ↦ λ e. (let none : missing ≡ 0 = grind (arith, nat_tests) in sym none)
    ] refl

-- Readings that lack as many beats do so after one more.
same_after : (link : LinkDecl) (beat : Beat) (one other : Reading) → Lacks one → Lacks other → missing_of one ≡ missing_of other
    → missing_of (reading_after link beat one) ≡ missing_of (reading_after link beat other)
same_after link beat due due a b e = refl
same_after link beat due (rest missing head) a b e = let none : missing ≡ 0 = sym e in let some : 0 < missing = b in absurd (omega arith)
same_after link beat (rest missing head) due a b e = let none : missing ≡ 0 = e in let some : 0 < missing = a in absurd (omega arith)
same_after link beat (rest missing head) (rest fewer other) a b e = missing_lacking (missing - 1) head ∙ ap (λ n. n - 1) e ∙ sym (missing_lacking (fewer - 1) other)

-- Two readings that lack other numbers of beats, among a list of them.
pair_leads : (readings : List Reading) (one other : Reading) → Contains readings one → Contains readings other → not (missing_of one == missing_of other) ≡ true → in_lead_in readings ≡ true
pair_leads readings one other c d h =
    some_passes (λ x. list_any (λ y. not (missing_of x == missing_of y)) readings) readings one c
    (some_passes (λ y. not (missing_of one == missing_of y)) readings other d h)

lead_pair : (readings : List Reading) → in_lead_in readings ≡ true
    → (one other : Reading) × Contains readings one × Contains readings other × (not (missing_of one == missing_of other) ≡ true)
lead_pair readings h =
    let first = passing (λ x. list_any (λ y. not (missing_of x == missing_of y)) readings) readings h in
    let second = passing (λ y. not (missing_of first.0 == missing_of y)) readings first.2 in
    (first.0, second.0, first.1, second.1, second.2)

differ_before : (a b c d : ℕ) → (a ≡ b → c ≡ d) → not (c == d) ≡ true → not (a == b) ≡ true
differ_before a b c d f h =
    elim (a == b) as (λ t. (a == b) ≡ t → not t ≡ true) [
      | true ↦ λ e. (let same : a ≡ b = grind (arith, nat_tests) in let too : c ≡ d = f same in let is : (c == d) ≡ true = grind (arith, nat_tests) in let clash : false ≡ true = sym (ap not is) ∙ h in clash)
      | false ↦ λ e. refl
    ] refl

from_all : (kept all : List Reading) (x : Reading) → ((y : Reading) → Contains kept y → Contains all y) → Contains (or_all kept all) x → Contains all x
from_all [] all x f c = c
from_all (reading ∷ kept) all x f c = f x c

to_all : (kept all : List Reading) (x : Reading) → Contains kept x → Contains (or_all kept all) x
to_all [] all x c = absurd (contains_none x c)
to_all (reading ∷ kept) all x c = c

told_from : (by_fields : Bool) (link : LinkDecl) (beat : Beat) (before : List Beat) (readings : List Reading) (x : Reading) → Contains (told by_fields link beat before readings) x → Contains readings x
told_from by_fields link beat before readings x c =
    elim (by_fields && in_lead_in readings) as (λ t. Contains (cond t (or_all (filter (λ reading. not (is_refuted link beat before reading)) readings) readings) readings) x → Contains readings x) [
      | true ↦ λ d. from_all (filter (λ reading. not (is_refuted link beat before reading)) readings) readings x (λ y k. (kept_from (λ reading. not (is_refuted link beat before reading)) readings y k).0) d
      | false ↦ λ d. d
    ] c

told_lack : (by_fields : Bool) (link : LinkDecl) (beat : Beat) (before : List Beat) (readings : List Reading) → AllByRecursion Lacks readings → (x : Reading) → Contains (told by_fields link beat before readings) x → Lacks x
told_lack by_fields link beat before readings all x c = all_of Lacks readings all x (told_from by_fields link beat before readings x c)

-- A lead-in is a front of the channel's beats.
pub lead_front : (link : LinkDecl) (most : ℕ) (by_fields : Bool) (beat : Beat) (before : List Beat) → in_lead_in (readings_after link most by_fields (beat ∷ before)) ≡ true
    → in_lead_in (readings_after link most by_fields before) ≡ true
lead_front link most by_fields beat before h =
    let readings : List Reading = readings_after link most by_fields before in
    let kept : List Reading = told by_fields link beat before readings in
    let pair = lead_pair (map (reading_after link beat) kept) h in
    let x = mapped_from (reading_after link beat) kept pair.0 pair.2 in
    let y = mapped_from (reading_after link beat) kept pair.1 pair.3 in
    let differ : not (missing_of (reading_after link beat x.0) == missing_of (reading_after link beat y.0)) ≡ true =
    ap (λ z. not (missing_of z == missing_of (reading_after link beat y.0))) x.2 ∙ ap (λ z. not (missing_of pair.0 == missing_of z)) y.2 ∙ pair.4 in
    let lack : AllByRecursion Lacks readings = readings_lack link most by_fields before in
    pair_leads readings x.0 y.0 (told_from by_fields link beat before readings x.0 x.1) (told_from by_fields link beat before readings y.0 y.1)
    (differ_before (missing_of x.0) (missing_of y.0) (missing_of (reading_after link beat x.0)) (missing_of (reading_after link beat y.0))
    (λ e. same_after link beat x.0 y.0 (told_lack by_fields link beat before readings lack x.0 x.1) (told_lack by_fields link beat before readings lack y.0 y.1) e) differ)

-- Beats that are like one head.
both_equal : (a b c : ℕ) → (a == b) ≡ true → (a == c) ≡ true → (b == c) ≡ true
both_equal a b c h g = grind (arith, nat_tests)

both_bits : (a b c : Bool) → same_bit a b ≡ true → same_bit a c ≡ true → same_bit b c ≡ true
both_bits true true true h g = refl
both_bits true true false h g = cc
both_bits true false c h g = cc
both_bits false true c h g = cc
both_bits false false true h g = cc
both_bits false false false h g = refl

and_join : (a b : Bool) → a ≡ true → b ≡ true → (a && b) ≡ true
and_join true b h g = g
and_join false b h g = cc

alike_requests : (h x y : Beat) → same_request h x ≡ true → same_request h y ≡ true → same_request x y ≡ true
alike_requests h x y p q =
    let a1 = and_parts ((h.opcode == x.opcode) && (h.param == x.param) && (h.size == x.size) && (h.source == x.source)) (h.address == x.address) p in
    let a2 = and_parts ((h.opcode == x.opcode) && (h.param == x.param) && (h.size == x.size)) (h.source == x.source) a1.0 in
    let a3 = and_parts ((h.opcode == x.opcode) && (h.param == x.param)) (h.size == x.size) a2.0 in
    let a4 = and_parts (h.opcode == x.opcode) (h.param == x.param) a3.0 in
    let b1 = and_parts ((h.opcode == y.opcode) && (h.param == y.param) && (h.size == y.size) && (h.source == y.source)) (h.address == y.address) q in
    let b2 = and_parts ((h.opcode == y.opcode) && (h.param == y.param) && (h.size == y.size)) (h.source == y.source) b1.0 in
    let b3 = and_parts ((h.opcode == y.opcode) && (h.param == y.param)) (h.size == y.size) b2.0 in
    let b4 = and_parts (h.opcode == y.opcode) (h.param == y.param) b3.0 in
    and_join ((x.opcode == y.opcode) && (x.param == y.param) && (x.size == y.size) && (x.source == y.source)) (x.address == y.address)
    (and_join ((x.opcode == y.opcode) && (x.param == y.param) && (x.size == y.size)) (x.source == y.source)
    (and_join ((x.opcode == y.opcode) && (x.param == y.param)) (x.size == y.size)
    (and_join (x.opcode == y.opcode) (x.param == y.param) (both_equal h.opcode x.opcode y.opcode a4.0 b4.0) (both_equal h.param x.param y.param a4.1 b4.1))
    (both_equal h.size x.size y.size a3.1 b3.1))
    (both_equal h.source x.source y.source a2.1 b2.1))
    (both_equal h.address x.address y.address a1.1 b1.1)

alike_replies : (h x y : Beat) → same_reply h x ≡ true → same_reply h y ≡ true → same_reply x y ≡ true
alike_replies h x y p q =
    let a0 = and_parts ((h.opcode == x.opcode) && (h.param == x.param) && (h.size == x.size) && (h.source == x.source) && (h.sink == x.sink)) (same_bit h.denied x.denied) p in
    let a1 = and_parts ((h.opcode == x.opcode) && (h.param == x.param) && (h.size == x.size) && (h.source == x.source)) (h.sink == x.sink) a0.0 in
    let a2 = and_parts ((h.opcode == x.opcode) && (h.param == x.param) && (h.size == x.size)) (h.source == x.source) a1.0 in
    let a3 = and_parts ((h.opcode == x.opcode) && (h.param == x.param)) (h.size == x.size) a2.0 in
    let a4 = and_parts (h.opcode == x.opcode) (h.param == x.param) a3.0 in
    let b0 = and_parts ((h.opcode == y.opcode) && (h.param == y.param) && (h.size == y.size) && (h.source == y.source) && (h.sink == y.sink)) (same_bit h.denied y.denied) q in
    let b1 = and_parts ((h.opcode == y.opcode) && (h.param == y.param) && (h.size == y.size) && (h.source == y.source)) (h.sink == y.sink) b0.0 in
    let b2 = and_parts ((h.opcode == y.opcode) && (h.param == y.param) && (h.size == y.size)) (h.source == y.source) b1.0 in
    let b3 = and_parts ((h.opcode == y.opcode) && (h.param == y.param)) (h.size == y.size) b2.0 in
    let b4 = and_parts (h.opcode == y.opcode) (h.param == y.param) b3.0 in
    and_join ((x.opcode == y.opcode) && (x.param == y.param) && (x.size == y.size) && (x.source == y.source) && (x.sink == y.sink)) (same_bit x.denied y.denied)
    (and_join ((x.opcode == y.opcode) && (x.param == y.param) && (x.size == y.size) && (x.source == y.source)) (x.sink == y.sink)
    (and_join ((x.opcode == y.opcode) && (x.param == y.param) && (x.size == y.size)) (x.source == y.source)
    (and_join ((x.opcode == y.opcode) && (x.param == y.param)) (x.size == y.size)
    (and_join (x.opcode == y.opcode) (x.param == y.param) (both_equal h.opcode x.opcode y.opcode a4.0 b4.0) (both_equal h.param x.param y.param a4.1 b4.1))
    (both_equal h.size x.size y.size a3.1 b3.1))
    (both_equal h.source x.source y.source a2.1 b2.1))
    (both_equal h.sink x.sink y.sink a1.1 b1.1))
    (both_bits h.denied x.denied y.denied a0.1 b0.1)

alike_both : (on_d : Bool) (h x y : Beat) → cond on_d (same_reply h x) (same_request h x) ≡ true → cond on_d (same_reply h y) (same_request h y) ≡ true → cond on_d (same_reply x y) (same_request x y) ≡ true
alike_both true h x y p q = alike_replies h x y p q
alike_both false h x y p q = alike_requests h x y p q

alike_too : (h x y : Beat) → h.chan ≡ x.chan → is_alike h x ≡ true → is_alike h y ≡ true → is_alike x y ≡ true
alike_too h x y e p q =
    ap (λ c. cond (same_chan c chan.D) (same_reply x y) (same_request x y)) (sym e) ∙ alike_both (same_chan h.chan chan.D) h x y p q

alike_fields : (on_d : Bool) (h x : Beat) → cond on_d (same_reply h x) (same_request h x) ≡ true → ((h.opcode == x.opcode) ≡ true) × ((h.size == x.size) ≡ true)
alike_fields true h x p =
    let a0 = and_parts ((h.opcode == x.opcode) && (h.param == x.param) && (h.size == x.size) && (h.source == x.source) && (h.sink == x.sink)) (same_bit h.denied x.denied) p in
    let a1 = and_parts ((h.opcode == x.opcode) && (h.param == x.param) && (h.size == x.size) && (h.source == x.source)) (h.sink == x.sink) a0.0 in
    let a2 = and_parts ((h.opcode == x.opcode) && (h.param == x.param) && (h.size == x.size)) (h.source == x.source) a1.0 in
    let a3 = and_parts ((h.opcode == x.opcode) && (h.param == x.param)) (h.size == x.size) a2.0 in
    ((and_parts (h.opcode == x.opcode) (h.param == x.param) a3.0).0, a3.1)
alike_fields false h x p =
    let a1 = and_parts ((h.opcode == x.opcode) && (h.param == x.param) && (h.size == x.size) && (h.source == x.source)) (h.address == x.address) p in
    let a2 = and_parts ((h.opcode == x.opcode) && (h.param == x.param) && (h.size == x.size)) (h.source == x.source) a1.0 in
    let a3 = and_parts ((h.opcode == x.opcode) && (h.param == x.param)) (h.size == x.size) a2.0 in
    ((and_parts (h.opcode == x.opcode) (h.param == x.param) a3.0).0, a3.1)

-- A beat that is like its head has its message and its length.
same_message : (link : LinkDecl) (h x : Beat) → h.chan ≡ x.chan → is_alike h x ≡ true → (message_of link x ≡ message_of link h) × (beat_count link x ≡ beat_count link h)
same_message link h x e p =
    let fields = alike_fields (same_chan h.chan chan.D) h x p in
    let code_test : (h.opcode == x.opcode) ≡ true = fields.0 in
    let size_test : (h.size == x.size) ≡ true = fields.1 in
    let code : h.opcode ≡ x.opcode = grind (arith, nat_tests) in
    let size : h.size ≡ x.size = grind (arith, nat_tests) in
    let message : message_of link x ≡ message_of link h = ap (λ c. op_at link.level c x.opcode) (sym e) ∙ ap (op_at link.level h.chan) (sym code) in
    (message, ap (λ f. option_map_or (λ o. cond (carries_data_of o) (max 1 (2 ^ x.size / link.width)) 1) f 1) message ∙ ap (λ n. option_map_or (λ o. cond (carries_data_of o) (max 1 (2 ^ n / link.width)) 1) (message_of link h) 1) (sym size))

-- The first beat of a channel is like the head where all are.
first_alike : (h beat : Beat) (before : List Beat) → is_alike h beat ≡ true → AllByRecursion (λ (b : Beat). is_alike h b ≡ true) before → is_alike h (first_of beat before) ≡ true
first_alike h beat [] p all = p
first_alike h beat (earlier ∷ before) p all = first_alike h earlier before all.0 all.1

first_on : (chan : Chan) (beat : Beat) (before : List Beat) → beat.chan ≡ chan → AllByRecursion (λ (b : Beat). b.chan ≡ chan) before → (first_of beat before).chan ≡ chan
first_on chan beat [] e all = e
first_on chan beat (earlier ∷ before) e all = first_on chan earlier before all.0 all.1

unrefuted : (carries alike short : Bool) → carries ≡ true → alike ≡ true → short ≡ false → not (not carries || not alike || short) ≡ true
unrefuted true true false a b c = refl
unrefuted true true true a b c = cc
unrefuted true false short a b c = cc
unrefuted false alike short a b c = cc

-- The readings of a channel tell what is unfinished on it: as they allow it, and in the lead-in each beat of the capture that
-- belongs to a message of the past is like its head.
abbrev pub Tells : LinkDecl → Chan → Bool → List Reading → List Beat → Option Unfinished → Type 0
Tells link chan lead readings beats None = Contains readings due
Tells link chan lead readings beats (Some burst) = (0 < burst.missing) × (burst.missing < beat_count link burst.head) × (burst.head.chan ≡ chan)
    × (Contains readings (rest burst.missing (Some burst.head))
    ⊎ (Contains readings (rest burst.missing None) × (burst.missing + length beats < beat_count link burst.head)
    × (lead ≡ true → AllByRecursion (λ (b : Beat). is_alike burst.head b ≡ true) beats)))

-- A beat is like the head of the burst, if there is one.
abbrev pub IsLikeHead : Option Unfinished → Beat → Type 0
IsLikeHead None beat = Unit {0}
IsLikeHead (Some burst) beat = is_alike burst.head beat ≡ true

same_itself : (c : Chan) → same_chan c c ≡ true
same_itself chan.A = refl
same_itself chan.B = refl
same_itself chan.C = refl
same_itself chan.D = refl
same_itself chan.E = refl

pub tells_allows : (link : LinkDecl) (chan : Chan) (lead : Bool) (readings : List Reading) (beats : List Beat) (burst : Option Unfinished) → Tells link chan lead readings beats burst
    → AllowsBurst link chan readings burst
tells_allows link chan lead readings beats None t = t
tells_allows link chan lead readings beats (Some burst) t = (
  t.0,
  elim (t.3) [
    | inl c ↦ inl c
    | inr r ↦ inr (r.0, t.1, subst (λ c. same_chan burst.head.chan c ≡ true) t.2 (same_itself burst.head.chan))
  ],
)

-- The fields of a beat that is like its head don't speak against the reading that holds what is unfinished.
stays : (link : LinkDecl) (chan : Chan) (beat : Beat) (beats : List Beat) (readings : List Reading) (burst : Option Unfinished) → beat.chan ≡ chan → AllByRecursion (λ (b : Beat). b.chan ≡ chan) beats
    → IsLikeHead burst beat → Tells link chan true readings beats burst → Tells link chan true (or_all (filter (λ reading. not (is_refuted link beat beats reading)) readings) readings) beats burst
stays link chan beat beats readings None on all like t =
    to_all (filter (λ reading. not (is_refuted link beat beats reading)) readings) readings due (contains_kept (λ reading. not (is_refuted link beat beats reading)) readings due t refl)
stays link chan beat beats readings (Some burst) on all like t =
    let kept : List Reading = filter (λ reading. not (is_refuted link beat beats reading)) readings in (
      t.0,
      t.1,
      t.2,
      elim (t.3) [
        | inl c ↦ inl (to_all kept readings (rest burst.missing (Some burst.head))
            (contains_kept (λ reading. not (is_refuted link beat beats reading)) readings (rest burst.missing (Some burst.head)) c (ap (λ b. not (not b)) like)))
        | inr r ↦ inr (
          to_all kept readings (rest burst.missing None)
              (contains_kept (λ reading. not (is_refuted link beat beats reading)) readings (rest burst.missing None) r.0 (past_unrefuted link chan beat beats burst on all like t.0 t.1 t.2 r.1 (r.2 refl))),
          r.1,
          r.2,
        )
      ],
    )
  where
    past_unrefuted : (link : LinkDecl) (chan : Chan) (beat : Beat) (beats : List Beat) (burst : Unfinished) → beat.chan ≡ chan → AllByRecursion (λ (b : Beat). b.chan ≡ chan) beats
        → is_alike burst.head beat ≡ true → 0 < burst.missing → burst.missing < beat_count link burst.head → burst.head.chan ≡ chan → burst.missing + length beats < beat_count link burst.head
        → AllByRecursion (λ (b : Beat). is_alike burst.head b ≡ true) beats
        → not (not (has_data link beat) || not (is_alike (first_of beat beats) beat) || nat_le (beat_count link beat) (burst.missing + length beats)) ≡ true
    past_unrefuted link chan beat beats burst on all like some more on_head longer alike =
        let later = has_later link burst.head (omega arith) in
        let same = same_message link burst.head beat (on_head ∙ sym on) like in
        let carries : has_data link beat ≡ true = ap (λ f. option_map_or carries_data_of f false) (same.0 ∙ later.1) ∙ later.2 in
        let first : is_alike (first_of beat beats) beat ≡ true =
        alike_too burst.head (first_of beat beats) beat (on_head ∙ sym (first_on chan beat beats on all)) (first_alike burst.head beat beats like alike) like in
        let count : beat_count link beat ≡ beat_count link burst.head = same.1 in
        let enough : nat_le (beat_count link beat) (burst.missing + length beats) ≡ false = grind (arith, nat_tests) in
        unrefuted (has_data link beat) (is_alike (first_of beat beats) beat) (nat_le (beat_count link beat) (burst.missing + length beats)) carries first enough

pub kept_tells : (by_fields : Bool) (link : LinkDecl) (chan : Chan) (beat : Beat) (beats : List Beat) (readings : List Reading) (burst : Option Unfinished) → beat.chan ≡ chan
    → AllByRecursion (λ (b : Beat). b.chan ≡ chan) beats → (in_lead_in readings ≡ true → IsLikeHead burst beat) → Tells link chan (in_lead_in readings) readings beats burst
    → Tells link chan (in_lead_in readings) (told by_fields link beat beats readings) beats burst
kept_tells by_fields link chan beat beats readings burst on all like t =
    elim (in_lead_in readings) as (λ lead. (lead ≡ true → IsLikeHead burst beat) → Tells link chan lead readings beats burst
    → Tells link chan lead (cond (by_fields && lead) (or_all (filter (λ reading. not (is_refuted link beat beats reading)) readings) readings) readings) beats burst) [
      | true ↦ λ l u. elim by_fields as (λ by. Tells link chan true (cond (by && true) (or_all (filter (λ reading. not (is_refuted link beat beats reading)) readings) readings) readings) beats burst) [
        | true ↦ stays link chan beat beats readings burst on all (l refl) u
        | false ↦ u
      ]
      | false ↦ λ l u. elim by_fields as (λ by. Tells link chan false (cond (by && false) (or_all (filter (λ reading. not (is_refuted link beat beats reading)) readings) readings) readings) beats burst) [
        | true ↦ u
        | false ↦ u
      ]
    ] like t

-- After the beat.
left_tells : (link : LinkDecl) (chan : Chan) (lead : Bool) (readings : List Reading) (beats : List Beat) (head : Beat) (missing : ℕ) → missing < beat_count link head → head.chan ≡ chan
    → Contains readings (lacking missing (Some head)) → Tells link chan lead readings beats (left head missing)
left_tells link chan lead readings beats head missing less on c =
    elim (nat_lt 0 missing) as (λ t. nat_lt 0 missing ≡ t → Contains readings (cond t (rest missing (Some head)) due) → Tells link chan lead readings beats (cond t (Some (record { head = head; missing = missing })) None)) [
      | true ↦ λ e d. (let some : 0 < missing = grind (arith, nat_tests) in (some, less, on, inl d))
      | false ↦ λ e d. d
    ] refl c

left_of_past : (link : LinkDecl) (chan : Chan) (lead : Bool) (readings : List Reading) (beats : List Beat) (head : Beat) (missing : ℕ) → missing + length beats < beat_count link head → head.chan ≡ chan
    → (lead ≡ true → AllByRecursion (λ (b : Beat). is_alike head b ≡ true) beats) → Contains readings (lacking missing None) → Tells link chan lead readings beats (left head missing)
left_of_past link chan lead readings beats head missing more on alike c =
    elim (nat_lt 0 missing) as (λ t. nat_lt 0 missing ≡ t → Contains readings (cond t (rest missing None) due) → Tells link chan lead readings beats (cond t (Some (record { head = head; missing = missing })) None)) [
      | true ↦ λ e d. (let some : 0 < missing = grind (arith, nat_tests) in let less : missing < beat_count link head = omega arith in (some, less, on, inr (d, more, alike)))
      | false ↦ λ e d. d
    ] refl c

pub tells_next : (link : LinkDecl) (chan : Chan) (lead next : Bool) (beat : Beat) (beats : List Beat) (readings : List Reading) (burst : Option Unfinished) → beat.chan ≡ chan → (next ≡ true → lead ≡ true)
    → (lead ≡ true → IsLikeHead burst beat) → Tells link chan lead readings beats burst → Tells link chan next (map (reading_after link beat) readings) (beat ∷ beats) (after_beat link beat burst)
tells_next link chan lead next beat beats readings None on front like t =
    let fewer : beat_count link beat - 1 < beat_count link beat = (let some = positive link beat in omega arith) in
    left_tells link chan next (map (reading_after link beat) readings) (beat ∷ beats) beat (beat_count link beat - 1) fewer on (contains_mapped (reading_after link beat) readings due t)
tells_next link chan lead next beat beats readings (Some burst) on front like t =
    let some : 0 < burst.missing = t.0 in
    let more : burst.missing < beat_count link burst.head = t.1 in
    let fewer : burst.missing - 1 < beat_count link burst.head = omega arith in
    elim (t.3) [
      | inl c ↦ left_tells link chan next (map (reading_after link beat) readings) (beat ∷ beats) burst.head (burst.missing - 1) fewer t.2
          (contains_mapped (reading_after link beat) readings (rest burst.missing (Some burst.head)) c)
      | inr r ↦ (let longer : burst.missing + length beats < beat_count link burst.head = r.1 in
          let one_more : (burst.missing - 1) + length (beat ∷ beats) < beat_count link burst.head = omega arith in
          left_of_past link chan next (map (reading_after link beat) readings) (beat ∷ beats) burst.head (burst.missing - 1) one_more t.2 (λ h. (like (front h), r.2 (front h)))
          (contains_mapped (reading_after link beat) readings (rest burst.missing None) r.0))
    ]
