-- Keys that are known to be open were opened by beats of the capture.
use Rattle.std.proofs.Common.{◌≡◌, ℕ, zero, suc, ◌⊎◌, inl, inr, ◌==◌, ◌&&◌, ◌||◌, Bool, true, false, cond, List, [], ◌∷◌, map, Option, Some, None, refl, sym, ap, subst, ◌∙◌, arith}
use Rattle.std.specs.Prelude.{nat_lt}
use Rattle.std.specs.Option.{option_map, option_and_then}
use Rattle.std.specs.List.{Contains, list_any, slice_get}
use Rattle.std.proofs.lemmas.Bool.Decides.{nat_tests}
use Rattle.tl_tables.specs.declared.Chan.{Chan}
use Rattle.tl_tables.specs.declared.Chan.TheVariants as chan
use Rattle.tl_tables.specs.declared.Level.{Level}
use Rattle.tl_tables.specs.declared.Op.{Op}
use Rattle.tl_tables.specs.Messages.{op_at, codes, least_level, level_le, same_chan}
use Rattle.tl_tables.specs.Kinds.{is_release, is_grant, is_release_ack, is_grant_ack}
use Rattle.tl_beats.specs.declared.Beat.{Beat}
use Rattle.tl_beats.specs.declared.Placed.{Placed}
use Rattle.tl_beats.specs.declared.Request.{Request}
use Rattle.tl_definitions.specs.OpenTables.{passes, touches}
use Rattle.tl_definitions.specs.Heads.{message_of, before_on}
use Rattle.tl_definitions.specs.Messages.{Message, as_request, sources, releases, sinks, is_request, is_reply, granted_block}
use Rattle.tl_definitions.specs.Rules.{Manager}
use Rattle.tl_definitions.proofs.Lists.{contains_here, contains_there}
use Rattle.tl_definitions.specs.Readings.{Reading, may_begin, must_begin}
use Rattle.tl_definitions.specs.Known.{Known, unknown, known, map_known, Beginning, KnownPast, if_closed, answering, bare, known_request, known_with, readings_of, known_pasts}
use Rattle.tl_definitions.specs.MidwayLaws.{KnownKeysAreOfTheCapture}
use Rattle.tl_definitions.proofs.Sure.{and_parts}

-- A message is none of those that its channel doesn't have.
none_at : (test : Op → Bool) (ops : List (Option Op)) (code : ℕ) (o : Op) → list_any (passes test) ops ≡ false → slice_get ops code ≡ Some (Some o) → test o ≡ false
none_at test [] code o h e = cc
none_at test (None ∷ ops) zero o h e = cc
none_at test (Some x ∷ ops) zero o h e =
    let is : x ≡ o = cc in
    elim (test x) as (λ t. test x ≡ t → (t || list_any (passes test) ops) ≡ false → test o ≡ false) [
      | true ↦ λ f g. cc
      | false ↦ λ f g. sym (ap test is) ∙ f
    ] refl h
none_at test (x ∷ ops) (suc code) o h e =
    elim (passes test x) as (λ t. (t || list_any (passes test) ops) ≡ false → test o ≡ false) [
      | true ↦ λ g. cc
      | false ↦ λ g. none_at test ops code o g e
    ] h

found_at : (l : Level) (c : Chan) (found : Option (Option Op)) (o : Op) → option_and_then (λ f. option_and_then (λ x. cond (level_le (least_level c x) l) (Some x) None) f) found ≡ Some o → found ≡ Some (Some o)
found_at l c None o h = cc
found_at l c (Some None) o h = cc
found_at l c (Some (Some x)) o h = elim (level_le (least_level c x) l) as (λ t. cond t (Some x) None ≡ Some o → Some (Some x) ≡ Some (Some o)) [
  | true ↦ λ g. ap Some g
  | false ↦ λ g. cc
] h

not_of : (test : Op → Bool) (l : Level) (c : Chan) (code : ℕ) (o : Op) → list_any (passes test) (codes c) ≡ false → op_at l c code ≡ Some o → test o ≡ true → ⊥
unfolding op_at
not_of test l c code o none h t =
    let clash : true ≡ false = sym t ∙ none_at test (codes c) code o none (found_at l c (slice_get (codes c) code) o h) in cc

release_on_c : (l : Level) (c : Chan) (code : ℕ) (o : Op) → op_at l c code ≡ Some o → is_release o ≡ true → same_chan c chan.C ≡ true
release_on_c l chan.C code o h t = refl
release_on_c l chan.A code o h t = absurd (not_of is_release l chan.A code o refl h t)
release_on_c l chan.B code o h t = absurd (not_of is_release l chan.B code o refl h t)
release_on_c l chan.D code o h t = absurd (not_of is_release l chan.D code o refl h t)
release_on_c l chan.E code o h t = absurd (not_of is_release l chan.E code o refl h t)

grant_on_d : (l : Level) (c : Chan) (code : ℕ) (o : Op) → op_at l c code ≡ Some o → is_grant o ≡ true → same_chan c chan.D ≡ true
grant_on_d l chan.D code o h t = refl
grant_on_d l chan.A code o h t = absurd (not_of is_grant l chan.A code o refl h t)
grant_on_d l chan.B code o h t = absurd (not_of is_grant l chan.B code o refl h t)
grant_on_d l chan.C code o h t = absurd (not_of is_grant l chan.C code o refl h t)
grant_on_d l chan.E code o h t = absurd (not_of is_grant l chan.E code o refl h t)

-- A key that is open after a message was open before, or the message opens it.
not_closed : {V : Type 0} (old : Known (Option V)) (value : V) → if_closed old ≡ known (Some value) → ⊥
not_closed unknown value h = cc
not_closed (known None) value h = cc
not_closed (known (Some v)) value h = cc

opened : {V : Type 0} (certain touch opens : Bool) (made : Known (Option V)) (old : Known (Option V)) (value : V) → (opens ≡ false → made ≡ known None)
    → cond touch (cond certain made (cond opens unknown (if_closed old))) old ≡ known (Some value) → (old ≡ known (Some value)) ⊎ ((touch ≡ true) × (opens ≡ true))
opened certain false opens made old value f h = inl h
opened certain true true made old value f h = inr (refl, refl)
opened true true false made old value f h = let shut : known None ≡ known (Some value) = sym (f refl) ∙ h in cc
opened false true false made old value f h = absurd (not_closed old value h)

made_closed : {V : Type 0} (kept : Message → V) (opens : Bool) (one : Message) → opens ≡ false → known (option_map kept (cond opens (Some one) None)) ≡ known None
made_closed kept true one e = cc
made_closed kept false one e = refl

granted_closed : (opens : Bool) (made : Known (Option (Option ℕ))) → opens ≡ false → cond opens made (known None) ≡ known None
granted_closed true made e = cc
granted_closed false made e = refl

-- The keys of the channel's beats, with one more.
module _ (key_of : Beat → ℕ) (link : ℕ) (c : Chan) (before : List Placed) (p : Placed) (key : ℕ) where
  stays_listed : Contains (map key_of (before_on link c before)) key → Contains (map key_of (before_on link c (p ∷ before))) key
  stays_listed h = elim ((p.link == link) && same_chan p.beat.chan c) as (λ t. Contains (map key_of (cond t (p.beat ∷ before_on link c before) (before_on link c before))) key) [
    | true ↦ contains_there (key_of p.beat) (map key_of (before_on link c before)) key h
    | false ↦ h
  ]

  now_listed : (p.link == link) ≡ true → same_chan p.beat.chan c ≡ true → (key_of p.beat == key) ≡ true → Contains (map key_of (before_on link c (p ∷ before))) key
  now_listed on_link on same =
      let is : key_of p.beat ≡ key = grind (arith, nat_tests) in
      subst (λ t. Contains (map key_of (cond (t && same_chan p.beat.chan c) (p.beat ∷ before_on link c before) (before_on link c before))) key) (sym on_link)
      (subst (λ t. Contains (map key_of (cond t (p.beat ∷ before_on link c before) (before_on link c before))) key) (sym on)
      (subst (Contains (key_of p.beat ∷ map key_of (before_on link c before))) is (contains_here (key_of p.beat) (map key_of (before_on link c before)))))

source_key : (m : Manager) (start : Beginning) (before : List Placed) (link key : ℕ) (request : Request) → (known_pasts m start before link).flow.source key ≡ known (Some request)
    → Contains (map (λ (b : Beat). b.source) (before_on link chan.A before)) key
source_key m start [] link key request h = elim (nat_lt key (m.links link).sources) as (λ t. cond t unknown (known None) ≡ known (Some request) → Contains (map (λ (b : Beat). b.source) []) key) [
  | true ↦ λ g. cc
  | false ↦ λ g. cc
] h
source_key m start (p ∷ before) link key request h =
    let old : KnownPast = known_pasts m start before link in
    let readings : List Reading = readings_of m start before p in
    let certain : Bool = must_begin readings in
    let Goal : Type 0 = Contains (map (λ (b : Beat). b.source) (before_on link chan.A (p ∷ before))) key in
    let listed : old.flow.source key ≡ known (Some request) → Goal = λ g. stays_listed (λ b. b.source) link chan.A before p key (source_key m start before link key request g) in
    elim (p.link == link) as (λ t. (p.link == link) ≡ t → (cond (t && may_begin readings) (known_with m.exponent certain old p.beat (message_of (m.links link) p.beat)) old).flow.source key ≡ known (Some request) → Goal) [
      | true ↦ λ on. elim (may_begin readings) as (λ t. (cond t (known_with m.exponent certain old p.beat (message_of (m.links link) p.beat)) old).flow.source key ≡ known (Some request) → Goal) [
        | true ↦ elim (message_of (m.links link) p.beat) as (λ found. message_of (m.links link) p.beat ≡ found → (known_with m.exponent certain old p.beat found).flow.source key ≡ known (Some request) → Goal) [
          | None ↦ λ f g. listed g
          | Some o ↦ λ f g. (let one : Message = bare o p.beat in
              elim (opened certain (touches sources key one) (is_request one) (known (option_map as_request (cond (is_request one) (Some one) None))) (old.flow.source key) request (made_closed as_request (is_request one) one) g) [
                | inl e ↦ listed e
                | inr r ↦ now_listed (λ b. b.source) link chan.A before p key on r.1 (and_parts (is_request one || is_reply one) (p.beat.source == key) r.0).1
              ])
        ] refl
        | false ↦ listed
      ]
      | false ↦ λ on g. listed g
    ] refl h

release_key : (m : Manager) (start : Beginning) (before : List Placed) (link key : ℕ) (request : Request) → (known_pasts m start before link).flow.release key ≡ known (Some request)
    → Contains (map (λ (b : Beat). b.source) (before_on link chan.C before)) key
release_key m start [] link key request h = elim (nat_lt key (m.links link).sources) as (λ t. cond t unknown (known None) ≡ known (Some request) → Contains (map (λ (b : Beat). b.source) []) key) [
  | true ↦ λ g. cc
  | false ↦ λ g. cc
] h
release_key m start (p ∷ before) link key request h =
    let old : KnownPast = known_pasts m start before link in
    let readings : List Reading = readings_of m start before p in
    let certain : Bool = must_begin readings in
    let Goal : Type 0 = Contains (map (λ (b : Beat). b.source) (before_on link chan.C (p ∷ before))) key in
    let listed : old.flow.release key ≡ known (Some request) → Goal = λ g. stays_listed (λ b. b.source) link chan.C before p key (release_key m start before link key request g) in
    elim (p.link == link) as (λ t. (p.link == link) ≡ t → (cond (t && may_begin readings) (known_with m.exponent certain old p.beat (message_of (m.links link) p.beat)) old).flow.release key ≡ known (Some request) → Goal) [
      | true ↦ λ on. elim (may_begin readings) as (λ t. (cond t (known_with m.exponent certain old p.beat (message_of (m.links link) p.beat)) old).flow.release key ≡ known (Some request) → Goal) [
        | true ↦ elim (message_of (m.links link) p.beat) as (λ found. message_of (m.links link) p.beat ≡ found → (known_with m.exponent certain old p.beat found).flow.release key ≡ known (Some request) → Goal) [
          | None ↦ λ f g. listed g
          | Some o ↦ λ f g. (let one : Message = bare o p.beat in
              elim (opened certain (touches releases key one) (is_release o) (known (option_map as_request (cond (is_release o) (Some one) None))) (old.flow.release key) request (made_closed as_request (is_release o) one) g) [
                | inl e ↦ listed e
                | inr r ↦ now_listed (λ b. b.source) link chan.C before p key on (release_on_c (m.links link).level p.beat.chan p.beat.opcode o f r.1)
                    (and_parts (is_release o || is_release_ack o) (p.beat.source == key) r.0).1
              ])
        ] refl
        | false ↦ listed
      ]
      | false ↦ λ on g. listed g
    ] refl h

granted_key : (m : Manager) (start : Beginning) (before : List Placed) (link key : ℕ) (block : Option ℕ) → (known_pasts m start before link).client.granted key ≡ known (Some block)
    → Contains (map (λ (b : Beat). b.sink) (before_on link chan.D before)) key
granted_key m start [] link key block h = cc
granted_key m start (p ∷ before) link key block h =
    let old : KnownPast = known_pasts m start before link in
    let readings : List Reading = readings_of m start before p in
    let certain : Bool = must_begin readings in
    let Goal : Type 0 = Contains (map (λ (b : Beat). b.sink) (before_on link chan.D (p ∷ before))) key in
    let listed : old.client.granted key ≡ known (Some block) → Goal = λ g. stays_listed (λ b. b.sink) link chan.D before p key (granted_key m start before link key block g) in
    elim (p.link == link) as (λ t. (p.link == link) ≡ t → (cond (t && may_begin readings) (known_with m.exponent certain old p.beat (message_of (m.links link) p.beat)) old).client.granted key ≡ known (Some block) → Goal) [
      | true ↦ λ on. elim (may_begin readings) as (λ t. (cond t (known_with m.exponent certain old p.beat (message_of (m.links link) p.beat)) old).client.granted key ≡ known (Some block) → Goal) [
        | true ↦ elim (message_of (m.links link) p.beat) as (λ found. message_of (m.links link) p.beat ≡ found → (known_with m.exponent certain old p.beat found).client.granted key ≡ known (Some block) → Goal) [
          | None ↦ λ f g. listed g
          | Some o ↦ λ f g. (let one : Message = bare o p.beat in
              let made : Known (Option (Option ℕ)) = map_known (λ r. Some (granted_block m.exponent (answering one r))) (known_request old.flow one) in
              elim (opened certain (touches sinks key one) (is_grant o) (cond (is_grant o) made (known None)) (old.client.granted key) block (granted_closed (is_grant o) made) g) [
                | inl e ↦ listed e
                | inr r ↦ now_listed (λ b. b.sink) link chan.D before p key on (grant_on_d (m.links link).level p.beat.chan p.beat.opcode o f r.1)
                    (and_parts (is_grant o || is_grant_ack o) (p.beat.sink == key) r.0).1
              ])
        ] refl
        | false ↦ listed
      ]
      | false ↦ λ on g. listed g
    ] refl h

pub known_keys_are_of_the_capture : KnownKeysAreOfTheCapture
known_keys_are_of_the_capture m start before link key = (source_key m start before link key, release_key m start before link key, granted_key m start before link key)
