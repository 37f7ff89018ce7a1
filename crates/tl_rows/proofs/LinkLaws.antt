-- The state of a link goes on standing for its beats.
use Rattle.std.specs.Prelude.{OnOk}
use Rattle.std.proofs.Common.{Result, Ok, Err, ◌≡◌, ◌≢◌, ℕ, ◌<◌, ◌==◌, ◌&&◌, Bool, true, false, cond, List, [], ◌∷◌, length, get_or, Option, Some, None, refl, sym, ap, subst, ◌∙◌, arith}
use Rattle.std.specs.Option.{option_map_or}
use Rattle.std.proofs.lemmas.Bool.Decides.{nat_tests}
use Rattle.std.proofs.Math.ListN.{set}
use Rattle.std.proofs.lemmas.List.{get_or-set_same, get_or-set_other}
use Rattle.tl_tables.specs.declared.Chan.{Chan}
use Rattle.tl_tables.specs.declared.Chan.TheVariants as chan
use Rattle.tl_tables.specs.declared.Op.{Op}
use Rattle.tl_tables.specs.Messages.{chan_number, same_chan}
use Rattle.tl_topology.specs.declared.LinkDecl.{LinkDecl}
use Rattle.tl_beats.specs.declared.Beat.{Beat}
use Rattle.tl_beats.specs.declared.Placed.{Placed}
use Rattle.tl_definitions.specs.Heads.{message_of, before_on, is_head, last_head}
use Rattle.tl_definitions.specs.Messages.{Links, at_head}
use Rattle.tl_definitions.proofs.HeadLaws.{later_beats_have_a_head}
use Rattle.tl_link_rules.specs.Bursts as bursts
use Rattle.tl_link_rules.specs.Bursts.{place_of}
use Rattle.tl_link_rules.specs.declared.bursts.Place.TheVariants as place
use Rattle.tl_rows.specs.declared.link.LinkOrigins.{LinkOrigins}
use Rattle.tl_rows.specs.Origins.{with_origin, origins_on, head_before}
use Rattle.tl_rows.specs.Openers as openers
use Rattle.tl_rows.specs.Links.{IsAt}

-- ---- heads

pub head_found : (link : LinkDecl) (before : List Beat) → place.Head ≡ place_of link before → is_head link before ≡ true
head_found link before h =
    elim (is_head link before) as (λ b. is_head link before ≡ b → place.Head ≡ cond b place.Head (option_map_or place.Later (last_head link before) place.Head) → b ≡ true) [
      | true ↦ λ e g. refl
      | false ↦ λ e g. (let last = later_beats_have_a_head link before e in
          let never : place.Head ≡ place.Later last.0 = g ∙ ap (λ o. option_map_or place.Later o place.Head) last.1 in cc)
    ] refl h

pub later_found : (link : LinkDecl) (before : List Beat) (head : Beat) → place.Later head ≡ place_of link before → is_head link before ≡ false
later_found link before head h =
    elim (is_head link before) as (λ b. place.Later head ≡ cond b place.Head (option_map_or place.Later (last_head link before) place.Head) → b ≡ false) [
      | true ↦ λ g. cc
      | false ↦ λ g. refl
    ] h

-- ---- one slot of a list by channels is written

number_below : (c : Chan) → chan_number c < 5
number_below chan.A = omega arith
number_below chan.B = omega arith
number_below chan.C = omega arith
number_below chan.D = omega arith
number_below chan.E = omega arith

pub slot_set : {X : Type 0} (slots : List X) (own other : Chan) (new none : X) → length slots ≡ 5
    → get_or (set slots (chan_number own) new) (chan_number other) none ≡ cond (same_chan own other) new (get_or slots (chan_number other) none)
slot_set slots own other new none five =
    let below : chan_number own < length slots = (let h = number_below own in omega arith) in
    elim (same_chan own other) as (λ b. same_chan own other ≡ b → get_or (set slots (chan_number own) new) (chan_number other) none ≡ cond b new (get_or slots (chan_number other) none)) [
      | true ↦ λ h. let e : chan_number own ≡ chan_number other = grind (arith, nat_tests) in
          subst (λ k. get_or (set slots (chan_number own) new) k none ≡ new) e (get_or-set_same slots (chan_number own) new none below)
      | false ↦ λ h. let ne : chan_number other ≢ chan_number own = (λ e. grind (arith, nat_tests)) in get_or-set_other slots (chan_number own) (chan_number other) new none ne
    ] refl

-- ---- one beat more on its own link

own_link : (link : ℕ) (b : Bool) → ((link == link) && b) ≡ b
own_link link b = let same : (link == link) ≡ true = grind (arith, nat_tests) in ap (λ t. t && b) same

-- A later beat leaves heads and messages as they were.
module _ (links : Links) (p : Placed) (before : List Placed) where
  later_origins : at_head links before p ≡ false → origins_on links p.link (p ∷ before) ≡ origins_on links p.link before
  later_origins later = ap (λ b. cond b (with_origin p (message_of (links p.link) p.beat) (origins_on links p.link before)) (origins_on links p.link before)) (own_link p.link (at_head links before p) ∙ later)

  head_origins : at_head links before p ≡ true → origins_on links p.link (p ∷ before) ≡ with_origin p (message_of (links p.link) p.beat) (origins_on links p.link before)
  head_origins head = ap (λ b. cond b (with_origin p (message_of (links p.link) p.beat) (origins_on links p.link before)) (origins_on links p.link before)) (own_link p.link (at_head links before p) ∙ head)

  later_heads : at_head links before p ≡ false → (other : Chan) → head_before links p.link other (p ∷ before) ≡ head_before links p.link other before
  later_heads later other =
      elim ((p.link == p.link) && same_chan p.beat.chan other) as (λ b. cond (b && at_head links before p) (Some p) (head_before links p.link other before) ≡ head_before links p.link other before) [
        | true ↦ ap (λ b. cond b (Some p) (head_before links p.link other before)) later
        | false ↦ refl
      ]

  new_heads : at_head links before p ≡ true → (other : Chan) → head_before links p.link other (p ∷ before) ≡ cond (same_chan p.beat.chan other) (Some p) (head_before links p.link other before)
  new_heads head other =
      ap (λ b. cond (((p.link == p.link) && same_chan p.beat.chan other) && b) (Some p) (head_before links p.link other before)) head
      ∙ ap (λ b. cond (b && true) (Some p) (head_before links p.link other before)) (own_link p.link (same_chan p.beat.chan other))
      ∙ elim (same_chan p.beat.chan other) as (λ b. cond (b && true) (Some p) (head_before links p.link other before) ≡ cond b (Some p) (head_before links p.link other before)) [ true ↦ refl | false ↦ refl ]

  pub after_later : (exponent : ℕ) (old new : LinkOrigins) → at_head links before p ≡ false → IsAt exponent links p.link old before
      → bursts.StandsFor new.bursts (links p.link) p.link (p ∷ before) → new.heads ≡ old.heads → new.openers ≡ old.openers → IsAt exponent links p.link new (p ∷ before)
  after_later exponent old new later is burst heads kept = record {
    bursts = burst;
    heads = λ other. ap (λ hs. get_or hs (chan_number other) None) heads ∙ is.heads other ∙ sym (later_heads later other);
    openers = subst (λ o. openers.StandsFor exponent o (origins_on links p.link (p ∷ before))) (sym kept)
        (subst (openers.StandsFor exponent old.openers) (sym (later_origins later)) is.openers);
  }

  pub after_head : (exponent : ℕ) (old new : LinkOrigins) → at_head links before p ≡ true → IsAt exponent links p.link old before
      → bursts.StandsFor new.bursts (links p.link) p.link (p ∷ before) → length old.heads ≡ 5 → new.heads ≡ set old.heads (chan_number p.beat.chan) (Some p)
      → openers.StandsFor exponent new.openers (with_origin p (message_of (links p.link) p.beat) (origins_on links p.link before)) → IsAt exponent links p.link new (p ∷ before)
  after_head exponent old new head is burst five heads stands = record {
    bursts = burst;
    heads = λ other.
        ap (λ hs. get_or hs (chan_number other) None) heads
        ∙ slot_set old.heads p.beat.chan other (Some p) None five
        ∙ ap (λ o. cond (same_chan p.beat.chan other) (Some p) o) (is.heads other)
        ∙ sym (new_heads head other);
    openers = subst (openers.StandsFor exponent new.openers) (sym (head_origins head)) stands;
  }

-- ---- the same, where the link's declaration is known

module _ (links : Links) (decl : LinkDecl) (p : Placed) (before : List Placed) (is : links p.link ≡ decl) where
  pub declared_burst : (exponent : ℕ) (state : LinkOrigins) → IsAt exponent links p.link state before → bursts.StandsFor state.bursts decl p.link before
  declared_burst exponent state at = subst (λ d. bursts.StandsFor state.bursts d p.link before) is at.bursts

  pub here : (head : Bool) → is_head decl (before_on p.link p.beat.chan before) ≡ head → at_head links before p ≡ head
  here head h = ap (λ d. is_head d (before_on p.link p.beat.chan before)) is ∙ h

  pub over_later : (exponent : ℕ) (old new : LinkOrigins) → is_head decl (before_on p.link p.beat.chan before) ≡ false → IsAt exponent links p.link old before
      → bursts.StandsFor new.bursts decl p.link (p ∷ before) → new.heads ≡ old.heads → new.openers ≡ old.openers → IsAt exponent links p.link new (p ∷ before)
  over_later exponent old new later at burst heads kept =
      after_later links p before exponent old new (here false later) at (subst (λ d. bursts.StandsFor new.bursts d p.link (p ∷ before)) (sym is) burst) heads kept

  pub over_head : (exponent : ℕ) (old new : LinkOrigins) (found : Option Op) → is_head decl (before_on p.link p.beat.chan before) ≡ true → IsAt exponent links p.link old before
      → bursts.StandsFor new.bursts decl p.link (p ∷ before) → length old.heads ≡ 5 → new.heads ≡ set old.heads (chan_number p.beat.chan) (Some p)
      → message_of decl p.beat ≡ found → openers.StandsFor exponent new.openers (with_origin p found (origins_on links p.link before)) → IsAt exponent links p.link new (p ∷ before)
  over_head exponent old new found head at burst five heads opcode stands =
      after_head links p before exponent old new (here true head) at (subst (λ d. bursts.StandsFor new.bursts d p.link (p ∷ before)) (sym is) burst) five heads
      (subst (λ f. openers.StandsFor exponent new.openers (with_origin p f (origins_on links p.link before))) (sym (ap (λ d. message_of d p.beat) is ∙ opcode)) stands)

pub on_ok : {X E : Type 0} {A B : Type 0} (made : Result X E) → (A → B) → OnOk made A → OnOk made B
on_ok (Ok x) law a = law a
on_ok (Err e) law a = tt

pub empty_slots : {X : Type 0} (c : Chan) → get_or {A = Option X} (None ∷ None ∷ None ∷ None ∷ None ∷ []) (chan_number c) None ≡ None
empty_slots chan.A = refl
empty_slots chan.B = refl
empty_slots chan.C = refl
empty_slots chan.D = refl
empty_slots chan.E = refl
