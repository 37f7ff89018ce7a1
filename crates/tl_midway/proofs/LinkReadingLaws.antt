-- The readings of a link, channel by channel.
use Rattle.std.proofs.Common.{◌≡◌, ℕ, ◌==◌, ◌&&◌, Bool, true, false, cond, List, [], ◌∷◌, map, refl, sym, ap, subst, ◌∙◌, arith}
use Rattle.std.proofs.lemmas.Bool.Decides.{nat_tests}
use Rattle.tl_tables.specs.declared.Chan.{Chan}
use Rattle.tl_tables.specs.declared.Chan.TheVariants as chan
use Rattle.tl_tables.specs.Messages.{same_chan}
use Rattle.tl_topology.specs.declared.LinkDecl.{LinkDecl}
use Rattle.tl_beats.specs.declared.Beat.{Beat}
use Rattle.tl_beats.specs.declared.Placed.{Placed}
use Rattle.tl_definitions.specs.Heads.{before_on}
use Rattle.tl_definitions.specs.Readings.{first_readings, readings_after, told, reading_after}
use Rattle.tl_definitions.specs.Rules.{Manager}
use Rattle.tl_definitions.specs.Known.{Beginning, readings_of}
use Rattle.tl_midway.specs.Members.{SameMembers}
use Rattle.tl_midway.specs.Midway.{IsMost, beginning_of}
use Rattle.tl_midway.specs.Readings as channel
use Rattle.tl_midway.specs.Readings.{Has, shown_readings}
use Rattle.tl_midway.specs.Seen.{Tells}
use Rattle.tl_midway.specs.Standing as one
use Rattle.tl_midway.specs.Standing.{IsStanding}
use Rattle.tl_midway.specs.LinkReadings.{channel_of, IsFirst, IsKnown, StandsFor, Takes}
use Rattle.tl_midway.specs.declared.midway.Midway.{Midway}
use Rattle.tl_midway.specs.declared.readings.Readings.{Readings}
use Rattle.tl_midway.specs.declared.link_readings.LinkReadings.{LinkReadings}
use Rattle.tl_midway.specs.declared.standing.Standing.{Standing}
use Rattle.tl_midway.proofs.ReadingLaws.{has_first}

-- ---- before all beats

-- One channel has the readings of its first beat.
abbrev pub Begins : Midway → LinkDecl → Chan → ℕ → Readings → Type 0
Begins law link chan most state = IsMost law link chan most × SameMembers (shown_readings state) (first_readings most) × Tells state.seen []

begun : (law : Midway) (link : LinkDecl) (chan : Chan) (most : ℕ) (state : Readings) → Begins law link chan most state → (n : ℕ) × IsMost law link chan n × Has state (first_readings n) []
begun law link chan most state begins = (most, begins.0, has_first state most begins.1 begins.2)

pub first_law : (law : Midway) (link : LinkDecl) (state : LinkReadings) (a b c d e : ℕ) → Begins law link chan.A a state.a → Begins law link chan.B b state.b
    → Begins law link chan.C c state.c → Begins law link chan.D d state.d → Begins law link chan.E e state.e → IsFirst law link state
first_law law link state a b c d e on_a on_b on_c on_d on_e chan.A = begun law link chan.A a state.a on_a
first_law law link state a b c d e on_a on_b on_c on_d on_e chan.B = begun law link chan.B b state.b on_b
first_law law link state a b c d e on_a on_b on_c on_d on_e chan.C = begun law link chan.C c state.c on_c
first_law law link state a b c d e on_a on_b on_c on_d on_e chan.D = begun law link chan.D d state.d on_d
first_law law link state a b c d e on_a on_b on_c on_d on_e chan.E = begun law link chan.E e state.e on_e

pub first_known : (law : Midway) (link : LinkDecl) (state : LinkReadings) → IsFirst law link state → IsKnown state
first_known law link state first k = let found = first k in (first_readings found.0, [], found.2)

pub first_stands : (law : Midway) (m : Manager) (state : LinkReadings) → IsFirst law (m.links state.number) state → StandsFor m (beginning_of law m) state []
first_stands law m state first k =
    let found = first k in
    subst (λ n. Has (channel_of state k) (first_readings n) []) (found.1 m state.number refl) found.2

-- ---- one channel is set

others_a : (old : LinkReadings) (now : Readings) (k : Chan) → same_chan chan.A k ≡ false → channel_of (record old { a = now }) k ≡ channel_of old k
others_a old now chan.A h = cc
others_a old now chan.B h = refl
others_a old now chan.C h = refl
others_a old now chan.D h = refl
others_a old now chan.E h = refl

others_b : (old : LinkReadings) (now : Readings) (k : Chan) → same_chan chan.B k ≡ false → channel_of (record old { b = now }) k ≡ channel_of old k
others_b old now chan.B h = cc
others_b old now chan.A h = refl
others_b old now chan.C h = refl
others_b old now chan.D h = refl
others_b old now chan.E h = refl

others_c : (old : LinkReadings) (now : Readings) (k : Chan) → same_chan chan.C k ≡ false → channel_of (record old { c = now }) k ≡ channel_of old k
others_c old now chan.C h = cc
others_c old now chan.A h = refl
others_c old now chan.B h = refl
others_c old now chan.D h = refl
others_c old now chan.E h = refl

others_d : (old : LinkReadings) (now : Readings) (k : Chan) → same_chan chan.D k ≡ false → channel_of (record old { d = now }) k ≡ channel_of old k
others_d old now chan.D h = cc
others_d old now chan.A h = refl
others_d old now chan.B h = refl
others_d old now chan.C h = refl
others_d old now chan.E h = refl

others_e : (old : LinkReadings) (now : Readings) (k : Chan) → same_chan chan.E k ≡ false → channel_of (record old { e = now }) k ≡ channel_of old k
others_e old now chan.E h = cc
others_e old now chan.A h = refl
others_e old now chan.B h = refl
others_e old now chan.C h = refl
others_e old now chan.D h = refl

module _ (link : LinkDecl) (by_fields : Bool) (beat : Beat) (old : LinkReadings) (result : Standing) (now : Readings) where
  takes_on : (on : Chan) (new : LinkReadings) → beat.chan ≡ on → new.number ≡ old.number → one.Takes link by_fields beat (channel_of old on) result (channel_of new on)
      → ((k : Chan) → same_chan on k ≡ false → channel_of new k ≡ channel_of old k) → Takes link by_fields beat old result new
  takes_on on new is same takes others = record {
    number = same;
    own = subst (λ k. one.Takes link by_fields beat (channel_of old k) result (channel_of new k)) (sym is) takes;
    others = λ k other. others k (sym (ap (λ o. same_chan o k) is) ∙ other);
  }

  pub takes_a : beat.chan ≡ chan.A → one.Takes link by_fields beat old.a result now → Takes link by_fields beat old result (record old { a = now })
  takes_a is takes = takes_on chan.A (record old { a = now }) is refl takes (others_a old now)

  pub takes_b : beat.chan ≡ chan.B → one.Takes link by_fields beat old.b result now → Takes link by_fields beat old result (record old { b = now })
  takes_b is takes = takes_on chan.B (record old { b = now }) is refl takes (others_b old now)

  pub takes_c : beat.chan ≡ chan.C → one.Takes link by_fields beat old.c result now → Takes link by_fields beat old result (record old { c = now })
  takes_c is takes = takes_on chan.C (record old { c = now }) is refl takes (others_c old now)

  pub takes_d : beat.chan ≡ chan.D → one.Takes link by_fields beat old.d result now → Takes link by_fields beat old result (record old { d = now })
  takes_d is takes = takes_on chan.D (record old { d = now }) is refl takes (others_d old now)

  pub takes_e : beat.chan ≡ chan.E → one.Takes link by_fields beat old.e result now → Takes link by_fields beat old result (record old { e = now })
  takes_e is takes = takes_on chan.E (record old { e = now }) is refl takes (others_e old now)

-- ---- one beat more

same_channel : (one two : Chan) → same_chan one two ≡ true → one ≡ two
same_channel chan.A chan.A h = refl
same_channel chan.B chan.B h = refl
same_channel chan.C chan.C h = refl
same_channel chan.D chan.D h = refl
same_channel chan.E chan.E h = refl
same_channel _ _ h = cc

-- A channel is that of the beat, or another.
by_channel : (P : Chan → Type 0) (own k : Chan) → P own → (same_chan own k ≡ false → P k) → P k
by_channel P own k here there = elim (same_chan own k) as (λ b. same_chan own k ≡ b → P k) [
  | true ↦ λ e. subst P (same_channel own k e) here
  | false ↦ λ e. there e
] refl

pub known_after : (link : LinkDecl) (by_fields : Bool) (beat : Beat) (old new : LinkReadings) (result : Standing) → Takes link by_fields beat old result new → IsKnown old → IsKnown new
known_after link by_fields beat old new result takes known k =
    by_channel (λ c. one.IsKnown (channel_of new c)) beat.chan k
    (let was = known beat.chan in
    let next = takes.own was.0 was.1 was.2 in
    (map (reading_after link beat) (told by_fields link beat was.1 was.0), beat ∷ was.1, next.1))
    (λ other. subst (λ r. one.IsKnown r) (sym (takes.others k other)) (known k))

same_itself : (k : Chan) → same_chan k k ≡ true
same_itself chan.A = refl
same_itself chan.B = refl
same_itself chan.C = refl
same_itself chan.D = refl
same_itself chan.E = refl

number_itself : (n : ℕ) → (n == n) ≡ true
number_itself n = grind (arith, nat_tests)

not_both : (a b : Bool) → b ≡ false → (a && b) ≡ false
not_both true b h = h
not_both false b h = refl

module _ (m : Manager) (start : Beginning) (before : List Placed) (p : Placed) where
  -- The beats of a channel with one more.
  abbrev on_own : ℕ → Chan → List Beat
  on_own link k = before_on link k before

  own_more : (number : ℕ) → p.link ≡ number → before_on number p.beat.chan (p ∷ before) ≡ p.beat ∷ before_on number p.beat.chan before
  own_more number is =
      let same : (p.link == number) ≡ true = ap (λ n. p.link == n) (sym is) ∙ number_itself p.link in
      ap (λ b. cond (b && same_chan p.beat.chan p.beat.chan) (p.beat ∷ on_own number p.beat.chan) (on_own number p.beat.chan)) same
      ∙ ap (λ b. cond b (p.beat ∷ on_own number p.beat.chan) (on_own number p.beat.chan)) (same_itself p.beat.chan)

  other_same : (number : ℕ) (k : Chan) → ((p.link == number) && same_chan p.beat.chan k) ≡ false → before_on number k (p ∷ before) ≡ before_on number k before
  other_same number k none = ap (λ b. cond b (p.beat ∷ on_own number k) (on_own number k)) none

  abbrev Stands : LinkReadings → List Placed → Chan → Type 0
  Stands state beats k = channel.StandsFor (m.links state.number) (start.most state.number k) start.by_fields (channel_of state k) (before_on state.number k beats)

  kept : (old new : LinkReadings) (k : Chan) → new.number ≡ old.number → channel_of new k ≡ channel_of old k → ((p.link == old.number) && same_chan p.beat.chan k) ≡ false
      → Stands old before k → Stands new (p ∷ before) k
  kept old new k number same none stands =
      subst (λ n. channel.StandsFor (m.links n) (start.most n k) start.by_fields (channel_of new k) (before_on n k (p ∷ before))) (sym number)
      (subst (λ r. channel.StandsFor (m.links old.number) (start.most old.number k) start.by_fields r (before_on old.number k (p ∷ before))) (sym same)
      (subst (λ bs. channel.StandsFor (m.links old.number) (start.most old.number k) start.by_fields (channel_of old k) bs) (sym (other_same old.number k none)) stands))

  -- A link that the beat isn't of.
  pub other_stands : (state : LinkReadings) → (p.link == state.number) ≡ false → StandsFor m start state before → StandsFor m start state (p ∷ before)
  other_stands state other stands k =
      kept state state k refl refl (ap (λ b. b && same_chan p.beat.chan k) other) (stands k)

  -- The link that it is of.
  pub own_stands : (old new : LinkReadings) (result : Standing) → p.link ≡ old.number → Takes (m.links p.link) start.by_fields p.beat old result new → StandsFor m start old before
      → IsStanding (m.links p.link) p.beat (readings_of m start before p) result × StandsFor m start new (p ∷ before)
  own_stands old new result is takes stands =
      let own : Chan = p.beat.chan in
      let here : Stands old before own = stands own in
      let at : channel.StandsFor (m.links p.link) (start.most p.link own) start.by_fields (channel_of old own) (before_on p.link own before) =
      subst (λ n. channel.StandsFor (m.links n) (start.most n own) start.by_fields (channel_of old own) (before_on n own before)) (sym is) here in
      let next = takes.own (readings_after (m.links p.link) (start.most p.link own) start.by_fields (before_on p.link own before)) (before_on p.link own before) at in (
        next.0,
        (λ k. by_channel (Stands new (p ∷ before)) own k
            (subst (λ n. channel.StandsFor (m.links n) (start.most n own) start.by_fields (channel_of new own) (before_on n own (p ∷ before))) (is ∙ sym takes.number)
            (subst (λ bs. channel.StandsFor (m.links p.link) (start.most p.link own) start.by_fields (channel_of new own) bs) (sym (own_more p.link refl)) next.1))
            (λ other. kept old new k takes.number (takes.others k other) (not_both (p.link == old.number) (same_chan own k) other) (stands k))),
      )
