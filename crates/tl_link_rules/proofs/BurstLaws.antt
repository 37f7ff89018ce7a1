-- A state goes on standing for the beats of its link.
use Rattle.std.proofs.Common.{◌≡◌, ◌≢◌, ℕ, ◌-◌, ◌<◌, true, false, cond, List, [], ◌∷◌, length, get_or, Option, None, refl, sym, ap, subst, ◌∙◌, arith}
use Rattle.std.specs.Prelude.{◌==◌, ◌&&◌, slice_index}
use Rattle.std.specs.Option.{option_map, option_map_or}
use Rattle.std.proofs.lemmas.Bool.Decides.{nat_tests}
use Rattle.std.proofs.Math.ListN.{set}
use Rattle.std.proofs.lemmas.List.{get_or-set_same, get_or-set_other}
use Rattle.tl_tables.specs.declared.Chan.{Chan}
use Rattle.tl_tables.specs.declared.Chan.TheVariants as chan
use Rattle.tl_tables.specs.Messages.{chan_number, same_chan}
use Rattle.tl_topology.specs.declared.LinkDecl.{LinkDecl}
use Rattle.tl_beats.specs.declared.Beat.{Beat}
use Rattle.tl_beats.specs.declared.Placed.{Placed}
use Rattle.tl_definitions.specs.declared.Unfinished.{Unfinished}
use Rattle.tl_definitions.specs.Heads.{is_head, last_head, ends, before_on, unfinished, after_beat}
use Rattle.tl_definitions.proofs.HeadLaws.{latest, next_law}
use Rattle.tl_link_rules.specs.declared.bursts.Place.TheVariants as place
use Rattle.tl_link_rules.specs.declared.bursts.BurstState.{BurstState}
use Rattle.tl_link_rules.specs.Bursts.{place_of, place_in, slots_after, slot_at, StandsFor}

place_law : (link : LinkDecl) (before : List Beat) → place_in (unfinished link before) ≡ place_of link before
place_law link [] = refl
place_law link (last ∷ before) =
    let known = latest link last before in
    elim (is_head link (last ∷ before)) as (λ b. place_in (cond {A = Option Unfinished} b None (option_map (λ head. record { head = head; missing = slice_index (ends link (last ∷ before)) 0 - length (last ∷ before) }) (last_head link (last ∷ before)))) ≡ cond b place.Head (option_map_or place.Later (last_head link (last ∷ before)) place.Head)) [
      | true ↦ refl
      | false ↦ rw known.2.is refl
    ]

number_below : (c : Chan) → chan_number c < 5
number_below chan.A = omega arith
number_below chan.B = omega arith
number_below chan.C = omega arith
number_below chan.D = omega arith
number_below chan.E = omega arith

-- one slot is written
pub slot_set : (slots : List (Option Unfinished)) (own other : Chan) (new : Option Unfinished) → length slots ≡ 5
    → get_or (set slots (chan_number own) new) (chan_number other) None ≡ cond (same_chan own other) new (get_or slots (chan_number other) None)
slot_set slots own other new five =
    let below : chan_number own < length slots = (let h = number_below own in omega arith) in
    elim (same_chan own other) as (λ b. same_chan own other ≡ b → get_or (set slots (chan_number own) new) (chan_number other) None ≡ cond b new (get_or slots (chan_number other) None)) [
      | true ↦ λ h. let e : chan_number own ≡ chan_number other = grind (arith, nat_tests) in
          subst (λ k. get_or (set slots (chan_number own) new) k None ≡ new) e (get_or-set_same slots (chan_number own) new None below)
      | false ↦ λ h. let ne : chan_number other ≢ chan_number own = (λ e. grind (arith, nat_tests)) in get_or-set_other slots (chan_number own) (chan_number other) new None ne
    ] refl

pub stands_law : (link : LinkDecl) (beat : Beat) (old new : BurstState) (number fragment line : ℕ) (before : List Placed) → StandsFor old link number before
    → ((other : Chan) → slot_at new other ≡ slots_after link beat (slot_at old) other)
    → StandsFor new link number (record { link = number; fragment = fragment; line = line; beat = beat } ∷ before)
stands_law link beat old new number fragment line before stands next = record {
  slots = λ other.
      let same : (number == number) ≡ true = grind (arith, nat_tests) in
      next other
      ∙ ap (λ slot. cond (same_chan beat.chan other) (after_beat link beat slot) slot) (stands.slots other)
      ∙ elim (same_chan beat.chan other) as (λ b. cond b (after_beat link beat (unfinished link (before_on number other before))) (unfinished link (before_on number other before))
      ≡ unfinished link (cond b (beat ∷ before_on number other before) (before_on number other before))) [
        | true ↦ next_law link beat (before_on number other before)
        | false ↦ refl
      ]
      ∙ ap (λ b. unfinished link (cond (b && same_chan beat.chan other) (beat ∷ before_on number other before) (before_on number other before))) (sym same);
}

pub place_stands : (link : LinkDecl) (beat : Beat) (state : BurstState) (number : ℕ) (before : List Placed) → StandsFor state link number before
    → place_in (slot_at state beat.chan) ≡ place_of link (before_on number beat.chan before)
place_stands link beat state number before stands = ap place_in (stands.slots beat.chan) ∙ place_law link (before_on number beat.chan before)
