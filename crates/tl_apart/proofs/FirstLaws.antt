-- Which of the links of a manager has the first event.
use Rattle.std.proofs.Common.{◌≡◌, ℕ, inl, inr, ◌==◌, true, false, cond, List, [], ◌∷◌, ◌++◌, Option, Some, None, MatchOption, refl, sym, ap, subst, ◌∙◌}
use Rattle.std.specs.Prelude.{slice_get}
use Rattle.std.specs.List.{Contains}
use Rattle.std.specs.declared.cmp.Ordering.{Ordering}
use Rattle.std.specs.declared.cmp.Ordering.TheVariants.{Less, Equal, Greater}
use Rattle.std.specs.Ordering.{is_lt, ordering_reverse}
use Rattle.std.proofs.lemmas.List.Elements.{Contains-append_left, Contains-append_right, Contains-append_cases}
use Rattle.tl_beats.specs.declared.Placed.{Placed}
use Rattle.tl_definitions.specs.Events.{Event, event_order}
use Rattle.tl_definitions.specs.Positions.{position_order, lies_before}
use Rattle.tl_definitions.proofs.LinkLaws.{itself, same_link}
use Rattle.tl_definitions.proofs.Lists.{contains_none, contains_here, contains_cases}
use Rattle.tl_definitions.proofs.PositionLaws.{position_total, positions_are_ordered}
use Rattle.tl_apart.specs.Feeds.{waiting_of, first_of, AreOwn, AreSilent, IsFirstAt}
use Rattle.tl_apart.specs.FeedData.{FeedData}
use Rattle.tl_apart.proofs.EventLaws.{event_total}

less_from : (o : Ordering) → is_lt o ≡ true → o ≡ Less
less_from Less h = refl
less_from Equal h = cc
less_from Greater h = cc

-- One of another link lies before it, or after.
other_way : (d e : Event) → lies_before e.place d.place ≡ false → (d.place.link ≡ e.place.link → ⊥) → event_order d e ≡ Less
other_way d e not_less other = go (position_order d.place e.place) refl
  where
    go : (o : Ordering) → position_order d.place e.place ≡ o → o ≡ Less
    go Less is = refl
    go Equal is = absurd (other ((positions_are_ordered.ties d.place e.place).0 is).2)
    go Greater is = absurd (let less : position_order e.place d.place ≡ Less = position_total.antisymm e.place d.place ∙ ap ordering_reverse is in let wrong : true ≡ false = sym (ap is_lt less) ∙ not_less in cc)

one_head : (x y : Event) (xs ys : List Event) → x ∷ xs ≡ y ∷ ys → x ≡ y
one_head x y xs ys h = cc

no_head : (x : Event) (xs : List Event) → [] ≡ x ∷ xs → ⊥
no_head x xs h = cc

module _ (feeds : List FeedData) (clients : List ℕ) (own : AreOwn feeds clients) (seen : List ℕ) (known : (n : ℕ) → Contains seen n → Contains clients n) (client : ℕ) (has : Contains clients client) where
  abbrev more : List ℕ
  more = seen ++ client ∷ []

  abbrev Best : List ℕ → Option (ℕ × Placed) → Type 0
  Best links first = MatchOption first (AreSilent feeds links) (λ b. IsFirstAt feeds links b.0 b.1)

  old_or_new : (n : ℕ) (P : Type 0) → Contains more n → (Contains seen n → P) → (client ≡ n → P) → P
  old_or_new n P h old new = elim (Contains-append_cases seen (client ∷ []) n h) [
    | inl a ↦ old a
    | inr b ↦ elim (contains_cases client [] n b) [ inl same ↦ new same | inr none ↦ absurd (contains_none n none) ]
  ]

  -- Nothing waits of it.
  silent : waiting_of feeds client ≡ [] → (first : Option (ℕ × Placed)) → Best seen first → Best more first
  silent none None had = λ n h. old_or_new n (waiting_of feeds n ≡ []) h (had n) (λ same. ap (waiting_of feeds) (sym same) ∙ none)
  silent none (Some f) had = (
    Contains-append_left seen (client ∷ []) f.0 had.0,
    had.1,
    had.2,
    had.3,
    had.4,
    λ n e es h other w. old_or_new n (event_order had.1 e ≡ Less) h (λ a. had.5 n e es a other w) (λ same. absurd (no_head e es (sym none ∙ ap (waiting_of feeds) same ∙ w))),
  )

  module _ (e : Event) (es : List Event) (next : waiting_of feeds client ≡ e ∷ es) where
    of_client : e.place.link ≡ client
    of_client = own client e has (subst (λ xs. Contains xs e) (sym next) (contains_here e es))

    only : AreSilent feeds seen → IsFirstAt feeds more client e.place
    only none = (
      Contains-append_right seen (client ∷ []) client (contains_here client []),
      e,
      es,
      next,
      refl,
      λ n x xs h other w. old_or_new n (event_order e x ≡ Less) h (λ a. absurd (no_head x xs (sym (none n a) ∙ w))) (λ same. absurd (other (sym same))),
    )

    before : (f : ℕ × Placed) → IsFirstAt feeds seen f.0 f.1 → lies_before e.place f.1 ≡ true → IsFirstAt feeds more client e.place
    before f had less =
        let down : event_order e had.1 ≡ Less = less_from (position_order e.place had.1.place) (ap (lies_before e.place) had.4 ∙ less) in (
          Contains-append_right seen (client ∷ []) client (contains_here client []),
          e,
          es,
          next,
          refl,
          λ n x xs h other w. old_or_new n (event_order e x ≡ Less) h
              (λ a. elim (n == f.0) as (λ b. (n == f.0) ≡ b → event_order e x ≡ Less) [
                | true ↦ λ t. subst (λ y. event_order e y ≡ Less) (one_head had.1 x had.2 xs (sym had.3 ∙ ap (waiting_of feeds) (sym (same_link n f.0 t)) ∙ w)) down
                | false ↦ λ t. event_total.trans e had.1 x down (had.5 n x xs a (λ same. (let yes : (n == f.0) ≡ true = ap (λ l. l == f.0) same ∙ itself f.0 in cc)) w)
              ] refl)
              (λ same. absurd (other (sym same))),
        )

    after : (f : ℕ × Placed) → IsFirstAt feeds seen f.0 f.1 → lies_before e.place f.1 ≡ false → IsFirstAt feeds more f.0 f.1
    after f had not_less =
        let of_first : had.1.place.link ≡ f.0 = own f.0 had.1 (known f.0 had.0) (subst (λ xs. Contains xs had.1) (sym had.3) (contains_here had.1 had.2)) in (
          Contains-append_left seen (client ∷ []) f.0 had.0,
          had.1,
          had.2,
          had.3,
          had.4,
          λ n x xs h other w. old_or_new n (event_order had.1 x ≡ Less) h (λ a. had.5 n x xs a other w)
              (λ same. subst (λ y. event_order had.1 y ≡ Less) (one_head e x es xs (sym next ∙ ap (waiting_of feeds) same ∙ w))
              (other_way had.1 e (ap (lies_before e.place) had.4 ∙ not_less) (λ one. other (sym same ∙ sym of_client ∙ sym one ∙ of_first)))),
        )

    with_next : (first : Option (ℕ × Placed)) → Best seen first → Best more (first_of first client (Some e))
    with_next None had = only had
    with_next (Some f) had = elim (lies_before e.place f.1) as (λ b. lies_before e.place f.1 ≡ b → Best more (cond b (Some (client, e.place)) (Some f))) [
      | true ↦ λ less. before f had less
      | false ↦ λ not_less. after f had not_less
    ] refl

  pub one_more : (first : Option (ℕ × Placed)) → Best seen first → Best more (first_of first client (slice_get (waiting_of feeds client) 0))
  one_more first had = go (waiting_of feeds client) refl
    where
      go : (es : List Event) → waiting_of feeds client ≡ es → Best more (first_of first client (slice_get es 0))
      go [] is = silent is first had
      go (e ∷ es) is = with_next e es is first had
