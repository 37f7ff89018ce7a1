-- Lists in strict order: beats that rise, and rows that do.
use Rattle.std.proofs.Common.{◌≡◌, ℕ, eq-eqb, inl, inr, List, [], ◌∷◌, ◌++◌, refl, sym, ap, subst, ◌∙◌}
use Rattle.std.specs.Prelude.{map, filter, ◌==◌, Bool, Option, None}
use Rattle.std.specs.Option.{option_cmp}
use Rattle.std.specs.declared.cmp.Ordering.{Ordering}
use Rattle.std.specs.declared.cmp.Ordering.TheVariants.{Less, Equal, Greater}
use Rattle.std.specs.Ordering.{nat_cmp, ordering_then, ordering_reverse}
use Rattle.std.specs.Cmp.{IsTotalOrder}
use Rattle.std.specs.List.{Contains}
use Rattle.std.specs.List.Sorted.{IsStrictlySortedBy}
use Rattle.std.proofs.lemmas.Cmp.{nat_cmp_total, tied_itself}
use Rattle.std.proofs.lemmas.List.Elements.{Contains-append_cases}
use Rattle.tl_tables.specs.declared.Rule.{Rule}
use Rattle.tl_tables.specs.Messages.{chan_number}
use Rattle.tl_beats.specs.declared.Placed.{Placed}
use Rattle.tl_beats.specs.declared.Row.{Row}
use Rattle.tl_definitions.specs.Positions.{position_order}
use Rattle.tl_definitions.specs.Breaks.{row_of}
use Rattle.tl_definitions.specs.Report.{by_number, key_order, captured, RisingBeatsHaveOnePlace}
use Rattle.tl_definitions.proofs.Lists.{contains_none, contains_here, contains_there, contains_cases, contains_kept, kept_from, mapped_from, all_of, all_by}
use Rattle.tl_definitions.proofs.OrderLaws.{then_less, tie_then_less}
use Rattle.tl_definitions.proofs.PositionLaws.{position_total, positions_are_ordered}

module _ {X : Type 0} (R : X → X → Ordering) (total : IsTotalOrder R) where
  -- Members of a strict list that tie are one.
  pub tied_members : (xs : List X) → IsStrictlySortedBy R xs → (p q : X) → Contains xs p → Contains xs q → R p q ≡ Equal → p ≡ q
  unfolding IsStrictlySortedBy
  tied_members [] s p q h g e = absurd (contains_none p h)
  tied_members (x ∷ xs) s p q h g e = elim (contains_cases x xs p h) [
    | inl first ↦ elim (contains_cases x xs q g) [
      | inl same ↦ sym first ∙ same
      | inr there ↦ (let less : R p q ≡ Less = subst (λ y. R y q ≡ Less) first (all_of (λ z. R x z ≡ Less) xs s.0 q there) in cc)
    ]
    | inr there ↦ elim (contains_cases x xs q g) [
      | inl first ↦ (let less : R q p ≡ Less = subst (λ y. R y p ≡ Less) first (all_of (λ z. R x z ≡ Less) xs s.0 p there) in
          let tie : R q p ≡ Equal = total.antisymm q p ∙ ap ordering_reverse e in cc)
      | inr also ↦ tied_members xs s.1 p q there also e
    ]
  ]

  -- A list in strict order after another, all of it above.
  pub strict_both : (xs ys : List X) → IsStrictlySortedBy R xs → IsStrictlySortedBy R ys → ((x y : X) → Contains xs x → Contains ys y → R x y ≡ Less) → IsStrictlySortedBy R (xs ++ ys)
  unfolding IsStrictlySortedBy
  strict_both [] ys s t above = t
  strict_both (x ∷ xs) ys s t above = (
    all_by (λ y. R x y ≡ Less) (xs ++ ys) (λ y h. elim (Contains-append_cases xs ys y h) [ inl a ↦ all_of (λ z. R x z ≡ Less) xs s.0 y a | inr b ↦ above x y (contains_here x xs) b ]),
    strict_both xs ys s.1 t (λ z y h g. above z y (contains_there x xs z h) g),
  )

pub rising_beats_have_one_place : RisingBeatsHaveOnePlace
rising_beats_have_one_place captures rises same here there p q at_here at_there h g tie =
    let linked : p.link ≡ q.link = ((positions_are_ordered.ties p q).0 tie).2 in
    let on_link : Placed → Bool = λ r. r.link == p.link in
    let own : Contains (filter on_link (captured here)) p = contains_kept on_link (captured here) p h (eq-eqb p.link p.link refl) in
    let also : Contains (captured there) p = (kept_from on_link (captured there) p (subst (λ ps. Contains ps p) (same here there p q at_here at_there h g linked) own)).0 in
    let is : p ≡ q = tied_members position_order position_total (captured there) (rises there at_there) p q also g tie in
    (ap (λ (x : Placed). x.fragment) is, ap (λ (x : Placed). x.line) is)

-- Rows in the order of a report.

-- A later cycle or channel decides, whatever comes after these.
other_rest : (cycle channel link rest : Ordering) → ordering_then cycle (ordering_then channel link) ≡ Less → link ≡ Equal → ordering_then cycle (ordering_then channel rest) ≡ Less
other_rest Less channel link rest h e = refl
other_rest Equal Less link rest h e = refl
other_rest Equal Equal link rest h e = cc
other_rest Equal Greater link rest h e = cc
other_rest Greater channel link rest h e = cc

itself : (n : ℕ) → nat_cmp n n ≡ Equal
itself n = tied_itself nat_cmp_total n

rows_of_one : (p : Placed) (r s : Rule) → by_number r s ≡ Less → key_order (row_of p r) (row_of p s) ≡ Less
rows_of_one p r s less =
    let last : Ordering = ordering_then (by_number r s) Equal in
    let own : last ≡ Less = then_less (by_number r s) Equal less in
    let channel = tie_then_less (nat_cmp (chan_number p.beat.chan) (chan_number p.beat.chan)) last (itself (chan_number p.beat.chan)) own in
    let cycle = tie_then_less (nat_cmp p.beat.cycle p.beat.cycle) (ordering_then (nat_cmp (chan_number p.beat.chan) (chan_number p.beat.chan)) last) (itself p.beat.cycle) channel in
    tie_then_less (nat_cmp p.link p.link) (ordering_then (nat_cmp p.beat.cycle p.beat.cycle) (ordering_then (nat_cmp (chan_number p.beat.chan) (chan_number p.beat.chan)) last)) (itself p.link) cycle

-- A row of a beat, of any rule and monitor.
abbrev pub row_with : Placed → Rule → Option ℕ → Row
row_with p broken monitor = record { link = p.link; cycle = p.beat.cycle; chan = p.beat.chan; rule = broken; monitor = monitor; fragment = p.fragment; line = p.line }

pub rows_of_places : (p q : Placed) (r s : Rule) (m n : Option ℕ) → p.link ≡ q.link → position_order p q ≡ Less → key_order (row_with p r m) (row_with q s n) ≡ Less
rows_of_places p q r s m n same less =
    let link : nat_cmp p.link q.link ≡ Equal = ap (nat_cmp p.link) (sym same) ∙ itself p.link in
    let cycle : Ordering = nat_cmp p.beat.cycle q.beat.cycle in
    let channel : Ordering = nat_cmp (chan_number p.beat.chan) (chan_number q.beat.chan) in
    let last : Ordering = ordering_then (by_number r s) (option_cmp nat_cmp m n) in
    tie_then_less (nat_cmp p.link q.link) (ordering_then cycle (ordering_then channel last)) link (other_rest cycle channel (nat_cmp p.link q.link) last less link)

pub rows_of_two : (p q : Placed) (r s : Rule) → p.link ≡ q.link → position_order p q ≡ Less → key_order (row_of p r) (row_of q s) ≡ Less
rows_of_two p q r s same less = rows_of_places p q r s None None same less

pub rows_rise : (p : Placed) (rules : List Rule) → IsStrictlySortedBy by_number rules → IsStrictlySortedBy key_order (map (row_of p) rules)
unfolding IsStrictlySortedBy
rows_rise p [] s = tt
rows_rise p (r ∷ rules) s = (
  all_by (λ y. key_order (row_of p r) y ≡ Less) (map (row_of p) rules) (λ y h.
      let found = mapped_from (row_of p) rules y h in
      subst (λ z. key_order (row_of p r) z ≡ Less) found.2 (rows_of_one p r found.0 (all_of (λ x. by_number r x ≡ Less) rules s.0 found.0 found.1))),
  rows_rise p rules s.1,
)
