-- Beats link by link: each link's are its own in the order of positions.
use Rattle.std.proofs.Common.{◌≡◌, ℕ, ◌<◌, ◌+◌, ◌==◌, inl, inr, true, false, List, [], ◌∷◌, ◌++◌, take, Some, refl, sym, ap, subst, ◌∙◌, arith, append_assoc, append-nil}
use Rattle.std.specs.Prelude.{slice_get}
use Rattle.std.specs.List.{Contains}
use Rattle.std.specs.List.Sorted.{IsStrictlySortedBy}
use Rattle.std.specs.Ordering.{nat_cmp}
use Rattle.std.specs.declared.cmp.Ordering.TheVariants.{Less}
use Rattle.std.proofs.lemmas.List.Elements.{Contains-append_cases}
use Rattle.tl_beats.specs.declared.Placed.{Placed}
use Rattle.tl_definitions.specs.LinkPasses.{on_link}
use Rattle.tl_definitions.proofs.LinkLaws.{same_link}
use Rattle.tl_definitions.proofs.Lists.{contains_none, contains_here, contains_there, contains_cases, contains_kept, kept_from, none_kept, kept_of_both, all_of}
use Rattle.tl_capture.proofs.EntryLemmas.{all_kept}
use Rattle.tl_capture.proofs.PresentLemmas.{less_is}
use Rattle.tl_check.specs.LinkByLink.{of_each, one_after_other}
use Rattle.tl_check.proofs.ListLaws.{take_more}

other_link : (link l : ℕ) (beats : List Placed) → (l ≡ link → ⊥) → on_link link (on_link l beats) ≡ []
other_link link l beats differ = none_kept (λ (p : Placed). p.link == link) (on_link l beats) (λ p h. elim (p.link == link) as (λ b. (p.link == link) ≡ b → b ≡ false) [
  | true ↦ λ e. absurd (differ (sym (same_link p.link l (kept_from (λ (q : Placed). q.link == l) beats p h).1) ∙ same_link p.link link e))
  | false ↦ λ e. refl
] refl)

own_twice : (link : ℕ) (beats : List Placed) → on_link link (on_link link beats) ≡ on_link link beats
own_twice link beats = all_kept (λ (p : Placed). p.link == link) (on_link link beats) (λ p h. (kept_from (λ (q : Placed). q.link == link) beats p h).1)

none_there : (link : ℕ) (links : List ℕ) (beats : List Placed) → (Contains links link → ⊥) → on_link link (one_after_other (of_each links beats)) ≡ []
none_there link [] beats away = refl
none_there link (l ∷ links) beats away =
    kept_of_both (λ (p : Placed). p.link == link) (on_link l beats) (one_after_other (of_each links beats))
    ∙ ap (λ ps. ps ++ on_link link (one_after_other (of_each links beats))) (other_link link l beats (λ is. away (subst (Contains (l ∷ links)) is (contains_here l links))))
    ∙ none_there link links beats (λ h. away (contains_there l links link h))

some_there : (link : ℕ) (links : List ℕ) (beats : List Placed) → IsStrictlySortedBy nat_cmp links → Contains links link → on_link link (one_after_other (of_each links beats)) ≡ on_link link beats
unfolding IsStrictlySortedBy
some_there link [] beats up has = absurd (contains_none link has)
some_there link (l ∷ links) beats up has =
    let later : (n : ℕ) → Contains links n → l < n = λ n h. less_is l n (all_of (λ k. nat_cmp l k ≡ Less) links up.0 n h) in
    kept_of_both (λ (p : Placed). p.link == link) (on_link l beats) (one_after_other (of_each links beats))
    ∙ elim (contains_cases l links link has) [
      | inl is ↦ ap (λ ps. on_link link (on_link l beats) ++ ps) (none_there link links beats (λ h. let lt = later link h in absurd (omega arith)))
          ∙ append-nil (on_link link (on_link l beats)) ∙ ap (λ n. on_link link (on_link n beats)) is ∙ own_twice link beats
      | inr there ↦ (let lt = later link there in
          ap (λ ps. ps ++ on_link link (one_after_other (of_each links beats))) (other_link link l beats (λ is. absurd (omega arith))) ∙ some_there link links beats up.1 there)
    ]

-- They are among the beats.
pub from_each : (links : List ℕ) (beats : List Placed) (p : Placed) → Contains (one_after_other (of_each links beats)) p → Contains beats p
from_each [] beats p h = absurd (contains_none p h)
from_each (l ∷ links) beats p h = elim (Contains-append_cases (on_link l beats) (one_after_other (of_each links beats)) p h) [
  | inl here ↦ (kept_from (λ (q : Placed). q.link == l) beats p here).0
  | inr there ↦ from_each links beats p there
]

-- Where the beats are of these links, each link has its own.
pub each_stays : (links : List ℕ) (beats : List Placed) → IsStrictlySortedBy nat_cmp links → ((p : Placed) → Contains beats p → Contains links p.link)
    → (link : ℕ) → on_link link (one_after_other (of_each links beats)) ≡ on_link link beats
each_stays links beats up linked link = elim (on_link link beats) as (λ ps. on_link link beats ≡ ps → on_link link (one_after_other (of_each links beats)) ≡ on_link link beats) [
  | p ∷ ps ↦ λ e. (let kept = kept_from (λ (q : Placed). q.link == link) beats p (subst (λ qs. Contains qs p) (sym e) (contains_here p ps)) in
      some_there link links beats up (subst (Contains links) (same_link p.link link kept.1) (linked p kept.0)))
  | [] ↦ λ e. none_kept (λ (q : Placed). q.link == link) (one_after_other (of_each links beats)) (λ q h. elim (q.link == link) as (λ b. (q.link == link) ≡ b → b ≡ false) [
    | true ↦ λ at. absurd (contains_none q (subst (λ qs. Contains qs q) e (contains_kept (λ (r : Placed). r.link == link) beats q (from_each links beats q h) at)))
    | false ↦ λ at. refl
  ] refl) ∙ sym e
] refl

-- ---- one list more

each_both : (links : List ℕ) (link : ℕ) (beats : List Placed) → of_each (links ++ link ∷ []) beats ≡ of_each links beats ++ on_link link beats ∷ []
each_both [] link beats = refl
each_both (l ∷ links) link beats = ap (λ ls. on_link l beats ∷ ls) (each_both links link beats)

pub each_more : (links : List ℕ) (k link : ℕ) (beats : List Placed) (lists more : List (List Placed)) (own : List Placed) → slice_get links k ≡ Some link → lists ≡ of_each (take k links) beats
    → own ≡ on_link link beats → more ≡ lists ++ own ∷ [] → more ≡ of_each (take (k + 1) links) beats
each_more links k link beats lists more own at known is put =
    put ∙ ap (λ ls. ls ++ own ∷ []) known ∙ ap (λ ps. of_each (take k links) beats ++ ps ∷ []) is
    ∙ sym (each_both (take k links) link beats) ∙ ap (λ ls. of_each ls beats) (sym (take_more links k link at))

pub turn_more : (lists : List (List Placed)) (beats : List Placed) → one_after_other (lists ++ beats ∷ []) ≡ one_after_other lists ++ beats
turn_more [] beats = append-nil beats
turn_more (first ∷ lists) beats = ap (λ ps. first ++ ps) (turn_more lists beats) ∙ sym (append_assoc first (one_after_other lists) beats)

-- The beats of one link more.
pub link_more : (links : List ℕ) (k link : ℕ) (beats : List Placed) → slice_get links k ≡ Some link
    → one_after_other (of_each (take (k + 1) links) beats) ≡ one_after_other (of_each (take k links) beats) ++ on_link link beats
link_more links k link beats at =
    ap (λ ls. one_after_other (of_each ls beats)) (take_more links k link at)
    ∙ ap one_after_other (each_both (take k links) link beats) ∙ turn_more (of_each (take k links) beats) (on_link link beats)
