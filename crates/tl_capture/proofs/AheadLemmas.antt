-- Beats of one fragment that are taken ahead of those of other links.
use Rattle.std.proofs.Common.{◌≡◌, ℕ, zero, suc, ◌==◌, ◌≤◌, inl, inr, true, false, cond, List, [], ◌∷◌, ◌++◌, take, drop, refl, sym, ap, subst, ◌∙◌, arith}
use Rattle.std.specs.declared.cmp.Ordering.TheVariants.{Less}
use Rattle.std.specs.Ordering.{is_lt}
use Rattle.std.specs.List.{Contains}
use Rattle.std.specs.List.Sorted.{IsStrictlySortedBy}
use Rattle.std.proofs.lemmas.List.Elements.{All-contains, Contains-append_left, Contains-append_cases}
use Rattle.std.proofs.lemmas.List.Sorted.{Contains-permutation, IsPermutation-sym}
use Rattle.tl_beats.specs.declared.Placed.{Placed}
use Rattle.tl_capture.specs.declared.cursor.Cursor.{Cursor}
use Rattle.tl_definitions.specs.Positions.{position_order, lies_before, insert_in_order, in_order}
use Rattle.tl_capture.specs.Cursors.{here, after, all_left}
use Rattle.tl_capture.specs.Runs.{AreAhead, AreOthers, IsAlone, IsPast}
use Rattle.tl_capture.specs.Waiting.{under_top, in_turn}
use Rattle.tl_definitions.proofs.Lists.{contains_none, contains_cases, all_of, all_by}
use Rattle.tl_capture.proofs.CursorLemmas.{left_from, placed_link, placed_rise}
use Rattle.tl_capture.proofs.PartLemmas.{order_moves}

-- A beat that is put in order stands behind beats before which it does not lie.
insert_splits : (p : Placed) (qs : List Placed) → (before behind : List Placed) × (insert_in_order p qs ≡ before ++ p ∷ behind) × (qs ≡ before ++ behind)
    × ((q : Placed) → Contains before q → lies_before p q ≡ false)
insert_splits p [] = ([], [], refl, refl, λ q h. absurd (contains_none q h))
insert_splits p (q ∷ qs) = elim (lies_before p q) as (λ b. lies_before p q ≡ b → (before behind : List Placed) × (cond b (p ∷ q ∷ qs) (q ∷ insert_in_order p qs) ≡ before ++ p ∷ behind)
    × (q ∷ qs ≡ before ++ behind) × ((x : Placed) → Contains before x → lies_before p x ≡ false)) [
      | true ↦ λ e. ([], q ∷ qs, refl, refl, λ x h. absurd (contains_none x h))
      | false ↦ λ e. let rest = insert_splits p qs in (
        q ∷ rest.0,
        rest.1,
        ap (λ xs. q ∷ xs) rest.2,
        ap (λ xs. q ∷ xs) rest.3,
        λ x h. elim (contains_cases q rest.0 x h) [
          | inl is ↦ subst (λ y. lies_before p y ≡ false) is e
          | inr there ↦ rest.4 x there
        ],
      )
    ] refl

-- The first beats of one link, in order, are taken ahead of those of others.
ahead : (link n : ℕ) (ps others : List Placed) → IsStrictlySortedBy position_order ps → ((q : Placed) → Contains others q → (q.link == link) ≡ false)
    → AreAhead link (take n ps) (in_order (ps ++ others)) (in_order (drop n ps ++ others))
unfolding IsStrictlySortedBy
ahead link zero ps others s apart = refl
ahead link (suc n) [] others s apart = refl
ahead link (suc n) (p ∷ ps) others s apart =
    let split = insert_splits p (in_order (ps ++ others)) in (
      split.0,
      split.1,
      split.2,
      all_by (λ q. (q.link == link) ≡ false) split.0 (λ q h.
          let there : Contains (in_order (ps ++ others)) q = subst (λ xs. Contains xs q) (sym split.3) (Contains-append_left split.0 split.1 q h) in
          elim (Contains-append_cases ps others q (Contains-permutation (in_order (ps ++ others)) (ps ++ others) q (IsPermutation-sym (ps ++ others) (in_order (ps ++ others)) (order_moves (ps ++ others))) there)) [
            | inl own ↦ absurd (let less : lies_before p q ≡ true = ap is_lt (all_of (λ r. position_order p r ≡ Less) ps s.0 q own) in let wrong : true ≡ false = sym less ∙ split.4 q h in cc)
            | inr other ↦ apart q other
          ]),
      subst (λ xs. AreAhead link (take n ps) xs (in_order (drop n ps ++ others))) split.3 (ahead link n ps others s.1 apart),
    )

-- What others have left is of other links.
others_left : (link : ℕ) (cs : List Cursor) → AreOthers link cs → (q : Placed) → Contains (all_left cs) q → (q.link == link) ≡ false
others_left link cs others q h =
    let found = left_from cs q h in
    let c = found.0 in
    subst (λ k. (k == link) ≡ false) (sym (placed_link c.link c.fragment c.line (c.next.now ∷ c.rest.now) q found.2)) (All-contains (λ (d : Cursor). (d.link == link) ≡ false) cs c others found.1)

pub same_last : {X : Type 0} (xs : List X) (x y : X) → xs ++ x ∷ [] ≡ xs ++ y ∷ [] → x ≡ y
same_last [] x y h = cc
same_last (z ∷ xs) x y h = same_last xs x y cc

-- The walk is past the top's next beat and so many after that.
pub passed : (old new : List Cursor) (top own : Cursor) (n : ℕ) → old ≡ under_top old ++ own ∷ [] → old ≡ under_top old ++ top ∷ [] → (1 ≤ n → IsAlone old)
    → in_turn old ≡ here own ∷ in_order (after own ++ all_left (under_top old)) → in_turn new ≡ in_order (drop n (after own) ++ all_left (under_top old)) → IsPast top n old new
unfolding IsStrictlySortedBy
passed old new top own n has is alone next left =
    let same : own ≡ top = same_last (under_top old) own top (sym has ∙ is) in
    let us = all_left (under_top old) in
    let go : (k : ℕ) → n ≡ k → AreAhead top.link (take k (after top)) (in_order (after top ++ us)) (in_order (drop k (after top) ++ us)) = λ k. elim k as (λ k. n ≡ k → AreAhead top.link (take k (after top)) (in_order (after top ++ us)) (in_order (drop k (after top) ++ us))) [
      | zero ↦ λ e. refl
      | suc k ↦ λ e. ahead top.link (suc k) (after top) us (placed_rise top.link top.fragment top.line (top.next.now ∷ top.rest.now) top.rising).1
          (others_left top.link (under_top old) (alone (omega arith) top is))
    ] in (
      in_order (after top ++ us),
      next ∙ ap (λ (c : Cursor). here c ∷ in_order (after c ++ us)) same,
      subst (AreAhead top.link (take n (after top)) (in_order (after top ++ us))) (ap (λ (c : Cursor). in_order (drop n (after c) ++ us)) (sym same) ∙ sym left) (go n refl),
    )
