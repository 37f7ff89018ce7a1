-- The first piece that is wanted is to begin with the exit of all before it.
use Rattle.std.proofs.Common.{◌≡◌, ℕ, ◌==◌, true, false, ◌||◌, cond, List, [], ◌∷◌, ◌++◌, refl, sym, ap, ◌∙◌, subst, Option, Some, None}
use Rattle.std.specs.Prelude.{IfSome}
use Rattle.std.specs.Option.{option_or}
use Rattle.tl_pieces.specs.declared.key.PieceKey.{PieceKey}
use Rattle.tl_pieces.specs.declared.slot.Slot.{Slot}
use Rattle.tl_pieces.specs.declared.slot.Mark.TheVariants as mark
use Rattle.tl_pieces.specs.Keys.{before, owned_by, Rises}
use Rattle.tl_pieces.specs.Slots.{some_wanted, first}
use Rattle.tl_pieces.specs.Pieces.{Pass, Piece, exit_of, last_exit, Links, IsChain, IsChainTo, HasTrueEntry}
use Rattle.tl_pieces.specs.Marks.{shown, IsMarked}
use Rattle.tl_pieces.proofs.PlaceLemmas.{place_before}
use Rattle.tl_pieces.proofs.NearestLemmas.{before_rises}
use Rattle.tl_pieces.proofs.ShowLemmas.{before_shown, rises_shown}
use Rattle.tl_pieces.proofs.MarkLemmas.{marked_left}
use Rattle.tl_pieces.proofs.SettleLemmas.{settled_from}
use Rattle.tl_pieces.proofs.ChainLemmas.{chain_of}

pub if_some : {A : Type 0} (o : Option A) (P : A → Type 0) → ((x : A) → o ≡ Some x → P x) → IfSome o P
if_some None P f = tt
if_some (Some x) P f = f x refl

pub either_then : {S : Type 0} (a : Option S) (y : S) (z : Option S) → option_or (option_or a (Some y)) z ≡ option_or a (Some y)
either_then None y z = refl
either_then (Some x) y z = refl

pub either_none : {S : Type 0} (a z : Option S) → option_or (option_or a None) z ≡ option_or a z
either_none None z = refl
either_none (Some x) z = refl

module _ {S R : Type 0} where
  -- what stands before the first that is wanted
  first_split : (es : List (PieceKey × Slot S R)) (k : PieceKey) → first mark.Wanted es ≡ Some k
      → (xs : List (PieceKey × Slot S R)) × (v : Slot S R) × (ys : List (PieceKey × Slot S R)) × (es ≡ xs ++ (k, v) ∷ ys) × (some_wanted xs ≡ false)
  first_split [] k h = cc
  first_split (e ∷ es) k h =
      elim e.1.wanted as (λ b. e.1.wanted ≡ b → cond b (Some e.0) (first mark.Wanted es) ≡ Some k
      → (xs : List (PieceKey × Slot S R)) × (v : Slot S R) × (ys : List (PieceKey × Slot S R)) × (e ∷ es ≡ xs ++ (k, v) ∷ ys) × (some_wanted xs ≡ false)) [
        | true ↦ λ _ g. let is : e.0 ≡ k = cc in ([], e.1, es, ap (λ (q : PieceKey). (q, e.1) ∷ es) is, refl)
        | false ↦ λ f g. let r = first_split es k g in (e ∷ r.0, r.1, r.2, ap (λ t. e ∷ t) r.3, ap (λ b. b || some_wanted r.0) f ∙ r.4)
      ] refl h

  -- a chain ends with the exit of its last result
  chain_end : (same : S → S → Type 0) (o : ℕ) (x : S) (ps : List (PieceKey × Piece S R)) → IsChain same x (owned_by o ps)
      → (t : S) × (option_or (last_exit o ps) (Some x) ≡ Some t) × IsChainTo same x (owned_by o ps) t
  chain_end same o x [] h = (x, refl, refl)
  chain_end same o x (p ∷ ps) h =
      elim (p.0.owner == o) as (λ b. IsChain same x (cond b (p ∷ owned_by o ps) (owned_by o ps))
      → (t : S) × (option_or (option_or (last_exit o ps) (cond b (exit_of p.1.result) None)) (Some x) ≡ Some t) × IsChainTo same x (cond b (p ∷ owned_by o ps) (owned_by o ps)) t) [
        | true ↦ λ g. here p.1.result (λ r g. chain_end same o r.exit ps g) g
        | false ↦ λ g. let r = chain_end same o x ps g in (r.0, either_none (last_exit o ps) (Some x) ∙ r.1, r.2)
      ] h
    where
      here : (q : Option (Pass S R)) → ((r : Pass S R) → IsChain same r.exit (owned_by o ps) → (t : S) × (option_or (last_exit o ps) (Some r.exit) ≡ Some t) × IsChainTo same r.exit (owned_by o ps) t)
          → Links same x q (λ y. IsChain same y (owned_by o ps)) → (t : S) × (option_or (option_or (last_exit o ps) (exit_of q)) (Some x) ≡ Some t) × Links same x q (λ y. IsChainTo same y (owned_by o ps) t)
      here None go g = absurd g
      here (Some r) go g = let d = go r g.1 in (d.0, either_then (last_exit o ps) r.exit (Some x) ∙ d.1, (g.0, d.2))

  pub true_entry : (same : S → S → Type 0) (os : List (ℕ × S)) (es : List (PieceKey × Slot S R)) (k : PieceKey) → Rises es → IsMarked same os None es → first mark.Wanted es ≡ Some k
      → HasTrueEntry same (record { openings = os; pieces = shown es }) k
  true_entry same os es k s m h x is =
      let r = first_split es k h in
      let front : before k es ≡ r.0 = ap (before k) r.3 ∙ place_before k r.1 r.0 r.2 (subst Rises r.3 s) in
      let unwanted : some_wanted (before k es) ≡ false = ap some_wanted front ∙ r.4 in
      let marked : IsMarked same os None (before k es) = subst (IsMarked same os None) (sym front) (marked_left same os None r.0 ((k, r.1) ∷ r.2) (subst (IsMarked same os None) r.3 m)) in
      let chain : IsChain same x (owned_by k.owner (shown (before k es))) =
      chain_of same os k.owner x None (shown (before k es)) (rises_shown (before k es) (before_rises k es s)) tt (settled_from same os None (before k es) tt marked unwanted) is in
      let d = chain_end same k.owner x (before k (shown es)) (subst (λ t. IsChain same x (owned_by k.owner t)) (sym (before_shown k es)) chain) in
      (d.0, ap (option_or (last_exit k.owner (before k (shown es)))) is ∙ d.1, d.2)
