-- Lists of leaves, cut at a place, and leaves put in the place of others.
use Rattle.std.proofs.Common.{◌≡◌, ℕ, suc, ◌+◌, ◌<◌, List, [], ◌∷◌, ◌++◌, length, get_or, take, drop, set, sym, ap, ◌∙◌, arith, append_assoc, append-nil, drop-drop, All, flat_map, insert}
use Rattle.std.proofs.lemmas.List.{take_more, drop_more, take-append-drop, set_split, set_at, length-take-le}
use Rattle.std.proofs.lemmas.List.Elements.{All-append, All-cons, All-take, All-drop}
use Rattle.std.proofs.lemmas.List.Concat.{flat_map-append}

-- a list around its element at i
pub around : {L : Type 0} (ls : List L) (i : ℕ) (l : L) → i < length ls → l ≡ get_or ls i l → ls ≡ take i ls ++ l ∷ drop (i + 1) ls
around ls i l inside is = sym (take-append-drop i ls) ∙ ap (λ t. take i ls ++ t) (drop_more ls i l inside) ∙ ap (λ x. take i ls ++ x ∷ drop (i + 1) ls) (sym is)

pub up_to : {L : Type 0} (ls : List L) (i : ℕ) (l : L) → i < length ls → l ≡ get_or ls i l → take (i + 1) ls ≡ take i ls ++ l ∷ []
up_to ls i l inside is = take_more ls i l inside ∙ ap (λ x. take i ls ++ x ∷ []) (sym is)

pub All-insert : {L : Type 0} (P : L → Type 0) (ls : List L) (i : ℕ) (l : L) → P l → All P ls → All P (insert ls i l)
All-insert P ls i l p a = All-append P (take i ls) (l ∷ drop i ls) (All-take P i ls a) (All-cons P l (drop i ls) p (All-drop P i ls a))

set_insert : {L : Type 0} (ls : List L) (i : ℕ) (l r : L) → i < length ls → set (insert ls (i + 1) r) i l ≡ take i ls ++ l ∷ r ∷ drop (i + 1) ls
set_insert ls i l r inside =
    ap (λ t. set (t ++ r ∷ drop (i + 1) ls) i l) (take_more ls i l inside)
    ∙ ap (λ t. set t i l) (append_assoc (take i ls) (get_or ls i l ∷ []) (r ∷ drop (i + 1) ls))
    ∙ set_at (take i ls) (get_or ls i l) (r ∷ drop (i + 1) ls) l i (length-take-le i ls (omega arith))

module _ {E L : Type 0} (items : L → List E) where
  -- the entries around a leaf
  pub all_around : (before : List L) (l : L) (after : List L) → flat_map items (before ++ l ∷ after) ≡ flat_map items before ++ (items l ++ flat_map items after)
  all_around before l after = flat_map-append items before (l ∷ after)

  module _ (ls : List L) (i : ℕ) (inside : i < length ls) where
    -- a leaf set in the place of another
    pub all_set : (l : L) (made : List E) → items l ≡ made → flat_map items (set ls i l) ≡ flat_map items (take i ls) ++ (made ++ flat_map items (drop (i + 1) ls))
    all_set l made is =
        let one : suc i ≡ i + 1 = omega arith in
        ap (flat_map items) (set_split ls i l inside) ∙ flat_map-append items (take i ls) (l ∷ drop (suc i) ls)
        ∙ ap (λ n. flat_map items (take i ls) ++ (items l ++ flat_map items (drop n ls))) one
        ∙ ap (λ t. flat_map items (take i ls) ++ (t ++ flat_map items (drop (i + 1) ls))) is

    -- and two
    pub all_split : (l r : L) (made : List E) → items l ++ items r ≡ made → flat_map items (set (insert ls (i + 1) r) i l) ≡ flat_map items (take i ls) ++ (made ++ flat_map items (drop (i + 1) ls))
    all_split l r made is =
        ap (flat_map items) (set_insert ls i l r inside) ∙ flat_map-append items (take i ls) (l ∷ r ∷ drop (i + 1) ls)
        ∙ ap (λ t. flat_map items (take i ls) ++ t) (sym (append_assoc (items l) (items r) (flat_map items (drop (i + 1) ls))))
        ∙ ap (λ t. flat_map items (take i ls) ++ (t ++ flat_map items (drop (i + 1) ls))) is

    module _ (l : L) (is : l ≡ get_or ls i l) where
      -- the entries of the leaf at i
      pub leaf_at : flat_map items (take 1 (drop i ls)) ≡ items l
      leaf_at = ap (λ t. flat_map items (take 1 t)) (drop_more ls i l inside ∙ ap (λ x. x ∷ drop (i + 1) ls) (sym is)) ∙ append-nil (items l)

  module _ (ls : List L) (i : ℕ) (inside : i < length ls) (l : L) (is : l ≡ get_or ls i l) (other : L) where
    -- a leaf in which some entries came in the place of others
    pub all_edited : (start end : ℕ) (mid : List E) → items other ≡ take start (items l) ++ (mid ++ drop end (items l))
        → flat_map items (set ls i other) ≡ (flat_map items (take i ls) ++ take start (flat_map items (take 1 (drop i ls)))) ++ (mid ++ (drop end (flat_map items (take 1 (drop i ls))) ++ flat_map items (drop (i + 1) ls)))
    all_edited start end mid is_made =
        let A = flat_map items (take i ls) in
        let B = flat_map items (drop (i + 1) ls) in
        let own = leaf_at ls i inside l is in
        all_set ls i inside other (take start (items l) ++ (mid ++ drop end (items l))) is_made
        ∙ ap (λ t. A ++ ((take start t ++ (mid ++ drop end t)) ++ B)) (sym own)
        ∙ ap (λ t. A ++ t) (append_assoc (take start (flat_map items (take 1 (drop i ls)))) (mid ++ drop end (flat_map items (take 1 (drop i ls)))) B
        ∙ ap (λ t. take start (flat_map items (take 1 (drop i ls))) ++ t) (append_assoc mid (drop end (flat_map items (take 1 (drop i ls)))) B))
        ∙ sym (append_assoc A (take start (flat_map items (take 1 (drop i ls)))) (mid ++ (drop end (flat_map items (take 1 (drop i ls))) ++ B)))

    -- and one that has the entries that it had
    pub all_kept : items other ≡ items l → flat_map items (set ls i other) ≡ flat_map items ls
    all_kept same = all_set ls i inside other (items l) same ∙ sym (all_around (take i ls) l (drop (i + 1) ls)) ∙ ap (flat_map items) (sym (around ls i l inside is))

  -- all entries, cut at a place of a leaf
  pub all_cut : (ls : List L) (i w : ℕ)
      → flat_map items ls ≡ (flat_map items (take i ls) ++ take w (flat_map items (take 1 (drop i ls)))) ++ (drop w (flat_map items (take 1 (drop i ls))) ++ flat_map items (drop (i + 1) ls))
  all_cut ls i w =
      let A = flat_map items (take i ls) in
      let B = flat_map items (drop (i + 1) ls) in
      let own = flat_map items (take 1 (drop i ls)) in
      let rest : flat_map items (drop i ls) ≡ own ++ B = ap (flat_map items) (sym (take-append-drop 1 (drop i ls))) ∙ flat_map-append items (take 1 (drop i ls)) (drop 1 (drop i ls)) ∙ ap (λ t. own ++ flat_map items t) (drop-drop 1 i ls) in
      ap (flat_map items) (sym (take-append-drop i ls)) ∙ flat_map-append items (take i ls) (drop i ls)
      ∙ ap (λ t. A ++ t) (rest ∙ ap (λ t. t ++ B) (sym (take-append-drop w own)) ∙ append_assoc (take w own) (drop w own) B)
      ∙ sym (append_assoc A (take w own) (drop w own ++ B))

-- an element set in the place of another
pub put_split : {E : Type 0} (xs : List E) (start end : ℕ) (e : E) → start < length xs → start + 1 ≡ end → set xs start e ≡ take start xs ++ e ∷ drop end xs
put_split xs start end e inside is =
    let one : suc start ≡ start + 1 = omega arith in
    set_split xs start e inside ∙ ap (λ n. take start xs ++ e ∷ drop n xs) (one ∙ is)
