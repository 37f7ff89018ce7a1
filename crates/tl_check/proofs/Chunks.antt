-- What is found in the parts of a list, and in all of it; and the captures of managers by their numbers.
use Rattle.std.proofs.Common.{◌≡◌, ◌≤◌, ◌<◌, ◌+◌, ◌-◌, ◌*◌, ◌/◌, ◌%◌, min, ℕ, zero, suc, List, [], ◌∷◌, ◌++◌, Option, Some, None, Result, Ok, Err, refl, sym, ap, subst, ◌∙◌, arith, length, take, drop, get_or, length-append, length-drop}
use Rattle.std.specs.Prelude.{IfOk, Vec, map, slice_index_or, unwrap_or}
use Rattle.std.specs.List.{Contains, flat_map}
use Rattle.std.proofs.Math.Nat.{zero-mul, one-mul, add-mul}
use Rattle.std.proofs.Math.Seq.{take-add}
use Rattle.std.proofs.lemmas.Grind.{flat_map-append}
use Rattle.std.proofs.lemmas.List.{append-nil, append_assoc, take_all, take_more, map-append, drop-drop}
use Rattle.std.proofs.lemmas.Nat.{div-add-mod', mod_below}
use Rattle.tl_topology.specs.Regions.{Area}
use Rattle.tl_topology.specs.Topology.{Topology}
use Rattle.tl_beats.specs.declared.Row.{Row}
use Rattle.tl_definitions.specs.Rules.{Manager}
use Rattle.tl_definitions.proofs.Lists.{contains_none}
use Rattle.tl_definitions.specs.Captures.{captures_from}
use Rattle.tl_definitions.specs.Positions.{Recorded, beats_of}
use Rattle.tl_check.specs.Apart.{judged_rows, rows_of_links}
use Rattle.tl_check.specs.Beside.{rows_of_part, AreJoined}
use Rattle.tl_check.specs.Found.{AreFound}
use Rattle.tl_check.specs.Captured.{areas_at, AllRegions}
use Rattle.tl_check.specs.Managers.{captures_at, numbered, HasManagers}
use Rattle.tl_check.proofs.CaptureLaws.{capture_with}
use Rattle.tl_check.proofs.ScratchLaws.{both_found}

-- ---- captures by number

-- The captures of managers from a number on are those of the managers with these numbers.
pub by_numbers : {X : Type 0} (topo : Topology) (regions : ℕ → List Area) (fs : List Recorded) (number : ℕ) (managers : List X)
    → captures_from topo regions fs number managers ≡ captures_at topo regions fs (numbered number managers)
by_numbers topo regions fs number [] = refl
by_numbers topo regions fs number (manager ∷ managers) = ap (λ cs. capture_with topo regions fs number ∷ cs) (by_numbers topo regions fs (number + 1) managers)

-- An only manager's capture is all.
pub only_manager : {X : Type 0} (topo : Topology) (regions : ℕ → List Area) (fs : List Recorded) (managers : List X) → length (numbered 0 managers) ≡ 1
    → captures_from topo regions fs 0 managers ≡ capture_with topo regions fs 0 ∷ []
only_manager topo regions fs [] one = absurd (omega (arith, one))
only_manager topo regions fs (manager ∷ []) one = refl
only_manager topo regions fs (manager ∷ other ∷ managers) one = absurd (omega (arith, one))

-- One number more.
pub numbered_more : {X : Type 0} (number : ℕ) (items : List X) (item : X) → numbered number (items ++ item ∷ []) ≡ numbered number items ++ (number + length items) ∷ []
numbered_more number [] item = let e : number ≡ number + 0 = omega arith in ap (λ (n : ℕ). n ∷ []) e
numbered_more number (first ∷ items) item =
    let e : number + 1 + length items ≡ number + length (first ∷ items) = omega arith in
    ap (λ (ns : List ℕ). number ∷ ns) (numbered_more (number + 1) items item ∙ ap (λ (n : ℕ). numbered (number + 1) items ++ n ∷ []) e)

-- Nothing is found of no managers,
pub none_found : AreFound [] []
none_found row = ((λ h. absurd (contains_none row h)), (λ found. absurd (contains_none found.0 found.1)))

-- and of some and of others what is found of both.
pub found_on : (topo : Topology) (regions : ℕ → List Area) (fs : List Recorded) (some more : List ℕ) (old found rows : List Row)
    → AreFound (captures_at topo regions fs some) old → AreFound (captures_at topo regions fs more) found → rows ≡ old ++ found
    → AreFound (captures_at topo regions fs (some ++ more)) rows
found_on topo regions fs some more old found rows first second put =
    subst (λ cs. AreFound cs rows) (sym (map-append (capture_with topo regions fs) some more))
    (both_found (captures_at topo regions fs some) (captures_at topo regions fs more) old found rows rows first second put (λ row. ((λ h. h), (λ h. h))))

pub both_have : (topo : Topology) (regions : AllRegions) (fs : List Recorded) (some more : List ℕ) (one two : List Row)
    → HasManagers topo regions fs some one → HasManagers topo regions fs more two → HasManagers topo regions fs (some ++ more) (one ++ two)
both_have topo regions fs some more one two a b = record { found = found_on topo (areas_at regions) fs some more one two (one ++ two) a.found b.found refl }

-- The rows of links are those of some and then those of the others.
pub links_on : (m : Manager) (fs : List Recorded) (some more : List ℕ) → rows_of_links m fs (some ++ more) ≡ rows_of_links m fs some ++ rows_of_links m fs more
links_on m fs [] more = refl
links_on m fs (link ∷ some) more =
    ap (λ rows. judged_rows m (beats_of link fs) ++ rows) (links_on m fs some more)
    ∙ sym (append_assoc (judged_rows m (beats_of link fs)) (rows_of_links m fs some) (rows_of_links m fs more))

-- ---- parts of a list

-- One part more.
pub joined_more : {Z E : Type 0} (parts : List (Result (Vec Row Z) E)) (i : ℕ) (part : Result (Vec Row Z) E) (old own new : List Row) → i < length parts → get_or parts i part ≡ part
    → rows_of_part part ≡ Some own → AreJoined (take i parts) old → new ≡ old ++ own → AreJoined (take (i + 1) parts) new
joined_more {Z} {E} parts i part old own new below is has before put =
    let found : List (List Row) = before.0 in (
      found ++ own ∷ [],
      ap (λ (ps : List (Result (Vec Row Z) E)). map rows_of_part ps) (take_more parts i part below ∙ ap (λ (p : Result (Vec Row Z) E). take i parts ++ p ∷ []) is)
          ∙ map-append rows_of_part (take i parts) (part ∷ []) ∙ ap (λ (os : List (Option (List Row))). os ++ rows_of_part part ∷ []) before.1
          ∙ ap (λ (o : Option (List Row)). map Some found ++ o ∷ []) has ∙ sym (map-append (λ (rows : List Row). Some rows) found (own ∷ [])),
      put ∙ ap (λ (rows : List Row). rows ++ own) before.2 ∙ ap (λ (rows : List Row). flat_map (λ (rs : List Row). rs) found ++ rows) (sym (append-nil own))
          ∙ sym (flat_map-append (λ (rs : List Row). rs) found (own ∷ [])),
    )

-- The rows of a part are those that are found of it.
part_is : {Z E : Type 0} (part : Result (Vec Row Z) E) (own : List Row) (Is : List Row → Type 0) → rows_of_part part ≡ Some own → IfOk part (λ (rows : Vec Row Z). Is rows.items) → Is own
part_is (Ok rows) own Is has is = subst Is (ap (λ (o : Option (List Row)). unwrap_or o []) has) is
part_is (Err error) own Is has is = let wrong : ◌≡◌ {A = Option (List Row)} None (Some own) = has in cc

-- So many shares as there are parts have room for all.
parts_span : (q r share count : ℕ) → r < share → count ≡ q + min 1 r → q * share + r ≤ count * share
parts_span q zero share count below is = let e : count ≡ q = omega (arith, is) in let w : count * share ≡ q * share = ap (λ (n : ℕ). n * share) e in omega (arith, w)
parts_span q (suc r) share count below is =
    let e : count ≡ q + 1 = omega (arith, is) in let w : count * share ≡ q * share + 1 * share = ap (λ (n : ℕ). n * share) e ∙ add-mul q 1 share in
    let o : 1 * share ≡ share = one-mul share in omega (arith, w, o, below)

pub parts_cover : (count len share : ℕ) → 0 < share → count ≡ len / share + min 1 (len % share) → len ≤ count * share
parts_cover count len share some is =
    let sum : len / share * share + len % share ≡ len = div-add-mod' len share in
    let most : len / share * share + len % share ≤ count * share = parts_span (len / share) (len % share) share count (mod_below len share some) is in
    omega (arith, sum, most)

-- What holds of no items without rows, and of two lists with both their rows where it holds of each with its own, holds of a list
-- with the rows of its parts.
module _ {X Z E : Type 0} (Has : List X → List Row → Type 0) (none : Has [] []) (both : (xs ys : List X) (one two : List Row) → Has xs one → Has ys two → Has (xs ++ ys) (one ++ two)) (share : ℕ) where
  -- Each part has what its share of the list has.
  abbrev pub AreParts : List X → List (Result (Vec Row Z) E) → Type 0
  AreParts xs parts = (n : ℕ) (d : Result (Vec Row Z) E) → n < length parts → IfOk (slice_index_or parts n d) (λ (rows : Vec Row Z). Has (take share (drop (n * share) xs)) rows.items)

  front_has : (xs : List X) (parts : List (Result (Vec Row Z) E)) (found : List (List Row)) → AreParts xs parts → map rows_of_part parts ≡ map Some found
      → Has (take (length parts * share) xs) (flat_map (λ own. own) found)
  front_has xs [] [] are is = subst (λ (n : ℕ). Has (take n xs) []) (sym (zero-mul share)) none
  front_has xs [] (own ∷ found) are is = let wrong : ◌≡◌ {A = List (Option (List Row))} [] (Some own ∷ map Some found) = is in cc
  front_has xs (part ∷ parts) [] are is = let wrong : ◌≡◌ {A = List (Option (List Row))} (rows_of_part part ∷ map rows_of_part parts) [] = is in cc
  front_has xs (part ∷ parts) (own ∷ found) are is =
      let first : rows_of_part part ≡ Some own = ap (λ (os : List (Option (List Row))). get_or os 0 None) is in
      let others : map rows_of_part parts ≡ map Some found = ap (λ (os : List (Option (List Row))). drop 1 os) is in
      let some : 0 < length (part ∷ parts) = omega arith in
      let here : Has (take share xs) own = subst (λ (n : ℕ). Has (take share (drop n xs)) own) (zero-mul share)
      (part_is part own (λ rows. Has (take share (drop (0 * share) xs)) rows) first (are 0 part some)) in
      let later : AreParts (drop share xs) parts = λ n d below.
      let more : suc n < length (part ∷ parts) = omega (arith, below) in
      let on : suc n ≡ n + 1 = omega arith in
      let place : suc n * share ≡ share + n * share = ap (λ (k : ℕ). k * share) on ∙ add-mul n 1 share ∙ (let o : 1 * share ≡ share = one-mul share in let s : n * share + 1 * share ≡ share + n * share = omega (arith, o) in s) in
      subst (λ ys. IfOk (slice_index_or parts n d) (λ (rows : Vec Row Z). Has (take share ys) rows.items))
      (ap (λ (k : ℕ). drop k xs) place ∙ sym (drop-drop (n * share) share xs)) (are (suc n) d more) in
      let rest = front_has (drop share xs) parts found later others in
      let on : length (part ∷ parts) ≡ length parts + 1 = omega arith in
      let count : length (part ∷ parts) * share ≡ share + length parts * share = ap (λ (k : ℕ). k * share) on ∙
      add-mul (length parts) 1 share ∙ (let o : 1 * share ≡ share = one-mul share in let s : length parts * share + 1 * share ≡ share + length parts * share = omega (arith, o) in s) in
      subst (λ ys. Has ys (own ++ flat_map (λ own. own) found)) (sym (ap (λ (n : ℕ). take n xs) count ∙ take-add share (length parts * share) xs))
      (both (take share xs) (take (length parts * share) (drop share xs)) own (flat_map (λ own. own) found) here rest)

  pub parts_make_all : (xs : List X) (parts : List (Result (Vec Row Z) E)) (rows : List Row) → 0 < share → length parts ≡ length xs / share + min 1 (length xs % share)
      → AreParts xs parts → AreJoined parts rows → Has xs rows
  parts_make_all xs parts rows some count are joined =
      let whole : take (length parts * share) xs ≡ xs = take_all (length parts * share) xs (parts_cover (length parts) (length xs) share some count) in
      subst (λ ys. Has xs ys) (sym joined.2) (subst (λ ys. Has ys (flat_map (λ own. own) joined.0)) whole (front_has xs parts joined.0 are joined.1))
