-- Later beats of one fragment that are taken ahead of those of others.
use Rattle.std.specs.Prelude.{ℕ, ◌≡◌, ◌==◌, ◌++◌, false, List, [], ◌∷◌, take}
use Rattle.std.specs.List.{All, AllByRecursion}
use Rattle.tl_beats.specs.declared.Placed.{Placed}
use Rattle.tl_capture.specs.declared.cursor.Cursor.{Cursor}
use Rattle.tl_capture.specs.declared.runs.Front.{Front}
use Rattle.tl_capture.specs.Cursors.{here, after}
use Rattle.tl_capture.specs.Waiting.{under_top, in_turn}

-- The beats of a link are taken out of those that are left, one after the other, each past beats of other links alone. These are left then.
abbrev pub AreAhead : ℕ → List Placed → List Placed → List Placed → Type 0
AreAhead link [] beats rest = beats ≡ rest
AreAhead link (p ∷ run) beats rest = (before behind : List Placed) × (beats ≡ before ++ p ∷ behind)
    × AllByRecursion (λ q. (q.link == link) ≡ false) before × AreAhead link run (before ++ behind) rest

abbrev pub AreOthers : ℕ → List Cursor → Type 0
AreOthers link cs = All (λ c. (c.link == link) ≡ false) cs

-- No fragment under the top is of its link.
abbrev pub IsAlone : List Cursor → Type 0
IsAlone cs = (top : Cursor) → cs ≡ under_top cs ++ top ∷ [] → AreOthers top.link (under_top cs)

-- The next beat, and those after it in its fragment.
abbrev pub IsFront : List Cursor → Front → Type 0
IsFront cs front = (top : Cursor) × (cs ≡ under_top cs ++ top ∷ []) × (here top ≡ front.at) × (top.rest.now ≡ front.rest.now)

-- The next beat is gone, and so many after it in its fragment were taken ahead.
abbrev pub IsPast : Cursor → ℕ → List Cursor → List Cursor → Type 0
IsPast top more old new = (beats : List Placed) × (in_turn old ≡ here top ∷ beats) × AreAhead top.link (take more (after top)) beats (in_turn new)
