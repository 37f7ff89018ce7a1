-- All that are here end.
use Rattle.std.proofs.Common.{◌≡◌, ◌++◌, ◌<◌, ℕ, List, [], ◌∷◌, Option, Some, None, length, map, refl, sym, ap, subst, ◌∙◌, arith}
use Rattle.std.specs.Option.{IsSome}
use Rattle.std.proofs.lemmas.List.{append-nil}
use Rattle.tl_monitor.specs.Held.{Held}
use Rattle.tl_monitor.specs.Places.{Place, Here, Out, held_of}
use Rattle.tl_monitor.specs.Boxes.{here_in, first_out}

empty_list : {X : Type 0} (es : List X) → (0 < length es → ⊥) → es ≡ []
empty_list [] h = refl
empty_list (e ∷ es) h = absurd (h (omega arith))

-- Where nothing is left, what was told is all.
pub none_left : {Y : Type 0} (told : ℕ × Held → Y) (ended all : List Y) (slots : List (ℕ × Place)) {X : Type 0} (result : Option X) → result ≡ None → (0 < length slots → IsSome result)
    → ended ++ map told (here_in slots) ≡ all → ended ≡ all
none_left told ended all slots result none some is =
    let empty : slots ≡ [] = empty_list slots (λ more. let one : IsSome result = some more in let never = subst IsSome none one in cc) in
    sym (append-nil ended) ∙ sym (ap (λ es. ended ++ map told (here_in es)) empty) ∙ is

-- Where none is out the first is here, and none of the rest is out.
pub first_here : (e : ℕ × Place) (es : List (ℕ × Place)) → first_out (e ∷ es) ≡ None → (held : Held) × (held_of e.1 ≡ Some held) × (first_out es ≡ None) × (here_in (e ∷ es) ≡ (e.0, held) ∷ here_in es)
first_here (n, Here held) es h = (held, refl, h, refl)
first_here (n, Out away) es h = absurd (let never : Some n ≡ None = h in cc)
