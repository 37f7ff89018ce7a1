-- One line of a fragment after another.
use Rattle.std.proofs.Common.{◌≡◌, ℕ, ◌+◌, true, false, List, [], ◌∷◌, ◌++◌, Some, None, Ok, Err, refl, sym, ap, ◌∙◌}
use Rattle.std.specs.Prelude.{codes}
use Rattle.std.specs.Str.{bytes_eq}
use Rattle.std.proofs.lemmas.Option.{none-some}
use Rattle.tl_text.specs.Words.{first_line}
use Rattle.tl_text.proofs.Cuts.{Line, first_is}
use Rattle.tl_text.specs.Readings.{Fails}
use Rattle.tl_beats.specs.declared.Beat.{Beat}
use Rattle.tl_beats.specs.declared.fault.FragmentFault.{FragmentFault}
use Rattle.tl_beats.specs.declared.fault.FragmentFault.TheVariants as fault
use Rattle.tl_beats.specs.Faults.{is_memory}
use Rattle.tl_beats.specs.Reading.{next_at, beats_from}

pub no_line : (first last n : ℕ) (before : List Beat) (lines : List (List ℕ)) → first_line lines ≡ None → beats_from first last n before lines ≡ Err (fault.Truncated n)
unfolding beats_from
no_line first last n before [] e = refl
no_line first last n before (line ∷ []) e = refl
no_line first last n before (line ∷ next ∷ lines) e = absurd (none-some _ (sym e))

pub ends : (first last n : ℕ) (before : List Beat) (lines : List (List ℕ)) (line : List ℕ) (after : List (List ℕ)) → first_line lines ≡ Some (line, after) → bytes_eq line (codes "end") ≡ true → beats_from first last n before lines ≡ Ok (before, after)
unfolding beats_from
ends first last n before [] line after e is = absurd (none-some _ e)
ends first last n before (x ∷ []) line after e is = absurd (none-some _ e)
ends first last n before (x ∷ next ∷ lines) line after e is =
    let p = first_is lines line after x next e in
    let here : bytes_eq x (codes "end") ≡ true = ap (λ (q : Line). bytes_eq q.0 (codes "end")) p ∙ is in
    let one : beats_from first last n before (x ∷ next ∷ lines) ≡ Ok (before, next ∷ lines) = rw here refl in
    one ∙ ap (λ (q : Line). Ok (before, q.1)) p

pub goes_on : (first last n : ℕ) (before : List Beat) (lines : List (List ℕ)) (line : List ℕ) (after : List (List ℕ)) (beat : Beat) → first_line lines ≡ Some (line, after) → bytes_eq line (codes "end") ≡ false
    → next_at first last n before line ≡ Ok beat → beats_from first last n before lines ≡ beats_from first last (n + 1) (before ++ beat ∷ []) after
unfolding beats_from
goes_on first last n before [] line after beat e is read = absurd (none-some _ e)
goes_on first last n before (x ∷ []) line after beat e is read = absurd (none-some _ e)
goes_on first last n before (x ∷ next ∷ lines) line after beat e is read =
    let p = first_is lines line after x next e in
    let here : bytes_eq x (codes "end") ≡ false = ap (λ (q : Line). bytes_eq q.0 (codes "end")) p ∙ is in
    let good : next_at first last n before x ≡ Ok beat = ap (λ (q : Line). next_at first last n before q.0) p ∙ read in
    let one : beats_from first last n before (x ∷ next ∷ lines) ≡ beats_from first last (n + 1) (before ++ beat ∷ []) (next ∷ lines) = rw (here, good) refl in
    one ∙ ap (λ (q : Line). beats_from first last (n + 1) (before ++ beat ∷ []) q.1) p

pub fails : (first last n : ℕ) (before : List Beat) (lines : List (List ℕ)) (line : List ℕ) (after : List (List ℕ)) (found : FragmentFault) → first_line lines ≡ Some (line, after) → bytes_eq line (codes "end") ≡ false
    → Fails is_memory found (next_at first last n before line) → Fails is_memory found (beats_from first last n before lines)
unfolding beats_from
fails first last n before [] line after found e is read here = absurd (none-some _ e)
fails first last n before (x ∷ []) line after found e is read here = absurd (none-some _ e)
fails first last n before (x ∷ next ∷ lines) line after found e is read here =
    let p = first_is lines line after x next e in
    let other : bytes_eq x (codes "end") ≡ false = ap (λ (q : Line). bytes_eq q.0 (codes "end")) p ∙ is in
    let bad : next_at first last n before x ≡ Err found = ap (λ (q : Line). next_at first last n before q.0) p ∙ read here in
    rw (other, bad) refl
