-- A fragment and what stands after it.
use Rattle.std.proofs.Common.{◌≡◌, ℕ, ◌+◌, Bool, true, false, cond, eqb, List, [], ◌∷◌, length, Ok, Err, refl, arith}
use Rattle.std.proofs.lemmas.Bool.{eqb-true}
use Rattle.std.specs.List.{onto_first}
use Rattle.tl_text.specs.Words.{lines_of}
use Rattle.tl_text.specs.Readings.{Fails}
use Rattle.tl_text.proofs.Cuts.{starts, lines_start}
use Rattle.tl_beats.specs.declared.fault.FragmentFault.{FragmentFault}
use Rattle.tl_beats.specs.declared.fault.FragmentFault.TheVariants as fault
use Rattle.tl_beats.specs.Faults.{is_memory}
use Rattle.tl_beats.specs.Fragments.{Frag}
use Rattle.tl_beats.specs.Reading.{fragment_in, whole_fragment_in, is_end}

more_lines : (line : List ℕ) (lines : List (List ℕ)) → starts lines → is_end (line ∷ lines) ≡ false
more_lines line [] h = absurd h
more_lines [] (next ∷ lines) h = refl
more_lines (b ∷ line) (next ∷ lines) h = refl

front_byte : (b : ℕ) (lines : List (List ℕ)) → is_end (onto_first b lines) ≡ false
front_byte b [] = refl
front_byte b (line ∷ []) = refl
front_byte b (line ∷ next ∷ lines) = refl

at_newline : (t : Bool) (b : ℕ) (lines : List (List ℕ)) → starts lines → is_end (cond t ([] ∷ lines) (onto_first b lines)) ≡ false
at_newline true b lines h = more_lines [] lines h
at_newline false b lines h = front_byte b lines

pub nothing_behind : (bytes : List ℕ) → eqb (length bytes) 0 ≡ true → is_end (lines_of bytes) ≡ true
nothing_behind [] e = refl
nothing_behind (b ∷ bytes) e = absurd (omega (arith, eqb-true (length (b ∷ bytes)) 0 e))

pub something_behind : (bytes : List ℕ) → eqb (length bytes) 0 ≡ false → is_end (lines_of bytes) ≡ false
something_behind [] e = absurd cc
something_behind (b ∷ bytes) e = at_newline (eqb b 10) b (lines_of bytes) (lines_start bytes)

pub whole_fails : (lines : List (List ℕ)) (found : FragmentFault) → Fails is_memory found (fragment_in lines) → Fails is_memory found (whole_fragment_in lines)
unfolding whole_fragment_in
whole_fails lines found read here = rw (read here) refl

pub whole_is : (lines rest : List (List ℕ)) (f : Frag) → fragment_in lines ≡ Ok (f, rest) → is_end rest ≡ true → whole_fragment_in lines ≡ Ok f
unfolding whole_fragment_in
whole_is lines rest f read end = rw (read, end) refl

pub more_behind : (lines rest : List (List ℕ)) (f : Frag) → fragment_in lines ≡ Ok (f, rest) → is_end rest ≡ false → whole_fragment_in lines ≡ Err (fault.BadField (length f.beats + 3))
unfolding whole_fragment_in
more_behind lines rest f read end = rw (read, end) refl
