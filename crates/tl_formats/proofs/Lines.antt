-- One line of waivers after another.
use Rattle.std.proofs.Common.{◌≡◌, ℕ, suc, ◌+◌, List, [], ◌∷◌, ◌++◌, length, length-append, Option, Some, None, Ok, Err, refl, sym, ap, ◌∙◌}
use Rattle.std.specs.Option.{option_to_list}
use Rattle.std.proofs.lemmas.Option.{none-some}
use Rattle.tl_text.specs.Words.{first_line}
use Rattle.tl_text.proofs.Cuts.{Line, first_is}
use Rattle.tl_topology.specs.Topology.{Topology}
use Rattle.tl_formats.specs.declared.pick.Waiver.{Waiver}
use Rattle.tl_formats.specs.declared.waiver_fault.WaiverFault.{WaiverFault}
use Rattle.tl_formats.specs.Waivers.{line_waiver, waivers_from}

pub no_line : (topo : Topology) (done : List Waiver) (n : ℕ) (lines : List (List ℕ)) → first_line lines ≡ None → waivers_from topo done n lines ≡ Ok done
unfolding waivers_from
no_line topo done n [] e = refl
no_line topo done n (line ∷ []) e = refl
no_line topo done n (line ∷ next ∷ lines) e = absurd (none-some _ (sym e))

pub goes_on : (topo : Topology) (done : List Waiver) (n : ℕ) (lines : List (List ℕ)) (line : List ℕ) (after : List (List ℕ)) (found : Option Waiver) → first_line lines ≡ Some (line, after) → line_waiver topo line n ≡ Ok found
    → waivers_from topo done n lines ≡ waivers_from topo (done ++ option_to_list found) (n + 1) after
unfolding waivers_from
goes_on topo done n [] line after found e read = absurd (none-some _ e)
goes_on topo done n (x ∷ []) line after found e read = absurd (none-some _ e)
goes_on topo done n (x ∷ next ∷ lines) line after found e read =
    let p = first_is lines line after x next e in
    let one : line_waiver topo x n ≡ Ok found = ap (λ (q : Line). line_waiver topo q.0 n) p ∙ read in
    let first : waivers_from topo done n (x ∷ next ∷ lines) ≡ waivers_from topo (done ++ option_to_list found) (n + 1) (next ∷ lines) = rw one refl in
    first ∙ ap (λ (q : Line). waivers_from topo (done ++ option_to_list found) (n + 1) q.1) p

pub fails : (topo : Topology) (done : List Waiver) (n : ℕ) (lines : List (List ℕ)) (line : List ℕ) (after : List (List ℕ)) (found : WaiverFault) → first_line lines ≡ Some (line, after) → line_waiver topo line n ≡ Err found
    → waivers_from topo done n lines ≡ Err found
unfolding waivers_from
fails topo done n [] line after found e read = absurd (none-some _ e)
fails topo done n (x ∷ []) line after found e read = absurd (none-some _ e)
fails topo done n (x ∷ next ∷ lines) line after found e read =
    let p = first_is lines line after x next e in
    let one : line_waiver topo x n ≡ Err found = ap (λ (q : Line). line_waiver topo q.0 n) p ∙ read in
    rw one refl

-- what a line leaves is shorter
pub shorter : (bytes line after : List ℕ) → bytes ≡ line ++ 10 ∷ after → length bytes ≡ length line + suc (length after)
shorter bytes line after e = ap (λ (l : List ℕ). length l) e ∙ length-append line (10 ∷ after)
