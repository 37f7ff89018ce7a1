-- One line of a topology after another.
use Rattle.std.proofs.Common.{◌≡◌, ℕ, suc, ◌+◌, ◌≤◌, arith, true, false, List, [], ◌∷◌, ◌++◌, length, length-append, Some, None, Ok, Err, refl, sym, ap, subst, ◌∙◌}
use Rattle.std.specs.Prelude.{codes}
use Rattle.std.specs.Str.{bytes_eq}
use Rattle.std.proofs.lemmas.Option.{none-some}
use Rattle.tl_text.specs.Words.{first_line}
use Rattle.tl_text.proofs.Cuts.{Line, first_is}
use Rattle.tl_text.specs.Readings.{Fails}
use Rattle.tl_topology.specs.declared.reading.Version.{Version}
use Rattle.tl_topology.specs.declared.reading.Version.TheVariants as version
use Rattle.tl_topology.specs.declared.fault.TopoFault.{TopoFault}
use Rattle.tl_topology.specs.declared.fault.TopoFault.TheVariants as fault
use Rattle.tl_topology.specs.Faults.{is_memory}
use Rattle.tl_topology.specs.Topology.{Topology}
use Rattle.tl_topology.specs.Reading.{version_at, declared, topology_from, topology_in}
use Rattle.tl_topology.specs.Text.{version_text}
use Rattle.tl_topology.proofs.LineLaws.{version_takes}

pub no_line : (version : Version) (topo : Topology) (n : ℕ) (lines : List (List ℕ)) → first_line lines ≡ None → topology_from version topo n lines ≡ Err (fault.BadLine n)
unfolding topology_from
no_line version topo n [] e = refl
no_line version topo n (line ∷ []) e = refl
no_line version topo n (line ∷ next ∷ lines) e = absurd (none-some _ (sym e))

pub ends : (version : Version) (topo : Topology) (n : ℕ) (lines : List (List ℕ)) (line : List ℕ) (after : List (List ℕ)) → first_line lines ≡ Some (line, after) → bytes_eq line (codes "end") ≡ true → topology_from version topo n lines ≡ Ok (topo, after)
unfolding topology_from
ends version topo n [] line after e is = absurd (none-some _ e)
ends version topo n (x ∷ []) line after e is = absurd (none-some _ e)
ends version topo n (x ∷ next ∷ lines) line after e is =
    let p = first_is lines line after x next e in
    let here : bytes_eq x (codes "end") ≡ true = ap (λ (q : Line). bytes_eq q.0 (codes "end")) p ∙ is in
    let first : topology_from version topo n (x ∷ next ∷ lines) ≡ Ok (topo, next ∷ lines) = rw here refl in
    first ∙ ap (λ (q : Line). Ok (topo, q.1)) p

pub goes_on : (version : Version) (topo : Topology) (n : ℕ) (lines : List (List ℕ)) (line : List ℕ) (after : List (List ℕ)) (more : Topology) → first_line lines ≡ Some (line, after) → bytes_eq line (codes "end") ≡ false → declared version topo line n ≡ Ok more
    → topology_from version topo n lines ≡ topology_from version more (n + 1) after
unfolding topology_from
goes_on version topo n [] line after more e is read = absurd (none-some _ e)
goes_on version topo n (x ∷ []) line after more e is read = absurd (none-some _ e)
goes_on version topo n (x ∷ next ∷ lines) line after more e is read =
    let p = first_is lines line after x next e in
    let here : bytes_eq x (codes "end") ≡ false = ap (λ (q : Line). bytes_eq q.0 (codes "end")) p ∙ is in
    let one : declared version topo x n ≡ Ok more = ap (λ (q : Line). declared version topo q.0 n) p ∙ read in
    let first : topology_from version topo n (x ∷ next ∷ lines) ≡ topology_from version more (n + 1) (next ∷ lines) = rw (here, one) refl in
    first ∙ ap (λ (q : Line). topology_from version more (n + 1) q.1) p

pub fails : (version : Version) (topo : Topology) (n : ℕ) (lines : List (List ℕ)) (line : List ℕ) (after : List (List ℕ)) (found : TopoFault) → first_line lines ≡ Some (line, after) → bytes_eq line (codes "end") ≡ false
    → Fails is_memory found (declared version topo line n) → Fails is_memory found (topology_from version topo n lines)
unfolding topology_from
fails version topo n [] line after found e is read here = absurd (none-some _ e)
fails version topo n (x ∷ []) line after found e is read here = absurd (none-some _ e)
fails version topo n (x ∷ next ∷ lines) line after found e is read here =
    let p = first_is lines line after x next e in
    let other : bytes_eq x (codes "end") ≡ false = ap (λ (q : Line). bytes_eq q.0 (codes "end")) p ∙ is in
    let one : declared version topo x n ≡ Err found = ap (λ (q : Line). declared version topo q.0 n) p ∙ read here in
    rw (other, one) refl

-- what a line leaves is shorter
pub shorter : (bytes line after : List ℕ) → bytes ≡ line ++ 10 ∷ after → length bytes ≡ length line + suc (length after)
shorter bytes line after e = ap (λ (l : List ℕ). length l) e ∙ length-append line (10 ∷ after)

pub reads_first : (version : Version) (lines : List (List ℕ)) (line : List ℕ) (after : List (List ℕ)) → first_line lines ≡ Some (line, after) → version_at line ≡ Some version
    → topology_from version (record { managers = []; links = [] }) 2 after ≡ topology_in lines
unfolding topology_in
reads_first version [] line after e is = absurd (none-some _ e)
reads_first version (x ∷ []) line after e is = absurd (none-some _ e)
reads_first version (x ∷ next ∷ lines) line after e is =
    let p = first_is lines line after x next e in
    let here : version_at x ≡ Some version = ap (λ (q : Line). version_at q.0) p ∙ is in
    let first : topology_in (x ∷ next ∷ lines) ≡ topology_from version (record { managers = []; links = [] }) 2 (next ∷ lines) = rw here refl in
    sym (first ∙ ap (λ (q : Line). topology_from version (record { managers = []; links = [] }) 2 q.1) p)

long_version : (version : Version) → 1 ≤ length (version_text version)
long_version version.One = omega arith
long_version version.Two = omega arith

pub first_long : (version : Version) (line : List ℕ) → version_at line ≡ Some version → 1 ≤ length line
first_long version line is = subst (λ (l : List ℕ). 1 ≤ length l) (sym (version_takes line version is)) (long_version version)
