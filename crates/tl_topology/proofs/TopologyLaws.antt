-- A topology is read from its text, and from no other, and a refusal is the text's first fault.
use Rattle.std.proofs.Common.{◌≡◌, ℕ, suc, ◌+◌, ◌-◌, Bool, true, false, not, cond, List, [], ◌∷◌, ◌++◌, length, map, take, Option, Some, None, Result, Ok, Err, refl, sym, ap, subst, ◌∙◌, append_assoc, length-append, arith}
use Rattle.std.specs.Prelude.{codes}
use Rattle.std.specs.List.{join_with_byte, AllByRecursion}
use Rattle.std.specs.Str.{bytes_eq}
use Rattle.std.proofs.lemmas.Option.{none-some, same_Some}
use Rattle.std.proofs.lemmas.Bool.{false≢true, and_from}
use Rattle.std.proofs.lemmas.List.{take_at}
use Rattle.std.proofs.lemmas.Slice.Eq.{bytes_eq-Decides}
use Rattle.tl_text.specs.Words.{lines_of}
use Rattle.tl_text.specs.Readings.{◌>>>◌, or_fault, Fails}
use Rattle.tl_text.proofs.Cuts.{starts}
use Rattle.tl_text.proofs.Spelling.{all_free, lines_again, same_lines, some_line, front_lines}
use Rattle.tl_topology.specs.declared.LinkDecl.{LinkDecl}
use Rattle.tl_topology.specs.declared.reading.Version.{Version}
use Rattle.tl_topology.specs.declared.reading.Version.TheVariants as version
use Rattle.tl_topology.specs.declared.fault.TopoFault.{TopoFault}
use Rattle.tl_topology.specs.declared.fault.TopoFault.TheVariants as fault
use Rattle.tl_topology.specs.Faults.{is_memory}
use Rattle.tl_topology.specs.Topology.{Topology}
use Rattle.tl_topology.specs.Reading.{version_at, declared, topology_from, topology_in}
use Rattle.tl_topology.specs.Text.{Declaration, a_manager, a_link, Document, version_text, declaration_text, topology_lines, topology_text, IsSpelled}
use Rattle.tl_topology.specs.Declarations.{rules_of, link_made, with_declaration, with_all, IsLawful, AreLawful, IsDeclaredInOrder, nothing, topology_of}
use Rattle.tl_topology.specs.FirstFault.{first_broken, IsFaultAt, not_ended, spells_nothing, breaks_a_rule, IsFirstFault, at_first, behind_declarations}
use Rattle.tl_topology.proofs.LineLaws.{same_text, version_takes, version_again, version_line, declaration_at, declaration_takes, declaration_again, declaration_line, end_declares_nothing}
use Rattle.tl_topology.proofs.RuleLaws.{meant, declared_meant, lawful_meant, meant_lawful, broken_meant, meant_broken}

-- ---- readings that end at a fault

ok_is : {A : Type 0} (x y : A) → ◌≡◌ {A = Result A TopoFault} (Ok x) (Ok y) → x ≡ y
ok_is x y e = cc

err_is : {A : Type 0} (x y : TopoFault) → ◌≡◌ {A = Result A TopoFault} (Err x) (Err y) → x ≡ y
err_is x y e = cc

ok-err : {A : Type 0} (x : A) (y : TopoFault) → ◌≡◌ {A = Result A TopoFault} (Ok x) (Err y) → ⊥
ok-err x y e = absurd cc

bind_ok : {A B : Type 0} (r : Result A TopoFault) (f : A → Result B TopoFault) (y : B) → (r >>> f) ≡ Ok y → (x : A) × (r ≡ Ok x) × (f x ≡ Ok y)
bind_ok (Ok x) f y e = (x, refl, e)
bind_ok (Err d) f y e = absurd (ok-err y d (sym e))

-- lines up to the first that is a fault, or up to the last
abbrev Lines : Type 0
Lines = List (List ℕ)

abbrev Read : Type 0
Read = Topology × Lines

-- ---- lists of lines

head_is : (a b : List ℕ) (x y : Lines) → a ∷ x ≡ b ∷ y → a ≡ b
head_is a b x y e = cc

tail_is : (a b : List ℕ) (x y : Lines) → a ∷ x ≡ b ∷ y → x ≡ y
tail_is a b x y e = cc

no_lines : (line : List ℕ) (lines : Lines) → [] ≡ line ∷ lines → ⊥
no_lines line lines e = absurd cc

one_line : (a b next : List ℕ) (lines : Lines) → a ∷ [] ≡ b ∷ next ∷ lines → ⊥
one_line a b next lines e = absurd cc

-- ---- one line

-- what a line is that was read: a lawful declaration, or a fault of its own
line_from : (version : Version) (read : Option Declaration) (topo made : Topology) (line : List ℕ) (n : ℕ) → declaration_at version line ≡ read → (or_fault read (fault.BadLine n) >>> λ d. meant topo d n) ≡ Ok made
    → (d : Declaration) × (line ≡ declaration_text d) × (with_declaration topo d ≡ made) × IsLawful version topo d
line_from version None topo made line n is e = absurd (ok-err made (fault.BadLine n) (sym e))
line_from version (Some d) topo made line n is e =
    let law = declaration_takes version line d is in
    let kept = meant_lawful version topo made d n law.1 e in
    (d, law.0, kept.0, kept.1)

line_takes : (version : Version) (topo made : Topology) (line : List ℕ) (n : ℕ) → declared version topo line n ≡ Ok made → (d : Declaration) × (line ≡ declaration_text d) × (with_declaration topo d ≡ made) × IsLawful version topo d
line_takes version topo made line n e = line_from version (declaration_at version line) topo made line n refl (sym (declared_meant version topo line n) ∙ e)

spelled_meant : (version : Version) (topo : Topology) (d : Declaration) (n : ℕ) → IsSpelled version d → declared version topo (declaration_text d) n ≡ meant topo d n
spelled_meant version topo d n spelled = declared_meant version topo (declaration_text d) n ∙ ap (λ (o : Option Declaration). or_fault o (fault.BadLine n) >>> λ x. meant topo x n) (declaration_again version d spelled)

line_again : (version : Version) (topo : Topology) (d : Declaration) (n : ℕ) → IsLawful version topo d → declared version topo (declaration_text d) n ≡ Ok (with_declaration topo d)
line_again version topo d n lawful = spelled_meant version topo d n lawful.spelled ∙ lawful_meant version topo d n lawful

at_end : (version : Version) (t : Bool) (d : Declaration) → IsSpelled version d → (t ≡ true → declaration_text d ≡ codes "end") → t ≡ false
at_end version false d spelled same = refl
at_end version true d spelled same = absurd (none-some d (sym (end_declares_nothing version) ∙ ap (declaration_at version) (sym (same refl)) ∙ declaration_again version d spelled))

end_is_no_declaration : (version : Version) (d : Declaration) → IsSpelled version d → bytes_eq (declaration_text d) (codes "end") ≡ false
end_is_no_declaration version d spelled = at_end version (bytes_eq (declaration_text d) (codes "end")) d spelled (λ h. same_text (declaration_text d) (codes "end") h)

pub text_is_no_end : (version : Version) (d : Declaration) → IsSpelled version d → declaration_text d ≡ codes "end" → ⊥
text_is_no_end version d spelled same = none-some d (sym (end_declares_nothing version) ∙ ap (declaration_at version) (sym same) ∙ declaration_again version d spelled)

-- ---- the lines after the first

record Declares (version : Version) (topo made : Topology) (lines rest : Lines) : Type 0 where
  declarations : List Declaration
  made_is : made ≡ with_all topo declarations
  lines_are : lines ≡ map declaration_text declarations ++ codes "end" ∷ rest
  lawful : AreLawful version topo declarations
  more : starts rest

one_before : (version : Version) (topo next made : Topology) (d : Declaration) (line : List ℕ) (lines rest : Lines) → line ≡ declaration_text d → with_declaration topo d ≡ next → IsLawful version topo d → Declares version next made lines rest → Declares version topo made (line ∷ lines) rest
one_before version topo next made d line lines rest text same lawful behind =
    record {
      declarations = d ∷ behind.declarations;
      made_is = behind.made_is ∙ ap (λ (t : Topology). with_all t behind.declarations) (sym same);
      lines_are = rw (text, behind.lines_are) refl;
      lawful = (lawful, subst (λ (t : Topology). AreLawful version t behind.declarations) (sym same) behind.lawful);
      more = behind.more;
    }

from_step : (version : Version) (t : Bool) (topo made : Topology) (n : ℕ) (line : List ℕ) (lines rest : Lines) → starts lines → (t ≡ true → line ≡ codes "end")
    → ((next : Topology) → topology_from version next (n + 1) lines ≡ Ok (made, rest) → Declares version next made lines rest)
    → cond t (Ok (topo, lines)) (declared version topo line n >>> λ next. topology_from version next (n + 1) lines) ≡ Ok (made, rest) → Declares version topo made (line ∷ lines) rest
from_step version true topo made n line lines rest more same others e =
    let p = ok_is {A = Read} _ _ e in
    let m : topo ≡ made = ap (λ (q : Read). q.0) p in
    let r : lines ≡ rest = ap (λ (q : Read). q.1) p in
    record { declarations = []; made_is = sym m; lines_are = rw (same refl, r) refl; lawful = tt; more = subst starts r more }
from_step version false topo made n line lines rest more same others e =
    let step = bind_ok (declared version topo line n) (λ next. topology_from version next (n + 1) lines) (made, rest) e in
    let d = line_takes version topo step.0 line n step.1 in
    one_before version topo step.0 made d.0 line lines rest d.1 d.2 d.3 (others step.0 step.2)

from_takes : (version : Version) (topo made : Topology) (n : ℕ) (lines rest : Lines) → topology_from version topo n lines ≡ Ok (made, rest) → Declares version topo made lines rest
unfolding topology_from
from_takes version topo made n [] rest e = absurd (ok-err _ _ (sym e))
from_takes version topo made n (line ∷ []) rest e = absurd (ok-err _ _ (sym e))
from_takes version topo made n (line ∷ next ∷ lines) rest e =
    from_step version (bytes_eq line (codes "end")) topo made n line (next ∷ lines) rest tt (λ h. same_text line (codes "end") h) (λ more h. from_takes version more made (n + 1) (next ∷ lines) rest h) e

-- a lawful declaration before other lines is passed
passes : (version : Version) (topo : Topology) (n : ℕ) (d : Declaration) (next : List ℕ) (lines : Lines) → IsLawful version topo d → topology_from version topo n (declaration_text d ∷ next ∷ lines) ≡ topology_from version (with_declaration topo d) (n + 1) (next ∷ lines)
unfolding topology_from
passes version topo n d next lines lawful = rw (end_is_no_declaration version d lawful.spelled, line_again version topo d n lawful) refl

from_again : (version : Version) (topo : Topology) (n : ℕ) (ds : List Declaration) (next : List ℕ) (rest : Lines) → AreLawful version topo ds
    → topology_from version topo n (map declaration_text ds ++ codes "end" ∷ next ∷ rest) ≡ Ok (with_all topo ds, next ∷ rest)
unfolding topology_from
from_again version topo n [] next rest lawful = refl
from_again version topo n (d ∷ []) next rest lawful = passes version topo n d (codes "end") (next ∷ rest) lawful.0 ∙ from_again version (with_declaration topo d) (n + 1) [] next rest lawful.1
from_again version topo n (d ∷ c ∷ ds) next rest lawful =
    passes version topo n d (declaration_text c) (map declaration_text ds ++ codes "end" ∷ next ∷ rest) lawful.0 ∙ from_again version (with_declaration topo d) (n + 1) (c ∷ ds) next rest lawful.1

-- ---- faults after the first line

record Faulty (version : Version) (topo : Topology) (n : ℕ) (lines : Lines) (found : TopoFault) : Type 0 where
  declarations : List Declaration
  here : List ℕ
  behind : Lines
  lawful : AreLawful version topo declarations
  lines_are : lines ≡ map declaration_text declarations ++ here ∷ behind
  is_fault : IsFaultAt version (with_all topo declarations) (length declarations + n) here behind found

fault_before : (version : Version) (topo next : Topology) (n : ℕ) (d : Declaration) (line : List ℕ) (lines : Lines) (found : TopoFault) → line ≡ declaration_text d → with_declaration topo d ≡ next → IsLawful version topo d
    → Faulty version next (n + 1) lines found → Faulty version topo n (line ∷ lines) found
fault_before version topo next n d line lines found text same lawful later =
    let counted : length later.declarations + (n + 1) ≡ suc (length later.declarations) + n = omega arith in
    let fault_there : IsFaultAt version (with_all next later.declarations) (suc (length later.declarations) + n) later.here later.behind found = subst (λ (k : ℕ). IsFaultAt version (with_all next later.declarations) k later.here later.behind found) counted later.is_fault in
    record {
      declarations = d ∷ later.declarations;
      here = later.here;
      behind = later.behind;
      lawful = (lawful, subst (λ (t : Topology). AreLawful version t later.declarations) (sym same) later.lawful);
      lines_are = rw (text, later.lines_are) refl;
      is_fault = subst (λ (t : Topology). IsFaultAt version (with_all t later.declarations) (suc (length later.declarations) + n) later.here later.behind found) (sym same) fault_there;
    }

fault_here : (version : Version) (topo : Topology) (n : ℕ) (line : List ℕ) (lines : Lines) (found : TopoFault) → IsFaultAt version topo n line lines found → Faulty version topo n (line ∷ lines) found
fault_here version topo n line lines found is =
    let counted : n ≡ 0 + n = omega arith in
    record { declarations = []; here = line; behind = lines; lawful = tt; lines_are = refl; is_fault = subst (λ (k : ℕ). IsFaultAt version topo k line lines found) counted is }

more_lines : (next : List ℕ) (lines : Lines) → next ∷ lines ≡ [] → ⊥
more_lines next lines e = absurd cc

spells_none : (version : Version) (line : List ℕ) → declaration_at version line ≡ None → (d : Declaration) → IsSpelled version d → line ≡ declaration_text d → ⊥
spells_none version line none d spelled text = none-some d (sym none ∙ ap (declaration_at version) text ∙ declaration_again version d spelled)

-- a line that spells nothing, or a declaration that breaks a rule, or one that is lawful and a fault after it
judged_from : (version : Version) (read : Option Declaration) (topo : Topology) (n : ℕ) (line next : List ℕ) (lines : Lines) (found : TopoFault) → declaration_at version line ≡ read → (line ≡ codes "end" → ⊥)
    → ((more : Topology) → topology_from version more (n + 1) (next ∷ lines) ≡ Err found → Faulty version more (n + 1) (next ∷ lines) found)
    → ((judged : Result Topology TopoFault) → (d : Declaration) → read ≡ Some d → meant topo d n ≡ judged → (judged >>> λ more. topology_from version more (n + 1) (next ∷ lines)) ≡ Err found → Faulty version topo n (line ∷ next ∷ lines) found)
    → ((or_fault read (fault.BadLine n) >>> λ d. meant topo d n) >>> λ more. topology_from version more (n + 1) (next ∷ lines)) ≡ Err found → Faulty version topo n (line ∷ next ∷ lines) found
judged_from version None topo n line next lines found is other later judged e =
    fault_here version topo n line (next ∷ lines) found (spells_nothing other (λ d spelled text. spells_none version line is d spelled text) (sym (err_is {A = Read} _ _ e)))
judged_from version (Some d) topo n line next lines found is other later judged e = judged (meant topo d n) d refl refl e

judged_at : (version : Version) (judged : Result Topology TopoFault) (topo : Topology) (n : ℕ) (d : Declaration) (line next : List ℕ) (lines : Lines) (found : TopoFault) → line ≡ declaration_text d → IsSpelled version d → meant topo d n ≡ judged
    → ((more : Topology) → topology_from version more (n + 1) (next ∷ lines) ≡ Err found → Faulty version more (n + 1) (next ∷ lines) found)
    → (judged >>> λ more. topology_from version more (n + 1) (next ∷ lines)) ≡ Err found → Faulty version topo n (line ∷ next ∷ lines) found
judged_at version (Ok more) topo n d line next lines found text spelled is later e =
    let kept = meant_lawful version topo more d n spelled is in
    fault_before version topo more n d line (next ∷ lines) found text kept.0 kept.1 (later more e)
judged_at version (Err other) topo n d line next lines found text spelled is later e =
    let same : meant topo d n ≡ Err found = is ∙ ap (λ (x : TopoFault). Err x) (err_is {A = Read} _ _ e) in
    fault_here version topo n line (next ∷ lines) found (breaks_a_rule (more_lines next lines) d spelled text (meant_broken topo d n found same))

fault_step : (version : Version) (t : Bool) (topo : Topology) (n : ℕ) (line next : List ℕ) (lines : Lines) (found : TopoFault) → (t ≡ false → line ≡ codes "end" → ⊥)
    → ((more : Topology) → topology_from version more (n + 1) (next ∷ lines) ≡ Err found → Faulty version more (n + 1) (next ∷ lines) found)
    → cond t (Ok (topo, next ∷ lines)) (declared version topo line n >>> λ more. topology_from version more (n + 1) (next ∷ lines)) ≡ Err found → Faulty version topo n (line ∷ next ∷ lines) found
fault_step version true topo n line next lines found other later e = absurd (ok-err {A = Read} _ _ e)
fault_step version false topo n line next lines found other later e =
    let spoken = sym (ap (λ (r : Result Topology TopoFault). r >>> λ more. topology_from version more (n + 1) (next ∷ lines)) (declared_meant version topo line n)) ∙ e in
    judged_from version (declaration_at version line) topo n line next lines found refl (other refl) later (λ judged d read is h.
    let law = declaration_takes version line d read in
    judged_at version judged topo n d line next lines found law.0 law.1 is later h) spoken

other_text : (a b : List ℕ) → bytes_eq a b ≡ false → a ≡ b → ⊥
other_text a b e same = false≢true (sym e ∙ (bytes_eq-Decides a b).1 same)

from_fails : (version : Version) (topo : Topology) (n : ℕ) (line : List ℕ) (lines : Lines) (found : TopoFault) → topology_from version topo n (line ∷ lines) ≡ Err found → Faulty version topo n (line ∷ lines) found
unfolding topology_from
from_fails version topo n line [] found e = fault_here version topo n line [] found (not_ended refl (sym (err_is {A = Read} _ _ e)))
from_fails version topo n line (next ∷ lines) found e =
    fault_step version (bytes_eq line (codes "end")) topo n line next lines found (λ h same. other_text line (codes "end") h same) (λ more h. from_fails version more (n + 1) next lines found h) e

-- ---- and a fault is found again

unended_again : (version : Version) (topo : Topology) (n : ℕ) (here : List ℕ) (behind : Lines) → behind ≡ [] → topology_from version topo n (here ∷ behind) ≡ Err (fault.BadLine n)
unfolding topology_from
unended_again version topo n here [] e = refl
unended_again version topo n here (next ∷ behind) e = absurd (more_lines next behind e)

no_declaration : (version : Version) (read : Option Declaration) (line : List ℕ) → declaration_at version line ≡ read → ((d : Declaration) → IsSpelled version d → line ≡ declaration_text d → ⊥) → read ≡ None
no_declaration version None line is none = refl
no_declaration version (Some d) line is none = (let law = declaration_takes version line d is in absurd (none d law.1 law.0))

not_end : (t : Bool) → (t ≡ true → ⊥) → t ≡ false
not_end true h = absurd (h refl)
not_end false h = refl

unspelled_again : (version : Version) (topo : Topology) (n : ℕ) (here : List ℕ) (behind : Lines) → (here ≡ codes "end" → ⊥) → ((d : Declaration) → IsSpelled version d → here ≡ declaration_text d → ⊥)
    → topology_from version topo n (here ∷ behind) ≡ Err (fault.BadLine n)
unfolding topology_from
unspelled_again version topo n here [] other none = refl
unspelled_again version topo n here (next ∷ behind) other none =
    let test : bytes_eq here (codes "end") ≡ false = not_end (bytes_eq here (codes "end")) (λ h. other (same_text here (codes "end") h)) in
    let read : declaration_at version here ≡ None = no_declaration version (declaration_at version here) here refl none in
    let one : declared version topo here n ≡ Err (fault.BadLine n) = declared_meant version topo here n ∙ ap (λ (o : Option Declaration). or_fault o (fault.BadLine n) >>> λ d. meant topo d n) read in
    rw (test, one) refl

broken_again : (version : Version) (topo : Topology) (n : ℕ) (d : Declaration) (behind : Lines) (found : TopoFault) → (behind ≡ [] → ⊥) → IsSpelled version d → first_broken (rules_of topo d) n ≡ Some found
    → topology_from version topo n (declaration_text d ∷ behind) ≡ Err found
unfolding topology_from
broken_again version topo n d [] found more spelled broken = absurd (more refl)
broken_again version topo n d (next ∷ behind) found more spelled broken =
    let one : declared version topo (declaration_text d) n ≡ Err found = spelled_meant version topo d n spelled ∙ broken_meant topo d n found broken in
    rw (end_is_no_declaration version d spelled, one) refl

fault_again : (version : Version) (topo : Topology) (n : ℕ) (here : List ℕ) (behind : Lines) (found : TopoFault) → IsFaultAt version topo n here behind found → topology_from version topo n (here ∷ behind) ≡ Err found
fault_again version topo n here behind found (not_ended last is) = unended_again version topo n here behind last ∙ ap (λ (x : TopoFault). Err x) (sym is)
fault_again version topo n here behind found (spells_nothing other none is) = unspelled_again version topo n here behind other none ∙ ap (λ (x : TopoFault). Err x) (sym is)
fault_again version topo n here behind found (breaks_a_rule more d spelled text broken) =
    ap (λ (l : List ℕ). topology_from version topo n (l ∷ behind)) text ∙ broken_again version topo n d behind found more spelled broken

fails_again : (version : Version) (topo : Topology) (n k : ℕ) (ds : List Declaration) (here : List ℕ) (behind : Lines) (found : TopoFault) → k ≡ length ds + n → AreLawful version topo ds → IsFaultAt version (with_all topo ds) k here behind found
    → topology_from version topo n (map declaration_text ds ++ here ∷ behind) ≡ Err found
fails_again version topo n k [] here behind found counted lawful is =
    let same : k ≡ n = omega arith in
    fault_again version topo n here behind found (subst (λ (j : ℕ). IsFaultAt version topo j here behind found) same is)
fails_again version topo n k (d ∷ []) here behind found counted lawful is =
    passes version topo n d here behind lawful.0 ∙ fails_again version (with_declaration topo d) (n + 1) k [] here behind found (omega arith) lawful.1 is
fails_again version topo n k (d ∷ c ∷ ds) here behind found counted lawful is =
    passes version topo n d (declaration_text c) (map declaration_text ds ++ here ∷ behind) lawful.0 ∙ fails_again version (with_declaration topo d) (n + 1) k (c ∷ ds) here behind found (omega arith) lawful.1 is

-- ---- the whole, in lines

first_text : (version : Version) (line : List ℕ) (lines rest : Lines) (ds : List Declaration) → line ≡ version_text version → lines ≡ map declaration_text ds ++ codes "end" ∷ rest
    → line ∷ lines ≡ topology_lines (record { version = version; declarations = ds }) ++ rest
first_text version line lines rest ds first e = rw (first, e) (ap (λ (l : Lines). version_text version ∷ l) (sym (append_assoc (map declaration_text ds) (codes "end" ∷ []) rest)))

record IsRead (lines : Lines) (topo : Topology) (rest : Lines) : Type 0 where
  document : Document
  lawful : IsDeclaredInOrder document
  made_is : topo ≡ topology_of document.declarations
  lines_are : lines ≡ topology_lines document ++ rest
  more : starts rest

in_step : (found : Option Version) (line : List ℕ) (lines : Lines) (topo : Topology) (rest : Lines) → version_at line ≡ found
    → (or_fault found (fault.BadLine 1) >>> λ version. topology_from version nothing 2 lines) ≡ Ok (topo, rest) → IsRead (line ∷ lines) topo rest
unfolding topology_of
in_step None line lines topo rest first e = absurd (ok-err _ _ (sym e))
in_step (Some version) line lines topo rest first e =
    let law = from_takes version nothing topo 2 lines rest e in
    record {
      document = record { version = version; declarations = law.declarations };
      lawful = law.lawful;
      made_is = law.made_is;
      lines_are = first_text version line lines rest law.declarations (version_takes line version first) law.lines_are;
      more = law.more;
    }

in_takes : (lines : Lines) (topo : Topology) (rest : Lines) → topology_in lines ≡ Ok (topo, rest) → IsRead lines topo rest
unfolding topology_in
in_takes [] topo rest e = absurd (ok-err _ _ (sym e))
in_takes (line ∷ []) topo rest e = absurd (ok-err _ _ (sym e))
in_takes (line ∷ next ∷ lines) topo rest e = in_step (version_at line) line (next ∷ lines) topo rest refl e

behind_first : (version : Version) (lines : Lines) (next : List ℕ) (behind : Lines) → lines ≡ next ∷ behind → topology_in (version_text version ∷ lines) ≡ topology_from version nothing 2 lines
unfolding topology_in
behind_first version [] next behind e = absurd (more_lines next behind (sym e))
behind_first version (line ∷ lines) next behind e = rw (version_again version) refl

some_front : (ds : List Declaration) (here : List ℕ) (behind : Lines) → (line : List ℕ) × (lines : Lines) × (map declaration_text ds ++ here ∷ behind ≡ line ∷ lines)
some_front [] here behind = (here, behind, refl)
some_front (d ∷ ds) here behind = (declaration_text d, map declaration_text ds ++ here ∷ behind, refl)

in_from : (version : Version) (ds : List Declaration) (here : List ℕ) (behind : Lines)
    → topology_in (version_text version ∷ (map declaration_text ds ++ here ∷ behind)) ≡ topology_from version nothing 2 (map declaration_text ds ++ here ∷ behind)
in_from version ds here behind =
    let front = some_front ds here behind in
    behind_first version (map declaration_text ds ++ here ∷ behind) front.0 front.1 front.2

in_again : (doc : Document) (next : List ℕ) (rest : Lines) → IsDeclaredInOrder doc → topology_in (topology_lines doc ++ next ∷ rest) ≡ Ok (topology_of doc.declarations, next ∷ rest)
unfolding topology_of
in_again doc next rest lawful =
    ap (λ (l : Lines). topology_in (version_text doc.version ∷ l)) (append_assoc (map declaration_text doc.declarations) (codes "end" ∷ []) (next ∷ rest))
    ∙ in_from doc.version doc.declarations (codes "end") (next ∷ rest) ∙ from_again doc.version nothing 2 doc.declarations next rest lawful

no_version : (line : List ℕ) → version_at line ≡ None → (version : Version) → line ≡ version_text version → ⊥
no_version line none version same = none-some version (sym none ∙ ap version_at same ∙ version_again version)

first_fails : (read : Option Version) (line next : List ℕ) (lines : Lines) (found : TopoFault) → version_at line ≡ read
    → (or_fault read (fault.BadLine 1) >>> λ version. topology_from version nothing 2 (next ∷ lines)) ≡ Err found → IsFirstFault (line ∷ next ∷ lines) found
unfolding topology_of
first_fails (Some version) line next lines found first e =
    let law = from_fails version nothing 2 next lines found e in
    behind_declarations (record { version = version; declarations = law.declarations }) law.here law.behind law.lawful (rw (version_takes line version first, law.lines_are) refl) law.is_fault
first_fails None line next lines found first e =
    at_first (λ version n behind same. no_version line first version (head_is line (version_text version) (next ∷ lines) (n ∷ behind) same)) (sym (err_is {A = Read} _ _ e))

pub in_fails : (lines : Lines) (found : TopoFault) → topology_in lines ≡ Err found → IsFirstFault lines found
unfolding topology_in
in_fails [] found e = at_first (λ version next behind same. no_lines (version_text version) (next ∷ behind) same) (sym (err_is {A = Read} _ _ e))
in_fails (line ∷ []) found e = at_first (λ version next behind same. one_line line (version_text version) next behind same) (sym (err_is {A = Read} _ _ e))
in_fails (line ∷ next ∷ lines) found e = first_fails (version_at line) line next lines found refl e

unversioned : (read : Option Version) (line next : List ℕ) (lines : Lines) → version_at line ≡ read
    → ((version : Version) (n : List ℕ) (behind : Lines) → line ∷ next ∷ lines ≡ version_text version ∷ n ∷ behind → ⊥) → read ≡ None
unversioned None line next lines is other = refl
unversioned (Some version) line next lines is other = absurd (other version next lines (ap (λ (l : List ℕ). l ∷ next ∷ lines) (version_takes line version is)))

first_again : (lines : Lines) → ((version : Version) (next : List ℕ) (behind : Lines) → lines ≡ version_text version ∷ next ∷ behind → ⊥) → topology_in lines ≡ Err (fault.BadLine 1)
unfolding topology_in
first_again [] other = refl
first_again (line ∷ []) other = refl
first_again (line ∷ next ∷ lines) other = rw (unversioned (version_at line) line next lines refl other) refl

pub in_fails_again : (lines : Lines) (found : TopoFault) → IsFirstFault lines found → topology_in lines ≡ Err found
unfolding topology_of
in_fails_again lines found (at_first other is) = first_again lines other ∙ ap (λ (x : TopoFault). Err x) (sym is)
in_fails_again lines found (behind_declarations doc here behind lawful lines_are is) =
    ap topology_in lines_are ∙ in_from doc.version doc.declarations here behind
    ∙ fails_again doc.version nothing 2 (length doc.declarations + 2) doc.declarations here behind found refl lawful is

-- a text has no two first faults
pub one_fault : (lines : Lines) (a b : TopoFault) → IsFirstFault lines a → IsFirstFault lines b → a ≡ b
one_fault lines a b first second = err_is {A = Read} _ _ (sym (in_fails_again lines a first) ∙ in_fails_again lines b second)

-- ---- the whole, in bytes

abbrev AreSpelled : Version → List Declaration → Type 0
AreSpelled version [] = Unit {0}
AreSpelled version (d ∷ ds) = IsSpelled version d × AreSpelled version ds

lawful_spelled : (version : Version) (topo : Topology) (ds : List Declaration) → AreLawful version topo ds → AreSpelled version ds
lawful_spelled version topo [] lawful = tt
lawful_spelled version topo (d ∷ ds) lawful = (lawful.0.spelled, lawful_spelled version (with_declaration topo d) ds lawful.1)

body_free : (version : Version) (ds : List Declaration) → AreSpelled version ds → all_free (map declaration_text ds ++ codes "end" ∷ []) ≡ true
body_free version [] spelled = refl
body_free version (d ∷ ds) spelled = and_from _ _ (declaration_line version d spelled.0) (body_free version ds spelled.1)

abbrev pub IsSpelledWhole : Document → Type 0
IsSpelledWhole doc = AreSpelled doc.version doc.declarations

pub lawful_whole : (doc : Document) → IsDeclaredInOrder doc → IsSpelledWhole doc
lawful_whole doc lawful = lawful_spelled doc.version nothing doc.declarations lawful

-- the lines of a text and of what follows
text_lines : (doc : Document) (rest : List ℕ) → IsSpelledWhole doc → lines_of (topology_text doc ++ rest) ≡ topology_lines doc ++ lines_of rest
unfolding topology_text
text_lines doc rest spelled = lines_again (topology_lines doc) rest (and_from _ _ (version_line doc.version) (body_free doc.version doc.declarations spelled))

pub record IsTaken (bytes : List ℕ) (topo : Topology) (rest : List ℕ) : Type 0 where
  pub document : Document
  pub lawful : IsDeclaredInOrder document
  pub made_is : topo ≡ topology_of document.declarations
  pub bytes_are : bytes ≡ topology_text document ++ rest

-- what was read is the text, and what is left
pub text_takes : (bytes : List ℕ) (topo : Topology) (rest : List ℕ) → topology_in (lines_of bytes) ≡ Ok (topo, lines_of rest) → IsTaken bytes topo rest
text_takes bytes topo rest e =
    let law = in_takes (lines_of bytes) topo (lines_of rest) e in
    record {
      document = law.document;
      lawful = law.lawful;
      made_is = law.made_is;
      bytes_are = same_lines bytes (topology_text law.document ++ rest) (law.lines_are ∙ sym (text_lines law.document rest (lawful_whole law.document law.lawful)));
    }

-- the text is read again, whatever follows
pub text_again : (doc : Document) (rest : List ℕ) → IsDeclaredInOrder doc → topology_in (lines_of (topology_text doc ++ rest)) ≡ Ok (topology_of doc.declarations, lines_of rest)
text_again doc rest lawful =
    let some = some_line rest in
    let lines : lines_of (topology_text doc ++ rest) ≡ topology_lines doc ++ some.0 ∷ some.1 = text_lines doc rest (lawful_whole doc lawful) ∙ ap (λ (l : Lines). topology_lines doc ++ l) some.2 in
    ap topology_in lines ∙ in_again doc some.0 some.1 lawful ∙ ap (λ (l : Lines). Ok (topology_of doc.declarations, l)) (sym some.2)

-- ---- one text, one document

same_from : (version : Version) (a b : List Declaration) (x y : Lines) → AreSpelled version a → AreSpelled version b
    → map declaration_text a ++ codes "end" ∷ x ≡ map declaration_text b ++ codes "end" ∷ y → (a ≡ b) × (x ≡ y)
same_from version [] [] x y first second e = (refl, tail_is _ _ _ _ e)
same_from version [] (d ∷ b) x y first second e = absurd (text_is_no_end version d second.0 (sym (head_is _ _ _ _ e)))
same_from version (c ∷ a) [] x y first second e = absurd (text_is_no_end version c first.0 (head_is _ _ _ _ e))
same_from version (c ∷ a) (d ∷ b) x y first second e =
    let one : c ≡ d = same_Some _ _ (sym (declaration_again version c first.0) ∙ ap (declaration_at version) (head_is _ _ _ _ e) ∙ declaration_again version d second.0) in
    let more = same_from version a b x y first.1 second.1 (tail_is _ _ _ _ e) in
    (rw (one, more.0) refl, more.1)

same_version : (v w : Version) → version_text v ≡ version_text w → v ≡ w
same_version v w e = same_Some _ _ (sym (version_again v) ∙ ap version_at e ∙ version_again w)

same_body : (v w : Version) (a b : List Declaration) (x y : Lines) → v ≡ w → AreSpelled v a → AreSpelled w b
    → map declaration_text a ++ codes "end" ∷ x ≡ map declaration_text b ++ codes "end" ∷ y → (a ≡ b) × (x ≡ y)
same_body v w a b x y same first second e = same_from v a b x y first (subst (λ (u : Version). AreSpelled u b) (sym same) second) e

same_document : (a b : Document) → a.version ≡ b.version → a.declarations ≡ b.declarations → a ≡ b
same_document a b versions declared =
    let made : Version → List Declaration → Document = λ v ds. record { version = v; declarations = ds } in
    ap (λ v. made v a.declarations) versions ∙ ap (made b.version) declared

-- two texts at the front of the same bytes are one, and so are their documents
pub one_front : (a b : Document) (x y : List ℕ) → IsSpelledWhole a → IsSpelledWhole b → topology_text a ++ x ≡ topology_text b ++ y → (a ≡ b) × (x ≡ y)
one_front a b x y first second e =
    let lines : topology_lines a ++ lines_of x ≡ topology_lines b ++ lines_of y = sym (text_lines a x first) ∙ ap lines_of e ∙ text_lines b y second in
    let versions : a.version ≡ b.version = same_version a.version b.version (head_is _ _ _ _ lines) in
    let body : map declaration_text a.declarations ++ codes "end" ∷ lines_of x ≡ map declaration_text b.declarations ++ codes "end" ∷ lines_of y =
    sym (append_assoc (map declaration_text a.declarations) (codes "end" ∷ []) (lines_of x)) ∙ tail_is _ _ _ _ lines ∙ append_assoc (map declaration_text b.declarations) (codes "end" ∷ []) (lines_of y) in
    let both = same_body a.version b.version a.declarations b.declarations (lines_of x) (lines_of y) versions first second body in
    (same_document a b versions both.0, same_lines x y both.1)

-- ---- the call

pub used_is : (bytes rest text : List ℕ) → bytes ≡ text ++ rest → length bytes - length rest ≡ length text
used_is bytes rest text e = rw e (omega (arith, length-append text rest))

pub front_is : (bytes rest text : List ℕ) → bytes ≡ text ++ rest → take (length bytes - length rest) bytes ≡ text
front_is bytes rest text e = ap (λ (n : ℕ). take n bytes) (used_is bytes rest text e) ∙ rw e (take_at text rest (length text) refl)

pub read_same : (bytes rest more : List ℕ) (topo : Topology) (doc : Document) → topology_in (lines_of bytes) ≡ Ok (topo, lines_of rest) → IsDeclaredInOrder doc → bytes ≡ topology_text doc ++ more
    → (topology_of doc.declarations ≡ topo) × (length (topology_text doc) ≡ length bytes - length rest)
read_same bytes rest more topo doc e lawful is =
    let p = ok_is {A = Read} _ _ (sym e ∙ ap (λ (l : List ℕ). topology_in (lines_of l)) is ∙ text_again doc more lawful) in
    let same : rest ≡ more = same_lines rest more (ap (λ (q : Read). q.1) p) in
    (sym (ap (λ (q : Read). q.0) p), sym (used_is bytes rest (topology_text doc) (is ∙ ap (λ (l : List ℕ). topology_text doc ++ l) (sym same))))

pub no_refusal : (bytes more : List ℕ) (doc : Document) (found : TopoFault) → Fails is_memory found (topology_in (lines_of bytes)) → IsDeclaredInOrder doc → bytes ≡ topology_text doc ++ more → is_memory found ≡ false → ⊥
no_refusal bytes more doc found fails lawful is m = ok-err _ _ (sym (text_again doc more lawful) ∙ ap (λ (l : List ℕ). topology_in (lines_of l)) (sym is) ∙ fails m)

-- ---- a text or a fault

front_from : (bytes : List ℕ) (rest : Lines) (doc : Document) → starts rest → lines_of bytes ≡ topology_lines doc ++ rest → (left : List ℕ) × (bytes ≡ topology_text doc ++ left)
unfolding topology_text
front_from bytes [] doc more e = absurd more
front_from bytes (next ∷ rest) doc more e = (join_with_byte 10 (next ∷ rest), front_lines bytes (topology_lines doc) next rest e)

-- bytes whose lines are read begin with a text
pub bytes_taken : (bytes : List ℕ) (topo : Topology) (rest : Lines) → topology_in (lines_of bytes) ≡ Ok (topo, rest) → (doc : Document) × (left : List ℕ) × (IsDeclaredInOrder doc × (bytes ≡ topology_text doc ++ left))
bytes_taken bytes topo rest e =
    let law = in_takes (lines_of bytes) topo rest e in
    let front = front_from bytes rest law.document law.more law.lines_are in
    (law.document, front.0, (law.lawful, front.1))

-- bytes that begin with a text have no first fault
pub no_both : (bytes rest : List ℕ) (doc : Document) (found : TopoFault) → IsDeclaredInOrder doc → bytes ≡ topology_text doc ++ rest → IsFirstFault (lines_of bytes) found → ⊥
no_both bytes rest doc found lawful is faulty =
    ok-err _ _ (sym (text_again doc rest lawful) ∙ ap (λ (l : List ℕ). topology_in (lines_of l)) (sym is) ∙ in_fails_again (lines_of bytes) found faulty)

-- ---- what version 2 adds

-- no link is strict
abbrev pub NoneStrict : Topology → Type 0
NoneStrict topo = AllByRecursion (λ p. p.1.strict ≡ false) topo.links

abbrev Named : Type 0
Named = List ℕ × LinkDecl

none_with : (links : List Named) (last : Named) → AllByRecursion (λ (p : Named). p.1.strict ≡ false) links → last.1.strict ≡ false → AllByRecursion (λ (p : Named). p.1.strict ≡ false) (links ++ last ∷ [])
none_with [] last none is = (is, tt)
none_with (link ∷ links) last none is = (none.0, none_with links last none.1 is)

none_of_front : (links : List Named) (last : Named) → AllByRecursion (λ (p : Named). p.1.strict ≡ false) (links ++ last ∷ []) → AllByRecursion (λ (p : Named). p.1.strict ≡ false) links × (last.1.strict ≡ false)
none_of_front [] last none = (tt, none.0)
none_of_front (link ∷ links) last none =
    let parts = none_of_front links last none.1 in
    ((none.0, parts.0), parts.1)

unmarked_is : (t : Bool) → not t ≡ true → t ≡ false
unmarked_is false e = refl
unmarked_is true e = absurd (false≢true e)

spelled_in_two : (d : Declaration) → IsSpelled version.One d → IsSpelled version.Two d
spelled_in_two (a_manager manager) is = is
spelled_in_two (a_link link) is = record { name = is.name; manager = is.manager; width = is.width; max_size = is.max_size; some_source = is.some_source; sources = is.sources; strict = refl }

pub lawful_in_two : (topo : Topology) (ds : List Declaration) → AreLawful version.One topo ds → AreLawful version.Two topo ds
lawful_in_two topo [] lawful = tt
lawful_in_two topo (d ∷ ds) lawful = (record { spelled = spelled_in_two d lawful.0.spelled; kept = lawful.0.kept }, lawful_in_two (with_declaration topo d) ds lawful.1)

none_strict_with : (topo : Topology) (d : Declaration) → IsSpelled version.One d → NoneStrict topo → NoneStrict (with_declaration topo d)
unfolding with_declaration
none_strict_with topo (a_manager manager) is none = none
none_strict_with topo (a_link link) is none = none_with topo.links (link.name, link_made topo link) none (unmarked_is link.strict is.strict)

pub none_strict : (topo : Topology) (ds : List Declaration) → AreLawful version.One topo ds → NoneStrict topo → NoneStrict (with_all topo ds)
none_strict topo [] lawful none = none
none_strict topo (d ∷ ds) lawful none = none_strict (with_declaration topo d) ds lawful.1 (none_strict_with topo d lawful.0.spelled none)

-- and back again

none_before : (topo : Topology) (d : Declaration) → NoneStrict (with_declaration topo d) → NoneStrict topo
unfolding with_declaration
none_before topo (a_manager manager) none = none
none_before topo (a_link link) none = (none_of_front topo.links (link.name, link_made topo link) none).0

none_at_first : (topo : Topology) (ds : List Declaration) → NoneStrict (with_all topo ds) → NoneStrict topo
none_at_first topo [] none = none
none_at_first topo (d ∷ ds) none = none_before topo d (none_at_first (with_declaration topo d) ds none)

spelled_in_one : (topo : Topology) (d : Declaration) → IsSpelled version.Two d → NoneStrict (with_declaration topo d) → IsSpelled version.One d
unfolding with_declaration
spelled_in_one topo (a_manager manager) is none = is
spelled_in_one topo (a_link link) is none =
    let last = (none_of_front topo.links (link.name, link_made topo link) none).1 in
    record { name = is.name; manager = is.manager; width = is.width; max_size = is.max_size; some_source = is.some_source; sources = is.sources; strict = ap not last }

pub lawful_in_one : (topo : Topology) (ds : List Declaration) → AreLawful version.Two topo ds → NoneStrict (with_all topo ds) → AreLawful version.One topo ds
lawful_in_one topo [] lawful none = tt
lawful_in_one topo (d ∷ ds) lawful none = (
  record { spelled = spelled_in_one topo d lawful.0.spelled (none_at_first (with_declaration topo d) ds none); kept = lawful.0.kept },
  lawful_in_one (with_declaration topo d) ds lawful.1 none,
)
