-- Which fragments of an input are passed over.
use Rattle.std.proofs.Common.{◌≡◌, ℕ, ◌+◌, ◌==◌, Bool, true, false, cond, List, [], ◌∷◌, ◌++◌, Option, Some, None, Result, Ok, Err, length, length-append, eq-eqb, refl, sym, ap, ◌∙◌, arith}
use Rattle.std.specs.Prelude.{codes, option_map, is_none, is_some, if◌then◌else◌}
use Rattle.std.specs.Str.{bytes_eq}
use Rattle.std.proofs.lemmas.Option.{none-some, same_Some}
use Rattle.std.proofs.lemmas.Slice.Eq.{bytes_eq-Decides}
use Rattle.tl_text.specs.Words.{◌>>=◌, cut, word_at, line_at, lines_of, first_line}
use Rattle.tl_text.specs.Readings.{◌>>>◌, or_fault}
use Rattle.tl_text.proofs.Cuts.{Line, lines_by, lines_cut}
use Rattle.tl_topology.specs.Topology.{Topology}
use Rattle.tl_beats.specs.declared.Beat.{Beat}
use Rattle.tl_beats.specs.declared.fault.FragmentFault.{FragmentFault}
use Rattle.tl_beats.specs.declared.fault.FragmentFault.TheVariants as fault
use Rattle.tl_beats.specs.Fragments.{Frag}
use Rattle.tl_beats.specs.Reading.{header_at, next_at, beats_from, fragment_behind, fragment_in}
use Rattle.tl_beats.proofs.FragmentTexts.{ok-err, ok_is}
use Rattle.tl_stream.specs.declared.share.Passed.{Passed}
use Rattle.tl_stream.specs.Shares.{leaves, left_at, left_in, without_beats, end_from, passed_over, TellsOf}
use Rattle.tl_stream.proofs.EndingLemmas.{goes_on}

-- ---- a header alone

cut_at_once : (stop : ℕ) (rest : List ℕ) → cut stop (stop ∷ rest) ≡ ([], Some rest)
cut_at_once stop rest = rw (eq-eqb stop stop refl) refl

-- What was cut off before a stop has none.
cut_twice : (stop : ℕ) (bytes rest : List ℕ) → cut stop ((cut stop bytes).0 ++ stop ∷ rest) ≡ ((cut stop bytes).0, Some rest)
cut_twice stop [] rest = cut_at_once stop rest
cut_twice stop (b ∷ bytes) rest = elim (b == stop) as (λ (t : Bool). (b == stop) ≡ t → cut stop ((cond {A = List ℕ × Option (List ℕ)} t ([], Some bytes) (b ∷ (cut stop bytes).0, (cut stop bytes).1)).0 ++ stop ∷ rest) ≡ ((cond {A = List ℕ × Option (List ℕ)} t ([], Some bytes) (b ∷ (cut stop bytes).0, (cut stop bytes).1)).0, Some rest)) [
  | true ↦ λ e. cut_at_once stop rest
  | false ↦ λ e. rw (e, cut_twice stop bytes rest) refl
] refl

line_is_cut : (text header rest : List ℕ) → Some (header, rest) ≡ line_at text → header ≡ (cut 10 text).0
unfolding line_at
line_is_cut text header rest e = elim (cut 10 text).1 as (λ (o : Option (List ℕ)). Some (header, rest) ≡ option_map {U = List ℕ × List ℕ} (λ r. ((cut 10 text).0, r)) o → header ≡ (cut 10 text).0) [
  | None ↦ λ h. absurd (none-some _ (sym h))
  | Some r ↦ λ h. ap (λ (q : List ℕ × List ℕ). q.0) (same_Some _ _ h)
] e

-- The lines of a text that has a header and an end alone.
pub header_lines : (text header rest : List ℕ) → Some (header, rest) ≡ line_at text → lines_of (header ++ 10 ∷ 101 ∷ 110 ∷ 100 ∷ 10 ∷ []) ≡ without_beats header
header_lines text header rest e =
    let is = line_is_cut text header rest e in
    let tail : List ℕ = 101 ∷ 110 ∷ 100 ∷ 10 ∷ [] in
    let one : lines_of ((cut 10 text).0 ++ 10 ∷ tail) ≡ without_beats (cut 10 text).0 = lines_cut ((cut 10 text).0 ++ 10 ∷ tail) ∙ ap lines_by (cut_twice 10 text tail) in
    ap (λ (h : List ℕ). lines_of (h ++ 10 ∷ tail)) is ∙ one ∙ ap (λ (h : List ℕ). without_beats h) (sym is)

-- Of a fragment with this first line and no beats, what is read is what the line says.
pub alone_is : (topo : Topology) (managers : Option (List ℕ)) (line : List ℕ) → left_in topo managers (fragment_in (without_beats line)) ≡ left_at topo managers line
unfolding left_at fragment_in fragment_behind beats_from
alone_is topo managers line = elim (header_at line) as (λ o. left_in topo managers (or_fault o fault.BadHeader >>> λ header. fragment_behind header (codes "end" ∷ [] ∷ [])) ≡ (o >>= λ header. if leaves topo managers header.link then Some header.last else None)) [
  | None ↦ refl
  | Some header ↦ refl
]

-- ---- what is passed over

abbrev pub made : ℕ → ℕ × ℕ → Option Passed
made last end = Some (record { last = last; lines = end.0; bytes = end.1 })

unfoldable pub with_end : Option ℕ → Option (ℕ × ℕ) → Option Passed
with_end last end = last >>= λ l. end >>= λ e. made l e

pub nothing_ends : (topo : Topology) (managers : Option (List ℕ)) (lines : List (List ℕ)) → None ≡ option_map (λ (first : Line). without_beats first.0) (first_line lines) → passed_over topo managers lines ≡ None
unfolding passed_over
nothing_ends topo managers lines e = elim (first_line lines) as (λ (o : Option Line). None ≡ option_map (λ (first : Line). without_beats first.0) o → (o >>= λ first. left_at topo managers first.0 >>= λ last. end_from 0 0 lines >>= λ end. made last end) ≡ None) [
  | None ↦ λ h. refl
  | Some first ↦ λ h. absurd (none-some _ h)
] e

-- By the fragment with the first line and no beats, and by the end.
pub passed_by : (topo : Topology) (managers : Option (List ℕ)) (lines alone : List (List ℕ)) (last : Option ℕ) (end : Option (ℕ × ℕ)) → Some alone ≡ option_map (λ (first : Line). without_beats first.0) (first_line lines)
    → last ≡ left_in topo managers (fragment_in alone) → end_from 0 0 lines ≡ end → passed_over topo managers lines ≡ with_end last end
unfolding passed_over with_end
passed_by topo managers lines alone last end has is ends = elim (first_line lines) as (λ (o : Option Line). Some alone ≡ option_map (λ (first : Line). without_beats first.0) o
    → (o >>= λ first. left_at topo managers first.0 >>= λ l. end_from 0 0 lines >>= λ e. made l e) ≡ with_end last end) [
      | None ↦ λ h. absurd (none-some _ (sym h))
      | Some first ↦ λ h. (let left : left_at topo managers first.0 ≡ last = sym (alone_is topo managers first.0) ∙ ap (λ (ls : List (List ℕ)). left_in topo managers (fragment_in ls)) (sym (same_Some _ _ h)) ∙ sym is in rw (left, ends) refl)
    ] has

pub not_of_others : (topo : Topology) (managers : Option (List ℕ)) (lines alone : List (List ℕ)) → Some alone ≡ option_map (λ (first : Line). without_beats first.0) (first_line lines)
    → None ≡ left_in topo managers (fragment_in alone) → passed_over topo managers lines ≡ None
unfolding with_end
not_of_others topo managers lines alone has is = passed_by topo managers lines alone None (end_from 0 0 lines) has is refl

pub has_no_end : (topo : Topology) (managers : Option (List ℕ)) (lines alone : List (List ℕ)) (last : ℕ) → Some alone ≡ option_map (λ (first : Line). without_beats first.0) (first_line lines)
    → Some last ≡ left_in topo managers (fragment_in alone) → end_from 0 0 lines ≡ None → passed_over topo managers lines ≡ None
unfolding with_end
has_no_end topo managers lines alone last has is ends = passed_by topo managers lines alone (Some last) None has is ends

pub is_passed : (topo : Topology) (managers : Option (List ℕ)) (lines alone : List (List ℕ)) (last : ℕ) (end : ℕ × ℕ) → Some alone ≡ option_map (λ (first : Line). without_beats first.0) (first_line lines)
    → Some last ≡ left_in topo managers (fragment_in alone) → end_from 0 0 lines ≡ Some end → passed_over topo managers lines ≡ Some (record { last = last; lines = end.0; bytes = end.1 })
unfolding with_end
is_passed topo managers lines alone last end has is ends = passed_by topo managers lines alone (Some last) (Some end) has is ends

-- Where all are checked nothing is passed over.
all_leave_none : (topo : Topology) (line : List ℕ) → left_at topo None line ≡ None
unfolding left_at
all_leave_none topo line = elim (header_at line) as (λ o. (o >>= λ header. if leaves topo None header.link then Some header.last else None) ≡ None) [ None ↦ refl | Some header ↦ refl ]

pub all_are_checked : (topo : Topology) (managers : Option (List ℕ)) (lines : List (List ℕ)) → is_none managers ≡ true → passed_over topo managers lines ≡ None
unfolding passed_over
all_are_checked topo (Some managers) lines none = absurd (no none)
  where
    no : false ≡ true → ⊥
    no e = cc
all_are_checked topo None lines none = elim (first_line lines) as (λ (o : Option Line). (o >>= λ first. left_at topo None first.0 >>= λ l. end_from 0 0 lines >>= λ e. made l e) ≡ None) [
  | None ↦ refl
  | Some first ↦ rw (all_leave_none topo first.0) refl
]

-- ---- a fragment at the front

abbrev Left : Type 0
Left = List Beat × List (List ℕ)

bind_ok : {A B : Type 0} (r : Result A FragmentFault) (f : A → Result B FragmentFault) (y : B) → (r >>> f) ≡ Ok y → (x : A) × (r ≡ Ok x) × (f x ≡ Ok y)
bind_ok (Ok x) f y e = (x, refl, e)
bind_ok (Err d) f y e = absurd (ok-err y d (sym e))

-- An end of beats with so many lines more.
abbrev EndsAfter : ℕ → ℕ → List Beat → List (List ℕ) → Left → Type 0
EndsAfter n at before lines x = (e : ℕ × ℕ) × (end_from n at lines ≡ Some e) × (e.0 + length before ≡ n + 1 + length x.0)

-- Beats that are read have an end, and a line each.
beats_end : (first last number n at : ℕ) (before : List Beat) (lines : List (List ℕ)) (x : Left) → beats_from first last number before lines ≡ Ok x → EndsAfter n at before lines x
unfolding beats_from end_from
beats_end first last number n at before [] x e = absurd (ok-err x (fault.Truncated number) (sym e))
beats_end first last number n at before (line ∷ []) x e = absurd (ok-err x (fault.Truncated number) (sym e))
beats_end first last number n at before (line ∷ next ∷ lines) x e = elim (bytes_eq line (codes "end")) as (λ (b : Bool). cond b (Ok (before, next ∷ lines)) (next_at first last number before line >>> λ beat. beats_from first last (number + 1) (before ++ beat ∷ []) (next ∷ lines)) ≡ Ok x
    → (y : ℕ × ℕ) × (cond b (Some (n + 1, at + (length line + 1))) (end_from (n + 1) (at + (length line + 1)) (next ∷ lines)) ≡ Some y) × (y.0 + length before ≡ n + 1 + length x.0)) [
      | true ↦ λ h. ((n + 1, at + (length line + 1)), refl, ap (λ (q : Left). n + 1 + length q.0) (ok_is {A = Left} _ _ h))
      | false ↦ λ h. (let one = bind_ok (next_at first last number before line) (λ beat. beats_from first last (number + 1) (before ++ beat ∷ []) (next ∷ lines)) x h in
          let more = beats_end first last (number + 1) (n + 1) (at + (length line + 1)) (before ++ one.0 ∷ []) (next ∷ lines) x one.2 in
          let grown : length (before ++ one.0 ∷ []) ≡ length before + 1 = length-append before (one.0 ∷ []) in
          let counted = more.2 in
          (more.0, more.1, omega (arith, grown, counted)))
    ] e

-- A header is no end.
end_is_no_header : header_at (codes "end") ≡ None
unfolding header_at word_at
end_is_no_header = refl

header_is_no_end : (line : List ℕ) → is_some (header_at line) ≡ true → bytes_eq line (codes "end") ≡ false
header_is_no_end line has = elim (bytes_eq line (codes "end")) as (λ (b : Bool). bytes_eq line (codes "end") ≡ b → b ≡ false) [
  | true ↦ λ is. absurd (no (sym (ap (λ o. is_some o) end_is_no_header) ∙ ap (λ (l : List ℕ). is_some (header_at l)) (sym ((bytes_eq-Decides line (codes "end")).0 is)) ∙ has))
  | false ↦ λ is. refl
] refl
  where
    no : false ≡ true → ⊥
    no e = cc

-- What is told by the parts.
told_by : (topo : Topology) (managers : Option (List ℕ)) (f : Frag) (last : ℕ) (end : ℕ × ℕ) (b : Bool) → b ≡ leaves topo managers f.link → last ≡ f.last → end.0 ≡ length f.beats + 2 → TellsOf topo managers f (with_end (cond b (Some last) None) (Some end))
unfolding with_end
told_by topo managers f last end true is same counted = rw (sym is, same, counted) refl
told_by topo managers f last end false is same counted = rw (sym is) refl

header_tells : (topo : Topology) (managers : Option (List ℕ)) (line next : List ℕ) (lines rest : List (List ℕ)) (link : List ℕ) (number first last : ℕ) (f : Frag)
    → header_at line ≡ Some (record { link = link; number = number; first = first; last = last }) → fragment_behind (record { link = link; number = number; first = first; last = last }) (next ∷ lines) ≡ Ok (f, rest)
    → TellsOf topo managers f (passed_over topo managers (line ∷ next ∷ lines))
unfolding fragment_behind passed_over left_at with_end
header_tells topo managers line next lines rest link number first last f has e =
    let one = bind_ok (beats_from first last 2 [] (next ∷ lines)) (λ beats. Ok (record { link = link; number = number; first = first; last = last; beats = beats.0 }, beats.1)) (f, rest) e in
    let same = ok_is {A = Frag × List (List ℕ)} _ _ one.2 in
    let ends = beats_end first last 2 (0 + 1) (0 + (length line + 1)) [] (next ∷ lines) one.0 one.1 in
    let end : end_from 0 0 (line ∷ next ∷ lines) ≡ Some ends.0 = goes_on 0 0 (line ∷ next ∷ lines) line (next ∷ lines) refl (header_is_no_end line (ap (λ o. is_some o) has)) ∙ ends.1 in
    let beats : length one.0.0 ≡ length f.beats = ap (λ (q : Frag × List (List ℕ)). length q.0.beats) same in
    let counted : ends.0.0 + 0 ≡ 0 + 1 + 1 + length one.0.0 = ends.2 in
    let told = told_by topo managers f last ends.0 (leaves topo managers link) (ap (λ (q : Frag × List (List ℕ)). leaves topo managers q.0.link) same) (ap (λ (q : Frag × List (List ℕ)). q.0.last) same) (omega (arith, counted, beats)) in
    rw (has, end) told

-- Of a text with a fragment at its front the fragment's link decides.
pub front_decides : (topo : Topology) (managers : Option (List ℕ)) (lines rest : List (List ℕ)) (f : Frag) (found : Option Passed) → fragment_in lines ≡ Ok (f, rest) → found ≡ passed_over topo managers lines → TellsOf topo managers f found
unfolding fragment_in
front_decides topo managers [] rest f found e is = absurd (ok-err (f, rest) (fault.Truncated 1) (sym e))
front_decides topo managers (line ∷ []) rest f found e is = absurd (ok-err (f, rest) (fault.Truncated 1) (sym e))
front_decides topo managers (line ∷ next ∷ lines) rest f found e is = rw is (elim (header_at line) as (λ o. header_at line ≡ o → (or_fault o fault.BadHeader >>> λ header. fragment_behind header (next ∷ lines)) ≡ Ok (f, rest)
    → TellsOf topo managers f (passed_over topo managers (line ∷ next ∷ lines))) [
      | None ↦ λ has h. absurd (ok-err (f, rest) fault.BadHeader (sym h))
      | Some header ↦ λ has h. header_tells topo managers line next lines rest header.link header.number header.first header.last f has h
    ] refl e)
