-- A fragment is read from its text, and from no other.
use Rattle.std.proofs.Common.{◌≡◌, ℕ, suc, ◌+◌, ◌-◌, ◌^◌, ◌<◌, ◌≤◌, Bool, true, false, cond, ltb, leb, ◌||◌, List, [], ◌∷◌, ◌++◌, length, get_or, map, take, drop, Option, Some, None, Result, Ok, Err, refl, sym, ap, subst, ◌∙◌, append_assoc, length-append, length-drop, arith}
use Rattle.std.specs.Prelude.{codes, slice_get, IfOk, IfErr, IfSome}
use Rattle.std.specs.Str.{bytes_eq}
use Rattle.std.specs.List.{flat_map, AllAdjacentBelow}
use Rattle.std.proofs.lemmas.Option.{none-some, same_Some, slice_get-get_or}
use Rattle.std.proofs.lemmas.Bool.{le-ltb, lt-ltb, ltb-false, lt-leb, and_from}
use Rattle.std.proofs.lemmas.List.{append-nil, take_at}
use Rattle.std.proofs.lemmas.Slice.Eq.{bytes_eq-Decides}
use Rattle.std.proofs.Math.ListN.{get_or-append}
use Rattle.std.proofs.Math.Seq.{get_or-append_seam}
use Rattle.tl_text.specs.Words.{◌>>=◌, word_at, lines_of, ◌␣◌, ended}
use Rattle.tl_text.specs.Numbers.{numeral}
use Rattle.tl_text.specs.Names.{is_name}
use Rattle.tl_text.specs.Readings.{◌>>>◌, or_fault, Gives}
use Rattle.tl_text.proofs.Cuts.{is_free, word_again}
use Rattle.tl_text.proofs.Numerals.{bind_some, number_again}
use Rattle.tl_text.proofs.Spelling.{name_free, word_step, number_step, field_step, test_step, field_again, spaced_free, number_line, all_free, lines_again, same_lines, some_line}
use Rattle.tl_text.specs.Naming.{name_at}
use Rattle.tl_beats.specs.declared.Beat.{Beat}
use Rattle.tl_beats.specs.declared.reading.Header.{Header}
use Rattle.tl_beats.specs.declared.fault.FragmentFault.{FragmentFault}
use Rattle.tl_beats.specs.declared.fault.FragmentFault.TheVariants as fault
use Rattle.tl_beats.specs.Beats.{IsWellFormed, rises}
use Rattle.tl_beats.specs.Faults.{is_memory, is_outside}
use Rattle.tl_beats.specs.Fragments.{Frag, AreBeats, IsFragment}
use Rattle.tl_beats.specs.Reading.{beat_at, range_at, header_at, rises_behind, placed_at, next_at, beats_from, fragment_behind, fragment_in, whole_fragment_in, is_end}
use Rattle.tl_beats.specs.Text.{beat_text, header_text, fragment_lines, fragment_text}
use Rattle.tl_beats.proofs.Growing.{IsNext, passed}
use Rattle.tl_beats.proofs.BeatTexts.{beat_takes, beat_again, beat_line}

abbrev well : {A : Type 0} → A → Result A FragmentFault
well x = Ok x

abbrev ill : {A : Type 0} → FragmentFault → Result A FragmentFault
ill x = Err x

pub ok-err : {A : Type 0} (x : A) (e : FragmentFault) → well x ≡ ill e → ⊥
ok-err x e h = absurd cc

pub ok_is : {A : Type 0} (x y : A) → well x ≡ well y → x ≡ y
ok_is x y e = cc

bind_ok : {A B : Type 0} (r : Result A FragmentFault) (f : A → Result B FragmentFault) (y : B) → (r >>> f) ≡ Ok y → (x : A) × (r ≡ Ok x) × (f x ≡ Ok y)
bind_ok (Ok x) f y e = (x, refl, e)
bind_ok (Err d) f y e = absurd (ok-err y d (sym e))

some_from : {A : Type 0} (o : Option A) (found : FragmentFault) (x : A) → or_fault o found ≡ Ok x → o ≡ Some x
some_from None found x e = absurd (ok-err x found (sym e))
some_from (Some y) found x e = ap Some (ok_is y x e)

same_text : (a b : List ℕ) → bytes_eq a b ≡ true → a ≡ b
same_text a b e = (bytes_eq-Decides a b).0 e

-- ---- one beat

read_is : (first last n : ℕ) (before : List Beat) (found : Option Beat) (beat : Beat)
    → (or_fault found (fault.BadField n) >>> λ b. placed_at first last n before b) ≡ Ok beat
    → found ≡ Some beat
read_is first last n before None beat e = absurd (ok-err beat (fault.BadField n) (sym e))
read_is first last n before (Some b) beat e = ap Some (passed (leb 65536 (length before)) (ltb b.cycle first || ltb last b.cycle) (rises_behind (slice_get before (length before - 1)) b) b beat fault.TooManyBeats (fault.OutOfRange n) (fault.NotRising n) e).3

next_takes : (first last n : ℕ) (before : List Beat) (line : List ℕ) (b : Beat) → next_at first last n before line ≡ Ok b → (line ≡ beat_text b) × IsWellFormed b
unfolding next_at
next_takes first last n before line b e = beat_takes line b (read_is first last n before (beat_at line) b e)

pub placed_again : (first last n : ℕ) (before : List Beat) (b : Beat) → IsNext first last before b → placed_at first last n before b ≡ Ok b
placed_again first last n before b next =
    rw (lt-leb 65536 (length before) next.room, le-ltb b.cycle first next.low, le-ltb last b.cycle next.high, next.rises_here) refl

next_again : (first last n : ℕ) (before : List Beat) (b : Beat) → IsNext first last before b → IsWellFormed b → next_at first last n before (beat_text b) ≡ Ok b
unfolding next_at
next_again first last n before b next formed = rw (beat_again b formed) (placed_again first last n before b next)

-- ---- a beat among those of a fragment

last_behind : (before more : List Beat) (b : Beat) → AllAdjacentBelow (λ x y. rises x y ≡ true) (before ++ b ∷ more) (length (before ++ b ∷ more)) → rises_behind (slice_get before (length before - 1)) b ≡ true
last_behind [] more b rising = refl
last_behind (x ∷ before) more b rising =
    let k : length (x ∷ before) - 1 ≡ length before = omega arith in
    let len : length ((x ∷ before) ++ b ∷ more) ≡ length (x ∷ before) + length (b ∷ more) = length-append (x ∷ before) (b ∷ more) in
    let left : get_or ((x ∷ before) ++ b ∷ more) (length before) b ≡ get_or (x ∷ before) (length before) b = get_or-append (x ∷ before) (b ∷ more) b (length before) (omega arith) in
    let at : length before + 1 ≡ length (x ∷ before) = omega arith in
    let right : get_or ((x ∷ before) ++ b ∷ more) (length before + 1) b ≡ b = rw at (get_or-append_seam (x ∷ before) b more b) in
    let here : rises (get_or (x ∷ before) (length before) b) b ≡ true = rw (left, right) at (rising (length before) b (omega (arith, len))) in
    let some : slice_get (x ∷ before) (length before) ≡ Some (get_or (x ∷ before) (length before) b) = slice_get-get_or (x ∷ before) (length before) b (omega arith) in
    rw (k, some) here

pub at_seam : (first last : ℕ) (before more : List Beat) (b : Beat) → AreBeats first last (before ++ b ∷ more) → IsNext first last before b × IsWellFormed b
at_seam first last before more b kept =
    let len : length (before ++ b ∷ more) ≡ length before + length (b ∷ more) = length-append before (b ∷ more) in
    let here : get_or (before ++ b ∷ more) (length before) b ≡ b = get_or-append_seam before b more b in
    let range : (first ≤ b.cycle) × (b.cycle ≤ last) = subst (λ (x : Beat). (first ≤ x.cycle) × (x.cycle ≤ last)) here (kept.within (length before) b (omega (arith, len))) in
    let formed : IsWellFormed b = subst IsWellFormed here (kept.formed (length before) b (omega (arith, len))) in
    (record { room = omega (arith, len, kept.few); low = range.0; high = range.1; rises_here = last_behind before more b kept.rising }, formed)

-- ---- the beats

end_is_none : beat_at (codes "end") ≡ None
unfolding beat_at word_at
end_is_none = refl

at_end : (t : Bool) (b : Beat) → IsWellFormed b → (t ≡ true → beat_text b ≡ codes "end") → t ≡ false
at_end false b formed same = refl
at_end true b formed same = absurd (none-some b (sym end_is_none ∙ ap beat_at (sym (same refl)) ∙ beat_again b formed))

pub end_is_no_beat : (b : Beat) → IsWellFormed b → bytes_eq (beat_text b) (codes "end") ≡ false
end_is_no_beat b formed = at_end (bytes_eq (beat_text b) (codes "end")) b formed (λ h. same_text (beat_text b) (codes "end") h)

-- lines are the beats after those before, up to the end
record AreLines (before : List Beat) (lines : List (List ℕ)) (beats : List Beat) (rest : List (List ℕ)) : Type 0 where
  pub more : List Beat
  pub all : beats ≡ before ++ more
  pub spelled : lines ≡ map beat_text more ++ codes "end" ∷ rest
  pub free : all_free (map beat_text more ++ codes "end" ∷ []) ≡ true

abbrev Left : Type 0
Left = List Beat × List (List ℕ)

no_more : (before : List Beat) (line : List ℕ) (lines : List (List ℕ)) (x : Left) → line ≡ codes "end" → ◌≡◌ {A = Left} (before, lines) x → AreLines before (line ∷ lines) x.0 x.1
no_more before line lines x is e = subst (λ (q : Left). AreLines before (line ∷ lines) q.0 q.1) e (record {
  more = [];
  all = sym (append-nil before);
  spelled = ap (λ (l : List ℕ). l ∷ lines) is;
  free = refl;
})

one_more : (before : List Beat) (line : List ℕ) (lines : List (List ℕ)) (b : Beat) (beats : List Beat) (rest : List (List ℕ)) → line ≡ beat_text b → IsWellFormed b → AreLines (before ++ b ∷ []) lines beats rest → AreLines before (line ∷ lines) beats rest
one_more before line lines b beats rest is formed others = record {
  more = b ∷ others.more;
  all = others.all ∙ append_assoc before (b ∷ []) others.more;
  spelled = ap (λ (l : List ℕ). l ∷ lines) is ∙ ap (λ (ls : List (List ℕ)). beat_text b ∷ ls) others.spelled;
  free = and_from _ _ (beat_line b formed) others.free;
}

beats_step : (t : Bool) (first last n : ℕ) (before : List Beat) (line : List ℕ) (lines : List (List ℕ)) (x : Left) → (t ≡ true → line ≡ codes "end")
    → ((b : Beat) → beats_from first last (n + 1) (before ++ b ∷ []) lines ≡ Ok x → AreLines (before ++ b ∷ []) lines x.0 x.1)
    → cond t (Ok (before, lines)) (next_at first last n before line >>> λ b. beats_from first last (n + 1) (before ++ b ∷ []) lines) ≡ Ok x → AreLines before (line ∷ lines) x.0 x.1
beats_step true first last n before line lines x same others e = no_more before line lines x (same refl) (ok_is {A = Left} _ _ e)
beats_step false first last n before line lines x same others e =
    let b = bind_ok (next_at first last n before line) (λ b. beats_from first last (n + 1) (before ++ b ∷ []) lines) x e in
    let law = next_takes first last n before line b.0 b.1 in
    one_more before line lines b.0 x.0 x.1 law.0 law.1 (others b.0 b.2)

beats_take : (first last n : ℕ) (before : List Beat) (lines : List (List ℕ)) (x : Left) → beats_from first last n before lines ≡ Ok x → AreLines before lines x.0 x.1
unfolding beats_from
beats_take first last n before [] x e = absurd (ok-err x (fault.Truncated n) (sym e))
beats_take first last n before (line ∷ []) x e = absurd (ok-err x (fault.Truncated n) (sym e))
beats_take first last n before (line ∷ next ∷ lines) x e =
    beats_step (bytes_eq line (codes "end")) first last n before line (next ∷ lines) x (λ h. same_text line (codes "end") h) (λ b h. beats_take first last (n + 1) (before ++ b ∷ []) (next ∷ lines) x h) e

pub shifted : (first last : ℕ) (before more : List Beat) (b : Beat) → AreBeats first last (before ++ b ∷ more) → AreBeats first last ((before ++ b ∷ []) ++ more)
shifted first last before more b kept = subst (AreBeats first last) (sym (append_assoc before (b ∷ []) more)) kept

beats_again : (first last n : ℕ) (before more : List Beat) (next : List ℕ) (rest : List (List ℕ)) → AreBeats first last (before ++ more)
    → beats_from first last n before (map beat_text more ++ codes "end" ∷ next ∷ rest) ≡ Ok (before ++ more, next ∷ rest)
unfolding beats_from
beats_again first last n before [] next rest kept = ap (λ (l : List Beat). Ok (l, next ∷ rest)) (sym (append-nil before))
beats_again first last n before (b ∷ []) next rest kept =
    let here = at_seam first last before [] b kept in
    rw (end_is_no_beat b here.1, next_again first last n before b here.0 here.1) (beats_again first last (n + 1) (before ++ b ∷ []) [] next rest (shifted first last before [] b kept) ∙ ap (λ (l : List Beat). Ok (l, next ∷ rest)) (append-nil (before ++ b ∷ [])))
beats_again first last n before (b ∷ c ∷ more) next rest kept =
    let here = at_seam first last before (c ∷ more) b kept in
    rw (end_is_no_beat b here.1, next_again first last n before b here.0 here.1) (beats_again first last (n + 1) (before ++ b ∷ []) (c ∷ more) next rest (shifted first last before (c ∷ more) b kept) ∙ ap (λ (l : List Beat). Ok (l, next ∷ rest)) (append_assoc before (b ∷ []) (c ∷ more)))

-- ---- the header

abbrev Range : Type 0
Range = ℕ × ℕ × ℕ

abbrev pub range_text : ℕ → ℕ → ℕ → List ℕ
range_text n f l = numeral 10 n ␣ numeral 10 f ␣ numeral 10 l

record IsRange (words : List ℕ) (n f l : ℕ) : Type 0 where
  pub spelled : words ≡ range_text n f l
  pub number : n < 2 ^ 32
  pub order : f ≤ l
  pub last : l < 2 ^ 64

in_order : {A : Type 0} (t : Bool) (x y : A) → cond t None (Some x) ≡ Some y → (t ≡ false) × (x ≡ y)
in_order true x y e = absurd (none-some y e)
in_order false x y e = (refl, same_Some x y e)

range_from : (words r1 r2 : List ℕ) (n f l : ℕ) (x : Range) → words ≡ numeral 10 n ␣ r1 → n ≤ 2 ^ 32 - 1 → r1 ≡ numeral 10 f ␣ r2 → r2 ≡ numeral 10 l → l ≤ 2 ^ 64 - 1 → cond (ltb l f) None (Some (n, f, l)) ≡ Some x → IsRange words x.0 x.1 x.2
range_from words r1 r2 n f l x n_is n_fits f_is l_is l_fits e =
    let order = in_order {A = Range} (ltb l f) (n, f, l) x e in
    let two : r1 ≡ numeral 10 f ␣ numeral 10 l = f_is ∙ ap (λ (w : List ℕ). numeral 10 f ␣ w) l_is in
    subst (λ (q : Range). IsRange words q.0 q.1 q.2) order.1 (record {
      spelled = n_is ∙ ap (λ (w : List ℕ). numeral 10 n ␣ w) two;
      number = omega (arith, n_fits);
      order = ltb-false l f order.0;
      last = omega (arith, l_fits);
    })

range_takes : (words : List ℕ) (x : Range) → range_at words ≡ Some x → IsRange words x.0 x.1 x.2
unfolding range_at
range_takes words x e =
    let P : Type 0 = IsRange words x.0 x.1 x.2 in
    field_step 10 (2 ^ 32 - 1) words _ x P (omega arith) (omega arith) e (λ w1 r1 n n_is n_fits k1.
    field_step 10 (2 ^ 64 - 1) r1 _ x P (omega arith) (omega arith) k1 (λ w2 r2 f f_is f_fits k2.
    number_step 10 (2 ^ 64 - 1) r2 _ x P (omega arith) (omega arith) k2 (λ l l_is l_fits k3.
    range_from words r1 r2 n f l x n_is n_fits f_is l_is l_fits k3)))

range_again : (n f l : ℕ) → n < 2 ^ 32 → f ≤ l → l < 2 ^ 64 → range_at (range_text n f l) ≡ Some (n, f, l)
unfolding range_at
range_again n f l n_fits order l_fits =
    let w1 = field_again 10 n (numeral 10 f ␣ numeral 10 l) (omega arith) (omega arith) (omega arith) in
    let n1 = number_again 10 (2 ^ 32 - 1) n (omega arith) (omega arith) (omega arith) (omega arith) in
    let w2 = field_again 10 f (numeral 10 l) (omega arith) (omega arith) (omega arith) in
    let n2 = number_again 10 (2 ^ 64 - 1) f (omega arith) (omega arith) (omega arith) (omega arith) in
    let n3 = number_again 10 (2 ^ 64 - 1) l (omega arith) (omega arith) (omega arith) (omega arith) in
    rw (w1, n1, w2, n2, n3, le-ltb l f order) refl

record IsHeader (line : List ℕ) (h : Header) : Type 0 where
  pub spelled : line ≡ codes "fragment" ␣ h.link ␣ range_text h.number h.first h.last
  pub named : is_name h.link ≡ true
  pub number : h.number < 2 ^ 32
  pub order : h.first ≤ h.last
  pub last : h.last < 2 ^ 64

name_step : {B : Type 0} (word : List ℕ) (f : List ℕ → Option B) (y : B) (P : Type 0) → (name_at word >>= f) ≡ Some y → (is_name word ≡ true → f word ≡ Some y → P) → P
unfolding name_at
name_step word f y P e k = test_step (is_name word) (Some word) f y P e k

range_step : {B : Type 0} (words : List ℕ) (f : Range → Option B) (y : B) (P : Type 0) → (range_at words >>= f) ≡ Some y → ((n first last : ℕ) → IsRange words n first last → f (n, first, last) ≡ Some y → P) → P
range_step words f y P e k =
    let r = bind_some (range_at words) f y e in
    k r.0.0 r.0.1 r.0.2 (range_takes words r.0 r.1) r.2

header_from : (line word r1 link r2 : List ℕ) (n f l : ℕ) (h : Header) → line ≡ word ␣ r1 → word ≡ codes "fragment" → r1 ≡ link ␣ r2 → is_name link ≡ true → IsRange r2 n f l
    → ◌≡◌ {A = Option Header} (Some (record { link = link; number = n; first = f; last = l })) (Some h) → IsHeader line h
header_from line word r1 link r2 n f l h e1 is e2 named range e =
    let made : Header = record { link = link; number = n; first = f; last = l } in
    let same : made ≡ h = same_Some made h e in
    let two : r1 ≡ link ␣ range_text n f l = e2 ∙ ap (λ (w : List ℕ). link ␣ w) range.spelled in
    let one : line ≡ codes "fragment" ␣ r1 = e1 ∙ ap (λ (w : List ℕ). w ␣ r1) is in
    subst (IsHeader line) same (record {
      spelled = one ∙ ap (λ (w : List ℕ). codes "fragment" ␣ w) two;
      named = named;
      number = range.number;
      order = range.order;
      last = range.last;
    })

header_takes : (line : List ℕ) (h : Header) → header_at line ≡ Some h → IsHeader line h
unfolding header_at
header_takes line h e =
    let P : Type 0 = IsHeader line h in
    word_step line _ h P e (λ word r1 e1 k1.
    test_step (bytes_eq word (codes "fragment")) (word_at r1) _ h P k1 (λ is k2.
    word_step r1 _ h P k2 (λ link r2 e2 k3.
    name_step link _ h P k3 (λ named k4.
    range_step r2 _ h P k4 (λ n f l range k5.
    header_from line word r1 link r2 n f l h e1 (same_text word (codes "fragment") is) e2 named range k5)))))

pub header_again : (link : List ℕ) (n f l : ℕ) → is_name link ≡ true → n < 2 ^ 32 → f ≤ l → l < 2 ^ 64
    → header_at (codes "fragment" ␣ link ␣ range_text n f l) ≡ Some (record { link = link; number = n; first = f; last = l })
unfolding header_at name_at
header_again link n f l named n_fits order l_fits =
    let w1 = word_again (codes "fragment") (link ␣ range_text n f l) refl in
    let w2 = word_again link (range_text n f l) (name_free 32 link (omega arith) named) in
    rw (w1, w2, named, range_again n f l n_fits order l_fits) refl

-- a range that is out of order is none
range_none : (n f l : ℕ) → n < 2 ^ 32 → f < 2 ^ 64 → l < 2 ^ 64 → l < f → range_at (range_text n f l) ≡ None
unfolding range_at
range_none n f l n_fits f_fits l_fits lt =
    let w1 = field_again 10 n (numeral 10 f ␣ numeral 10 l) (omega arith) (omega arith) (omega arith) in
    let n1 = number_again 10 (2 ^ 32 - 1) n (omega arith) (omega arith) (omega arith) (omega arith) in
    let w2 = field_again 10 f (numeral 10 l) (omega arith) (omega arith) (omega arith) in
    let n2 = number_again 10 (2 ^ 64 - 1) f (omega arith) (omega arith) (omega arith) (omega arith) in
    let n3 = number_again 10 (2 ^ 64 - 1) l (omega arith) (omega arith) (omega arith) (omega arith) in
    rw (w1, n1, w2, n2, n3, lt-ltb l f lt) refl

pub header_none : (link : List ℕ) (n f l : ℕ) → is_name link ≡ true → n < 2 ^ 32 → f < 2 ^ 64 → l < 2 ^ 64 → l < f → header_at (codes "fragment" ␣ link ␣ range_text n f l) ≡ None
unfolding header_at name_at
header_none link n f l named n_fits f_fits l_fits lt =
    let w1 = word_again (codes "fragment") (link ␣ range_text n f l) refl in
    let w2 = word_again link (range_text n f l) (name_free 32 link (omega arith) named) in
    rw (w1, w2, named, range_none n f l n_fits f_fits l_fits lt) refl

range_line : (n f l : ℕ) → n < 2 ^ 32 → f < 2 ^ 64 → l < 2 ^ 64 → is_free 10 (range_text n f l) ≡ true
range_line n f l n_fits f_fits l_fits =
    let last = number_line 10 l (omega arith) (omega arith) l_fits in
    let two = spaced_free (numeral 10 f) (numeral 10 l) (number_line 10 f (omega arith) (omega arith) (omega arith)) last in
    spaced_free (numeral 10 n) (numeral 10 f ␣ numeral 10 l) (number_line 10 n (omega arith) (omega arith) (omega arith)) two

pub header_line : (link : List ℕ) (n f l : ℕ) → is_name link ≡ true → n < 2 ^ 32 → f < 2 ^ 64 → l < 2 ^ 64 → is_free 10 (codes "fragment" ␣ link ␣ range_text n f l) ≡ true
header_line link n f l named n_fits f_fits l_fits =
    spaced_free (codes "fragment") (link ␣ range_text n f l) refl (spaced_free link (range_text n f l) (name_free 10 link (omega arith) named) (range_line n f l n_fits f_fits l_fits))

-- ---- the lines of a fragment

record AreItsLines (lines : List (List ℕ)) (f : Frag) (rest : List (List ℕ)) : Type 0 where
  pub spelled : lines ≡ fragment_lines f ++ rest
  pub free : all_free (fragment_lines f) ≡ true

abbrev Found : Type 0
Found = Frag × List (List ℕ)

lines_from : (line : List ℕ) (lines : List (List ℕ)) (h : Header) (beats : List Beat) (behind : List (List ℕ)) → IsHeader line h → AreLines [] lines beats behind
    → AreItsLines (line ∷ lines) (record { link = h.link; number = h.number; first = h.first; last = h.last; beats = beats }) behind
unfolding header_text
lines_from line lines h beats behind header are =
    let same : beats ≡ are.more = are.all in
    let all : lines ≡ (map beat_text beats ++ codes "end" ∷ []) ++ behind = are.spelled ∙ ap (λ (l : List Beat). map beat_text l ++ codes "end" ∷ behind) (sym same) ∙ sym (append_assoc (map beat_text beats) (codes "end" ∷ []) behind) in
    let free : all_free (map beat_text beats ++ codes "end" ∷ []) ≡ true = rw same are.free in
    let front = header_line h.link h.number h.first h.last header.named header.number (omega (arith, header.order, header.last)) header.last in
    record {
      spelled = ap (λ (l : List ℕ). l ∷ lines) header.spelled ∙ ap (λ (ls : List (List ℕ)). (codes "fragment" ␣ h.link ␣ range_text h.number h.first h.last) ∷ ls) all;
      free = and_from _ _ front free;
    }

behind_takes : (line : List ℕ) (lines : List (List ℕ)) (h : Header) (x : Found) → IsHeader line h → fragment_behind h lines ≡ Ok x → AreItsLines (line ∷ lines) x.0 x.1
unfolding fragment_behind
behind_takes line lines h x header e =
    let b = bind_ok (beats_from h.first h.last 2 [] lines) (λ beats. Ok (record { link = h.link; number = h.number; first = h.first; last = h.last; beats = beats.0 }, beats.1)) x e in
    let are = beats_take h.first h.last 2 [] lines b.0 b.1 in
    subst (λ (q : Found). AreItsLines (line ∷ lines) q.0 q.1) (ok_is {A = Found} _ _ b.2) (lines_from line lines h b.0.0 b.0.1 header are)

fragment_takes : (lines : List (List ℕ)) (x : Found) → fragment_in lines ≡ Ok x → AreItsLines lines x.0 x.1
unfolding fragment_in
fragment_takes [] x e = absurd (ok-err x (fault.Truncated 1) (sym e))
fragment_takes (line ∷ []) x e = absurd (ok-err x (fault.Truncated 1) (sym e))
fragment_takes (line ∷ next ∷ lines) x e =
    let h = bind_ok (or_fault (header_at line) fault.BadHeader) (λ header. fragment_behind header (next ∷ lines)) x e in
    behind_takes line (next ∷ lines) h.0 x (header_takes line h.0 (some_from (header_at line) fault.BadHeader h.0 h.1)) h.2

behind_again : (f : Frag) (next : List ℕ) (rest : List (List ℕ)) → IsFragment f
    → fragment_behind (record { link = f.link; number = f.number; first = f.first; last = f.last }) (map beat_text f.beats ++ codes "end" ∷ next ∷ rest) ≡ Ok (f, next ∷ rest)
unfolding fragment_behind
behind_again f next rest is = rw (beats_again f.first f.last 2 [] f.beats next rest is.beats) refl

pub begins : (line : List ℕ) (lines : List (List ℕ)) (h : Header) (n : ℕ) (all : List (List ℕ)) (x : Found) → header_at line ≡ Some h → lines ≡ all → length all ≡ suc n → fragment_behind h all ≡ Ok x → fragment_in (line ∷ lines) ≡ Ok x
unfolding fragment_in
begins line [] h n all x is same some e = absurd (omega (arith, some, ap (λ (ls : List (List ℕ)). length ls) same))
begins line (next ∷ lines) h n all x is same some e = rw is (rw same e)

fragment_again : (f : Frag) (next : List ℕ) (rest : List (List ℕ)) → IsFragment f → fragment_in (fragment_lines f ++ next ∷ rest) ≡ Ok (f, next ∷ rest)
unfolding header_text
fragment_again f next rest is =
    let all : (map beat_text f.beats ++ codes "end" ∷ []) ++ next ∷ rest ≡ map beat_text f.beats ++ codes "end" ∷ next ∷ rest = append_assoc (map beat_text f.beats) (codes "end" ∷ []) (next ∷ rest) in
    let len : length (map beat_text f.beats ++ codes "end" ∷ next ∷ rest) ≡ length (map beat_text f.beats) + length (codes "end" ∷ next ∷ rest) = length-append (map beat_text f.beats) (codes "end" ∷ next ∷ rest) in
    begins _ _ (record { link = f.link; number = f.number; first = f.first; last = f.last }) (length (map beat_text f.beats) + length (next ∷ rest)) _ (f, next ∷ rest) (header_again f.link f.number f.first f.last is.named is.number is.order is.last) all (omega (arith, len)) (behind_again f next rest is)

-- ---- the text

body_free : (first last : ℕ) (before more : List Beat) → AreBeats first last (before ++ more) → all_free (map beat_text more ++ codes "end" ∷ []) ≡ true
body_free first last before [] kept = refl
body_free first last before (b ∷ more) kept = and_from _ _ (beat_line b (at_seam first last before more b kept).1) (body_free first last (before ++ b ∷ []) more (shifted first last before more b kept))

pub its_lines_free : (f : Frag) → IsFragment f → all_free (fragment_lines f) ≡ true
unfolding header_text
its_lines_free f is = and_from _ _ (header_line f.link f.number f.first f.last is.named is.number (omega (arith, is.order, is.last)) is.last) (body_free f.first f.last [] f.beats is.beats)

-- what was read is the text, and what is left
pub text_takes : (bytes rest : List ℕ) (f : Frag) → fragment_in (lines_of bytes) ≡ Ok (f, lines_of rest) → bytes ≡ fragment_text f ++ rest
unfolding fragment_text
text_takes bytes rest f e =
    let t = fragment_takes (lines_of bytes) (f, lines_of rest) e in
    same_lines bytes (flat_map ended (fragment_lines f) ++ rest) (t.spelled ∙ sym (lines_again (fragment_lines f) rest t.free))

-- the text is read again, whatever follows
pub text_again : (f : Frag) (rest : List ℕ) → IsFragment f → fragment_in (lines_of (fragment_text f ++ rest)) ≡ Ok (f, lines_of rest)
unfolding fragment_text
text_again f rest is =
    let some = some_line rest in
    let lines : lines_of (flat_map ended (fragment_lines f) ++ rest) ≡ fragment_lines f ++ some.0 ∷ some.1 = lines_again (fragment_lines f) rest (its_lines_free f is) ∙ ap (λ (l : List (List ℕ)). fragment_lines f ++ l) some.2 in
    ap fragment_in lines ∙ fragment_again f some.0 some.1 is ∙ ap (λ (l : List (List ℕ)). Ok (f, l)) (sym some.2)

-- ---- the calls

-- where the bytes begin with the text of a fragment, this is the answer
pub only_front : (bytes rest : List ℕ) (result : Result (Frag × ℕ) FragmentFault) (f : Frag) → Gives is_memory (λ (x : Frag × ℕ). (x.0, lines_of (drop x.1 bytes))) result (fragment_in (lines_of bytes)) → IfOk result (λ (x : Frag × ℕ). x.1 ≤ length bytes)
    → IsFragment f → bytes ≡ fragment_text f ++ rest → Gives is_memory (λ (x : Frag × ℕ). x) result (Ok (f, length (fragment_text f)))
only_front bytes rest (Err e) f read used is joins = λ here. absurd (ok-err _ e (sym (text_again f rest is) ∙ ap (λ (l : List ℕ). fragment_in (lines_of l)) (sym joins) ∙ read here))
only_front bytes rest (Ok x) f read used is joins =
    let moved : fragment_in (lines_of bytes) ≡ Ok (f, lines_of rest) = ap (λ (l : List ℕ). fragment_in (lines_of l)) joins ∙ text_again f rest is in
    let p = ok_is {A = Found} (f, lines_of rest) (x.0, lines_of (drop x.1 bytes)) (sym moved ∙ read) in
    let left : rest ≡ drop x.1 bytes = same_lines _ _ (ap (λ (q : Found). q.1) p) in
    let whole : length bytes ≡ length (fragment_text f) + length rest = ap (λ (l : List ℕ). length l) joins ∙ length-append (fragment_text f) rest in
    let end : length rest ≡ length bytes - x.1 = ap (λ (l : List ℕ). length l) left ∙ length-drop x.1 bytes in
    let count : length (fragment_text f) ≡ x.1 = omega (arith, whole, end, used) in
    let both : ◌≡◌ {A = Frag × ℕ} (f, length (fragment_text f)) x = ap (λ (g : Frag). (g, length (fragment_text f))) (ap (λ (q : Found). q.0) p) ∙ ap (λ (n : ℕ). (x.0, n)) count in
    ap Ok both

-- what is read is the text of the answer
pub found_front : (bytes : List ℕ) (result : Result (Frag × ℕ) FragmentFault) → Gives is_memory (λ (x : Frag × ℕ). (x.0, lines_of (drop x.1 bytes))) result (fragment_in (lines_of bytes)) → IfOk result (λ (x : Frag × ℕ). x.1 ≤ length bytes)
    → IfOk result (λ (x : Frag × ℕ). take x.1 bytes ≡ fragment_text x.0)
found_front bytes (Err e) read used = tt
found_front bytes (Ok x) read used =
    let joins = text_takes bytes (drop x.1 bytes) x.0 read in
    let whole : length bytes ≡ length (fragment_text x.0) + length (drop x.1 bytes) = ap (λ (l : List ℕ). length l) joins ∙ length-append (fragment_text x.0) (drop x.1 bytes) in
    let count : length (fragment_text x.0) ≡ x.1 = omega (arith, whole, length-drop x.1 bytes, used) in
    ap (λ (l : List ℕ). take x.1 l) joins ∙ take_at (fragment_text x.0) (drop x.1 bytes) x.1 count

end_lines : (rest : List (List ℕ)) → is_end rest ≡ true → rest ≡ [] ∷ []
end_lines [] e = absurd cc
end_lines ([] ∷ []) e = refl
end_lines ((b ∷ line) ∷ []) e = absurd cc
end_lines ([] ∷ next ∷ lines) e = absurd cc
end_lines ((b ∷ line) ∷ next ∷ lines) e = absurd cc

ends_there : (t : Bool) (x f : Frag) (e : FragmentFault) → cond t (Ok x) (Err e) ≡ Ok f → (t ≡ true) × (x ≡ f)
ends_there true x f e h = (refl, ok_is x f h)
ends_there false x f e h = absurd (ok-err f e (sym h))

-- a text that is read whole is the fragment's
pub whole_takes : (bytes : List ℕ) (f : Frag) → whole_fragment_in (lines_of bytes) ≡ Ok f → bytes ≡ fragment_text f
unfolding whole_fragment_in
whole_takes bytes f e =
    let x = bind_ok (fragment_in (lines_of bytes)) (λ read. cond (is_end read.1) (Ok read.0) (Err (fault.BadField (length read.0.beats + 3)))) f e in
    let end = ends_there (is_end x.0.1) x.0.0 f _ x.2 in
    let read : fragment_in (lines_of bytes) ≡ Ok (f, lines_of []) = x.1 ∙ ap (λ (g : Frag). Ok (g, x.0.1)) end.1 ∙ ap (λ (ls : List (List ℕ)). Ok (f, ls)) (end_lines x.0.1 end.0) in
    text_takes bytes [] f read ∙ append-nil (fragment_text f)

-- the text of a fragment is read as it
pub whole_again : (bytes : List ℕ) (f : Frag) → IsFragment f → bytes ≡ fragment_text f → whole_fragment_in (lines_of bytes) ≡ Ok f
unfolding whole_fragment_in
whole_again bytes f is e =
    let read : fragment_in (lines_of bytes) ≡ Ok (f, lines_of []) = ap (λ (l : List ℕ). fragment_in (lines_of l)) (e ∙ sym (append-nil (fragment_text f))) ∙ text_again f [] is in
    rw read refl

pub found_whole : (m : FragmentFault → Bool) (bytes : List ℕ) (result : Result Frag FragmentFault) → Gives m (λ (f : Frag). f) result (whole_fragment_in (lines_of bytes)) → IfOk result (λ (f : Frag). bytes ≡ fragment_text f)
found_whole m bytes (Err e) read = tt
found_whole m bytes (Ok f) read = whole_takes bytes f read

pub only_whole : (m : FragmentFault → Bool) (bytes : List ℕ) (result : Result Frag FragmentFault) (f : Frag) → Gives m (λ (f : Frag). f) result (whole_fragment_in (lines_of bytes)) → IsFragment f → bytes ≡ fragment_text f → Gives m (λ (f : Frag). f) result (Ok f)
only_whole m bytes result f read is e = subst (Gives m (λ (f : Frag). f) result) (whole_again bytes f is e) read

-- the same of an input that was read to its end
pub found_input : (input : Option (List ℕ)) (items : List ℕ) (result : Result Frag FragmentFault) → IfSome input (λ bytes. items ≡ bytes) → Gives is_memory (λ (f : Frag). f) result (whole_fragment_in (lines_of items))
    → IfSome input (λ bytes. IfOk result (λ (f : Frag). bytes ≡ fragment_text f))
found_input None items result all read = tt
found_input (Some bytes) items (Err e) all read = tt
found_input (Some bytes) items (Ok f) all read = sym all ∙ whole_takes items f read

pub only_input : (input : Option (List ℕ)) (items : List ℕ) (result : Result Frag FragmentFault) → IfSome input (λ bytes. items ≡ bytes) → Gives is_memory (λ (f : Frag). f) result (whole_fragment_in (lines_of items)) → IfErr result (λ e. is_outside e ≡ is_memory e)
    → IfSome input (λ bytes. (f : Frag) → IsFragment f → bytes ≡ fragment_text f → Gives is_outside (λ (f : Frag). f) result (Ok f))
only_input None items result all read inside = tt
only_input (Some bytes) items (Err e) all read inside = λ f is same here. only_whole is_memory items (Err e) f read is (all ∙ same) (sym inside ∙ here)
only_input (Some bytes) items (Ok x) all read inside = λ f is same. only_whole is_memory items (Ok x) f read is (all ∙ same)

-- ---- laws

-- no text of a fragment begins with another's
pub text_alone : (f g : Frag) (rest : List ℕ) → IsFragment f → IsFragment g → fragment_text g ≡ fragment_text f ++ rest → (f ≡ g) × (rest ≡ [])
text_alone f g rest is_f is_g e =
    let p = ok_is {A = Found} _ _ (sym (text_again f rest is_f) ∙ ap (λ (l : List ℕ). fragment_in (lines_of l)) (sym e ∙ sym (append-nil (fragment_text g))) ∙ text_again g [] is_g) in
    (ap (λ (q : Found). q.0) p, same_lines rest [] (ap (λ (q : Found). q.1) p))

pub text_one : (f g : Frag) → IsFragment f → IsFragment g → fragment_text f ≡ fragment_text g → f ≡ g
text_one f g is_f is_g e = (text_alone f g [] is_f is_g (sym e ∙ sym (append-nil (fragment_text f)))).0
