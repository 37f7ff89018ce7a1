-- What texts of fragments are, part by part.
use Rattle.std.proofs.Common.{◌≡◌, ◌≤◌, ◌<◌, ◌+◌, ◌-◌, ◌*◌, ◌/◌, ◌%◌, min, ℕ, zero, suc, List, [], ◌∷◌, ◌++◌, Option, Some, None, Result, Ok, Err, Bool, true, false, refl, sym, ap, subst, ◌∙◌, arith, length, take, drop, get_or, length-append, length-drop}
use Rattle.std.specs.Prelude.{IfOk, Vec, nat_lt, slice_index_or, if◌then◌else◌}
use Rattle.std.specs.List.{flat_map}
use Rattle.std.proofs.lemmas.Grind.{flat_map-append}
use Rattle.std.specs.Option.{is_some}
use Rattle.std.proofs.Math.Nat.{zero-mul, one-mul, add-mul}
use Rattle.std.proofs.lemmas.Bool.Decides.{nat_tests}
use Rattle.std.specs.Result.{IsErrOf}
use Rattle.std.proofs.lemmas.List.{append-nil, append_assoc, take_all, take_more, take-append-drop, drop_more}
use Rattle.tl_text.specs.Readings.{Gives}
use Rattle.tl_beats.specs.Faults.{is_memory}
use Rattle.std.proofs.Math.Seq.{take-add, drop-append_seam}
use Rattle.tl_text.specs.Words.{lines_of}
use Rattle.tl_beats.specs.Fragments.{Frag}
use Rattle.tl_beats.specs.Text.{fragment_text}
use Rattle.tl_beats.specs.Reading.{whole_fragment_in}
use Rattle.tl_beats.specs.declared.fault.FragmentFault.{FragmentFault}
use Rattle.tl_beats.specs.declared.fault.FragmentFault.TheVariants as fault
use Rattle.tl_beats.proofs.FragmentTexts.{whole_takes}
use Rattle.tl_check.proofs.Chunks.{parts_cover}
use Rattle.tl_stream.specs.Parts.{reading, read_first, read_texts, joined_texts, AreParsed, ArePartsParsed, BeginsWith}
use Rattle.tl_stream.specs.declared.parsers.Parsed.{Parsed}

abbrev pub Outcome : Type 0
Outcome = List Frag × Option FragmentFault

abbrev pub outcome_of : List Frag → Option FragmentFault → Outcome
outcome_of fs e = (fs, e)

-- The text that is read as a fragment is that of the fragment.
reading_found : (text : List ℕ) (f : Frag) → reading text ≡ Ok f → text ≡ fragment_text f
reading_found text f = elim (nat_lt 8388608 (length text)) as (λ t. (if t then Err fault.TooLong else whole_fragment_in (lines_of text)) ≡ Ok f → text ≡ fragment_text f) [
  | true ↦ λ h. (let wrong : ◌≡◌ {A = Result Frag FragmentFault} (Err fault.TooLong) (Ok f) = h in cc)
  | false ↦ λ h. whole_takes text f h
]

-- What is read of a text, by what parsing it says.
pub reading_gives : (text : List ℕ) (result : Result Frag FragmentFault) → (length text ≤ 8388608 → Gives is_memory (λ (f : Frag). f) result (whole_fragment_in (lines_of text)))
    → (8388608 < length text → IsErrOf result fault.TooLong) → Gives is_memory (λ (f : Frag). f) result (reading text)
reading_gives text result short long = elim (nat_lt 8388608 (length text)) as (λ t. nat_lt 8388608 (length text) ≡ t → Gives is_memory (λ (f : Frag). f) result (if t then Err fault.TooLong else whole_fragment_in (lines_of text))) [
  | true ↦ λ h. (let more : 8388608 < length text = grind (arith, nat_tests) in subst (λ (r : Result Frag FragmentFault). Gives is_memory (λ (f : Frag). f) r (Err fault.TooLong)) (sym (long more)) (λ none. refl))
  | false ↦ λ h. (let most : length text ≤ 8388608 = grind (arith, nat_tests) in short most)
] refl

first_joins : (r : Result Frag FragmentFault) (here after whole : Outcome) → (read_first r here).1 ≡ None → (here.1 ≡ None → whole ≡ (here.0 ++ after.0, after.1)) → read_first r whole ≡ ((read_first r here).0 ++ after.0, after.1)
first_joins (Ok f) here after whole none go = ap (λ (w : Outcome). read_first (Ok f) w) (go none)
first_joins (Err e) here after whole none go = let wrong : ◌≡◌ {A = Option FragmentFault} (Some e) None = none in cc

first_stops : (r : Result Frag FragmentFault) (here whole : Outcome) (e : FragmentFault) → (read_first r here).1 ≡ Some e → (here.1 ≡ Some e → whole ≡ here) → read_first r whole ≡ read_first r here
first_stops (Ok f) here whole e some go = ap (λ (w : Outcome). read_first (Ok f) w) (go some)
first_stops (Err d) here whole e some go = refl

first_count : (r : Result Frag FragmentFault) (others : Outcome) (n : ℕ) → length others.0 ≤ n → length (read_first r others).0 ≤ n + 1
first_count (Ok f) others n many = omega (arith, many)
first_count (Err e) others n many = omega arith

pub some_is : {X : Type 0} (o : Option X) → is_some o ≡ true → (x : X) × (o ≡ Some x)
some_is (Some x) h = (x, refl)
some_is None h = let wrong : false ≡ true = h in cc

pub none_is : {X : Type 0} (o : Option X) → is_some o ≡ false → o ≡ None
none_is (Some x) h = let wrong : true ≡ false = h in cc
none_is None h = refl

-- What stands after a front is what is left without so many bytes.
cut_front : (bytes xs ys : List ℕ) → bytes ≡ xs ++ ys → bytes ≡ xs ++ drop (length xs) bytes
cut_front bytes xs ys is = is ∙ ap (λ (t : List ℕ). xs ++ t) (sym (drop-append_seam xs ys) ∙ ap (λ (t : List ℕ). drop (length xs) t) (sym is))

module _ {A : Type 0} where
  -- Texts after others that are all fragments come after them;
  pub texts_join : (before after : List (Vec ℕ A)) → (read_texts before).1 ≡ None → read_texts (before ++ after) ≡ ((read_texts before).0 ++ (read_texts after).0, (read_texts after).1)
  unfolding read_texts
  texts_join [] after none = refl
  texts_join (text ∷ before) after none = first_joins (reading text.items) (read_texts before) (read_texts after) (read_texts (before ++ after)) none (texts_join before after)

  -- after a text that is none nothing is read.
  pub texts_stop : (before after : List (Vec ℕ A)) (e : FragmentFault) → (read_texts before).1 ≡ Some e → read_texts (before ++ after) ≡ read_texts before
  unfolding read_texts
  texts_stop [] after e some = let wrong : ◌≡◌ {A = Option FragmentFault} None (Some e) = some in cc
  texts_stop (text ∷ before) after e some = first_stops (reading text.items) (read_texts before) (read_texts (before ++ after)) e some (texts_stop before after e)

  front_first : (text : Vec ℕ A) (texts : List (Vec ℕ A)) (r : Result Frag FragmentFault) (others : Outcome) → reading text.items ≡ r → joined_texts (take (length others.0) texts) ≡ flat_map fragment_text others.0
      → joined_texts (take (length (read_first r others).0) (text ∷ texts)) ≡ flat_map fragment_text (read_first r others).0
  front_first text texts (Ok f) others is same = ap (λ (t : List ℕ). t ++ joined_texts (take (length others.0) texts)) (reading_found text.items f is) ∙ ap (λ (t : List ℕ). fragment_text f ++ t) same
  front_first text texts (Err e) others is same = refl

  -- The texts of the fragments that are read are the first ones.
  pub front_texts : (texts : List (Vec ℕ A)) → joined_texts (take (length (read_texts texts).0) texts) ≡ flat_map fragment_text (read_texts texts).0
  unfolding read_texts
  front_texts [] = refl
  front_texts (text ∷ texts) = front_first text texts (reading text.items) (read_texts texts) refl (front_texts texts)

  pub front_count : (texts : List (Vec ℕ A)) → length (read_texts texts).0 ≤ length texts
  unfolding read_texts
  front_count [] = omega arith
  front_count (text ∷ texts) = let more : length (read_first (reading text.items) (read_texts texts)).0 ≤ length texts + 1 = first_count (reading text.items) (read_texts texts) (length texts) (front_count texts) in omega (arith, more)

  -- the first texts, and the others
  pub joined_split : (n : ℕ) (texts : List (Vec ℕ A)) → joined_texts texts ≡ joined_texts (take n texts) ++ joined_texts (drop n texts)
  joined_split n texts = ap (λ (ts : List (Vec ℕ A)). joined_texts ts) (sym (take-append-drop n texts)) ∙ flat_map-append (λ (t : Vec ℕ A). t.items) (take n texts) (drop n texts)

  -- What bytes begin with is no longer than they are,
  pub front_within : (bytes : List ℕ) (texts : List (Vec ℕ A)) (n : ℕ) → BeginsWith bytes texts → length (joined_texts (take n texts)) ≤ length bytes
  front_within bytes texts n begins =
      let all : length bytes ≡ length (joined_texts texts) + length begins.0 = ap length begins.1 ∙ length-append (joined_texts texts) begins.0 in
      let split : length (joined_texts texts) ≡ length (joined_texts (take n texts)) + length (joined_texts (drop n texts)) =
      ap length (joined_split n texts) ∙ length-append (joined_texts (take n texts)) (joined_texts (drop n texts)) in
      omega (arith, all, split)

  -- and without the texts of the fragments that are read the others are left.
  pub cut_is : (bytes : List ℕ) (texts : List (Vec ℕ A)) (parsed : Parsed) → BeginsWith bytes texts → AreParsed texts parsed
      → bytes ≡ flat_map fragment_text parsed.fragments.items ++ drop (length (joined_texts (take (length parsed.fragments.items) texts))) bytes
  cut_is bytes texts parsed begins are =
      let fs = parsed.fragments.items in
      let n : ℕ = length fs in
      let front : joined_texts (take n texts) ≡ flat_map fragment_text fs =
      subst (λ (w : Outcome). joined_texts (take (length w.0) texts) ≡ flat_map fragment_text w.0) are (front_texts texts) in
      let all : bytes ≡ joined_texts (take n texts) ++ (joined_texts (drop n texts) ++ begins.0) =
      begins.1 ∙ ap (λ (t : List ℕ). t ++ begins.0) (joined_split n texts) ∙ append_assoc (joined_texts (take n texts)) (joined_texts (drop n texts)) begins.0 in
      subst (λ (t : List ℕ). bytes ≡ t ++ drop (length (joined_texts (take n texts))) bytes) front (cut_front bytes (joined_texts (take n texts)) (joined_texts (drop n texts) ++ begins.0) all)

  pub parsed_count : (texts : List (Vec ℕ A)) (parsed : Parsed) → AreParsed texts parsed → length parsed.fragments.items ≤ length texts
  parsed_count texts parsed are = subst (λ (w : Outcome). length w.0 ≤ length texts) are (front_count texts)

  -- one text more
  pub one_text : (texts : List (Vec ℕ A)) (text : Vec ℕ A) (fs : List Frag) (r : Result Frag FragmentFault) → read_texts texts ≡ (fs, None) → reading text.items ≡ r
      → read_texts (texts ++ text ∷ []) ≡ (fs ++ (read_first r ([], None)).0, (read_first r ([], None)).1)
  unfolding read_texts
  one_text texts text fs r before is =
      texts_join texts (text ∷ []) (ap (λ (w : Outcome). w.1) before) ∙ ap (λ (w : Outcome). outcome_of (w.0 ++ (read_texts (text ∷ [])).0) (read_texts (text ∷ [])).1) before
      ∙ ap (λ (q : Result Frag FragmentFault). outcome_of (fs ++ (read_first q ([], None)).0) (read_first q ([], None)).1) is

  -- Bytes begin with the texts that stand before a place.
  pub begins_with : (bytes : List ℕ) (texts : List (Vec ℕ A)) (start : ℕ) → joined_texts texts ≡ take start bytes → BeginsWith bytes texts
  begins_with bytes texts start taken = (drop start bytes, sym (take-append-drop start bytes) ∙ ap (λ (t : List ℕ). t ++ drop start bytes) (sym taken))

  -- the bytes of one text more
  pub text_taken : (bytes : List ℕ) (texts : List (Vec ℕ A)) (text : Vec ℕ A) (start place : ℕ) → joined_texts texts ≡ take start bytes → start ≤ place → text.items ≡ take (place - start) (drop start bytes)
      → joined_texts (texts ++ text ∷ []) ≡ take place bytes
  text_taken bytes texts text start place before order is =
      let all : start + (place - start) ≡ place = omega (arith, order) in
      flat_map-append (λ (t : Vec ℕ A). t.items) texts (text ∷ []) ∙ ap (λ (t : List ℕ). joined_texts texts ++ t) (append-nil text.items ∙ is)
      ∙ ap (λ (t : List ℕ). t ++ take (place - start) (drop start bytes)) before ∙ sym (take-add start (place - start) bytes) ∙ ap (λ (k : ℕ). take k bytes) all

  pub text_counted : (texts : List (Vec ℕ A)) (i : ℕ) (text : Vec ℕ A) → i < length texts → get_or texts i text ≡ text → length (joined_texts (take (i + 1) texts)) ≡ length (joined_texts (take i texts)) + length text.items
  text_counted texts i text below is =
      let more : take (i + 1) texts ≡ take i texts ++ text ∷ [] = take_more texts i text below ∙ ap (λ (t : Vec ℕ A). take i texts ++ t ∷ []) is in
      ap (λ (ts : List (Vec ℕ A)). length (joined_texts ts)) more ∙ ap length (flat_map-append (λ (t : Vec ℕ A). t.items) (take i texts) (text ∷ []))
      ∙ length-append (joined_texts (take i texts)) (joined_texts (text ∷ [])) ∙ ap (λ (t : List ℕ). length (joined_texts (take i texts)) + length t) (append-nil text.items)

  pub counted_within : (texts : List (Vec ℕ A)) (n : ℕ) → length (joined_texts (take n texts)) ≤ length (joined_texts texts)
  counted_within texts n =
      let split : length (joined_texts texts) ≡ length (joined_texts (take n texts)) + length (joined_texts (drop n texts)) =
      ap length (joined_split n texts) ∙ length-append (joined_texts (take n texts)) (joined_texts (drop n texts)) in
      omega (arith, split)

  -- one text more of those that are read
  pub text_read : (texts : List (Vec ℕ A)) (i : ℕ) (text : Vec ℕ A) (fs : List Frag) (r : Result Frag FragmentFault) → i < length texts → get_or texts i text ≡ text → read_texts (take i texts) ≡ (fs, None) → reading text.items ≡ r
      → read_texts (take (i + 1) texts) ≡ (fs ++ (read_first r ([], None)).0, (read_first r ([], None)).1)
  text_read texts i text fs r below is before found =
      ap (λ (ts : List (Vec ℕ A)). read_texts ts) (take_more texts i text below ∙ ap (λ (t : Vec ℕ A). take i texts ++ t ∷ []) is) ∙ one_text (take i texts) text fs r before found

  -- A text that is none is the last that is read.
  pub text_stops : (texts : List (Vec ℕ A)) (i : ℕ) (text : Vec ℕ A) (fs : List Frag) (e : FragmentFault) → i < length texts → get_or texts i text ≡ text → read_texts (take i texts) ≡ (fs, None) → reading text.items ≡ Err e
      → read_texts texts ≡ (fs, Some e)
  text_stops texts i text fs e below is before found =
      let here : read_texts (take (i + 1) texts) ≡ (fs, Some e) = text_read texts i text fs (Err e) below is before found ∙ ap (λ (l : List Frag). outcome_of l (Some e)) (append-nil fs) in
      ap (λ (ts : List (Vec ℕ A)). read_texts ts) (sym (take-append-drop (i + 1) texts)) ∙ texts_stop (take (i + 1) texts) (drop (i + 1) texts) e (ap (λ (w : Outcome). w.1) here) ∙ here

  module _ {E : Type 0} (texts : List (Vec ℕ A)) (share : ℕ) (parts : List (Result Parsed E)) where
    -- The first parts came to this, and these are left.
    abbrev pub HasJoined : List (Result Parsed E) → Outcome → Type 0
    HasJoined left outcome = (n : ℕ) × (n ≤ length parts) × (left ≡ drop n parts) × (read_texts (take (n * share) texts) ≡ outcome)

    pub joined_none : HasJoined parts ([], None)
    unfolding read_texts
    joined_none = (0, omega arith, refl, ap (λ (k : ℕ). read_texts (take k texts)) (zero-mul share))

    pub joined_more : (fs : List Frag) (part : Parsed) (left rest : List (Result Parsed E)) → HasJoined left (fs, None) → left ≡ Ok part ∷ rest → ArePartsParsed texts share parts → HasJoined rest (fs ++ part.fragments.items, part.fault)
    joined_more fs part left rest before first each =
        let n : ℕ = before.0 in
        let here : Ok part ∷ rest ≡ drop n parts = sym first ∙ before.2 in
        let count : length (Ok part ∷ rest) ≡ length parts - n = ap length here ∙ length-drop n parts in
        let below : n < length parts = omega (arith, count) in
        let both : Ok part ∷ rest ≡ get_or parts n (Ok part) ∷ drop (n + 1) parts = here ∙ drop_more parts n (Ok part) below in
        let head : Ok part ≡ get_or parts n (Ok part) = ap (λ (l : List (Result Parsed E)). get_or l 0 (Ok part)) both in
        let tail : rest ≡ drop (n + 1) parts = ap (λ (l : List (Result Parsed E)). drop 1 l) both in
        let chunk = take share (drop (n * share) texts) in
        let own : AreParsed chunk part = subst (λ (r : Result Parsed E). IfOk r (AreParsed chunk)) (sym head) (each n (Ok part) below) in
        let front : take ((n + 1) * share) texts ≡ take (n * share) texts ++ chunk =
        ap (λ (k : ℕ). take k texts) (add-mul n 1 share ∙ ap (λ (k : ℕ). n * share + k) (one-mul share)) ∙ take-add (n * share) share texts in (
          n + 1,
          omega (arith, below),
          tail,
          ap (λ (ts : List (Vec ℕ A)). read_texts ts) front ∙ texts_join (take (n * share) texts) chunk (ap (λ (w : Outcome). w.1) before.3)
              ∙ ap (λ (w : Outcome). outcome_of (w.0 ++ (read_texts chunk).0) (read_texts chunk).1) before.3 ∙ ap (λ (w : Outcome). outcome_of (fs ++ w.0) w.1) own,
        )

    -- A part with a fault is the last that counts.
    pub joined_stops : (outcome : Outcome) (left : List (Result Parsed E)) → HasJoined left outcome → is_some outcome.1 ≡ true → read_texts texts ≡ outcome
    joined_stops outcome left before stops =
        let found = some_is outcome.1 stops in
        let k : ℕ = before.0 * share in
        ap (λ (ts : List (Vec ℕ A)). read_texts ts) (sym (take-append-drop k texts)) ∙ texts_stop (take k texts) (drop k texts) found.0 (ap (λ (w : Outcome). w.1) before.3 ∙ found.1) ∙ before.3

    pub joined_all : (outcome : Outcome) (left : List (Result Parsed E)) → HasJoined left outcome → length left ≡ 0 → 0 < share → length parts ≡ length texts / share + min 1 (length texts % share) → read_texts texts ≡ outcome
    joined_all outcome left before none some count =
        let gone : length left ≡ length parts - before.0 = ap length before.2 ∙ length-drop before.0 parts in
        let most : before.0 ≤ length parts = before.1 in
        let all : before.0 ≡ length parts = omega (arith, gone, none, most) in
        let spanned : length texts ≤ length parts * share = parts_cover (length parts) (length texts) share some count in
        let whole : length texts ≤ before.0 * share = subst (λ (k : ℕ). length texts ≤ k * share) (sym all) spanned in
        ap (λ (ts : List (Vec ℕ A)). read_texts ts) (sym (take_all (before.0 * share) texts whole)) ∙ before.3
