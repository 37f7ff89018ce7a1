-- What an input of fragments has left, before and after one is taken.
use Rattle.std.proofs.Common.{◌≡◌, ℕ, List, [], ◌++◌, Option, Some, None, take, drop, sym, ap, subst, ◌∙◌}
use Rattle.std.specs.List.{flat_map}
use Rattle.std.specs.Io.KnownBytes.{Keeps, Consumes}
use Rattle.std.proofs.lemmas.List.{append_assoc, take-append-drop}
use Rattle.tl_beats.specs.Fragments.{Frag}
use Rattle.tl_beats.specs.Text.{fragment_text}
use Rattle.tl_stream.specs.Feeds.{all_left, IsCut, Gives}
use Rattle.tl_stream.specs.declared.feed.Cut.{Cut}
use Rattle.tl_stream.specs.declared.feed.Cut.TheVariants as cut

-- A front that is dropped stood before the rest.
pub front_before : (n : ℕ) (old new : List ℕ) → new ≡ drop n old → old ≡ take n old ++ new
front_before n old new is = sym (take-append-drop n old) ∙ ap (λ (ys : List ℕ). take n old ++ ys) (sym is)

-- What was kept is consumed.
kept_consumes : (old kept new : Option (List ℕ)) (text : List ℕ) → Keeps old kept → Consumes kept new text → Consumes old new text
kept_consumes None kept new text keeps consumes = tt
kept_consumes (Some xs) None new text keeps consumes = absurd keeps
kept_consumes (Some xs) (Some ys) new text keeps consumes = subst (λ (t : List ℕ). Consumes (Some t) new text) keeps consumes

-- A text at the front is consumed.
front_consumed : (bytes text rest : List ℕ) (remaining : Option (List ℕ)) → bytes ≡ text ++ rest → Consumes (all_left bytes remaining) (all_left rest remaining) text
front_consumed bytes text rest None is = tt
front_consumed bytes text rest (Some xs) is = ap (λ (t : List ℕ). t ++ xs) is ∙ append_assoc text rest xs

-- Without a fragment before them the bytes are all there are.
none_before : (fs : List Frag) (after : List ℕ) → fs ≡ [] → flat_map fragment_text fs ++ after ≡ after
none_before fs after none = ap (λ (all : List Frag). flat_map fragment_text all ++ after) none

-- Where nothing was parsed ahead, the text that is cut off what was read is consumed.
text_consumed : (old ahead filled after rest : List ℕ) (before during left : List Frag) (known kept : Option (List ℕ)) (text : List ℕ)
    → flat_map fragment_text before ++ ahead ≡ old → before ≡ [] → Keeps (all_left ahead known) (all_left filled kept)
    → filled ≡ flat_map fragment_text during ++ after → during ≡ [] → after ≡ text ++ rest → left ≡ []
    → Consumes (all_left old known) (all_left (flat_map fragment_text left ++ rest) kept) text
text_consumed old ahead filled after rest before during left known kept text view none keeps is gone cut spent =
    let here : Keeps (all_left old known) (all_left filled kept) = subst (λ (t : List ℕ). Keeps (all_left t known) (all_left filled kept)) (sym (none_before before ahead none) ∙ view) keeps in
    let taken : Consumes (all_left filled kept) (all_left rest kept) text = front_consumed filled text rest kept (is ∙ none_before during after gone ∙ cut) in
    let new : Consumes (all_left filled kept) (all_left (flat_map fragment_text left ++ rest) kept) text =
    subst (λ (t : List ℕ). Consumes (all_left filled kept) (all_left t kept) text) (sym (none_before left rest spent)) taken in
    kept_consumes (all_left old known) (all_left filled kept) (all_left (flat_map fragment_text left ++ rest) kept) text here new

-- So what is cut off is given.
pub cut_given : (old ahead filled after rest : List ℕ) (before during left : List Frag) (known kept : Option (List ℕ)) (found : Cut)
    → flat_map fragment_text before ++ ahead ≡ old → before ≡ [] → Keeps (all_left ahead known) (all_left filled kept)
    → filled ≡ flat_map fragment_text during ++ after → during ≡ [] → IsCut after rest found → left ≡ []
    → Gives (all_left old known) (all_left (flat_map fragment_text left ++ rest) kept) (Some found)
cut_given old ahead filled after rest before during left known kept (cut.Fragment f) view none keeps is gone cuts spent =
    text_consumed old ahead filled after rest before during left known kept (fragment_text f) view none keeps is gone cuts spent
cut_given old ahead filled after rest before during left known kept (cut.Passed passed) view none keeps is gone cuts spent =
    (cuts.0, text_consumed old ahead filled after rest before during left known kept cuts.0 view none keeps is gone cuts.1 spent)
