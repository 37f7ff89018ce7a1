-- Lines that are gathered and written.
use Rattle.std.proofs.Common.{Bool, true, false, ◌∷◌, Some, None, ◌≡◌, ℕ, ◌+◌, List, [], ◌++◌, append_assoc, append-nil, length, length-append, take, Option, Result, Ok, Err, refl, sym, ap, ◌∙◌, subst, arith, IfOk, OnErr, OnOk}
use Rattle.std.specs.Io.KnownBytes.{Appends}
use Rattle.std.proofs.KnownBytes.{Appends-nil, Appends-trans}
use Rattle.std.proofs.lemmas.List.{take-append-le}
use Rattle.std.proofs.Math.Seq.{take-append-add}
use Rattle.tl_text.specs.Written.{Writes}
use Rattle.tl_text.specs.Numbers.{numeral}
use Rattle.tl_check.specs.Notes.{Tells, IsNoted, is_note, is_unbroken}
use Rattle.std.specs.Prelude.{codes}
use Rattle.std.specs.Fmt.{decimal}
use Rattle.tl_check.specs.Output.{joined}
use Rattle.tl_script.specs.Replies.{edit_text, refused_text, and_number}
use Rattle.tl_check.proofs.NoteLaws.{ends_here, ends_more, joined_ends, digits_unbroken, decimal_unbroken, unbroken_more, plain_line, noted_nil, tells_more, tells_plain}
use Rattle.tl_run.specs.Stops.{IsSaid, IsFront, AreSaid, IsFrontOf, stop_front, stop_text, last_text}
use Rattle.tl_script.specs.declared.stop.Stop.{Stop}
use Rattle.tl_script.specs.declared.stop.StopCause.{StopCause}
use Rattle.tl_script.specs.declared.stop.StopCause.TheVariants as cause

abbrev Known : Type 0
Known = Option (List ℕ)

pub nothing_said : (old : Known) → IsSaid old old [] []
nothing_said old = ([], Appends-nil old, refl)

pub gathered_more : (old now : Known) (gathered lines line : List ℕ) → IsSaid old now gathered lines → IsSaid old now (gathered ++ line) (lines ++ line)
gathered_more old now gathered lines line (written, has, is) = (written, has, ap (λ l. l ++ line) is ∙ append_assoc written gathered line)

pub all_written : (old now new : Known) (gathered lines : List ℕ) → IsSaid old now gathered lines → Appends now new gathered → IsSaid old new [] lines
all_written old now new gathered lines (written, has, is) more =
    (written ++ gathered, Appends-trans old now new written gathered has more, is ∙ sym (append-nil (written ++ gathered)))

pub said_written : (old now : Known) (lines : List ℕ) → IsSaid old now [] lines → Appends old now lines
said_written old now lines (written, has, is) = subst (λ l. Appends old now l) (sym (is ∙ append-nil written)) has

pub front_written : (old now new : Known) (gathered lines : List ℕ) → IsSaid old now gathered lines → IsFront now new gathered → IsFront old new lines
front_written old now new gathered lines (written, has, is) (n, le, more) =
    let some = Appends-trans old now new written (take n gathered) has more in
    let long : length lines ≡ length written + length gathered = ap (λ l. length l) is ∙ length-append written gathered in
    (length written + n, omega (arith, long, le), subst (λ l. Appends old new l) (sym (ap (take (length written + n)) is ∙ take-append-add written gathered n)) some)

pub front_more : (old now : Known) (lines more : List ℕ) → IsFront old now lines → IsFront old now (lines ++ more)
front_more old now lines more (n, le, has) =
    let long = length-append lines more in
    (n, omega (arith, long, le), subst (λ l. Appends old now l) (sym (take-append-le n lines more le)) has)

-- ---- one text after another

pub writes_more : {E : Type 0} (a b c : Known) (front rest : List ℕ) (f g h : ℕ) (r : Result (Unit {0}) E) → g ≡ f → Appends a b front → Writes rest b c g h r → Writes (front ++ rest) a c f h r
writes_more a b c front rest f g h (Ok done) same has w = (w.0 ∙ same, Appends-trans a b c front rest has w.1)
writes_more a b c front rest f g h (Err e) same has (count, (n, le, some)) =
    let long = length-append front rest in
    (count ∙ ap (λ k. k + 1) same, (length front + n, omega (arith, long, le), subst (λ l. Appends a c l) (sym (take-append-add front rest n)) (Appends-trans a b c front (take n rest) has some)))

pub writes_cut : {E : Type 0} (a b : Known) (front rest : List ℕ) (f g : ℕ) (e : E) → Writes front a b f g (Err e) → Writes (front ++ rest) a b f g (Err e)
writes_cut a b front rest f g e (count, (n, le, some)) =
    let long = length-append front rest in
    (count, (n, omega (arith, long, le), subst (λ l. Appends a b l) (sym (take-append-le n front rest le)) some))

-- ---- what holds anyhow

pub at_error : {A E X : Type 0} (r : Result A E) → X → OnErr r X
at_error (Ok done) x = tt
at_error (Err e) x = x

pub ok_map : {A E : Type 0} (P Q : A → Type 0) (r : Result A E) → ((x : A) → P x → Q x) → IfOk r P → IfOk r Q
ok_map P Q (Ok x) f h = f x h
ok_map P Q (Err e) f h = tt

pub when_failed : {A E X Y : Type 0} (r : Result A E) → (X → Y) → OnErr r X → OnErr r Y
when_failed (Ok done) f x = tt
when_failed (Err e) f x = f x

-- what a stop's line leaves after lines that were gathered
pub said_now : (a b : Known) (gathered left : List ℕ) → left ≡ [] → ((old : Known) (lines : List ℕ) → IsSaid old a gathered lines → IsSaid old b left lines)
    → (old : Known) (lines : List ℕ) → IsSaid old a gathered lines → Appends old b lines
said_now a b gathered left empty written old lines said = said_written old b lines (subst (λ l. IsSaid old b l lines) empty (written old lines said))

module _ {E : Type 0} (a b c : Known) (gathered left text : List ℕ) (f g : ℕ) (empty : left ≡ []) (written : (old : Known) (lines : List ℕ) → IsSaid old a gathered lines → IsSaid old b left lines) where
  pub stop_written : (r : Result (Unit {0}) E) → Writes text b c f g r → OnOk r ((old : Known) (lines : List ℕ) → IsSaid old a gathered lines → Appends old c (lines ++ text))
  stop_written (Ok done) w = λ old lines said. Appends-trans old b c lines text (said_now a b gathered left empty written old lines said) w.1
  stop_written (Err e) w = tt

  pub stop_cut : (r : Result (Unit {0}) E) → Writes text b c f g r → OnErr r ((g ≡ f + 1) × ((old : Known) (lines : List ℕ) → IsSaid old a gathered lines → IsFront old c (lines ++ text)))
  stop_cut (Ok done) w = tt
  stop_cut (Err e) (count, (n, le, some)) = (
    count,
    λ old lines said.
        let long = length-append lines text in
        (length lines + n, omega (arith, long, le), subst (λ l. Appends old c l) (sym (take-append-add lines text n)) (Appends-trans old b c lines (take n text) (said_now a b gathered left empty written old lines said) some)),
  )

-- ---- with notes

front_unbroken : (c : StopCause) → is_unbroken (stop_front c) ≡ true
front_unbroken cause.Memory = refl
front_unbroken cause.BadCommand = refl
front_unbroken cause.Truncated = refl
front_unbroken cause.WrongBox = refl

no_note : (c : StopCause) (rest : List ℕ) → is_note (stop_front c ++ rest) ≡ false
no_note cause.Memory rest = refl
no_note cause.BadCommand rest = refl
no_note cause.Truncated rest = refl
no_note cause.WrongBox rest = refl

-- The line of a stop is no note.
stop_plain : (stop : Stop) → IsNoted (stop_text stop) (stop_text stop)
unfolding ends_more ends_here
stop_plain stop =
    plain_line (stop_text stop)
    (ends_more (stop_front stop.cause) (numeral 10 stop.command ++ 10 ∷ []) (front_unbroken stop.cause) (ends_more (numeral 10 stop.command) (10 ∷ []) (digits_unbroken 10 stop.command (omega arith) (omega arith)) ends_here))
    (no_note stop.cause (numeral 10 stop.command ++ []))

last_plain : (stop : Option Stop) → IsNoted (last_text stop) (last_text stop)
last_plain None = noted_nil
last_plain (Some stop) = stop_plain stop

pub last_tells : (noted : Bool) (stop : Option Stop) (notes : List ℕ) → Tells noted [] notes → Tells noted (last_text stop) (last_text stop ++ notes)
last_tells noted stop notes none =
    subst (λ l. Tells noted l (last_text stop ++ notes)) (append-nil (last_text stop)) (tells_more noted (last_text stop) [] (last_text stop) notes (tells_plain noted (last_text stop) (last_plain stop)) none)

-- one command more
pub said_more : (noted : Bool) (old now new : Known) (gathered kept before line text : List ℕ) → Tells noted line text
    → ((told : List ℕ) → IsSaid old now gathered told → IsSaid old new kept (told ++ text)) → AreSaid noted old now gathered before → AreSaid noted old new kept (before ++ line)
said_more noted old now new gathered kept before line text tells more (told, are, said) = (told ++ text, tells_more noted before line told text are tells, more told said)

pub said_front : (noted : Bool) (old now new : Known) (gathered before line text : List ℕ) → Tells noted line text
    → ((told : List ℕ) → IsSaid old now gathered told → IsFront old new (told ++ text)) → AreSaid noted old now gathered before → IsFrontOf noted old new (before ++ line)
said_front noted old now new gathered before line text tells front (told, are, said) = (told ++ text, tells_more noted before line told text are tells, front told said)

-- what was said goes out, or is cut
pub said_out : (noted : Bool) (old now new : Known) (gathered kept lines : List ℕ) → AreSaid noted old now gathered lines → ((told : List ℕ) → IsSaid old now gathered told → IsSaid old new kept told) → AreSaid noted old new kept lines
said_out noted old now new gathered kept lines (told, are, said) out = (told, are, out told said)

pub said_cut : (noted : Bool) (old now new : Known) (gathered lines : List ℕ) → AreSaid noted old now gathered lines → ((told : List ℕ) → IsSaid old now gathered told → IsFront old new told) → IsFrontOf noted old new lines
said_cut noted old now new gathered lines (told, are, said) front = (told, are, front told said)

-- ---- lines of edits are no notes

pub edit_is_plain : (number : ℕ) → IsNoted (edit_text number) (edit_text number)
unfolding edit_text joined_ends ends_more ends_here
edit_is_plain number =
    let pieces = codes "edit " ∷ decimal number ∷ (10 ∷ []) ∷ [] in
    plain_line (joined pieces) (joined_ends pieces (refl, (decimal_unbroken number, refl))) refl

and_unbroken : (number : Option ℕ) → is_unbroken (and_number number) ≡ true
and_unbroken None = refl
and_unbroken (Some number) = unbroken_more (codes " ") (decimal number) refl (decimal_unbroken number)

pub refused_is_plain : (code : ℕ) (number : Option ℕ) → IsNoted (refused_text code number) (refused_text code number)
unfolding refused_text joined_ends ends_more ends_here
refused_is_plain code number =
    let pieces = codes "refused " ∷ decimal code ∷ and_number number ∷ (10 ∷ []) ∷ [] in
    plain_line (joined pieces) (joined_ends pieces (refl, (decimal_unbroken code, (and_unbroken number, refl)))) refl
