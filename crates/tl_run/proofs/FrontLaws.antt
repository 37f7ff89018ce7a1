-- The first command of a text is the first of what was read of it, where that doesn't go on in what comes.
use Rattle.std.proofs.Common.{Bool, true, false, ◌≡◌, ◌⊎◌, inl, inr, ℕ, eqb, List, [], ◌∷◌, ◌++◌, append_assoc, append-nil, Option, Some, None, Result, Ok, Err, IfSome, refl, sym, ap, ◌∙◌}
use Rattle.std.proofs.lemmas.Bool.{eqb-true}
use Rattle.std.specs.Io.KnownBytes.{IsAtEnd}
use Rattle.tl_script.specs.declared.command.Command.{Command}
use Rattle.tl_script.specs.declared.fault.ScriptFault.{ScriptFault}
use Rattle.tl_script.specs.declared.fault.ScriptFault.TheVariants as fault
use Rattle.tl_script.specs.Laws.{is_line}
use Rattle.tl_script.specs.Reading.{command_in}
use Rattle.tl_script.specs.Text.{command_text}
use Rattle.tl_script.proofs.CommandTexts.{in_starts, spellings_are_read}
use Rattle.tl_script.proofs.FaultLaws.{lines_end, bad_lines}
use Rattle.tl_stream.specs.Feeds.{all_left}
use Rattle.tl_run.specs.Coming.{is_whole, IsFirstOf}

abbrev Read : Type 0
Read = Result (Option (Command × ℕ)) ScriptFault

-- ---- the first line

record HasLine (bytes : List ℕ) : Type 0 where
  line : List ℕ
  behind : List ℕ
  free : is_line line ≡ true
  joins : bytes ≡ line ++ 10 ∷ behind

onto_line : (b : ℕ) (bytes : List ℕ) (t : Bool) → eqb b 10 ≡ t → (is_line bytes ≡ true) ⊎ HasLine bytes → (is_line (b ∷ bytes) ≡ true) ⊎ HasLine (b ∷ bytes)
onto_line b bytes true e found = inr (record { line = []; behind = bytes; free = refl; joins = ap (λ x. x ∷ bytes) (eqb-true b 10 e) })
onto_line b bytes false e (inl free) = inl (rw e free)
onto_line b bytes false e (inr has) = inr (record { line = b ∷ has.line; behind = has.behind; free = rw e has.free; joins = ap (λ l. b ∷ l) has.joins })

first_line : (bytes : List ℕ) → (is_line bytes ≡ true) ⊎ HasLine bytes
first_line [] = inl refl
first_line (b ∷ bytes) = onto_line b bytes (eqb b 10) refl (first_line bytes)

-- ---- a bad one

two_faults : (read : Read) → read ≡ Err fault.BadCommand → read ≡ Err fault.Truncated → ⊥
two_faults read p q = cc

never_free : (bytes : List ℕ) → is_line bytes ≡ true → command_in bytes ≡ Err fault.BadCommand → ⊥
unfolding command_in
never_free [] free e = absurd cc
never_free (b ∷ bytes) free e = two_faults (command_in (b ∷ bytes)) e (lines_end b bytes free)

bad_by : (front more : List ℕ) → (is_line front ≡ true) ⊎ HasLine front → command_in front ≡ Err fault.BadCommand → command_in (front ++ more) ≡ Err fault.BadCommand
bad_by front more (inl free) e = absurd (never_free front free e)
bad_by front more (inr has) e =
    let here : command_in (has.line ++ 10 ∷ has.behind) ≡ Err fault.BadCommand = ap command_in (sym has.joins) ∙ e in
    ap command_in (ap (λ l. l ++ more) has.joins ∙ append_assoc has.line (10 ∷ has.behind) more) ∙ (bad_lines has.line (has.behind ++ more) has.free).1 ((bad_lines has.line has.behind has.free).0 here)

bad_front : (front more : List ℕ) → command_in front ≡ Err fault.BadCommand → command_in (front ++ more) ≡ Err fault.BadCommand
bad_front front more e = bad_by front more (first_line front) e

-- ---- a good one

good_front : (front more : List ℕ) (c : Command) (taken : ℕ) → command_in front ≡ Ok (Some (c, taken)) → command_in (front ++ more) ≡ Ok (Some (c, taken))
good_front front more c taken e =
    let law = in_starts front c taken e in
    ap command_in (ap (λ l. l ++ more) law.joins ∙ append_assoc (command_text c) law.rest more) ∙ spellings_are_read c (law.rest ++ more) law.lawful ∙ ap (λ (n : ℕ). Ok (Some (c, n))) (sym law.long)

-- ---- each that is whole

front_by : (front more : List ℕ) (read : Read) → command_in front ≡ read → is_whole read ≡ true → command_in (front ++ more) ≡ command_in front
front_by front more (Ok None) e h = absurd cc
front_by front more (Ok (Some read)) e h = good_front front more read.0 read.1 e ∙ sym e
front_by front more (Err fault.BadCommand) e h = bad_front front more e ∙ sym e
front_by front more (Err fault.Truncated) e h = absurd cc

pub first_of_front : (front more : List ℕ) → is_whole (command_in front) ≡ true → command_in (front ++ more) ≡ command_in front
first_of_front front more h = front_by front more (command_in front) refl h

-- ---- what was read, and what is known to come

pub whole_first : (read : List ℕ) (known : Option (List ℕ)) → is_whole (command_in read) ≡ true → IfSome (all_left read known) (IsFirstOf read)
whole_first read None h = tt
whole_first read (Some more) h = first_of_front read more h

pub last_first : (read : List ℕ) (known : Option (List ℕ)) → IsAtEnd known → IfSome (all_left read known) (IsFirstOf read)
last_first read None e = tt
last_first read (Some more) e = ap (λ l. command_in (read ++ l)) e ∙ ap command_in (append-nil read)
