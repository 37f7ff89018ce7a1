-- Which fault the first command of a script has.
use Rattle.std.proofs.Common.{◌≡◌, ℕ, ◌+◌, ◌<◌, ◌≤◌, Bool, true, false, cond, eqb, ltb, List, [], ◌∷◌, ◌++◌, length, take, replicate, Option, Some, None, Result, Ok, Err, refl, sym, ap, ◌∙◌, subst, arith}
use Rattle.std.specs.Prelude.{codes, option_map}
use Rattle.std.specs.Str.{bytes_eq}
use Rattle.std.proofs.lemmas.List.{length-replicate}
use Rattle.std.proofs.lemmas.Bool.{and_parts, not-true, lt-ltb}
use Rattle.tl_text.specs.Words.{◌␣◌, word_at, line_at, cut}
use Rattle.tl_text.specs.Numbers.{number_at, numeral}
use Rattle.tl_text.specs.Readings.{◌>>>◌, or_fault}
use Rattle.tl_text.proofs.Cuts.{is_free, word_again, word_takes}
use Rattle.tl_text.proofs.Numerals.{number_takes, number_again}
use Rattle.tl_topology.proofs.LineLaws.{same_text}
use Rattle.tl_script.specs.declared.command.Command.{Command}
use Rattle.tl_script.specs.declared.command.Command.TheVariants as command
use Rattle.tl_script.specs.declared.fault.ScriptFault.{ScriptFault}
use Rattle.tl_script.specs.declared.fault.ScriptFault.TheVariants as fault
use Rattle.tl_script.specs.Commands.{bytes_of}
use Rattle.tl_script.specs.Lines.{order_at}
use Rattle.tl_script.specs.Reading.{carried_at, command_behind, command_in}
use Rattle.tl_script.specs.Text.{line_of, IsCommand}
use Rattle.tl_script.specs.Laws.{LinesEnd, BytesEnd, BadLines}
use Rattle.tl_script.proofs.WordTexts.{joined}
use Rattle.tl_script.proofs.LineTexts.{line_free}
use Rattle.tl_script.proofs.CommandTexts.{by_word, by_line, line_in, line_again, line_found, behind_takes, behind_again}

-- ---- a script that ends inside a line

free_cut : (bytes : List ℕ) → is_free 10 bytes ≡ true → (cut 10 bytes).1 ≡ None
free_cut [] free = refl
free_cut (b ∷ bytes) free =
    let parts = and_parts _ _ free in
    rw (not-true (eqb b 10) parts.0) (free_cut bytes parts.1)

no_line : (bytes : List ℕ) → is_free 10 bytes ≡ true → line_at bytes ≡ None
unfolding line_at
no_line bytes free = ap (λ (o : Option (List ℕ)). option_map (λ (rest : List ℕ). ((cut 10 bytes).0, rest)) o) (free_cut bytes free)

pub lines_end : LinesEnd
unfolding command_in
lines_end b bytes free = rw (no_line (b ∷ bytes) free) refl

-- ---- a script that ends inside the bytes of a command

carried_short : (count : ℕ) (behind : List ℕ) → count ≤ 8388608 → length behind < count → carried_at (numeral 10 count) behind ≡ Err fault.Truncated
carried_short count behind small short =
    rw (number_again 10 8388608 count (omega arith) (omega arith) small (omega arith), lt-ltb (length behind) count short) refl

behind_short : (c : Command) (behind : List ℕ) → IsCommand c → length behind < length (bytes_of c) → command_behind (line_of c) behind ≡ Err fault.Truncated
unfolding command_behind line_of IsCommand
behind_short (command.Add text) behind is short = rw (word_again (codes "add") (numeral 10 (length text)) refl, carried_short (length text) behind is short) refl
behind_short (command.Replace text) behind is short = rw (word_again (codes "replace") (numeral 10 (length text)) refl, carried_short (length text) behind is short) refl
behind_short (command.Withdraw link number) behind is short = absurd (omega arith)
behind_short (command.Clear link) behind is short = absurd (omega arith)
behind_short (command.SetRegion manager number area) behind is short = absurd (omega arith)
behind_short (command.RemoveRegion manager number) behind is short = absurd (omega arith)
behind_short (command.Attach number watch) behind is short = absurd (omega arith)
behind_short (command.Retune number limit) behind is short = absurd (omega arith)
behind_short (command.Detach number) behind is short = absurd (omega arith)
behind_short command.Publish behind is short = absurd (omega arith)

of_line : (line behind : List ℕ) → is_free 10 line ≡ true → command_in (line ++ 10 ∷ behind) ≡ line_found (line, behind)
of_line line behind free = line_in (line ++ 10 ∷ behind) (line, behind) (line_again line behind free)

found_err : (line behind : List ℕ) (found : ScriptFault) → command_behind line behind ≡ Err found → line_found (line, behind) ≡ Err found
found_err line behind found e = rw e refl

pub bytes_end : BytesEnd
bytes_end c behind is short = of_line (line_of c) behind (line_free c is) ∙ found_err (line_of c) behind fault.Truncated (behind_short c behind is short)

-- ---- a line of no command

not_bad : (t : Bool) (text : List ℕ) (f : List ℕ → Command) → (cond {A = Result (List ℕ) ScriptFault} t (Err fault.Truncated) (Ok text) >>> λ x. Ok (f x)) ≡ Err fault.BadCommand → ⊥
not_bad true text f e = absurd cc
not_bad false text f e = absurd cc

carried_is : (count : ℕ) (behind : List ℕ) → count ≤ 8388608 → carried_at (numeral 10 count) behind ≡ cond (ltb (length behind) count) (Err fault.Truncated) (Ok (take count behind))
carried_is count behind small = rw (number_again 10 8388608 count (omega arith) (omega arith) small (omega arith)) refl

carried_never : (count : ℕ) (behind : List ℕ) (f : List ℕ → Command) → count ≤ 8388608 → (carried_at (numeral 10 count) behind >>> λ x. Ok (f x)) ≡ Err fault.BadCommand → ⊥
carried_never count behind f small e =
    not_bad (ltb (length behind) count) (take count behind) f (ap (λ (r : Result (List ℕ) ScriptFault). r >>> λ x. Ok (f x)) (sym (carried_is count behind small)) ∙ e)

add_reads : (text behind : List ℕ) → command_behind (line_of (command.Add text)) behind ≡ (carried_at (numeral 10 (length text)) behind >>> λ x. Ok (command.Add x))
unfolding command_behind line_of
add_reads text behind = rw (word_again (codes "add") (numeral 10 (length text)) refl) refl

replace_reads : (text behind : List ℕ) → command_behind (line_of (command.Replace text)) behind ≡ (carried_at (numeral 10 (length text)) behind >>> λ x. Ok (command.Replace x))
unfolding command_behind line_of
replace_reads text behind = rw (word_again (codes "replace") (numeral 10 (length text)) refl) refl

ok_never : (c : Command) (read : Result Command ScriptFault) → read ≡ Ok c → read ≡ Err fault.BadCommand → ⊥
ok_never c read p q = absurd cc

never_bad : (c : Command) (behind : List ℕ) → IsCommand c → command_behind (line_of c) behind ≡ Err fault.BadCommand → ⊥
unfolding IsCommand
never_bad (command.Add text) behind is e = carried_never (length text) behind (λ x. command.Add x) is (sym (add_reads text behind) ∙ e)
never_bad (command.Replace text) behind is e = carried_never (length text) behind (λ x. command.Replace x) is (sym (replace_reads text behind) ∙ e)
never_bad (command.Withdraw link number) behind is e = ok_never (command.Withdraw link number) _ (behind_again (command.Withdraw link number) behind is) e
never_bad (command.Clear link) behind is e = ok_never (command.Clear link) _ (behind_again (command.Clear link) behind is) e
never_bad (command.SetRegion manager number area) behind is e = ok_never (command.SetRegion manager number area) _ (behind_again (command.SetRegion manager number area) behind is) e
never_bad (command.RemoveRegion manager number) behind is e = ok_never (command.RemoveRegion manager number) _ (behind_again (command.RemoveRegion manager number) behind is) e
never_bad (command.Attach number watch) behind is e = ok_never (command.Attach number watch) _ (behind_again (command.Attach number watch) behind is) e
never_bad (command.Retune number limit) behind is e = ok_never (command.Retune number limit) _ (behind_again (command.Retune number limit) behind is) e
never_bad (command.Detach number) behind is e = ok_never (command.Detach number) _ (behind_again (command.Detach number) behind is) e
never_bad command.Publish behind is e = ok_never command.Publish _ (behind_again command.Publish behind is) e

-- a lawful command has the line
record IsLine (line : List ℕ) : Type 0 where
  command_is : Command
  lawful : IsCommand command_is
  spelled : line ≡ line_of command_is

then_err : {A B : Type 0} (r : Result A ScriptFault) (f : A → B) (found : ScriptFault) → (r >>> λ x. Ok (f x)) ≡ Err found → r ≡ Err found
then_err (Ok x) f found e = absurd cc
then_err (Err other) f found e = cc

-- the number of bytes was read
counted : (number : Option ℕ) (behind : List ℕ) → (or_fault number fault.BadCommand >>> λ count. cond (ltb (length behind) count) (Err fault.Truncated) (Ok (take count behind))) ≡ Err fault.Truncated → (count : ℕ) × (number ≡ Some count)
counted None behind e = absurd cc
counted (Some count) behind e = (count, refl)

carried_cut : (kind words behind line : List ℕ) (f : List ℕ → Command) → line ≡ kind ++ 32 ∷ words → ((text : List ℕ) → kind ␣ numeral 10 (length text) ≡ line_of (f text)) → ((text : List ℕ) → length text ≤ 8388608 → IsCommand (f text))
    → (carried_at words behind >>> λ text. Ok (f text)) ≡ Err fault.Truncated → IsLine line
carried_cut kind words behind line f joins spelled lawful e =
    let number = counted (number_at 10 8388608 words) behind (then_err (carried_at words behind) f fault.Truncated e) in
    let is = number_takes 10 8388608 words number.0 (omega arith) (omega arith) number.1 in
    let text : List ℕ = replicate number.0 0 in
    let long : length text ≡ number.0 = length-replicate number.0 0 in
    record {
      command_is = f text;
      lawful = lawful text (omega (arith, long, is.1));
      spelled = joined _ _ _ _ _ joins refl (is.0 ∙ ap (numeral 10) (sym long)) ∙ spelled text;
    }

add_line : (text : List ℕ) → codes "add" ␣ numeral 10 (length text) ≡ line_of (command.Add text)
unfolding line_of
add_line text = refl

replace_line : (text : List ℕ) → codes "replace" ␣ numeral 10 (length text) ≡ line_of (command.Replace text)
unfolding line_of
replace_line text = refl

add_lawful : (text : List ℕ) → length text ≤ 8388608 → IsCommand (command.Add text)
unfolding IsCommand
add_lawful text small = small

replace_lawful : (text : List ℕ) → length text ≤ 8388608 → IsCommand (command.Replace text)
unfolding IsCommand
replace_lawful text small = small

never_cut : {A : Type 0} (o : Option A) → or_fault o fault.BadCommand ≡ Err fault.Truncated → ⊥
never_cut None e = absurd cc
never_cut (Some x) e = absurd cc

word_cut : (s t : Bool) (line kind words behind : List ℕ) → line ≡ kind ++ 32 ∷ words → (s ≡ true → kind ≡ codes "add") → (t ≡ true → kind ≡ codes "replace")
    → by_word s t kind words behind ≡ Err fault.Truncated → IsLine line
word_cut true t line kind words behind joins p q e =
    carried_cut (codes "add") words behind line (λ text. command.Add text) (joined _ _ _ _ _ joins (p refl) refl) add_line add_lawful e
word_cut false true line kind words behind joins p q e =
    carried_cut (codes "replace") words behind line (λ text. command.Replace text) (joined _ _ _ _ _ joins (q refl) refl) replace_line replace_lawful e
word_cut false false line kind words behind joins p q e = absurd (never_cut (order_at kind words) e)

found_word : (found : Option (List ℕ × List ℕ)) (line behind : List ℕ) → word_at line ≡ found
    → (or_fault found fault.BadCommand >>> λ kind. by_word (bytes_eq kind.0 (codes "add")) (bytes_eq kind.0 (codes "replace")) kind.0 kind.1 behind) ≡ Err fault.Truncated → IsLine line
found_word None line behind is e = absurd cc
found_word (Some word) line behind is e =
    word_cut (bytes_eq word.0 (codes "add")) (bytes_eq word.0 (codes "replace")) line word.0 word.1 behind (word_takes line word.0 word.1 is) (λ h. same_text word.0 (codes "add") h) (λ h. same_text word.0 (codes "replace") h) e

line_cut : (t : Bool) (line behind : List ℕ) → by_line t line behind ≡ Err fault.Truncated → IsLine line
line_cut true line behind e = absurd cc
line_cut false line behind e = found_word (word_at line) line behind refl e

behind_cut : (line behind : List ℕ) → command_behind line behind ≡ Err fault.Truncated → IsLine line
unfolding command_behind
behind_cut line behind e = line_cut (bytes_eq line (codes "publish")) line behind e

-- none has the line
abbrev IsOfNone : List ℕ → Type 0
IsOfNone line = (c : Command) → IsCommand c → line ≡ line_of c → ⊥

none_by : (read : Result Command ScriptFault) (line behind : List ℕ) → command_behind line behind ≡ read → IsOfNone line → read ≡ Err fault.BadCommand
none_by (Ok c) line behind e none =
    let law = behind_takes line behind c e in
    absurd (none c law.lawful law.spelled)
none_by (Err fault.BadCommand) line behind e none = refl
none_by (Err fault.Truncated) line behind e none =
    let law = behind_cut line behind e in
    absurd (none law.command_is law.lawful law.spelled)

bad_line : (line behind : List ℕ) → line_found (line, behind) ≡ Err fault.BadCommand → IsOfNone line
bad_line line behind e c is spelled =
    never_bad c behind is (subst (λ (l : List ℕ). command_behind l behind ≡ Err fault.BadCommand) spelled (then_err (command_behind line behind) (λ (x : Command). Some (x, length line + 1 + length (bytes_of x))) fault.BadCommand e))

pub bad_lines : BadLines
bad_lines line behind free = (
  λ e. bad_line line behind (sym (of_line line behind free) ∙ e),
  λ none. of_line line behind free ∙ found_err line behind fault.BadCommand (none_by (command_behind line behind) line behind refl none),
)
