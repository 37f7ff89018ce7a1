-- All commands of a script, one after the other.
use Rattle.std.proofs.Common.{◌≡◌, ℕ, zero, suc, ◌≤◌, List, [], ◌∷◌, ◌++◌, append_assoc, append-nil, length, length-drop, drop, Option, Some, None, Result, Ok, Err, refl, sym, ap, ◌∙◌, subst, arith}
use Rattle.std.specs.List.{AllByRecursion}
use Rattle.std.proofs.lemmas.List.Concat.{flat_map-cons}
use Rattle.std.proofs.Math.Seq.{drop-append_seam}
use Rattle.tl_text.specs.Words.{line_at}
use Rattle.tl_text.specs.Readings.{or_fault}
use Rattle.std.specs.Prelude.{filter_map}
use Rattle.std.specs.List.{cons_option}
use Rattle.std.specs.Option.{option_flatten}
use Rattle.std.specs.Result.{result_ok}
use Rattle.tl_beats.specs.declared.watch.Watch.{Watch}
use Rattle.tl_script.specs.declared.command.Command.{Command}
use Rattle.tl_script.specs.declared.fault.ScriptFault.{ScriptFault}
use Rattle.tl_script.specs.declared.fault.ScriptFault.TheVariants as fault
use Rattle.tl_script.specs.Commands.{monitor_of}
use Rattle.tl_script.specs.Reading.{command_behind, command_in}
use Rattle.tl_script.specs.Scripts.{Script, onto_script, script_by, commands_within, commands_of, fault_of, attached}
use Rattle.tl_script.specs.Text.{command_text, script_text, IsCommand}
use Rattle.tl_script.specs.Laws.{FirstCommandThenOthers, IsLeft, CommandsAreRead, ScriptsAreCommands, FaultsAreNumbered}
use Rattle.tl_script.proofs.CommandTexts.{then_ok, in_starts, takes_some, spellings_are_read}

abbrev Read : Type 0
Read = Result (Option (Command × ℕ)) ScriptFault

abbrev no_commands : Script
no_commands = record { commands = []; fault = None }

-- ---- room for as many commands as there are bytes is enough

same_by : (r : Read) (f g : ℕ → Script) → ((c : Command) (taken : ℕ) → r ≡ Ok (Some (c, taken)) → f taken ≡ g taken) → script_by r f ≡ script_by r g
same_by (Ok None) f g h = refl
same_by (Ok (Some read)) f g h = ap (onto_script read.0) (h read.0 read.1 refl)
same_by (Err found) f g h = refl

of_nothing : (k : ℕ) → commands_within k [] ≡ no_commands
unfolding commands_within command_in
of_nothing zero = refl
of_nothing (suc k) = refl

shorter : (bytes : List ℕ) (c : Command) (taken k : ℕ) → command_in bytes ≡ Ok (Some (c, taken)) → length bytes ≤ suc k → length (drop taken bytes) ≤ k
shorter bytes c taken k e le =
    let some = takes_some bytes c taken e in
    omega (arith, length-drop taken bytes, some.0, le)

enough : (j k : ℕ) (bytes : List ℕ) → length bytes ≤ j → length bytes ≤ k → commands_within j bytes ≡ commands_within k bytes
unfolding commands_within
enough j k [] p q = of_nothing j ∙ sym (of_nothing k)
enough zero k (b ∷ bytes) p q = absurd (omega arith)
enough (suc j) zero (b ∷ bytes) p q = absurd (omega arith)
enough (suc j) (suc k) (b ∷ bytes) p q =
    same_by (command_in (b ∷ bytes)) _ _ (λ c taken e. enough j k (drop taken (b ∷ bytes)) (shorter (b ∷ bytes) c taken j e p) (shorter (b ∷ bytes) c taken k e q))

pub first_command_then_others : FirstCommandThenOthers
unfolding commands_within command_in
first_command_then_others [] = refl
first_command_then_others (b ∷ bytes) =
    same_by (command_in (b ∷ bytes)) _ _ (λ c taken e. enough (length bytes) (length (drop taken (b ∷ bytes))) (drop taken (b ∷ bytes)) (shorter (b ∷ bytes) c taken (length bytes) e (omega arith)) (omega arith))

-- ---- a script by its first reading

at_command : (bytes : List ℕ) (c : Command) (taken : ℕ) → command_in bytes ≡ Ok (Some (c, taken)) → commands_of bytes ≡ onto_script c (commands_of (drop taken bytes))
at_command bytes c taken e = first_command_then_others bytes ∙ ap (λ (r : Read). script_by r (λ n. commands_of (drop n bytes))) e

at_fault : (bytes : List ℕ) (found : ScriptFault) → command_in bytes ≡ Err found → commands_of bytes ≡ record { commands = []; fault = Some found }
at_fault bytes found e = first_command_then_others bytes ∙ ap (λ (r : Read). script_by r (λ n. commands_of (drop n bytes))) e

-- ---- spellings after one another

left_is : (rest : List ℕ) (found : Option ScriptFault) → IsLeft rest found → commands_of rest ≡ record { commands = []; fault = found }
unfolding commands_within
left_is rest None is = ap (λ (l : List ℕ). commands_of l) is
left_is rest (Some found) is = at_fault rest found is

pub commands_are_read : CommandsAreRead
commands_are_read [] rest found are is = left_is rest found is
commands_are_read (c ∷ commands) rest found are is =
    let behind : List ℕ = script_text commands ++ rest in
    let text : script_text (c ∷ commands) ++ rest ≡ command_text c ++ behind = ap (λ (l : List ℕ). l ++ rest) (flat_map-cons command_text c commands) ∙ append_assoc (command_text c) (script_text commands) rest in
    let one : commands_of (command_text c ++ behind) ≡ onto_script c (commands_of (drop (length (command_text c)) (command_text c ++ behind))) = at_command (command_text c ++ behind) c (length (command_text c)) (spellings_are_read c behind are.0) in
    ap (λ (l : List ℕ). commands_of l) text ∙ one ∙ ap (λ (l : List ℕ). onto_script c (commands_of l)) (drop-append_seam (command_text c) behind)
    ∙ ap (onto_script c) (commands_are_read commands rest found are.1 is)

pub faults_are_numbered : FaultsAreNumbered
faults_are_numbered commands rest found are is = ap fault_of (commands_are_read commands rest (Some found) are is)

-- ---- and each script is such

none_left : (bytes : List ℕ) → command_in bytes ≡ Ok None → bytes ≡ []
unfolding command_in
none_left [] e = refl
none_left (b ∷ bytes) e =
    let line = then_ok (or_fault (line_at (b ∷ bytes)) fault.Truncated) _ _ e in
    let c = then_ok (command_behind line.0.0 line.0.1) _ _ line.2 in
    absurd cc

record IsWhole (bytes : List ℕ) (script : Script) : Type 0 where
  lawful : AllByRecursion IsCommand script.commands
  rest : List ℕ
  joins : bytes ≡ script_text script.commands ++ rest
  left : IsLeft rest script.fault

onto_whole : (bytes behind : List ℕ) (c : Command) (script : Script) → IsCommand c → bytes ≡ command_text c ++ behind → IsWhole behind script → IsWhole bytes (onto_script c script)
onto_whole bytes behind c script is e whole = record {
  lawful = (is, whole.lawful);
  rest = whole.rest;
  joins = e ∙ ap (λ (l : List ℕ). command_text c ++ l) whole.joins ∙ sym (append_assoc (command_text c) (script_text script.commands) whole.rest) ∙ ap (λ (l : List ℕ). l ++ whole.rest) (sym (flat_map-cons command_text c script.commands));
  left = whole.left;
}

by_read : (bytes : List ℕ) (r : Read) → command_in bytes ≡ r → ((c : Command) (taken : ℕ) → r ≡ Ok (Some (c, taken)) → IsWhole (drop taken bytes) (commands_of (drop taken bytes)))
    → IsWhole bytes (script_by r (λ taken. commands_of (drop taken bytes)))
by_read bytes (Ok None) e h = record { lawful = tt; rest = []; joins = none_left bytes e; left = refl }
by_read bytes (Err found) e h = record { lawful = tt; rest = bytes; joins = refl; left = e }
by_read bytes (Ok (Some read)) e h =
    let law = in_starts bytes read.0 read.1 e in
    let behind : drop read.1 bytes ≡ law.rest = ap (λ (n : ℕ). drop n bytes) law.long ∙ ap (λ (l : List ℕ). drop (length (command_text read.0)) l) law.joins ∙ drop-append_seam (command_text read.0) law.rest in
    onto_whole bytes (drop read.1 bytes) read.0 (commands_of (drop read.1 bytes)) law.lawful (law.joins ∙ ap (λ (l : List ℕ). command_text read.0 ++ l) (sym behind)) (h read.0 read.1 refl)

whole_within : (k : ℕ) (bytes : List ℕ) → length bytes ≤ k → IsWhole bytes (commands_of bytes)
unfolding commands_within
whole_within zero [] le = record { lawful = tt; rest = []; joins = refl; left = refl }
whole_within zero (b ∷ bytes) le = absurd (omega arith)
whole_within (suc k) bytes le =
    subst (λ (s : Script). IsWhole bytes s) (sym (first_command_then_others bytes))
    (by_read bytes (command_in bytes) refl (λ c taken e. whole_within k (drop taken bytes) (shorter bytes c taken k e le)))

pub scripts_are_commands : ScriptsAreCommands
scripts_are_commands bytes =
    let whole = whole_within (length bytes) bytes (omega arith) in
    (whole.lawful, (whole.rest, whole.joins, whole.left))

-- ---- the monitors that are attached

one_back : (o : Option (ℕ × Watch)) (xs ys zs : List (ℕ × Watch)) → xs ≡ ys ++ zs → cons_option o xs ≡ cons_option o ys ++ zs
one_back None xs ys zs e = e
one_back (Some monitor) xs ys zs e = ap (λ (l : List (ℕ × Watch)). monitor ∷ l) e

last_attached : (before : List Command) (c : Command) → filter_map monitor_of (before ++ c ∷ []) ≡ filter_map monitor_of before ++ cons_option (monitor_of c) []
last_attached [] c = refl
last_attached (d ∷ before) c = one_back (monitor_of d) (filter_map monitor_of (before ++ c ∷ [])) (filter_map monitor_of before) (cons_option (monitor_of c) []) (last_attached before c)

-- The monitors of one command more.
pub more_attached : (first old new : List (ℕ × Watch)) (before : List Command) (c : Command) (found : Option (ℕ × Watch)) → monitor_of c ≡ found → old ≡ first ++ filter_map monitor_of before → new ≡ old ++ cons_option found []
    → new ≡ first ++ filter_map monitor_of (before ++ c ∷ [])
more_attached first old new before c found is was then =
    then ∙ ap (λ (l : List (ℕ × Watch)). l ++ cons_option found []) was ∙ append_assoc first (filter_map monitor_of before) (cons_option found [])
    ∙ ap (λ (l : List (ℕ × Watch)). first ++ l) (ap (λ (o : Option (ℕ × Watch)). filter_map monitor_of before ++ cons_option o []) (sym is) ∙ sym (last_attached before c))
