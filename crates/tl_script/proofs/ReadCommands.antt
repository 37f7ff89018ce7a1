-- A script that was read up to some command.
use Rattle.std.proofs.Common.{◌≡◌, ℕ, ◌+◌, ◌≤◌, List, [], ◌∷◌, ◌++◌, append_assoc, append-nil, length, length-append, length-drop, take, drop, Option, Some, None, Result, Ok, Err, refl, sym, ap, ◌∙◌, arith}
use Rattle.std.proofs.Math.Seq.{take-append_seam}
use Rattle.tl_script.specs.declared.command.Command.{Command}
use Rattle.tl_script.specs.declared.fault.ScriptFault.{ScriptFault}
use Rattle.tl_script.specs.Reading.{command_in}
use Rattle.tl_script.specs.Scripts.{Script, script_by, commands_of, fault_of}
use Rattle.tl_script.proofs.CommandTexts.{takes_some}
use Rattle.tl_script.proofs.ScriptLaws.{first_command_then_others}

-- these commands, and then those of what is left
abbrev pub behind_them : List Command → Script → Script
behind_them before rest = record { commands = before ++ rest.commands; fault = rest.fault }

-- So many commands were read, and these bytes are left.
pub record IsRead (script rest : List ℕ) (before : List Command) (count : ℕ) : Type 0 where
  pub splits : commands_of script ≡ behind_them before (commands_of rest)
  pub counted : length before ≡ count
  pub short : count + length rest ≤ length script

pub none_read : (script : List ℕ) → IsRead script script [] 0
none_read script = record { splits = refl; counted = refl; short = omega arith }

abbrev Read : Type 0
Read = Result (Option (Command × ℕ)) ScriptFault

by_reading : (rest : List ℕ) (read : Read) → command_in rest ≡ read → commands_of rest ≡ script_by read (λ taken. commands_of (drop taken rest))
by_reading rest read e = first_command_then_others rest ∙ ap (λ (r : Read). script_by r (λ taken. commands_of (drop taken rest))) e

pub one_read : (script rest : List ℕ) (before : List Command) (count : ℕ) (c : Command) (taken : ℕ) → IsRead script rest before count → command_in rest ≡ Ok (Some (c, taken))
    → IsRead script (drop taken rest) (before ++ c ∷ []) (count + 1)
one_read script rest before count c taken is e =
    let some = takes_some rest c taken e in
    let here = by_reading rest (Ok (Some (c, taken))) e in
    record {
      splits = is.splits ∙ ap (behind_them before) here ∙ ap (λ cs. record { commands = cs; fault = (commands_of (drop taken rest)).fault }) (sym (append_assoc before (c ∷ []) (commands_of (drop taken rest)).commands));
      counted = length-append before (c ∷ []) ∙ ap (λ n. n + 1) is.counted;
      short = omega (arith, length-drop taken rest, some.0, some.1, is.short);
    }

pub all_read : (script rest : List ℕ) (before : List Command) (count : ℕ) → IsRead script rest before count → command_in rest ≡ Ok None
    → ((commands_of script).commands ≡ before) × ((commands_of script).fault ≡ None)
all_read script rest before count is e =
    let here = by_reading rest (Ok None) e in
    let whole = is.splits ∙ ap (behind_them before) here in
    (ap (λ (s : Script). s.commands) whole ∙ append-nil before, ap (λ (s : Script). s.fault) whole)

pub fault_read : (script rest : List ℕ) (before : List Command) (count : ℕ) (found : ScriptFault) → IsRead script rest before count → command_in rest ≡ Err found
    → ((commands_of script).commands ≡ before) × (fault_of (commands_of script) ≡ Some (count + 1, found))
fault_read script rest before count found is e =
    let here = by_reading rest (Err found) e in
    let whole = is.splits ∙ ap (behind_them before) here in
    let commands = ap (λ (s : Script). s.commands) whole ∙ append-nil before in
    (commands, ap fault_of whole ∙ ap (λ n. Some (n + 1, found)) (ap (λ (cs : List Command). length cs) (append-nil before) ∙ is.counted))

-- the commands that were read are the first so many
pub first_are : (script rest : List ℕ) (before : List Command) (count : ℕ) → IsRead script rest before count → take count (commands_of script).commands ≡ before
first_are script rest before count is =
    ap (λ (s : Script). take count s.commands) is.splits ∙ ap (λ n. take n (before ++ (commands_of rest).commands)) (sym is.counted) ∙ take-append_seam before (commands_of rest).commands

pub few_are : (script rest : List ℕ) (before : List Command) (count : ℕ) → IsRead script rest before count → count ≤ length (commands_of script).commands
few_are script rest before count is =
    let whole : length (commands_of script).commands ≡ length before + length (commands_of rest).commands = ap (λ (s : Script). length s.commands) is.splits ∙ length-append before (commands_of rest).commands in
    omega (arith, whole, is.counted)
