-- A run of commands as they come, from one to the next, and to its end.
use Rattle.std.proofs.Common.{Bool, false, ◌≡◌, ℕ, ◌+◌, List, [], ◌∷◌, ◌++◌, append_assoc, append-nil, length, drop, Option, Some, None, Result, Ok, Err, IfSome, refl, sym, ap, ◌∙◌, subst}
use Rattle.std.proofs.Math.Seq.{drop-append_seam}
use Rattle.std.proofs.lemmas.List.{append_cancel_left}
use Rattle.std.proofs.lemmas.Grind.{flat_map-append}
use Rattle.std.proofs.lemmas.List.Concat.{flat_map-cons}
use Rattle.std.specs.List.{AllByRecursion}
use Rattle.std.specs.Io.KnownBytes.{Keeps, Appends}
use Rattle.tl_beats.specs.declared.watch.Watch.{Watch}
use Rattle.tl_check.specs.Notes.{Tells}
use Rattle.tl_check.proofs.NoteLaws.{tells_nil}
use Rattle.tl_script.specs.declared.command.Command.{Command}
use Rattle.tl_script.specs.declared.fault.ScriptFault.{ScriptFault}
use Rattle.tl_script.specs.declared.fault.ScriptFault.TheVariants as fault
use Rattle.tl_script.specs.Reading.{command_in}
use Rattle.tl_script.specs.Scripts.{Script, onto_script, script_by, commands_of}
use Rattle.tl_script.specs.Text.{command_text, script_text, IsCommand}
use Rattle.tl_script.proofs.CommandTexts.{in_starts, spellings_are_read}
use Rattle.tl_script.proofs.ReadCommands.{IsRead, behind_them, none_read, one_read}
use Rattle.tl_script.proofs.ScriptLaws.{first_command_then_others}
use Rattle.tl_stream.specs.Feeds.{all_left}
use Rattle.tl_script.specs.declared.stop.Outcome.{Outcome}
use Rattle.tl_script.specs.declared.stop.StopCause.{StopCause}
use Rattle.tl_script.specs.declared.stop.StopCause.TheVariants as cause
use Rattle.tl_run.specs.Coming.{is_whole, all_watches, IsFirstOf, IsCarriedOut, IsCutOff, HasComeTo, KeepsUp}
use Rattle.tl_script.specs.Asked.{Asking, asked, attached_by, watches_of}
use Rattle.tl_run.specs.Output.{Setting, Progress, start, IsStep, IsOutput, TakesBox, LacksBox}
use Rattle.tl_run.specs.Stops.{AreSaid, IsSaid, IsFront, IsFrontOf, last_text}
use Rattle.tl_script.specs.Causes.{of_script}
use Rattle.tl_run.proofs.LineLaws.{nothing_said, said_written}
use Rattle.tl_run.proofs.OutputLaws.{output_more}
use Rattle.tl_run.proofs.RunLaws.{Ran, cut_there, came_to_want, came_to_fault, came_to_end, end_cut, end_written}

abbrev Known : Type 0
Known = Option (List ℕ)

abbrev Read : Type 0
Read = Result (Option (Command × ℕ)) ScriptFault

-- ---- commands one after the other

by_reading : (bytes : List ℕ) (read : Read) → command_in bytes ≡ read → commands_of bytes ≡ script_by read (λ taken. commands_of (drop taken bytes))
by_reading bytes read e = first_command_then_others bytes ∙ ap (λ (r : Read). script_by r (λ taken. commands_of (drop taken bytes))) e

spelled_first : (c : Command) (behind : List ℕ) → IsCommand c → commands_of (command_text c ++ behind) ≡ onto_script c (commands_of behind)
spelled_first c behind is =
    by_reading (command_text c ++ behind) (Ok (Some (c, length (command_text c)))) (spellings_are_read c behind is) ∙ ap (λ l. onto_script c (commands_of l)) (drop-append_seam (command_text c) behind)

spelled_commands : (before : List Command) (rest : List ℕ) → AllByRecursion IsCommand before → commands_of (script_text before ++ rest) ≡ behind_them before (commands_of rest)
spelled_commands [] rest are = refl
spelled_commands (c ∷ before) rest are =
    ap (λ l. commands_of l) (ap (λ l. l ++ rest) (flat_map-cons command_text c before) ∙ append_assoc (command_text c) (script_text before) rest)
    ∙ spelled_first c (script_text before ++ rest) are.0
    ∙ ap (onto_script c) (spelled_commands before rest are.1)

spelled_more : (before : List Command) (c : Command) → script_text (before ++ c ∷ []) ≡ script_text before ++ command_text c
spelled_more before c = flat_map-append command_text before (c ∷ []) ∙ ap (λ l. script_text before ++ l) (append-nil (command_text c))

all_more : (before : List Command) (c : Command) → AllByRecursion IsCommand before → IsCommand c → AllByRecursion IsCommand (before ++ c ∷ [])
all_more [] c are is = (is, tt)
all_more (d ∷ before) c are is = (are.0, all_more before c are.1 is)

-- no command is whole
none_whole : (rest : List ℕ) (read : Read) → command_in rest ≡ read → is_whole read ≡ false → (commands_of rest).commands ≡ []
none_whole rest (Ok None) e h = ap (λ (s : Script). s.commands) (by_reading rest (Ok None) e)
none_whole rest (Ok (Some read)) e h = absurd cc
none_whole rest (Err fault.BadCommand) e h = absurd cc
none_whole rest (Err fault.Truncated) e h = ap (λ (s : Script). s.commands) (by_reading rest (Err fault.Truncated) e)

-- the commands of what was read up to one that isn't whole
read_commands : (before : List Command) (rest : List ℕ) → AllByRecursion IsCommand before → is_whole (command_in rest) ≡ false → (commands_of (script_text before ++ rest)).commands ≡ before
read_commands before rest are h =
    ap (λ (s : Script). s.commands) (spelled_commands before rest are) ∙ ap (λ cs. before ++ cs) (none_whole rest (command_in rest) refl h) ∙ append-nil before

-- ---- the monitors that they attach

takes_first : (rest : List ℕ) (c : Command) (taken : ℕ) → command_in rest ≡ Ok (Some (c, taken)) → TakesBox (all_watches rest) (asked c) (all_watches (drop taken rest))
takes_first rest c taken e =
    ap (λ (s : Script). watches_of s.commands) (by_reading rest (Ok (Some (c, taken))) e) ∙ flat_map-cons (λ c. attached_by (asked c)) c (commands_of (drop taken rest)).commands

-- One that was made is taken, and then none is left.
pub none_left : (asking : Asking) (boxes after : List Watch) → boxes ≡ [] → TakesBox (boxes ++ attached_by asking) asking after → after ≡ []
none_left asking boxes after none takes =
    append_cancel_left (attached_by asking) after [] (sym takes ∙ ap (λ bs. bs ++ attached_by asking) none ∙ sym (append-nil (attached_by asking)))

pub never_lacks : (asking : Asking) (boxes : List Watch) → boxes ≡ [] → LacksBox (boxes ++ attached_by asking) asking → ⊥
never_lacks asking boxes none lacks = lacks [] (ap (λ bs. bs ++ attached_by asking) none ∙ sym (append-nil (attached_by asking)))

-- ---- a run that came so far

pub record Came (noted : Bool) (setting : Setting) (script rest : List ℕ) (done : ℕ) (now : Progress) (old new : Known) (gathered : List ℕ) : Type 0 where
  pub before : List Command
  pub lines : List ℕ
  pub read : IsRead script rest before done
  pub lawful : AllByRecursion IsCommand before
  pub joins : script ≡ script_text before ++ rest
  pub output : IsOutput setting start before lines now
  pub said : AreSaid noted old new gathered lines

-- It is one that has the monitors that the script attaches.
pub ran_of : (noted : Bool) (setting : Setting) (script rest : List ℕ) (done : ℕ) (now : Progress) (old new : Known) (gathered : List ℕ) → Came noted setting script rest done now old new gathered
    → Ran noted setting script rest done (all_watches script) (all_watches rest) now old new gathered
ran_of noted setting script rest done now old new gathered came = record {
  before = came.before;
  lines = came.lines;
  read = came.read;
  have = ap (λ (s : Script). watches_of s.commands) came.read.splits ∙ flat_map-append (λ c. attached_by (asked c)) came.before (commands_of rest).commands;
  output = came.output;
  said = came.said;
}

-- The same, where what comes is known.
abbrev pub CameBy : Bool → Setting → Known → Known → ℕ → Progress → Known → Known → List ℕ → Type 0
CameBy noted setting None left done now old new gathered = Unit {0}
CameBy noted setting (Some script) None done now old new gathered = ⊥
CameBy noted setting (Some script) (Some rest) done now old new gathered = Came noted setting script rest done now old new gathered

begun : (noted : Bool) (setting : Setting) (known : Known) (now : Progress) (old : Known) (gathered : List ℕ) → now ≡ start → gathered ≡ [] → CameBy noted setting known (all_left [] known) 0 now old old gathered
begun noted setting None now old gathered fresh empty = tt
begun noted setting (Some script) now old gathered fresh empty = record {
  before = [];
  lines = [];
  read = none_read script;
  lawful = tt;
  joins = refl;
  output = (refl, fresh);
  said = ([], tells_nil noted, subst (λ l. IsSaid old old l []) (sym empty) (nothing_said old));
}

pub came_none : (noted : Bool) (setting : Setting) (known : Known) (read : List ℕ) (now : Progress) (old : Known) (gathered : List ℕ) → read ≡ [] → now ≡ start → gathered ≡ []
    → CameBy noted setting known (all_left read known) 0 now old old gathered
came_none noted setting known read now old gathered none fresh empty =
    subst (λ l. CameBy noted setting known (all_left l known) 0 now old old gathered) (sym none) (begun noted setting known now old gathered fresh empty)

pub came_kept : (noted : Bool) (setting : Setting) (known left then : Known) (done : ℕ) (now : Progress) (old new : Known) (gathered : List ℕ) → CameBy noted setting known left done now old new gathered → Keeps left then
    → CameBy noted setting known then done now old new gathered
came_kept noted setting None left then done now old new gathered came kept = tt
came_kept noted setting (Some script) None then done now old new gathered came kept = absurd came
came_kept noted setting (Some script) (Some rest) None done now old new gathered came kept = absurd kept
came_kept noted setting (Some script) (Some rest) (Some again) done now old new gathered came kept = subst (λ l. Came noted setting script l done now old new gathered) (sym kept) came

-- what follows from it where what comes is known
pub by_came : (noted : Bool) (setting : Setting) (known left : Known) (done : ℕ) (now : Progress) (old new : Known) (gathered : List ℕ) (P : List ℕ → Type 0) → CameBy noted setting known left done now old new gathered
    → ((script rest : List ℕ) → Came noted setting script rest done now old new gathered → P script) → IfSome known P
by_came noted setting None left done now old new gathered P came f = tt
by_came noted setting (Some script) None done now old new gathered P came f = absurd came
by_came noted setting (Some script) (Some rest) done now old new gathered P came f = f script rest came

-- The same, where the first of what is left is the first of what was read of it.
pub by_first : (noted : Bool) (setting : Setting) (known : Known) (read : List ℕ) (more : Known) (done : ℕ) (now : Progress) (old new : Known) (gathered : List ℕ) (P : List ℕ → Type 0)
    → CameBy noted setting known (all_left read more) done now old new gathered → IfSome (all_left read more) (IsFirstOf read)
    → ((script rest : List ℕ) → Came noted setting script rest done now old new gathered → command_in rest ≡ command_in read → P script) → IfSome known P
by_first noted setting None read more done now old new gathered P came first f = tt
by_first noted setting (Some script) read None done now old new gathered P came first f = absurd came
by_first noted setting (Some script) read (Some more) done now old new gathered P came first f = f script (read ++ more) came first

-- ---- one command more

one_more : (noted : Bool) (setting : Setting) (script rest : List ℕ) (done : ℕ) (now next : Progress) (old new then : Known) (gathered kept : List ℕ) (c : Command) (taken : ℕ) (line : List ℕ)
    → Came noted setting script rest done now old new gathered → command_in rest ≡ Ok (Some (c, taken)) → IsStep setting now (asked c) line next
    → ((before : List ℕ) → AreSaid noted old new gathered before → AreSaid noted old then kept (before ++ line)) → Came noted setting script (drop taken rest) (done + 1) next old then kept
one_more noted setting script rest done now next old new then gathered kept c taken line came e step told =
    let law = in_starts rest c taken e in
    let behind : drop taken rest ≡ law.rest = ap (λ (n : ℕ). drop n rest) law.long ∙ ap (λ (l : List ℕ). drop (length (command_text c)) l) law.joins ∙ drop-append_seam (command_text c) law.rest in
    let text : rest ≡ command_text c ++ drop taken rest = law.joins ∙ ap (λ (l : List ℕ). command_text c ++ l) (sym behind) in
    record {
      before = came.before ++ c ∷ [];
      lines = came.lines ++ line;
      read = one_read script rest came.before done c taken came.read e;
      lawful = all_more came.before c came.lawful law.lawful;
      joins = came.joins ∙ ap (λ l. script_text came.before ++ l) text ∙ sym (append_assoc (script_text came.before) (command_text c) (drop taken rest)) ∙ ap (λ l. l ++ drop taken rest) (sym (spelled_more came.before c));
      output = output_more setting start came.before came.lines now c line next came.output step;
      said = told came.lines came.said;
    }

pub came_more : (noted : Bool) (setting : Setting) (known : Known) (read : List ℕ) (more : Known) (done : ℕ) (now next : Progress) (old new then : Known) (gathered kept : List ℕ) (c : Command) (taken : ℕ) (line : List ℕ)
    → CameBy noted setting known (all_left read more) done now old new gathered → IfSome (all_left read more) (IsFirstOf read) → command_in read ≡ Ok (Some (c, taken)) → IsStep setting now (asked c) line next
    → ((before : List ℕ) → AreSaid noted old new gathered before → AreSaid noted old then kept (before ++ line)) → CameBy noted setting known (all_left (drop taken read) more) (done + 1) next old then kept
came_more noted setting None read more done now next old new then gathered kept c taken line came first e step told = tt
came_more noted setting (Some script) read None done now next old new then gathered kept c taken line came first e step told = absurd came
came_more noted setting (Some script) read (Some more) done now next old new then gathered kept c taken line came first e step told =
    let law = in_starts read c taken e in
    let front : drop taken (read ++ more) ≡ drop taken read ++ more =
    ap (λ (n : ℕ). drop n (read ++ more)) law.long ∙ ap (λ (l : List ℕ). drop (length (command_text c)) (l ++ more)) law.joins ∙ ap (λ (l : List ℕ). drop (length (command_text c)) l) (append_assoc (command_text c) law.rest more)
    ∙ drop-append_seam (command_text c) (law.rest ++ more)
    ∙ ap (λ (l : List ℕ). l ++ more) (sym (ap (λ (n : ℕ). drop n read) law.long ∙ ap (λ (l : List ℕ). drop (length (command_text c)) l) law.joins ∙ drop-append_seam (command_text c) law.rest)) in
    subst (λ l. Came noted setting script l (done + 1) next old then kept) front (one_more noted setting script (read ++ more) done now next old new then gathered kept c taken line came (first ∙ e) step told)

-- ---- where it ends without an outcome

-- A write failed.
pub came_cut : (noted : Bool) (setting : Setting) (known : Known) (read : List ℕ) (more : Known) (done : ℕ) (now next : Progress) (old new then : Known) (gathered : List ℕ) (c : Command) (taken : ℕ) (line : List ℕ)
    → CameBy noted setting known (all_left read more) done now old new gathered → IfSome (all_left read more) (IsFirstOf read) → command_in read ≡ Ok (Some (c, taken)) → IsStep setting now (asked c) line next
    → ((before : List ℕ) → AreSaid noted old new gathered before → IsFrontOf noted old then (before ++ line)) → IfSome known (IsCutOff noted setting old then)
came_cut noted setting known read more done now next old new then gathered c taken line came first e step told =
    by_first noted setting known read more done now old new gathered (IsCutOff noted setting old then) came first
    (λ script rest so same.
    cut_there noted setting script rest done (all_watches script) (all_watches rest) now old new gathered (ran_of noted setting script rest done now old new gathered so) c taken line next (all_watches (drop taken rest)) then (same ∙ e) step (takes_first rest c taken (same ∙ e)) told)

-- What comes next isn't whole.
keeps_up : (noted : Bool) (setting : Setting) (script read more : List ℕ) (done : ℕ) (now : Progress) (old new : Known) (gathered : List ℕ) → Came noted setting script (read ++ more) done now old new gathered → gathered ≡ []
    → is_whole (command_in read) ≡ false → KeepsUp noted setting (Some more) old new script
keeps_up noted setting script read more done now old new gathered came empty cut = record {
  read = script_text came.before ++ read;
  consumed = came.joins ∙ sym (append_assoc (script_text came.before) read more);
  lines = came.lines;
  next = now;
  output = subst (λ cs. IsOutput setting start cs came.lines now) (sym (read_commands came.before read came.lawful cut)) came.output;
  put = (came.said.0, came.said.1, said_written old new came.said.0 (subst (λ l. IsSaid old new l came.said.0) empty came.said.2));
}

pub came_unread : (noted : Bool) (setting : Setting) (known : Known) (read : List ℕ) (more : Known) (done : ℕ) (now : Progress) (old new : Known) (gathered : List ℕ) → CameBy noted setting known (all_left read more) done now old new gathered
    → gathered ≡ [] → is_whole (command_in read) ≡ false → IfSome known (KeepsUp noted setting more old new)
came_unread noted setting None read more done now old new gathered came empty cut = tt
came_unread noted setting (Some script) read None done now old new gathered came empty cut = absurd came
came_unread noted setting (Some script) read (Some more) done now old new gathered came empty cut = keeps_up noted setting script read more done now old new gathered came empty cut

-- ---- the end is written

pub if_some : (known : Known) (P Q : List ℕ → Type 0) → ((script : List ℕ) → P script → Q script) → IfSome known P → IfSome known Q
if_some None P Q f is = tt
if_some (Some script) P Q f is = f script is

-- ---- its ends

abbrev ended : ℕ → Progress → StopCause → Outcome
ended done now why = record { last_rows = length now.rows; stop = Some (record { cause = why; command = done + 1 }) }

-- Memory is refused.
pub came_want : (noted : Bool) (setting : Setting) (known left : Known) (done : ℕ) (now : Progress) (old new then : Known) (gathered kept : List ℕ) → CameBy noted setting known left done now old new gathered → then ≡ new → kept ≡ gathered
    → IfSome known (HasComeTo noted setting old then kept (ended done now cause.Memory))
came_want noted setting known left done now old new then gathered kept came same stays =
    by_came noted setting known left done now old new gathered (HasComeTo noted setting old then kept (ended done now cause.Memory)) came
    (λ script rest so. came_to_want noted setting script rest done (all_watches script) (all_watches rest) now old new gathered (ran_of noted setting script rest done now old new gathered so) then kept same stays)

-- The same, after as many as are counted.
pub came_last : (noted : Bool) (setting : Setting) (known left : Known) (done count : ℕ) (now : Progress) (old new : Known) (gathered : List ℕ) → CameBy noted setting known left done now old new gathered → count ≡ done + 1
    → IfSome known (HasComeTo noted setting old new gathered (record { last_rows = length now.rows; stop = Some (record { cause = cause.Memory; command = count }) }))
came_last noted setting known left done count now old new gathered came counted =
    subst (λ n. IfSome known (HasComeTo noted setting old new gathered (record { last_rows = length now.rows; stop = Some (record { cause = cause.Memory; command = n }) }))) (sym counted)
    (came_want noted setting known left done now old new new gathered gathered came refl refl)

module _ (noted : Bool) (setting : Setting) (known : Known) (read : List ℕ) (more : Known) (done : ℕ) (now : Progress) (old new : Known) (gathered : List ℕ) (came : CameBy noted setting known (all_left read more) done now old new gathered) (first : IfSome (all_left read more) (IsFirstOf read)) where
  -- The next command is bad, or cut off at the end.
  pub came_fault : (found : ScriptFault) → command_in read ≡ Err found → IfSome known (HasComeTo noted setting old new gathered (ended done now (of_script found)))
  came_fault found e =
      by_first noted setting known read more done now old new gathered (HasComeTo noted setting old new gathered (ended done now (of_script found))) came first
      (λ script rest so same. came_to_fault noted setting script rest done (all_watches script) (all_watches rest) now old new gathered (ran_of noted setting script rest done now old new gathered so) found (same ∙ e))

  -- There is none.
  pub came_end : command_in read ≡ Ok None → IfSome known (HasComeTo noted setting old new gathered (record { last_rows = length now.rows; stop = None }))
  came_end e =
      by_first noted setting known read more done now old new gathered (HasComeTo noted setting old new gathered (record { last_rows = length now.rows; stop = None })) came first
      (λ script rest so same. came_to_end noted setting script rest done (all_watches script) (all_watches rest) now old new gathered (ran_of noted setting script rest done now old new gathered so) (same ∙ e))

module _ (noted : Bool) (setting : Setting) (known old now then : Known) (gathered notes : List ℕ) (outcome : Outcome) (come : IfSome known (HasComeTo noted setting old now gathered outcome)) (none : Tells noted [] notes) where
  pub coming_cut : ((lines : List ℕ) → IsSaid old now gathered lines → IsFront old then (lines ++ (last_text outcome.stop ++ notes))) → IfSome known (IsCutOff noted setting old then)
  coming_cut front =
      if_some known (HasComeTo noted setting old now gathered outcome) (IsCutOff noted setting old then) (λ script so. end_cut noted setting script (all_watches script) old now then gathered notes outcome so none front) come

  pub coming_written : ((lines : List ℕ) → IsSaid old now gathered lines → Appends old then (lines ++ (last_text outcome.stop ++ notes))) → IfSome known (IsCarriedOut noted setting outcome old then)
  coming_written written =
      if_some known (HasComeTo noted setting old now gathered outcome) (IsCarriedOut noted setting outcome old then) (λ script so. end_written noted setting script (all_watches script) old now then gathered notes outcome so none written) come
