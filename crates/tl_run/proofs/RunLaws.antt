-- A run from one command to the next, and to its end.
use Rattle.std.proofs.Common.{Bool, false, ◌≡◌, ℕ, ◌+◌, ◌-◌, ◌<◌, List, [], ◌∷◌, ◌++◌, append_assoc, append-nil, length, take, drop, Option, Some, None, Ok, Err, refl, sym, ap, ◌∙◌, subst, arith}
use Rattle.std.proofs.Math.Seq.{take-length}
use Rattle.std.specs.Option.{option_map}
use Rattle.std.specs.Prelude.{slice_get}
use Rattle.std.proofs.lemmas.Grind.{flat_map-append}
use Rattle.std.proofs.lemmas.Option.{same_Some}
use Rattle.std.specs.Io.KnownBytes.{Appends}
use Rattle.tl_script.specs.declared.command.Command.{Command}
use Rattle.tl_script.specs.declared.fault.ScriptFault.{ScriptFault}
use Rattle.tl_script.specs.Reading.{command_in}
use Rattle.tl_script.specs.Scripts.{Script, commands_of, fault_of}
use Rattle.tl_script.proofs.ReadCommands.{IsRead, none_read, one_read, all_read, fault_read, first_are, few_are}
use Rattle.tl_beats.specs.declared.watch.Watch.{Watch}
use Rattle.tl_script.specs.Asked.{asked, attached_by, watches_of}
use Rattle.tl_run.specs.Output.{Setting, Progress, start, IsStep, IsOutput, TakesBox, LacksBox}
use Rattle.tl_script.specs.Text.{IsCommand}
use Rattle.tl_script.proofs.CommandTexts.{reads_are_spelled}
use Rattle.tl_script.specs.declared.fault.ScriptFault.TheVariants as fault
use Rattle.tl_script.specs.declared.stop.Outcome.{Outcome}
use Rattle.tl_script.specs.declared.stop.Stop.{Stop}
use Rattle.tl_script.specs.declared.stop.StopCause.{StopCause}
use Rattle.tl_script.specs.declared.stop.StopCause.TheVariants as cause
use Rattle.tl_run.specs.Stops.{HaveBoxes, IsUnboxed, IsSaid, IsFront, AreSaid, IsFrontOf, IsCut, IsCutAs, IsCutBy, IsWritten, IsWrittenAs, HasCome, Stops, StopsFor, commands_before, last_text}
use Rattle.tl_script.specs.Causes.{of_script}
use Rattle.tl_check.specs.Notes.{Tells}
use Rattle.tl_check.proofs.NoteLaws.{tells_nil, tells_more, put_plain}
use Rattle.tl_run.proofs.LineLaws.{nothing_said, last_tells}
use Rattle.tl_run.proofs.OutputLaws.{output_more}

-- ---- and their lines

-- the monitors that one command more leaves
have_more : (boxes left after : List Watch) (before : List Command) (c : Command) → boxes ≡ watches_of before ++ left → TakesBox left (asked c) after → boxes ≡ watches_of (before ++ c ∷ []) ++ after
have_more boxes left after before c have takes =
    have
    ∙ ap (λ ws. watches_of before ++ ws) takes
    ∙ sym (append_assoc (watches_of before) (attached_by (asked c)) after)
    ∙ ap (λ ws. ws ++ after) (ap (λ ws. watches_of before ++ ws) (sym (append-nil (attached_by (asked c)))) ∙ sym (flat_map-append (λ c. attached_by (asked c)) before (c ∷ [])))

-- A run up to some command: what was read, the lines of it, where they are, and the monitors that are left.
pub record Ran (noted : Bool) (setting : Setting) (script rest : List ℕ) (done : ℕ) (boxes left : List Watch) (now : Progress) (old new : Option (List ℕ)) (gathered : List ℕ) : Type 0 where
  pub before : List Command
  pub lines : List ℕ
  pub read : IsRead script rest before done
  pub have : boxes ≡ watches_of before ++ left
  pub output : IsOutput setting start before lines now
  pub said : AreSaid noted old new gathered lines

pub ran_none : (noted : Bool) (setting : Setting) (script gathered : List ℕ) (boxes : List Watch) (now : Progress) (old : Option (List ℕ)) → now ≡ start → gathered ≡ [] → Ran noted setting script script 0 boxes boxes now old old gathered
ran_none noted setting script gathered boxes now old fresh empty = record {
  before = [];
  lines = [];
  read = none_read script;
  have = refl;
  output = (refl, fresh);
  said = ([], tells_nil noted, subst (λ l. IsSaid old old l []) (sym empty) (nothing_said old));
}

pub ran_more : (noted : Bool) (setting : Setting) (script rest : List ℕ) (done : ℕ) (boxes left after : List Watch) (now next : Progress) (old new then : Option (List ℕ)) (gathered kept : List ℕ) (c : Command) (taken : ℕ) (line : List ℕ)
    → (ran : Ran noted setting script rest done boxes left now old new gathered) → command_in rest ≡ Ok (Some (c, taken)) → IsStep setting now (asked c) line next → TakesBox left (asked c) after
    → ((before : List ℕ) → AreSaid noted old new gathered before → AreSaid noted old then kept (before ++ line)) → Ran noted setting script (drop taken rest) (done + 1) boxes after next old then kept
ran_more noted setting script rest done boxes left after now next old new then gathered kept c taken line ran e step takes told = record {
  before = ran.before ++ c ∷ [];
  lines = ran.lines ++ line;
  read = one_read script rest ran.before done c taken ran.read e;
  have = have_more boxes left after ran.before c ran.have takes;
  output = output_more setting start ran.before ran.lines now c line next ran.output step;
  said = told ran.lines ran.said;
}

one_back : (n : ℕ) → (n + 1) - 1 ≡ n
one_back n = omega arith

-- what stands after so many others is found at their number
got_there : {X : Type 0} (before : List X) (x : X) (rest : List X) (count : ℕ) → length before ≡ count → slice_get ((before ++ x ∷ []) ++ rest) count ≡ Some x
got_there {X} before x rest count counted = ap (slice_get ((before ++ x ∷ []) ++ rest)) (sym counted) ∙ go before
  where
    go : (xs : List X) → slice_get ((xs ++ x ∷ []) ++ rest) (length xs) ≡ Some x
    go [] = refl
    go (y ∷ ys) = go ys

-- ---- the ends of a run

module _ (noted : Bool) (setting : Setting) (script rest : List ℕ) (done : ℕ) (boxes left : List Watch) (now : Progress) (old new : Option (List ℕ)) (gathered : List ℕ) (ran : Ran noted setting script rest done boxes left now old new gathered) where
  -- the lines of the commands before this one
  so_far : IsOutput setting start (take ((done + 1) - 1) (commands_of script).commands) ran.lines now
  so_far = subst (λ cs. IsOutput setting start cs ran.lines now) (sym (ap (λ n. take n (commands_of script).commands) (one_back done) ∙ first_are script rest ran.before done ran.read)) ran.output

  abbrev have_so_far : HaveBoxes boxes (take ((done + 1) - 1) (commands_of script).commands)
  have_so_far = (left, ran.have ∙ ap (λ cs. watches_of cs ++ left) (sym (ap (λ n. take n (commands_of script).commands) (one_back done) ∙ first_are script rest ran.before done ran.read)))

  faulty : (found : ScriptFault) → fault_of (commands_of script) ≡ Some (done + 1, found) → StopsFor boxes (commands_of script) (of_script found) (done + 1)
  faulty fault.BadCommand e = e
  faulty fault.Truncated e = e

  pub came_to_fault : (found : ScriptFault) → command_in rest ≡ Err found → HasCome noted setting (commands_of script) boxes old new gathered (record { last_rows = length now.rows; stop = Some (record { cause = of_script found; command = done + 1 }) })
  came_to_fault found e = record {
    stops = faulty found (fault_read script rest ran.before done found ran.read e).1;
    have = have_so_far;
    lines = ran.lines;
    next = now;
    output = so_far;
    rows = refl;
    said = ran.said;
  }

  pub came_to_end : command_in rest ≡ Ok None → HasCome noted setting (commands_of script) boxes old new gathered (record { last_rows = length now.rows; stop = None })
  came_to_end e =
      let all = all_read script rest ran.before done ran.read e in
      record {
        stops = all.1;
        have = (left, ran.have ∙ ap (λ cs. watches_of cs ++ left) (sym all.0));
        lines = ran.lines;
        next = now;
        output = subst (λ cs. IsOutput setting start cs ran.lines now) (sym all.0) ran.output;
        rows = refl;
        said = ran.said;
      }

  pub came_to_want : (then : Option (List ℕ)) (kept : List ℕ) → then ≡ new → kept ≡ gathered → HasCome noted setting (commands_of script) boxes old then kept (record { last_rows = length now.rows; stop = Some (record { cause = cause.Memory; command = done + 1 }) })
  came_to_want then kept same stays =
      let few = few_are script rest ran.before done ran.read in
      record {
        stops = (omega arith, omega (arith, few));
        have = have_so_far;
        lines = ran.lines;
        next = now;
        output = so_far;
        rows = refl;
        said = subst (λ l. AreSaid noted old then l ran.lines) (sym stays) (subst (λ o. AreSaid noted old o gathered ran.lines) (sym same) ran.said);
      }

  -- the command that lacks its monitor
  unboxed : (c : Command) (taken : ℕ) → command_in rest ≡ Ok (Some (c, taken)) → LacksBox left (asked c) → IsUnboxed boxes (commands_of script) (done + 1)
  unboxed c taken e lacks =
      let read = one_read script rest ran.before done c taken ran.read e in
      let whole : (commands_of script).commands ≡ (ran.before ++ c ∷ []) ++ (commands_of (drop taken rest)).commands = ap (λ (s : Script). s.commands) read.splits in
      record {
        some = omega arith;
        it = c;
        at = ap (slice_get (commands_of script).commands) (one_back done) ∙ ap (λ cs. slice_get cs done) whole ∙ got_there ran.before c (commands_of (drop taken rest)).commands done ran.read.counted;
        left = left;
        others = have_so_far.1;
        lacks = lacks;
      }

  pub came_to_lack : (c : Command) (taken : ℕ) (then : Option (List ℕ)) (kept : List ℕ) → command_in rest ≡ Ok (Some (c, taken)) → LacksBox left (asked c) → then ≡ new → kept ≡ gathered
      → HasCome noted setting (commands_of script) boxes old then kept (record { last_rows = length now.rows; stop = Some (record { cause = cause.WrongBox; command = done + 1 }) })
  came_to_lack c taken then kept e lacks same stays = record {
    stops = unboxed c taken e lacks;
    have = have_so_far;
    lines = ran.lines;
    next = now;
    output = so_far;
    rows = refl;
    said = subst (λ l. AreSaid noted old then l ran.lines) (sym stays) (subst (λ o. AreSaid noted old o gathered ran.lines) (sym same) ran.said);
  }

  pub lawful : (c : Command) (taken : ℕ) → command_in rest ≡ Ok (Some (c, taken)) → IsCommand c
  lawful c taken e = (reads_are_spelled rest c taken e).0

  pub cut_there : (c : Command) (taken : ℕ) (line : List ℕ) (next : Progress) (after : List Watch) (then : Option (List ℕ)) → command_in rest ≡ Ok (Some (c, taken)) → IsStep setting now (asked c) line next → TakesBox left (asked c) after
      → ((before : List ℕ) → AreSaid noted old new gathered before → IsFrontOf noted old then (before ++ line)) → IsCutAs noted setting (commands_of script) boxes old then
  cut_there c taken line next after then e step takes told =
      let read = one_read script rest ran.before done c taken ran.read e in
      let whole : take (done + 1) (commands_of script).commands ≡ ran.before ++ c ∷ [] = first_are script (drop taken rest) (ran.before ++ c ∷ []) (done + 1) read in
      record {
        count = done + 1;
        have = (after, have_more boxes left after ran.before c ran.have takes ∙ ap (λ cs. watches_of cs ++ after) (sym whole));
        lines = ran.lines ++ line;
        next = next;
        output = subst (λ cs. IsOutput setting start cs (ran.lines ++ line) next) (sym whole) (output_more setting start ran.before ran.lines now c line next ran.output step);
        stop = None;
        stops = tt;
        front = subst (λ l. IsFrontOf noted old then l) (sym (append-nil (ran.lines ++ line))) (told ran.lines ran.said);
      }

-- Without memory for a run, nothing is said.
pub came_to_nothing : (noted : Bool) (setting : Setting) (script gathered : List ℕ) (boxes : List Watch) (old : Option (List ℕ)) → gathered ≡ []
    → HasCome noted setting (commands_of script) boxes old old gathered (record { last_rows = 0; stop = Some (record { cause = cause.Memory; command = 0 + 1 }) })
came_to_nothing noted setting script gathered boxes old empty = record {
  stops = (omega arith, omega arith);
  have = (boxes, refl);
  lines = [];
  next = start;
  output = (refl, refl);
  rows = refl;
  said = ([], tells_nil noted, subst (λ l. IsSaid old old l []) (sym empty) (nothing_said old));
}

-- ---- the end is written

by_fault : (commands : ℕ) (found : Option ScriptFault) (command : ℕ) (why : ScriptFault) → option_map (λ f. (let p : ℕ × ScriptFault = (commands + 1, f) in p)) found ≡ Some (command, why) → 0 < command
by_fault commands None command why e = absurd cc
by_fault commands (Some f) command why e = let n : commands + 1 ≡ command = ap (λ (p : ℕ × ScriptFault). p.0) (same_Some _ _ e) in omega (arith, n)

numbered_from_1 : (boxes : List Watch) (script : Script) (why : StopCause) (command : ℕ) → StopsFor boxes script why command → 0 < command
numbered_from_1 boxes script cause.Memory command h = h.0
numbered_from_1 boxes script cause.BadCommand command h = by_fault (length script.commands) script.fault command fault.BadCommand h
numbered_from_1 boxes script cause.Truncated command h = by_fault (length script.commands) script.fault command fault.Truncated h
numbered_from_1 boxes script cause.WrongBox command h = h.some

module _ (Front : List ℕ → Type 0) (setting : Setting) (script : Script) (boxes : List Watch) (lines : List ℕ) (next : Progress) where
  cut_by : (stop : Option Stop) → Stops boxes script stop → HaveBoxes boxes (commands_before script stop) → IsOutput setting start (commands_before script stop) lines next → Front (lines ++ last_text stop) → IsCutBy Front setting script boxes
  cut_by None stops have output front = record {
    count = length script.commands;
    have = subst (HaveBoxes boxes) (sym (take-length script.commands)) have;
    lines = lines;
    next = next;
    output = subst (λ cs. IsOutput setting start cs lines next) (sym (take-length script.commands)) output;
    stop = None;
    stops = tt;
    front = front;
  }
  cut_by (Some stop) stops have output front = record {
    count = stop.command - 1;
    have = have;
    lines = lines;
    next = next;
    output = output;
    stop = Some stop;
    stops = (stops, (let some = numbered_from_1 boxes script stop.cause stop.command stops in omega (arith, some)));
    front = front;
  }

module _ (noted : Bool) (setting : Setting) (script : List ℕ) (boxes : List Watch) (old now then : Option (List ℕ)) (gathered notes : List ℕ) (outcome : Outcome) (come : HasCome noted setting (commands_of script) boxes old now gathered outcome)
    (none : Tells noted [] notes) where
  -- what tells the lines, and after them the line of the stop with its notes
  told : Tells noted (come.lines ++ last_text outcome.stop) (come.said.0 ++ (last_text outcome.stop ++ notes))
  told = tells_more noted come.lines (last_text outcome.stop) come.said.0 (last_text outcome.stop ++ notes) come.said.1 (last_tells noted outcome.stop notes none)

  pub end_cut : ((lines : List ℕ) → IsSaid old now gathered lines → IsFront old then (lines ++ (last_text outcome.stop ++ notes))) → IsCutAs noted setting (commands_of script) boxes old then
  end_cut front =
      cut_by (IsFrontOf noted old then) setting (commands_of script) boxes come.lines come.next outcome.stop come.stops come.have come.output (come.said.0 ++ (last_text outcome.stop ++ notes), told, front come.said.0 come.said.2)

  pub end_written : ((lines : List ℕ) → IsSaid old now gathered lines → Appends old then (lines ++ (last_text outcome.stop ++ notes))) → IsWrittenAs noted setting script boxes outcome old then
  end_written written = (
    come.lines ++ last_text outcome.stop,
    (come.next, record { stops = come.stops; have = come.have; lines = come.lines; output = come.output; text_is = refl }, come.rows),
    (come.said.0 ++ (last_text outcome.stop ++ notes), told, written come.said.0 come.said.2),
  )

-- ---- what is written without notes

pub plain_written : (setting : Setting) (script : List ℕ) (boxes : List Watch) (outcome : Outcome) (old new : Option (List ℕ)) → IsWrittenAs false setting script boxes outcome old new → IsWritten setting script boxes outcome old new
plain_written setting script boxes outcome old new (text, is, put) = (text, is, put_plain old new text put)

plain_front : (old new : Option (List ℕ)) (lines : List ℕ) → IsFrontOf false old new lines → IsFront old new lines
plain_front old new lines front = subst (IsFront old new) front.1 front.2

pub plain_cut : (setting : Setting) (script : Script) (boxes : List Watch) (old new : Option (List ℕ)) → IsCutAs false setting script boxes old new → IsCut setting script boxes old new
plain_cut setting script boxes old new cut = record {
  count = cut.count;
  have = cut.have;
  lines = cut.lines;
  next = cut.next;
  output = cut.output;
  stop = cut.stop;
  stops = cut.stops;
  front = plain_front old new (cut.lines ++ last_text cut.stop) cut.front;
}

-- ---- the edits of a script
