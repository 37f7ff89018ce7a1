-- The first command of a script is read as it is spelled.
use Rattle.std.proofs.Common.{◌≡◌, ℕ, suc, ◌+◌, ◌<◌, ◌≤◌, Bool, true, false, cond, ltb, List, [], ◌∷◌, ◌++◌, append_assoc, append-nil, length, length-append, length-take, take, drop, Option, Some, None, Result, Ok, Err, refl, sym, ap, ◌∙◌, subst, arith}
use Rattle.std.specs.Prelude.{codes, option_map, IfOk, IfSome}
use Rattle.std.specs.Str.{bytes_eq}
use Rattle.std.proofs.lemmas.Option.{none-some, same_Some}
use Rattle.std.proofs.lemmas.Bool.{le-ltb, ltb-false}
use Rattle.std.proofs.lemmas.List.{take-append-drop}
use Rattle.std.proofs.Math.Seq.{take-append_seam}
use Rattle.tl_text.specs.Words.{◌␣◌, ended, word_at, line_at, cut}
use Rattle.tl_text.specs.Numbers.{number_at, numeral}
use Rattle.tl_text.specs.Readings.{◌>>>◌, or_fault}
use Rattle.tl_text.proofs.Cuts.{is_free, cut_again, cut_takes, word_again, word_takes}
use Rattle.tl_text.proofs.Numerals.{number_takes, number_again}
use Rattle.tl_topology.proofs.LineLaws.{same_text}
use Rattle.tl_script.specs.declared.command.Command.{Command}
use Rattle.tl_script.specs.declared.command.Command.TheVariants as command
use Rattle.tl_script.specs.declared.fault.ScriptFault.{ScriptFault}
use Rattle.tl_script.specs.declared.fault.ScriptFault.TheVariants as fault
use Rattle.tl_script.specs.Commands.{bytes_of}
use Rattle.tl_script.specs.Lines.{order_at}
use Rattle.tl_script.specs.Reading.{carried_at, command_behind, command_in}
use Rattle.tl_script.specs.Text.{permits_text, watch_text, line_of, command_text, IsCommand}
use Rattle.tl_script.specs.Laws.{SpellingsAreRead, ReadsAreSpelled, SpellingsTellCommandsApart}
use Rattle.tl_script.proofs.WordTexts.{joined}
use Rattle.tl_script.proofs.LineTexts.{order_takes, withdraw_again, clear_again, region_again, unregion_again, attach_again, retune_again, detach_again, line_free}

-- ---- a reading that found something

pub then_ok : {A B : Type 0} (r : Result A ScriptFault) (f : A → Result B ScriptFault) (y : B) → (r >>> f) ≡ Ok y → (x : A) × (r ≡ Ok x) × (f x ≡ Ok y)
then_ok (Ok x) f y e = (x, refl, e)
then_ok (Err found) f y e = absurd cc

pub given_ok : {A : Type 0} (o : Option A) (found : ScriptFault) (x : A) → or_fault o found ≡ Ok x → o ≡ Some x
given_ok None found x e = absurd cc
given_ok (Some y) found x e = cc

same_Ok : {A : Type 0} (x y : A) → ◌≡◌ {A = Result A ScriptFault} (Ok x) (Ok y) → x ≡ y
same_Ok x y e = cc

-- ---- the bytes after a line

record Carries (number behind text : List ℕ) : Type 0 where
  spelled : number ≡ numeral 10 (length text)
  short : length text ≤ 8388608
  rest : List ℕ
  joins : behind ≡ text ++ rest

taken_ok : (t : Bool) (text found : List ℕ) → cond t (Err fault.Truncated) (Ok text) ≡ Ok found → (t ≡ false) × (text ≡ found)
taken_ok true text found e = absurd cc
taken_ok false text found e = (refl, same_Ok text found e)

carried_takes : (number behind text : List ℕ) → carried_at number behind ≡ Ok text → Carries number behind text
carried_takes number behind text e =
    let found = then_ok (or_fault (number_at 10 8388608 number) fault.BadCommand) _ text e in
    let count : ℕ = found.0 in
    let is = number_takes 10 8388608 number count (omega arith) (omega arith) (given_ok (number_at 10 8388608 number) fault.BadCommand count found.1) in
    let enough = taken_ok (ltb (length behind) count) (take count behind) text found.2 in
    let long : length (take count behind) ≡ count = omega (arith, length-take count behind, ltb-false (length behind) count enough.0) in
    subst (λ (l : List ℕ). Carries number behind l) enough.1
    (record { spelled = is.0 ∙ ap (numeral 10) (sym long); short = omega (arith, long, is.1); rest = drop count behind; joins = sym (take-append-drop count behind) })

carried_again : (text rest : List ℕ) → length text ≤ 8388608 → carried_at (numeral 10 (length text)) (text ++ rest) ≡ Ok text
carried_again text rest short =
    let n = number_again 10 8388608 (length text) (omega arith) (omega arith) short (omega arith) in
    let enough : ltb (length (text ++ rest)) (length text) ≡ false = le-ltb (length (text ++ rest)) (length text) (omega (arith, length-append text rest)) in
    let front : take (length text) (text ++ rest) ≡ text = take-append_seam text rest in
    rw (n, enough, front) refl

-- ---- the command of a line

pub record Reads (line behind : List ℕ) (c : Command) : Type 0 where
  pub spelled : line ≡ line_of c
  pub lawful : IsCommand c
  pub rest : List ℕ
  pub joins : behind ≡ bytes_of c ++ rest

abbrev pub by_word : Bool → Bool → List ℕ → List ℕ → List ℕ → Result Command ScriptFault
by_word s t kind words behind =
    cond s (carried_at words behind >>> λ text. Ok (command.Add text)) (cond t (carried_at words behind >>> λ text. Ok (command.Replace text)) (or_fault (order_at kind words) fault.BadCommand))

word_reads : (s t : Bool) (line kind words behind : List ℕ) (c : Command) → line ≡ kind ++ 32 ∷ words → (s ≡ true → kind ≡ codes "add") → (t ≡ true → kind ≡ codes "replace")
    → by_word s t kind words behind ≡ Ok c → Reads line behind c
unfolding line_of IsCommand
word_reads true t line kind words behind c e p q k =
    let found = then_ok (carried_at words behind) (λ text. Ok (command.Add text)) c k in
    let law = carried_takes words behind found.0 found.1 in
    subst (λ (x : Command). Reads line behind x) (same_Ok (command.Add found.0) c found.2)
    (record { spelled = joined _ _ _ _ _ e (p refl) law.spelled; lawful = law.short; rest = law.rest; joins = law.joins })
word_reads false true line kind words behind c e p q k =
    let found = then_ok (carried_at words behind) (λ text. Ok (command.Replace text)) c k in
    let law = carried_takes words behind found.0 found.1 in
    subst (λ (x : Command). Reads line behind x) (same_Ok (command.Replace found.0) c found.2)
    (record { spelled = joined _ _ _ _ _ e (q refl) law.spelled; lawful = law.short; rest = law.rest; joins = law.joins })
word_reads false false line kind words behind c e p q k =
    let law = order_takes kind words c (given_ok (order_at kind words) fault.BadCommand c k) in
    record { spelled = e ∙ law.spelled; lawful = law.lawful; rest = behind; joins = ap (λ (l : List ℕ). l ++ behind) (sym law.bare) }

abbrev pub by_line : Bool → List ℕ → List ℕ → Result Command ScriptFault
by_line t line behind = cond t (Ok command.Publish) (or_fault (word_at line) fault.BadCommand >>> λ kind. by_word (bytes_eq kind.0 (codes "add")) (bytes_eq kind.0 (codes "replace")) kind.0 kind.1 behind)

line_reads : (t : Bool) (line behind : List ℕ) (c : Command) → (t ≡ true → line ≡ codes "publish") → by_line t line behind ≡ Ok c → Reads line behind c
unfolding line_of IsCommand
line_reads true line behind c p e = subst (λ (x : Command). Reads line behind x) (same_Ok command.Publish c e) (record { spelled = p refl; lawful = tt; rest = behind; joins = refl })
line_reads false line behind c p e =
    let kind = then_ok (or_fault (word_at line) fault.BadCommand) _ c e in
    let word = kind.0 in
    let joins = word_takes line word.0 word.1 (given_ok (word_at line) fault.BadCommand word kind.1) in
    word_reads (bytes_eq word.0 (codes "add")) (bytes_eq word.0 (codes "replace")) line word.0 word.1 behind c joins (λ h. same_text word.0 (codes "add") h) (λ h. same_text word.0 (codes "replace") h) kind.2

pub behind_takes : (line behind : List ℕ) (c : Command) → command_behind line behind ≡ Ok c → Reads line behind c
unfolding command_behind
behind_takes line behind c e = line_reads (bytes_eq line (codes "publish")) line behind c (λ h. same_text line (codes "publish") h) e

pub behind_again : (c : Command) (rest : List ℕ) → IsCommand c → command_behind (line_of c) (bytes_of c ++ rest) ≡ Ok c
unfolding command_behind line_of IsCommand
behind_again (command.Add text) rest is = rw (word_again (codes "add") (numeral 10 (length text)) refl, carried_again text rest is) refl
behind_again (command.Replace text) rest is = rw (word_again (codes "replace") (numeral 10 (length text)) refl, carried_again text rest is) refl
behind_again (command.Withdraw link number) rest is = rw (word_again (codes "withdraw") (link ␣ numeral 10 number) refl, withdraw_again link number is.0 is.1) refl
behind_again (command.Clear link) rest is = rw (word_again (codes "clear") link refl, clear_again link is) refl
behind_again (command.SetRegion manager number area) rest is =
    rw (word_again (codes "region") (manager ␣ numeral 10 number ␣ numeral 16 area.first ␣ numeral 16 area.last ␣ permits_text area.permits) refl, region_again manager number area is.0 is.1 is.2) refl
behind_again (command.RemoveRegion manager number) rest is = rw (word_again (codes "unregion") (manager ␣ numeral 10 number) refl, unregion_again manager number is.0 is.1) refl
behind_again (command.Attach number watch) rest is = rw (word_again (codes "attach") (numeral 10 number ␣ watch_text watch) refl, attach_again number watch is.0 is.1) refl
behind_again (command.Retune number limit) rest is = rw (word_again (codes "retune") (numeral 10 number ␣ numeral 10 limit) refl, retune_again number limit is.0 is.1) refl
behind_again (command.Detach number) rest is = rw (word_again (codes "detach") (numeral 10 number) refl, detach_again number is) refl
behind_again command.Publish rest is = refl

-- ---- the command at the front

abbrev pub Found : Type 0
Found = Option (Command × ℕ)

abbrev pub Line : Type 0
Line = List ℕ × List ℕ

-- what a line and what follows it are read as
abbrev pub line_found : Line → Result Found ScriptFault
line_found line = command_behind line.0 line.1 >>> λ c. Ok (Some (c, length line.0 + 1 + length (bytes_of c)))

pub line_in : (bytes : List ℕ) (line : Line) → line_at bytes ≡ Some line → command_in bytes ≡ line_found line
unfolding command_in line_at
line_in [] line e = absurd (none-some line e)
line_in (b ∷ bytes) line e = rw e refl

pub line_again : (line behind : List ℕ) → is_free 10 line ≡ true → line_at (line ++ 10 ∷ behind) ≡ Some (line, behind)
unfolding line_at
line_again line behind free = rw (cut_again 10 line behind free) refl

ended_more : (line text rest : List ℕ) → (ended line ++ text) ++ rest ≡ line ++ 10 ∷ (text ++ rest)
ended_more line text rest = append_assoc (ended line) text rest ∙ append_assoc line (10 ∷ []) (text ++ rest)

text_long : (c : Command) → length (command_text c) ≡ length (line_of c) + 1 + length (bytes_of c)
text_long c = omega (arith, length-append (ended (line_of c)) (bytes_of c), length-append (line_of c) (10 ∷ []))

pub spellings_are_read : SpellingsAreRead
spellings_are_read c rest is =
    let line : command_text c ++ rest ≡ line_of c ++ 10 ∷ (bytes_of c ++ rest) = ended_more (line_of c) (bytes_of c) rest in
    let read : command_in (line_of c ++ 10 ∷ (bytes_of c ++ rest)) ≡ line_found (line_of c, bytes_of c ++ rest) = line_in _ (line_of c, bytes_of c ++ rest) (line_again (line_of c) (bytes_of c ++ rest) (line_free c is)) in
    let found : line_found (line_of c, bytes_of c ++ rest) ≡ Ok (Some (c, length (line_of c) + 1 + length (bytes_of c))) = rw (behind_again c rest is) refl in
    ap command_in line ∙ read ∙ found ∙ ap (λ (n : ℕ). Ok (Some (c, n))) (sym (text_long c))

line_from : (before : List ℕ) (after : Option (List ℕ)) (line : Line) → ◌≡◌ {A = Option Line} (option_map (λ (r : List ℕ). (before, r)) after) (Some line) → ◌≡◌ {A = List ℕ × Option (List ℕ)} (before, after) (line.0, Some line.1)
line_from before None line e = absurd cc
line_from before (Some r) line e =
    let p : ◌≡◌ {A = Line} (before, r) line = same_Some _ _ e in
    ap (λ (q : Line). (q.0, Some q.1)) p

line_takes : (bytes : List ℕ) (line : Line) → line_at bytes ≡ Some line → bytes ≡ line.0 ++ 10 ∷ line.1
unfolding line_at
line_takes bytes line e = cut_takes 10 bytes line.0 line.1 (line_from (cut 10 bytes).0 (cut 10 bytes).1 line e)

pub record Starts (bytes : List ℕ) (c : Command) (taken : ℕ) : Type 0 where
  pub lawful : IsCommand c
  pub long : taken ≡ length (command_text c)
  pub rest : List ℕ
  pub joins : bytes ≡ command_text c ++ rest

found_starts : (bytes : List ℕ) (line : Line) (c : Command) (taken : ℕ) → bytes ≡ line.0 ++ 10 ∷ line.1 → line_found line ≡ Ok (Some (c, taken)) → Starts bytes c taken
found_starts bytes line c taken joins e =
    let found = then_ok (command_behind line.0 line.1) _ _ e in
    let law = behind_takes line.0 line.1 found.0 found.1 in
    let both : ◌≡◌ {A = Command × ℕ} (found.0, length line.0 + 1 + length (bytes_of found.0)) (c, taken) = same_Some _ _ (same_Ok _ _ found.2) in
    let text : line.0 ++ 10 ∷ line.1 ≡ command_text found.0 ++ law.rest =
    ap (λ (l : List ℕ). l ++ 10 ∷ line.1) law.spelled ∙ ap (λ (l : List ℕ). line_of found.0 ++ 10 ∷ l) law.joins ∙ sym (ended_more (line_of found.0) (bytes_of found.0) law.rest) in
    let counted : length line.0 + 1 + length (bytes_of found.0) ≡ length (command_text found.0) = ap (λ (l : List ℕ). length l + 1 + length (bytes_of found.0)) law.spelled ∙ sym (text_long found.0) in
    subst (λ (x : Command × ℕ). Starts bytes x.0 x.1) both (record { lawful = law.lawful; long = counted; rest = law.rest; joins = joins ∙ text })

pub in_starts : (bytes : List ℕ) (c : Command) (taken : ℕ) → command_in bytes ≡ Ok (Some (c, taken)) → Starts bytes c taken
unfolding command_in
in_starts [] c taken e = absurd cc
in_starts (b ∷ bytes) c taken e =
    let line = then_ok (or_fault (line_at (b ∷ bytes)) fault.Truncated) _ _ e in
    let is = given_ok (line_at (b ∷ bytes)) fault.Truncated line.0 line.1 in
    found_starts (b ∷ bytes) line.0 c taken (line_takes (b ∷ bytes) line.0 is) line.2

pub reads_are_spelled : ReadsAreSpelled
reads_are_spelled bytes c taken e =
    let law = in_starts bytes c taken e in
    (law.lawful, law.long, (law.rest, law.joins))

nothing_left : (text rest : List ℕ) → length (text ++ rest) ≡ length text → rest ≡ []
nothing_left text [] e = refl
nothing_left text (b ∷ rest) e = absurd (omega (arith, e, length-append text (b ∷ rest)))

pub spellings_tell_commands_apart : SpellingsTellCommandsApart
spellings_tell_commands_apart c d rest first second e =
    let one : command_in (command_text d) ≡ Ok (Some (c, length (command_text c))) = ap command_in e ∙ spellings_are_read c rest first in
    let two : command_in (command_text d) ≡ Ok (Some (d, length (command_text d))) = ap command_in (sym (append-nil (command_text d))) ∙ spellings_are_read d [] second in
    let both : ◌≡◌ {A = Command × ℕ} (c, length (command_text c)) (d, length (command_text d)) = same_Some _ _ (same_Ok _ _ (sym one ∙ two)) in
    let same_length : length (command_text c) ≡ length (command_text d) = ap (λ (p : Command × ℕ). p.1) both in
    (ap (λ (p : Command × ℕ). p.0) both, nothing_left (command_text c) rest (ap (λ (l : List ℕ). length l) (sym e) ∙ sym same_length))

-- ---- how many bytes are taken

pub takes_some : (bytes : List ℕ) (c : Command) (taken : ℕ) → command_in bytes ≡ Ok (Some (c, taken)) → (0 < taken) × (taken ≤ length bytes)
takes_some bytes c taken e =
    let law = in_starts bytes c taken e in
    let whole : length bytes ≡ length (command_text c) + length law.rest = ap (λ (l : List ℕ). length l) law.joins ∙ length-append (command_text c) law.rest in
    (omega (arith, law.long, text_long c), omega (arith, law.long, whole))

-- the line and its bytes fit into what is left
pub line_fits : (bytes line behind : List ℕ) (c : Command) → bytes ≡ line ++ 10 ∷ behind → command_behind line behind ≡ Ok c → length line + 1 + length (bytes_of c) ≤ length bytes
line_fits bytes line behind c e k =
    let law = behind_takes line behind c k in
    let whole : length bytes ≡ length line + suc (length behind) = ap (λ (l : List ℕ). length l) e ∙ length-append line (10 ∷ behind) in
    let last : length behind ≡ length (bytes_of c) + length law.rest = ap (λ (l : List ℕ). length l) law.joins ∙ length-append (bytes_of c) law.rest in
    omega (arith, whole, last)

-- the bytes taken are the spelling of the command
pub front_is : (bytes : List ℕ) (c : Command) (taken : ℕ) → command_in bytes ≡ Ok (Some (c, taken)) → take taken bytes ≡ command_text c
front_is bytes c taken e =
    let law = in_starts bytes c taken e in
    ap (λ (n : ℕ). take n bytes) law.long ∙ ap (λ (l : List ℕ). take (length (command_text c)) l) law.joins ∙ take-append_seam (command_text c) law.rest

-- what a reading promises of its answer
pub read_some : (bytes : List ℕ) (read : Result Found ScriptFault) (c : Command) (rest : List ℕ) → read ≡ command_in bytes → IsCommand c → bytes ≡ command_text c ++ rest → read ≡ Ok (Some (c, length (command_text c)))
read_some bytes read c rest e is joins = e ∙ ap command_in joins ∙ spellings_are_read c rest is

pub taken_is : (bytes : List ℕ) (read : Result Found ScriptFault) → read ≡ command_in bytes → IfOk read (λ found. IfSome found (λ x. (0 < x.1) × (x.1 ≤ length bytes)))
taken_is bytes (Ok None) e = tt
taken_is bytes (Ok (Some x)) e = takes_some bytes x.0 x.1 (sym e)
taken_is bytes (Err found) e = tt

pub found_is : (bytes : List ℕ) (read : Result Found ScriptFault) → read ≡ command_in bytes → IfOk read (λ found. IfSome found (λ x. take x.1 bytes ≡ command_text x.0))
found_is bytes (Ok None) e = tt
found_is bytes (Ok (Some x)) e = front_is bytes x.0 x.1 (sym e)
found_is bytes (Err found) e = tt
