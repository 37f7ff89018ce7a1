-- What a run knows of its hall: the edits and the reports are its own.
use Rattle.std.proofs.Common.{◌≡◌, ℕ, ◌+◌, ◌≤◌, ◌<◌, true, false, List, [], ◌∷◌, ◌++◌, length, take, Option, Some, None, Result, Ok, Err, IfOk, IfErr, sym, refl, ap, ◌∙◌, subst, arith, length-append, nat_lt}
use Rattle.std.specs.Option.{option_map, option_map_or}
use Rattle.std.proofs.lemmas.Bool.Decides.{nat_tests}
use Rattle.tl_topology.specs.Topology.{Topology}
use Rattle.tl_beats.specs.declared.Row.{Row}
use Rattle.tl_beats.specs.declared.watch.Watch.{Watch}
use Rattle.tl_edits.specs.declared.edit.Change.{Change}
use Rattle.tl_edits.specs.Edits.{AnEdit, plain_change, attach, code_of, number_of}
use Rattle.tl_edits.specs.Inputs.{refusal}
use Rattle.tl_edits.specs.Log.{LogData, inputs_after}
use Rattle.tl_edits.specs.declared.fault.EditFault.{EditFault}
use Rattle.tl_edits.specs.declared.fault.EditFault.TheVariants as edit_fault
use Rattle.tl_definitions.specs.Report.{IsReport}
use Rattle.tl_check.specs.Captured.{captures_after}
use Rattle.tl_check.specs.Output.{ReportData, report_bytes}
use Rattle.tl_desk.specs.Core.{Core, AreLinked, log_of, most_versions}
use Rattle.tl_desk.specs.Steps.{Edits}
use Rattle.tl_desk.specs.declared.fault.PublishFault.{PublishFault}
use Rattle.tl_desk.specs.declared.fault.PublishFault.TheVariants as publish_fault
use Rattle.tl_desk.specs.declared.call.Call.{Call}
use Rattle.tl_desk.specs.declared.call.Call.TheVariants as call
use Rattle.tl_hall.specs.declared.entry.Entry.{Entry}
use Rattle.tl_hall.specs.declared.working.Round.{Round}
use Rattle.tl_hall.specs.History.{entry, IsOfWorker, AreOfWorker, OnlyWork, Leads}
use Rattle.tl_hall.specs.Passes.{HallData, PassData, Made, NoMore, Looked, IsRefused, IsUnready, IsLatest}
use Rattle.tl_hall.specs.Telling.{Told, nothing_told, told_more, told_after, told_by, version_and_edit}
use Rattle.tl_hall.specs.Working.{WorkedOnce}
use Rattle.tl_hall.proofs.Histories.{only_self, only_trans}
use Rattle.tl_hall.proofs.Tellings.{histories_tell}
use Rattle.tl_script.specs.Asked.{Asking, an_edit, a_report}
use Rattle.tl_run.specs.declared.answer.Answer.{Answer}
use Rattle.tl_run.specs.Output.{Progress, RunData, IsEdit, IsPublish, IsStep, IsLinked, IsAnswerTo, text_of, whole}
use Rattle.tl_script.specs.Replies.{edit_text, refused_text}
use Rattle.tl_workers.specs.Crew.{GoesOn, HasPublished, IsUnpublished, progress_in, seen_in}
use Rattle.tl_workers.specs.Crew.{Leads as LeadsRun}

-- ---- workers tell of no edit and of no report

one_untold : (told : Told) (k : Call) → IsOfWorker k → told_more told k ≡ told
one_untold told (call.Take ticket piece from) is = refl
one_untold told (call.HandIn ticket piece found taken) is = refl
one_untold told (call.Abandon ticket piece) is = refl
one_untold told (call.Edit change number) is = absurd is
one_untold told (call.Attach monitor w number) is = absurd is
one_untold told (call.Recheck count) is = absurd is
one_untold told (call.Publish version) is = absurd is
one_untold told (call.Recall ticket) is = absurd is

all_untold : (told : Told) (es : List Entry) → AreOfWorker es → told_after told es ≡ told
all_untold told [] are = refl
all_untold told (e ∷ es) are = ap (λ (t : Told). told_after t es) (one_untold told e.call are.0) ∙ all_untold told es are.1

told_then : (told : Told) (xs ys : List Entry) → told_after told (xs ++ ys) ≡ told_after (told_after told xs) ys
told_then told [] ys = refl
told_then told (x ∷ xs) ys = told_then (told_more told x.call) xs ys

pub untold : (xs ys : List Entry) → OnlyWork xs ys → told_by ys ≡ told_by xs
untold xs ys only = ap told_by (sym only.1) ∙ (told_then nothing_told xs only.0 ∙ all_untold (told_by xs) only.0 only.2)

-- a call of the pass tells what it tells, and nothing else is told
pub made_tells : (p q : PassData) (k : Call) → p.sole ≡ true → Made p k NoMore q → told_by q.seen ≡ told_more (told_by p.seen) k
made_tells p q k sole made =
    ap told_by made.now ∙ (told_then nothing_told made.before (entry p.number k ∷ []) ∙ ap (λ (t : Told). told_more t k) (untold p.seen made.before (made.others sole)))

pub looked_tells : (p q : PassData) (Answer : Core → Type 0) → p.sole ≡ true → Looked p Answer q → told_by q.seen ≡ told_by p.seen
looked_tells p q Answer sole look = untold p.seen q.seen (look.others sole)

-- ---- passes that go on

pub on_self : (p : PassData) → GoesOn p p
on_self p = record { same = (refl, refl, refl, refl, refl); others = λ _. only_self p.seen }

pub on_then : (p q r : PassData) → GoesOn p q → GoesOn q r → GoesOn p r
on_then p q r a b = record {
  same = (b.same.0 ∙ a.same.0, b.same.1 ∙ a.same.1, b.same.2 ∙ a.same.2, b.same.3 ∙ a.same.3, b.same.4 ∙ a.same.4);
  others = λ is. only_trans p.seen q.seen r.seen (a.others is) (b.others (a.same.4 ∙ is));
}

pub on_looked : (p q : PassData) (Answer : Core → Type 0) → Looked p Answer q → GoesOn p q
on_looked p q Answer look = record { same = look.same; others = look.others }

pub on_worked : (p q : PassData) (came : Round) → WorkedOnce p came q → GoesOn p q
on_worked p q came worked = record { same = worked.same; others = worked.others }

pub unpublished : (p r q : PassData) (fault : PublishFault) → GoesOn p r → Looked r (IsUnready fault) q → (fault ≡ publish_fault.NotReady → ⊥) → IsUnpublished p fault q
unpublished p r q publish_fault.Memory on look other = on_then p r q on (on_looked r q (IsUnready publish_fault.Memory) look)
unpublished p r q publish_fault.VersionFull on look other = (r, on, look)
unpublished p r q publish_fault.NotReady on look other = absurd (other refl)

-- ---- what a desk has is what the history tells

same_log : (topo : Topology) (log : List Entry) (core : Core) (told : Told) → Leads topo log core → told_by log ≡ told → log_of core ≡ record { topo = topo; edits = told.edits }
same_log topo log core told leads is =
    let tells = histories_tell topo log core leads in
    let edits : (log_of core).edits ≡ told.edits = ap (λ (t : Told). t.edits) (tells.1 ∙ is) in
    λ i. record { topo = tells.0 i; edits = edits i }

same_count : (topo : Topology) (log : List Entry) (core : Core) (told : Told) → Leads topo log core → told_by log ≡ told → length core.reports ≡ told.versions
same_count topo log core told leads is = ap (λ (t : Told). t.versions) ((histories_tell topo log core leads).1 ∙ is)

-- the refusal of an edit by what a desk has
abbrev why_of : AnEdit → LogData → Option EditFault
why_of e log = refusal (length log.edits) (inputs_after log.topo log.edits) e

abbrev progress_told : List Row → Told → Progress
progress_told rows told = record { edits = told.edits; reports = told.versions; rows = rows }

-- An edit that was accepted.
edited : (p q : PassData) (rows : List Row) (k : Call) (e : AnEdit) (number : ℕ) (line : List ℕ) → p.sole ≡ true → (made : Made p k NoMore q) → Edits made.from e number made.to
    → ((t : Told) → told_more t k ≡ record t { edits = t.edits ++ e ∷ [] }) → line ≡ edit_text number → IsStep (whole p.topo) (progress_in p.seen rows) (an_edit e) line (progress_in q.seen rows)
unfolding IsStep
edited p q rows k e number line sole made edits tells said =
    let told : Told = told_by p.seen in
    let now : Progress = progress_in p.seen rows in
    let after : told_by q.seen ≡ record told { edits = told.edits ++ e ∷ [] } = made_tells p q k sole made ∙ tells told in
    let was : log_of made.from ≡ record { topo = p.topo; edits = told.edits } = same_log p.topo made.before made.from told made.led (untold p.seen made.before (made.others sole)) in
    let is : log_of made.to ≡ record { topo = p.topo; edits = told.edits ++ e ∷ [] } = same_log p.topo q.seen made.to (record told { edits = told.edits ++ e ∷ [] }) made.leads after in
    let accepted : refusal (length told.edits) (inputs_after p.topo told.edits) e ≡ None = sym (ap (why_of e) was) ∙ edits.accepted in
    let its : number ≡ length told.edits + 1 = edits.last ∙ (ap (λ (l : LogData). length l.edits) is ∙ length-append told.edits (e ∷ [])) in
    let next : progress_in q.seen rows ≡ record now { edits = now.edits ++ e ∷ [] } = ap (progress_told rows) after in
    subst (λ why. IsEdit now e why line (progress_in q.seen rows)) (sym accepted) (said ∙ ap edit_text its, next)

pub change_made : (p q : PassData) (rows : List Row) (c : Change) (number : ℕ) (line : List ℕ) → p.sole ≡ true → Made p (call.Edit c number) NoMore q → line ≡ edit_text number
    → IsStep (whole p.topo) (progress_in p.seen rows) (an_edit (plain_change c)) line (progress_in q.seen rows)
change_made p q rows c number line sole made said = edited p q rows (call.Edit c number) (plain_change c) number line sole made made.step.0 (λ t. refl) said

pub attach_made : (p q : PassData) (rows : List Row) (monitor : ℕ) (w : Watch) (number : ℕ) (line : List ℕ) → p.sole ≡ true → Made p (call.Attach monitor w number) NoMore q → line ≡ edit_text number
    → IsStep (whole p.topo) (progress_in p.seen rows) (an_edit (attach monitor w)) line (progress_in q.seen rows)
attach_made p q rows monitor w number line sole made said = edited p q rows (call.Attach monitor w number) (attach monitor w) number line sole made made.step.0 (λ t. refl) said

-- An edit that was refused, and not for want of memory.
pub edit_refused : (p q : PassData) (rows : List Row) (e : AnEdit) (fault : EditFault) (line : List ℕ) → p.sole ≡ true → Looked p (IsRefused e fault) q → (fault ≡ edit_fault.Memory → ⊥) → line ≡ refused_text (code_of fault) (number_of fault)
    → IsStep (whole p.topo) (progress_in p.seen rows) (an_edit e) line (progress_in q.seen rows)
unfolding IsStep
edit_refused p q rows e fault line sole look other said =
    let told : Told = told_by p.seen in
    let now : Progress = progress_in p.seen rows in
    let after : told_by q.seen ≡ told = looked_tells p q (IsRefused e fault) sole look in
    let has : log_of look.core ≡ record { topo = p.topo; edits = told.edits } = same_log p.topo q.seen look.core told look.leads after in
    let why : refusal (length told.edits) (inputs_after p.topo told.edits) e ≡ Some fault = sym (ap (why_of e) has) ∙ look.answer.0 other in
    subst (λ found. IsEdit now e found line (progress_in q.seen rows)) (sym why) (said, ap (progress_told rows) after)

-- ---- reports

take_all : {A : Type 0} (xs : List A) → take (length xs) xs ≡ xs
take_all [] = refl
take_all (x ∷ xs) = ap (λ ys. x ∷ ys) (take_all xs)

pub linked : (q s : PassData) (report : ReportData) → Looked q (IsLatest (Some report)) s → AreLinked q.topo report.rows
linked q s report look = subst (λ (t : Topology). AreLinked t report.rows) (histories_tell q.topo s.seen look.core look.leads).0 look.answer.1.2

-- A report that was published, and is read before another one is.
pub publish_made : (p q s : PassData) (rows : List Row) (version : ℕ) (report : ReportData) (line : List ℕ) → p.sole ≡ true → HasPublished p version q → Looked q (IsLatest (Some report)) s → line ≡ report_bytes p.topo report
    → IsStep (whole p.topo) (progress_in p.seen rows) a_report line (progress_in s.seen report.rows)
unfolding IsStep
publish_made p q s rows version report line sole has look said =
    let r = has.0 in
    let on = has.1 in
    let made = has.2 in
    let told : Told = told_by p.seen in
    let now : Progress = progress_in p.seen rows in
    let r_sole : r.sole ≡ true = on.same.4 ∙ sole in
    let q_sole : q.sole ≡ true = made.same.4 ∙ r_sole in
    let r_told : told_by r.seen ≡ told = untold p.seen r.seen (on.others sole) in
    let then : Told = record told { versions = told.versions + 1; latest = Some (told.versions + 1, length told.edits) } in
    let q_told : told_by q.seen ≡ then = made_tells r q (call.Publish version) r_sole made ∙ ap (λ (t : Told). told_more t (call.Publish version)) r_told in
    let s_told : told_by s.seen ≡ then = looked_tells q s (IsLatest (Some report)) q_sole look ∙ q_told in
    let topo_is : q.topo ≡ p.topo = made.same.1 ∙ on.same.1 in
    let has_log : log_of look.core ≡ record { topo = q.topo; edits = told.edits } = same_log q.topo s.seen look.core then look.leads s_told in
    let latest : Some (report.version, report.edit) ≡ Some (told.versions + 1, length told.edits) =
    ap (option_map version_and_edit) look.answer.0 ∙ ap (λ (t : Told). t.latest) ((histories_tell q.topo s.seen look.core look.leads).1 ∙ s_told) in
    let version_is : report.version ≡ told.versions + 1 = ap (λ (o : Option (ℕ × ℕ)). option_map_or (λ (x : ℕ × ℕ). x.0) o 0) latest in
    let edit_is : report.edit ≡ length told.edits = ap (λ (o : Option (ℕ × ℕ)). option_map_or (λ (x : ℕ × ℕ). x.1) o 0) latest in
    let all : take report.edit told.edits ≡ told.edits = ap (λ n. take n told.edits) edit_is ∙ take_all told.edits in
    let found : IsReport (captures_after (inputs_after p.topo told.edits)) report.rows =
    subst (λ (t : Topology). IsReport (captures_after (inputs_after t told.edits)) report.rows) topo_is
    (subst (λ es. IsReport (captures_after (inputs_after q.topo es)) report.rows) all
    (subst (λ (l : LogData). IsReport (captures_after (inputs_after l.topo (take report.edit l.edits))) report.rows) has_log look.answer.1.1)) in
    let next : Progress = record { edits = told.edits; reports = told.versions + 1; rows = report.rows } in
    let next_is : progress_in s.seen report.rows ≡ next = ap (progress_told report.rows) s_told in
    let few : length made.from.reports < most_versions = made.step.room in
    let count : length made.from.reports ≡ told.versions = same_count r.topo made.before made.from told made.led (untold r.seen made.before (made.others r_sole) ∙ r_told) in
    let under : told.versions < most_versions = omega (arith, few, count) in
    let room : nat_lt told.versions most_versions ≡ true = grind (arith, nat_tests) in
    let named : report ≡ record { version = told.versions + 1; edit = length told.edits; rows = report.rows } = λ i. record { version = version_is i; edit = edit_is i; rows = report.rows } in
    subst (λ n. IsPublish (whole p.topo) now (nat_lt told.versions most_versions) line n) (sym next_is)
    (subst (λ b. IsPublish (whole p.topo) now b line next) (sym room) ((found, refl), said ∙ ap (report_bytes p.topo) named))

-- No report has room.
pub publish_full : (p q : PassData) (rows : List Row) (line : List ℕ) → p.sole ≡ true → IsUnpublished p publish_fault.VersionFull q → line ≡ refused_text 32 None
    → IsStep (whole p.topo) (progress_in p.seen rows) a_report line (progress_in q.seen rows)
unfolding IsStep
publish_full p q rows line sole un said =
    let r = un.0 in
    let on = un.1 in
    let look = un.2 in
    let told : Told = told_by p.seen in
    let now : Progress = progress_in p.seen rows in
    let after : told_by q.seen ≡ told = looked_tells r q (IsUnready publish_fault.VersionFull) (on.same.4 ∙ sole) look ∙ untold p.seen r.seen (on.others sole) in
    let full : length look.core.reports ≡ most_versions = look.answer.1 in
    let count : length look.core.reports ≡ told.versions = same_count r.topo q.seen look.core told look.leads after in
    let all : told.versions ≡ most_versions = sym count ∙ full in
    let room : nat_lt told.versions most_versions ≡ false = grind (arith, nat_tests) in
    subst (λ b. IsPublish (whole p.topo) now b line (progress_in q.seen rows)) (sym room) (said, ap (progress_told rows) after)

-- A report that was published is read.
pub read_finds : (p q s : PassData) (version : ℕ) → p.sole ≡ true → HasPublished p version q → Looked q (IsLatest None) s → ⊥
read_finds p q s version sole has look =
    let made = has.2 in
    let r_sole : has.0.sole ≡ true = has.1.same.4 ∙ sole in
    let q_sole : q.sole ≡ true = made.same.4 ∙ r_sole in
    let told : Told = told_by has.0.seen in
    let then : Told = record told { versions = told.versions + 1; latest = Some (told.versions + 1, length told.edits) } in
    let s_told : told_by s.seen ≡ then = looked_tells q s (IsLatest None) q_sole look ∙ made_tells has.0 q (call.Publish version) r_sole made in
    let none : None ≡ Some (told.versions + 1, length told.edits) =
    ap (option_map version_and_edit) look.answer.0 ∙ ap (λ (t : Told). t.latest) ((histories_tell q.topo s.seen look.core look.leads).1 ∙ s_told) in
    absurd (cc (none))

-- ---- a run and its pass

module _ (hall : HallData) (topo : Topology) (pass : Option PassData) (rows : List Row) (boxes : List Watch) (run : RunData) (view : record { setting = whole topo; now = progress_in (seen_in pass) rows; boxes = boxes } ≡ run)
    (leads : LeadsRun hall topo pass) (p : PassData) (is : pass ≡ Some p) where
  its : leads.p ≡ p
  its = let both : Some leads.p ≡ Some p = sym leads.is ∙ is in cc (both)

  pub run_sole : p.sole ≡ true
  run_sole = sym (ap (λ (x : PassData). x.sole) its) ∙ leads.sole

  pub run_topo : p.topo ≡ topo
  run_topo = sym (ap (λ (x : PassData). x.topo) its) ∙ leads.topo_is

  pub run_hall : p.hall ≡ hall.hall
  run_hall = sym (ap (λ (x : PassData). x.hall) its) ∙ leads.hall_is

  pub run_step : (asking : Asking) (line : List ℕ) (next : Progress) → IsStep (whole p.topo) (progress_in p.seen rows) asking line next → IsStep run.setting run.now asking line next
  run_step asking line next step =
      subst (λ (r : RunData). IsStep r.setting r.now asking line next) view
      (subst (λ (t : Topology). IsStep (whole t) (progress_in (seen_in pass) rows) asking line next) run_topo
      (subst (λ (o : Option PassData). IsStep (whole p.topo) (progress_in (seen_in o) rows) asking line next) (sym is) step))

  pub change_answer : (c : Change) (answer : Result ℕ EditFault) (q : PassData) (found : Answer) → IfOk answer (λ n. Made p (call.Edit c n) NoMore q) → IfErr answer (λ f. Looked p (IsRefused (plain_change c) f) q) → IsAnswerTo answer found
      → IsStep run.setting run.now (an_edit (plain_change c)) (text_of run.setting.topo found) (progress_in q.seen rows)
  change_answer c (Ok n) q found ok err said = run_step (an_edit (plain_change c)) (text_of run.setting.topo found) (progress_in q.seen rows) (change_made p q rows c n (text_of run.setting.topo found) run_sole ok (ap (text_of run.setting.topo) said))
  change_answer c (Err f) q found ok err said =
      run_step (an_edit (plain_change c)) (text_of run.setting.topo found) (progress_in q.seen rows) (edit_refused p q rows (plain_change c) f (text_of run.setting.topo found) run_sole err said.0 (ap (text_of run.setting.topo) said.1))

  pub attach_answer : (monitor : ℕ) (w : Watch) (answer : Result ℕ EditFault) (q : PassData) (found : Answer) → IfOk answer (λ n. Made p (call.Attach monitor w n) NoMore q) → IfErr answer (λ f. Looked p (IsRefused (attach monitor w) f) q) → IsAnswerTo answer found
      → IsStep run.setting run.now (an_edit (attach monitor w)) (text_of run.setting.topo found) (progress_in q.seen rows)
  attach_answer monitor w (Ok n) q found ok err said =
      run_step (an_edit (attach monitor w)) (text_of run.setting.topo found) (progress_in q.seen rows) (attach_made p q rows monitor w n (text_of run.setting.topo found) run_sole ok (ap (text_of run.setting.topo) said))
  attach_answer monitor w (Err f) q found ok err said =
      run_step (an_edit (attach monitor w)) (text_of run.setting.topo found) (progress_in q.seen rows) (edit_refused p q rows (attach monitor w) f (text_of run.setting.topo found) run_sole err said.0 (ap (text_of run.setting.topo) said.1))

-- What comes of an edit has no rows.
pub edits_linked : (topo : Topology) (answer : Result ℕ EditFault) (found : Answer) → IsAnswerTo answer found → IsLinked topo found
edits_linked topo (Ok n) found said = subst (IsLinked topo) (sym said) tt
edits_linked topo (Err f) found said = subst (IsLinked topo) (sym said.1) tt
