-- A history tells what the desk has that it leads to.
use Rattle.std.proofs.Common.{◌≡◌, ℕ, ◌+◌, ◌-◌, List, [], ◌∷◌, ◌++◌, Option, Some, length, map, refl, sym, ap, ◌∙◌, arith, length-append}
use Rattle.std.specs.Prelude.{slice_get}
use Rattle.std.specs.Option.{option_map}
use Rattle.tl_topology.specs.Topology.{Topology}
use Rattle.tl_edits.specs.Edits.{AnEdit, plain_change, attach}
use Rattle.tl_edits.specs.Log.{LogData}
use Rattle.tl_check.specs.Output.{ReportData}
use Rattle.tl_desk.specs.Core.{Core, IsNew, log_of, latest_of}
use Rattle.tl_desk.specs.Steps.{Step, Edits, Publishes}
use Rattle.tl_desk.specs.declared.call.Call.{Call}
use Rattle.tl_desk.specs.declared.call.Call.TheVariants as call
use Rattle.tl_hall.specs.declared.entry.Entry.{Entry}
use Rattle.tl_hall.specs.History.{call_of, IsOfHall, Runs}
use Rattle.tl_hall.specs.Telling.{Told, nothing_told, told_more, told_after, told_of, version_and_edit, HistoriesTell, EditsAreCounted, AttachesAreCounted, VersionsAreCounted}
use Rattle.tl_hall.proofs.Tickets.{GivesOne, EndsOne, CallsBack, take_gives, hand_in_ends, abandon_ends, recall_calls}

abbrev told_with : List AnEdit → ℕ → Option (ℕ × ℕ) → Told
told_with edits versions latest = record { edits = edits; versions = versions; latest = latest }

abbrev told_from : LogData → List ReportData → Told
told_from log reports = told_with log.edits (length reports) (option_map version_and_edit (latest_of reports))

from_parts : (d : Core) (log : LogData) (reports : List ReportData) → log_of d ≡ log → d.reports ≡ reports → told_of d ≡ told_from log reports
from_parts d log reports same is = ap (λ (l : LogData). told_from l d.reports) same ∙ ap (told_from log) is

last_there : (reports : List ReportData) (report : ReportData) → slice_get (reports ++ report ∷ []) (length reports) ≡ Some report
last_there [] report = refl
last_there (r ∷ reports) report = last_there reports report

latest_there : (reports : List ReportData) (report : ReportData) → latest_of (reports ++ report ∷ []) ≡ Some report
latest_there reports report =
    let long : length (reports ++ report ∷ []) ≡ length reports + 1 = length-append reports (report ∷ []) in
    let place : length (reports ++ report ∷ []) - 1 ≡ length reports = omega (arith, long) in
    ap (slice_get (reports ++ report ∷ [])) place ∙ last_there reports report

-- What a step leaves: what is told, and the topology.
abbrev Tells : Core → Call → Core → Type 0
Tells c k d = (told_of d ≡ told_more (told_of c) k) × ((log_of d).topo ≡ (log_of c).topo)

edited : (c : Core) (e : AnEdit) (number : ℕ) (d : Core) → Edits c e number d → (told_of d ≡ told_with ((log_of c).edits ++ e ∷ []) (length c.reports) (option_map version_and_edit (latest_of c.reports))) × ((log_of d).topo ≡ (log_of c).topo)
edited c e number d edits =
    (from_parts d (record (log_of c) { edits = (log_of c).edits ++ e ∷ [] }) c.reports edits.windows.spans.log edits.reports, ap (λ (l : LogData). l.topo) edits.windows.spans.log)

published : (c : Core) (version : ℕ) (d : Core) → Publishes c version d → Tells c (call.Publish version) d
published c version d s =
    let reports = c.reports ++ s.report ∷ [] in
    let log : log_of d ≡ log_of c = ap (λ (x : Core). log_of x) s.rest in
    let edits = (log_of c).edits in
    let number : s.report.version ≡ length c.reports + 1 = s.is ∙ s.next in
    let latest : option_map version_and_edit (latest_of reports) ≡ Some (length c.reports + 1, length edits) =
    ap (option_map version_and_edit) (latest_there c.reports s.report) ∙ ap (λ (v : ℕ). Some (v, s.report.edit)) number ∙ ap (λ (n : ℕ). Some (length c.reports + 1, n)) s.edit in (
      from_parts d (log_of c) reports log (ap (λ (x : Core). x.reports) s.rest)
          ∙ ap (λ (n : ℕ). told_with edits n (option_map version_and_edit (latest_of reports))) (length-append c.reports (s.report ∷ []))
          ∙ ap (told_with edits (length c.reports + 1)) latest,
      ap (λ (l : LogData). l.topo) log,
    )

still : (c d : Core) → log_of d ≡ log_of c → d.reports ≡ c.reports → (told_of d ≡ told_of c) × ((log_of d).topo ≡ (log_of c).topo)
still c d log reports = (from_parts d (log_of c) c.reports log reports, ap (λ (l : LogData). l.topo) log)

step_tells : (c : Core) (k : Call) (d : Core) → IsOfHall k → Step c k d → Tells c k d
step_tells c (call.Edit change number) d of_hall s = edited c (plain_change change) number d s.0
step_tells c (call.Attach monitor w number) d of_hall s = edited c (attach monitor w) number d s.0
step_tells c (call.Recheck count) d of_hall s = absurd of_hall
step_tells c (call.Publish version) d of_hall s = published c version d s
step_tells c (call.Take ticket piece from) d of_hall s = let made : GivesOne c ticket d = take_gives c ticket piece from d s in still c d made.log made.reports
step_tells c (call.HandIn ticket piece found taken) d of_hall s = let made : EndsOne c d = hand_in_ends c ticket piece found taken d s in still c d made.log made.reports
step_tells c (call.Abandon ticket piece) d of_hall s = let made : EndsOne c d = abandon_ends c ticket piece d s in still c d made.log made.reports
step_tells c (call.Recall ticket) d of_hall s = let made : CallsBack c ticket d = recall_calls c ticket d s in still c d made.log made.reports

run_tells : (log : List Entry) (c d : Core) → Runs c (map call_of log) d → (told_of d ≡ told_after (told_of c) log) × ((log_of d).topo ≡ (log_of c).topo)
run_tells [] c d r = (ap told_of (sym r.1), ap (λ (x : Core). (log_of x).topo) (sym r.1))
run_tells (e ∷ es) c d r =
    let one = step_tells c e.call r.2 r.1 r.3 in
    let more = run_tells es r.2 d r.4 in
    (more.0 ∙ ap (λ (t : Told). told_after t es) one.0, more.1 ∙ one.1)

new_tells : (topo : Topology) (core : Core) → IsNew topo core → told_of core ≡ nothing_told
new_tells topo core fresh = from_parts core (record { topo = topo; edits = [] }) [] fresh.log fresh.reports

pub histories_tell : HistoriesTell
histories_tell topo log core leads =
    let more = run_tells log leads.0 core leads.2 in
    (more.1 ∙ ap (λ (l : LogData). l.topo) leads.1.log, more.0 ∙ ap (λ (t : Told). told_after t log) (new_tells topo leads.0 leads.1))

pub edits_are_counted : EditsAreCounted
edits_are_counted p q change number made =
    made.step.0.last ∙ ap (λ (t : Told). length t.edits) (histories_tell p.topo q.seen made.to made.leads).1

pub attaches_are_counted : AttachesAreCounted
attaches_are_counted p q monitor w number made =
    made.step.0.last ∙ ap (λ (t : Told). length t.edits) (histories_tell p.topo q.seen made.to made.leads).1

pub versions_are_counted : VersionsAreCounted
versions_are_counted p q version made =
    let step : Publishes made.from version made.to = made.step in
    let one = published made.from version made.to step in
    step.next ∙ ap (λ (t : Told). t.versions) (sym one.0 ∙ (histories_tell p.topo q.seen made.to made.leads).1)
