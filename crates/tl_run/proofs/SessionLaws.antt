-- What calls on a desk make of a run.
use Rattle.std.proofs.Common.{◌≡◌, ℕ, ◌+◌, ◌-◌, ◌<◌, true, false, List, [], ◌∷◌, ◌++◌, length, length-append, Option, Some, None, Result, Ok, Err, IfOk, OnErr, refl, sym, ap, ◌∙◌, subst, arith, nat_lt}
use Rattle.std.specs.Prelude.{IfSome, slice_get}
use Rattle.std.specs.Option.{option_map}
use Rattle.std.specs.Result.{OnOk}
use Rattle.std.proofs.lemmas.Bool.Decides.{nat_tests}
use Rattle.tl_monitor.specs.Boxes.{IsBoxes}
use Rattle.tl_topology.specs.Topology.{Topology}
use Rattle.tl_definitions.specs.Report.{IsReport}
use Rattle.tl_edits.specs.Edits.{AnEdit, plain_change, code_of, number_of}
use Rattle.tl_edits.specs.Inputs.{refusal}
use Rattle.tl_edits.specs.Log.{LogData, inputs_after}
use Rattle.tl_edits.specs.declared.edit.Change.{Change}
use Rattle.tl_edits.specs.declared.edit.Change.TheVariants as change
use Rattle.tl_edits.specs.declared.fault.EditFault.{EditFault}
use Rattle.tl_check.specs.Captured.{captures_after}
use Rattle.tl_check.specs.Output.{ReportData, report_bytes}
use Rattle.tl_desk.specs.Core.{Core, AllHere, IsNew, AllSettled, latest_of, log_of, standing, most_versions}
use Rattle.tl_desk.specs.Steps.{Edits, Publishes, RechecksAll, Step}
use Rattle.tl_desk.specs.declared.call.Call.TheVariants as call
use Rattle.tl_script.specs.Asked.{an_edit, a_report, attached_in}
use Rattle.tl_midway.specs.declared.midway.Midway.{Midway}
use Rattle.tl_run.specs.declared.midway.MidwayReports.{MidwayReports}
use Rattle.tl_run.specs.Output.{Progress, Setting, IsEdit, IsPublish, IsRenewed, IsStep, start, whole}
use Rattle.tl_run.specs.Sessions.{LastIsLinked, progress_of, progress_by, setting_by, count_by, last_by, rows_in, no_reports}
use Rattle.tl_script.specs.Replies.{edit_text, refused_text}

-- ---- a run that begins

-- what it is of on a topology, and what it has come to with such edits and reports
abbrev setting_on : Option MidwayReports → Topology → Setting
setting_on own topo = record { topo = topo; midway = option_map (λ (o : MidwayReports). o.law) own }

abbrev come_to : Option MidwayReports → List AnEdit → List ReportData → Progress
come_to own edits reports = record { edits = edits; reports = count_by own reports; rows = rows_in (last_by own reports) }

begins_with : (own : Option MidwayReports) (topo : Topology) (core : Core) → IsNew topo core → come_to own [] [] ≡ start → progress_by own core ≡ start
begins_with own topo core is none =
    ap (λ (l : LogData). come_to own l.edits core.reports) is.log ∙ ap (come_to own []) is.reports ∙ none

pub begins : (topo : Topology) (core : Core) → IsNew topo core → (setting_by None core ≡ whole topo) × (progress_of core ≡ start)
begins topo core is = (ap (λ (l : LogData). whole l.topo) is.log, begins_with None topo core is refl)

pub begins_midway : (law : Midway) (topo : Topology) (core : Core) → IsNew topo core
    → (setting_by (Some (no_reports law)) core ≡ record { topo = topo; midway = Some law }) × (progress_by (Some (no_reports law)) core ≡ start)
begins_midway law topo core is = (
  ap (λ (l : LogData). record { topo = l.topo; midway = Some law }) is.log,
  begins_with (Some (no_reports law)) topo core is refl,
)

-- ---- edits

-- A change brings no monitor.
pub changes_attach_nothing : (c : Change) → attached_in (plain_change c) ≡ []
changes_attach_nothing (change.Add f) = refl
changes_attach_nothing (change.Replace f) = refl
changes_attach_nothing (change.Withdraw name n) = refl
changes_attach_nothing (change.ClearLink name) = refl
changes_attach_nothing (change.SetRegion name n area) = refl
changes_attach_nothing (change.RemoveRegion name n) = refl
changes_attach_nothing (change.Retune m limit) = refl
changes_attach_nothing (change.Detach m) = refl

module _ (own : Option MidwayReports) (old new : Core) (e : AnEdit) (number : ℕ) (edits : Edits old e number new) where
  pub same_setting : setting_by own new ≡ setting_by own old
  same_setting = ap (λ (l : LogData). setting_on own l.topo) edits.windows.spans.log

  one_edit_more : progress_by own new ≡ record (progress_by own old) { edits = (log_of old).edits ++ e ∷ [] }
  one_edit_more =
      ap (λ (l : LogData). come_to own l.edits new.reports) edits.windows.spans.log
      ∙ ap (come_to own ((log_of old).edits ++ e ∷ [])) edits.reports

  its_number : number ≡ length (log_of old).edits + 1
  its_number = edits.last ∙ ap (λ (l : LogData). length l.edits) edits.windows.spans.log ∙ length-append (log_of old).edits (e ∷ [])

  pub edit_step : (line : List ℕ) → line ≡ edit_text number → IsStep (setting_by own old) (progress_by own old) (an_edit e) line (progress_by own new)
  unfolding IsStep
  edit_step line said = subst (λ why. IsEdit (progress_by own old) e why line (progress_by own new)) (sym edits.accepted) (said ∙ ap edit_text its_number, one_edit_more)

pub refusal_step : (own : Option MidwayReports) (old new : Core) (e : AnEdit) (fault : EditFault) (line : List ℕ) → refusal (length (log_of old).edits) (standing old) e ≡ Some fault → new ≡ old → line ≡ refused_text (code_of fault) (number_of fault)
    → IsStep (setting_by own old) (progress_by own old) (an_edit e) line (progress_by own new)
unfolding IsStep
refusal_step own old new e fault line why same said = subst (λ found. IsEdit (progress_by own old) e found line (progress_by own new)) (sym why) (said, ap (progress_by own) same)

-- An edit, also one that is refused, sends no monitor out.
pub here_behind_edit : (old new : Core) (c : Change) (r : Result ℕ EditFault) → (IsBoxes old.boxes → (number : ℕ) → Step old (call.Edit c number) new → AllHere old.boxes → AllHere new.boxes)
    → OnOk r (IsBoxes old.boxes) → IfOk r (λ number. Step old (call.Edit c number) new) → OnErr r (new ≡ old) → AllHere old.boxes → AllHere new.boxes
here_behind_edit old new c (Ok number) kept boxes step same all = kept boxes number step all
here_behind_edit old new c (Err fault) kept boxes step same all = subst (λ (core : Core). AllHere core.boxes) (sym same) all

-- An edit leaves the topology, also one that is refused, and so what the last report is linked to.
pub topo_edited : (old new : Core) (e : AnEdit) (number : ℕ) → Edits old e number new → (log_of new).topo ≡ (log_of old).topo
topo_edited old new e number edits = ap (λ (l : LogData). l.topo) edits.windows.spans.log

pub topo_behind_edit : (old new : Core) (c : Change) (r : Result ℕ EditFault) → IfOk r (λ number. Step old (call.Edit c number) new) → OnErr r (new ≡ old) → (log_of new).topo ≡ (log_of old).topo
topo_behind_edit old new c (Ok number) step same = topo_edited old new (plain_change c) number step.0
topo_behind_edit old new c (Err fault) step same = ap (λ (core : Core). (log_of core).topo) same

pub stays_linked : (own : Option MidwayReports) (old new : Core) → (log_of new).topo ≡ (log_of old).topo → IfSome own (LastIsLinked (log_of old).topo) → IfSome own (LastIsLinked (log_of new).topo)
stays_linked own old new same linked = subst (λ t. IfSome own (LastIsLinked t)) (sym same) linked

-- ---- reports

-- the last of reports after which one more stands
last_is : (reports : List ReportData) (report : ReportData) → latest_of (reports ++ report ∷ []) ≡ Some report
last_is reports report = ap (slice_get (reports ++ report ∷ [])) place ∙ go reports
  where
    place : length (reports ++ report ∷ []) - 1 ≡ length reports
    place = let longer = length-append reports (report ∷ []) in omega (arith, longer)

    go : (rs : List ReportData) → slice_get (rs ++ report ∷ []) (length rs) ≡ Some report
    go [] = refl
    go (r ∷ rs) = go rs

module _ (old mid : Core) (count : ℕ) (checked : RechecksAll old count mid) where
  pub all_settled : AllSettled mid
  all_settled = (checked.managers.settled, checked.monitors.settled)

  pub kept_setting : setting_by None mid ≡ setting_by None old
  kept_setting = ap (λ (l : LogData). whole l.topo) checked.log

  has_room : length mid.reports < most_versions → nat_lt (length old.reports) most_versions ≡ true
  has_room room = let few : length old.reports < most_versions = subst (λ (rs : List ReportData). length rs < most_versions) checked.reports room in grind (arith, nat_tests)

  is_full : length mid.reports ≡ most_versions → nat_lt (length old.reports) most_versions ≡ false
  is_full full = let all : length old.reports ≡ most_versions = ap (λ (rs : List ReportData). length rs) (sym checked.reports) ∙ full in grind (arith, nat_tests)

  unchanged : progress_of mid ≡ progress_of old
  unchanged = ap (λ (l : LogData). come_to None l.edits mid.reports) checked.log ∙ ap (come_to None (log_of old).edits) checked.reports

  -- No report more can be published.
  pub full_step : (new : Core) (line : List ℕ) → length mid.reports ≡ most_versions → new ≡ mid → line ≡ refused_text 32 None → IsStep (setting_by None old) (progress_of old) a_report line (progress_of new)
  unfolding IsStep
  full_step new line full same said = subst (λ room. IsPublish (setting_by None old) (progress_of old) room line (progress_of new)) (sym (is_full full)) (said, ap progress_of same ∙ unchanged)

  module _ (new : Core) (version : ℕ) (published : Publishes mid version new) where
    -- what the run then comes to
    abbrev next : Progress
    next = record { edits = (log_of old).edits; reports = length old.reports + 1; rows = published.report.rows }

    more : length (mid.reports ++ published.report ∷ []) ≡ length old.reports + 1
    more = length-append mid.reports (published.report ∷ []) ∙ ap (λ (rs : List ReportData). length rs + 1) checked.reports

    comes_to : progress_of new ≡ next
    comes_to =
        ap progress_of published.rest
        ∙ ap (λ (l : LogData). come_to None l.edits (mid.reports ++ published.report ∷ [])) checked.log
        ∙ ap (λ n. record { edits = (log_of old).edits; reports = n; rows = rows_in (latest_of (mid.reports ++ published.report ∷ [])) }) more
        ∙ ap (λ (o : Option ReportData). record { edits = (log_of old).edits; reports = length old.reports + 1; rows = rows_in o }) (last_is mid.reports published.report)

    pub last_published : latest_of new.reports ≡ Some published.report
    last_published = ap (λ (c : Core). latest_of c.reports) published.rest ∙ last_is mid.reports published.report

    published_topology : (log_of new).topo ≡ (log_of old).topo
    published_topology = ap (λ (c : Core). (log_of c).topo) published.rest ∙ ap (λ (l : LogData). l.topo) checked.log

    pub published_setting : setting_by None new ≡ setting_by None old
    published_setting = ap whole published_topology

    is_named : published.report ≡ record { version = length old.reports + 1; edit = length (log_of old).edits; rows = published.report.rows }
    is_named =
        ap (λ n. record { version = n; edit = published.report.edit; rows = published.report.rows }) (published.is ∙ published.next ∙ ap (λ (rs : List ReportData). length rs + 1) checked.reports)
        ∙ ap (λ n. record { version = length old.reports + 1; edit = n; rows = published.report.rows }) (published.edit ∙ ap (λ (l : LogData). length l.edits) checked.log)

    renews : IsRenewed (setting_by None old) (progress_of old) next
    renews = (subst (λ (l : LogData). IsReport (captures_after (inputs_after l.topo l.edits)) published.report.rows) checked.log published.rows, refl)

    pub publish_step : (line : List ℕ) (found : ReportData) → latest_of new.reports ≡ Some found → line ≡ report_bytes (log_of new).topo found → IsStep (setting_by None old) (progress_of old) a_report line (progress_of new)
    unfolding IsStep
    publish_step line found is said =
        let same : found ≡ published.report = (let both : Some found ≡ Some published.report = sym is ∙ last_published in cc) in
        let text : line ≡ report_bytes (log_of old).topo (record { version = length old.reports + 1; edit = length (log_of old).edits; rows = published.report.rows }) =
        said ∙ ap (λ t. report_bytes t found) published_topology ∙ ap (report_bytes (log_of old).topo) (same ∙ is_named) in
        subst (λ n. IsStep (setting_by None old) (progress_of old) a_report line n) (sym comes_to)
        (subst (λ room. IsPublish (setting_by None old) (progress_of old) room line next) (sym (has_room published.room)) (renews, text))
