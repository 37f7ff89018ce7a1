-- What a run has come to that has a desk.
use Rattle.std.specs.Prelude.{ℕ, List, [], length, Option, Some, None, IfSome, nat_lt}
use Rattle.std.specs.Option.{option_map, option_map_or}
use Rattle.tl_topology.specs.Topology.{Topology}
use Rattle.tl_beats.specs.declared.Row.{Row}
use Rattle.tl_edits.specs.Log.{LogData}
use Rattle.tl_check.specs.Output.{ReportData}
use Rattle.tl_midway.specs.declared.midway.Midway.{Midway}
use Rattle.tl_desk.specs.Core.{Core, AllHere, AreLinked, log_of, latest_of, most_versions}
use Rattle.tl_run.specs.declared.answer.Answer.{Answer}
use Rattle.tl_run.specs.declared.midway.MidwayReports.{MidwayReports}
use Rattle.tl_run.specs.Output.{Progress, Setting, text_of, IsPublish}

-- A run whose capture begins in the middle of another one has reports of its own; that of a whole run has those of its desk.
-- How many were published, and the rows of the last one:
abbrev pub count_by : Option MidwayReports → List ReportData → ℕ
count_by own reports = option_map_or (λ (o : MidwayReports). o.count) own (length reports)

abbrev pub last_by : Option MidwayReports → List ReportData → Option ReportData
last_by own reports = option_map_or (λ (o : MidwayReports). o.last) own (latest_of reports)

abbrev pub rows_in : Option ReportData → List Row
rows_in last = option_map_or (λ (r : ReportData). r.rows) last []

-- what a run has come to that has this desk and these reports
abbrev pub progress_by : Option MidwayReports → Core → Progress
progress_by own core = record { edits = (log_of core).edits; reports = count_by own core.reports; rows = rows_in (last_by own core.reports) }

-- what it is of
abbrev pub setting_by : Option MidwayReports → Core → Setting
setting_by own core = record { topo = (log_of core).topo; midway = option_map (λ (o : MidwayReports). o.law) own }

-- a run whose capture is a whole run's
abbrev pub progress_of : Core → Progress
progress_of core = progress_by None core

-- The topology has the links of the last report's rows.
abbrev pub LastIsLinked : Topology → MidwayReports → Type 0
LastIsLinked topo own = IfSome own.last (λ (r : ReportData). AreLinked topo r.rows)

-- What every session keeps: no monitor is out, and the topology has the links of its last report.
pub record IsSession (core : Core) (own : Option MidwayReports) : Type 0 where
  pub here : AllHere core.boxes
  pub linked : IfSome own (LastIsLinked (log_of core).topo)

-- what a run has come to with these edits, and reports of its own
abbrev pub own_progress : LogData → MidwayReports → Progress
own_progress log own = record { edits = log.edits; reports = own.count; rows = rows_in own.last }

abbrev pub own_setting : LogData → MidwayReports → Setting
own_setting log own = record { topo = log.topo; midway = Some own.law }

-- none yet
abbrev pub no_reports : Midway → MidwayReports
no_reports law = record { law = law; count = 0; last = None }

-- What comes of one report more of what these edits leave.
abbrev pub PublishesOwn : LogData → MidwayReports → Answer → MidwayReports → Type 0
PublishesOwn log old found new = IsPublish (own_setting log old) (own_progress log old) (nat_lt old.count most_versions) (text_of log.topo found) (own_progress log new)
