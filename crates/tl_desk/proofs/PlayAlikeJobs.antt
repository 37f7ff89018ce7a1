-- Jobs on windows that show the same, and what their checks come to.
use Rattle.std.proofs.Common.{◌≡◌, ℕ, List, Some, refl, sym, ap, subst, ◌∙◌, arith, length}
use Rattle.std.specs.Prelude.{slice_index_or}
use Rattle.std.specs.List.{Contains}
use Rattle.tl_topology.specs.Regions.{Area, areas_of}
use Rattle.tl_topology.specs.Topology.{Topology}
use Rattle.tl_beats.specs.declared.Row.{Row}
use Rattle.tl_beats.specs.declared.watch.Watch.{Watch}
use Rattle.tl_definitions.specs.Captures.{manager_beats}
use Rattle.tl_definitions.specs.Judging.{judging}
use Rattle.tl_definitions.specs.Managers.{manager_at}
use Rattle.tl_definitions.specs.Passes.{Judge, IsPass, rows_judged, left_after}
use Rattle.tl_definitions.specs.Passes.{Pass as APass}
use Rattle.tl_definitions.specs.Report.{key_order}
use Rattle.tl_definitions.specs.Rules.{Manager}
use Rattle.tl_definitions.specs.Tallies.{watching}
use Rattle.tl_definitions.proofs.ReportLaws.{key_total, strict_one}
use Rattle.tl_edits.specs.Inputs.{InputData, regions_at, watch_at}
use Rattle.tl_edits.specs.Log.{LogData, inputs_after}
use Rattle.tl_desk.specs.JobData.{JobData, DoneData, IsDone}
use Rattle.tl_desk.specs.MonitorJobs.{MonitorJobData, MonitorDoneData, SameJob, IsMonitorDone}
use Rattle.tl_desk.specs.Works.{ComesBack, IsDoneFrom, IsChecked}
use Rattle.tl_desk.specs.declared.job.Job.{Job}
use Rattle.tl_desk.specs.declared.job.Job.TheVariants as a_job
use Rattle.tl_desk.specs.declared.job.Done.{Done}
use Rattle.tl_desk.specs.declared.job.Done.TheVariants as a_done
use Rattle.tl_pieces.specs.declared.key.PieceKey.{PieceKey}
use Rattle.tl_pieces.specs.Pieces.{Pass, entry_for}
use Rattle.tl_check.specs.Captured.{watched_beats}
use Rattle.tl_check.specs.Links.{SameLink}
use Rattle.tl_check.specs.States.{IsOf, SameSpan}
use Rattle.tl_check.specs.declared.links.LinkState.{LinkState}
use Rattle.tl_check.specs.declared.state.SpanState.{SpanState}
use Rattle.tl_check.proofs.StateLaws.{same_shown, shown_same}
use Rattle.tl_board.specs.Spans.{SpansData, standing}
use Rattle.tl_board.specs.Tickets.{IsTaskFor}
use Rattle.tl_board.specs.Tasks.{TaskData, IsPassOf, manager_of}
use Rattle.tl_board.specs.declared.tally.Tally.{Tally}
use Rattle.tl_board.specs.Outside.{IsWatchTaskFor}
use Rattle.tl_board.specs.Tally.{SameTally}
use Rattle.tl_board.specs.WatchTasks.{WatchTaskData, IsWatchPassOf, without_monitor}
use Rattle.tl_board.specs.Watches.{WatchesData}
use Rattle.tl_capture.specs.Windows.{beats_in}
use Rattle.tl_desk.specs.Alike.{AreBoth, SamePass}
use Rattle.tl_desk.proofs.AlikeBoards.{moved}
use Rattle.tl_desk.proofs.TicketLemmas.{one_value}

-- ---- states that show the same

link_back : (x y : LinkState) → SameLink x y → SameLink y x
link_back x y a = record { bursts = λ chan. sym (a.bursts chan); flow = sym a.flow }

pub span_back : (x y : SpanState) → SameSpan x y → SameSpan y x
span_back x y a = record {
  links = record {
    count = sym a.links.count;
    each = λ n d within. link_back (slice_index_or x.links.items n d) (slice_index_or y.links.items n d)
        (a.links.each n d (let many : length x.links.items ≡ length y.links.items = a.links.count in omega (arith, within, many)));
  };
  clients = sym a.clients;
}

pub span_self : (x : SpanState) → SameSpan x x
span_self x = record { links = record { count = refl; each = λ n d within. record { bursts = λ chan. refl; flow = refl } }; clients = refl }

pub tally_back : (x y : Tally) → SameTally x y → SameTally y x
tally_back x y a = sym a

-- ---- passes

-- Of beats that are judged from one state there is one pass.
one_pass : {S : Type 0} (judge : Judge S) (a b : APass S) → a.entry ≡ b.entry → a.beats ≡ b.beats → IsPass judge a → IsPass judge b → (a.exit ≡ b.exit) × (a.rows ≡ b.rows)
one_pass judge a b entry beats first second = (
  first.exit ∙ ap (λ s. left_after judge s a.beats) entry ∙ ap (left_after judge b.entry) beats ∙ sym second.exit,
  strict_one key_order key_total a.rows b.rows first.rises second.rises (λ row. (
    (λ h. (second.members row).1 (subst (λ rows. Contains rows row) judged ((first.members row).0 h))),
    (λ h. (first.members row).1 (subst (λ rows. Contains rows row) (sym judged) ((second.members row).0 h))),
  )),
)
  where
    judged : rows_judged judge a.entry a.beats ≡ rows_judged judge b.entry b.beats
    judged = ap (λ s. rows_judged judge s a.beats) entry ∙ ap (rows_judged judge b.entry) beats

-- ---- tasks

-- A window of a manager is the same with the same beats and regions, and is to start from what shows the same.
pub record SameTask (one other : TaskData) : Type 0 where
  pub topo : one.topo ≡ other.topo
  pub owner : one.owner ≡ other.owner
  pub window : one.window ≡ other.window
  pub regions : one.regions ≡ other.regions
  pub beats : one.beats ≡ other.beats
  pub entry : SameSpan one.entry other.entry

-- A window of a monitor is the same with the same beats and watch, and is to start from the same tally.
pub record SameWatchTask (one other : WatchTaskData) : Type 0 where
  pub number : one.number ≡ other.number
  pub window : one.window ≡ other.window
  pub watch : one.held.watch ≡ other.held.watch
  pub beats : one.beats ≡ other.beats
  pub entry : SameTally one.entry other.entry

pub tasks_alike : (one other : SpansData) (key : PieceKey) (t u : TaskData) → one.log ≡ other.log → AreBoth SameSpan (entry_for key one.board) (entry_for key other.board) → IsTaskFor one key t → IsTaskFor other key u → SameTask t u
tasks_alike one other key t u log entries first second = record {
  topo = first.topo ∙ ap (λ (i : InputData). i.topo) now ∙ sym second.topo;
  owner = first.owner ∙ sym second.owner;
  window = first.window ∙ sym second.window;
  regions = first.regions ∙ ap (λ (i : InputData). regions_at key.owner i.regions) now ∙ sym second.regions;
  beats = first.beats ∙ ap (λ (i : InputData). beats_in key.window (manager_beats i.topo i.fragments key.owner)) now ∙ sym second.beats;
  entry = moved SameSpan (entry_for key one.board) (entry_for key other.board) (Some t.entry) (Some u.entry) first.entry second.entry entries;
}
  where
    now : standing one ≡ standing other
    now = ap (λ (l : LogData). inputs_after l.topo l.edits) log

pub watch_tasks_alike : (one other : WatchesData) (key : PieceKey) (t u : WatchTaskData) → one.spans.log ≡ other.spans.log → AreBoth SameTally (entry_for key one.board) (entry_for key other.board)
    → IsWatchTaskFor one key (without_monitor t) → IsWatchTaskFor other key (without_monitor u) → SameWatchTask t u
watch_tasks_alike one other key t u log entries first second = record {
  number = first.number ∙ sym second.number;
  window = first.window ∙ sym second.window;
  watch = watch;
  beats = first.beats ∙ ap (λ (i : InputData). beats_in key.window (watched_beats i.topo i.fragments t.held.watch)) now
      ∙ ap (λ (w : Watch). beats_in key.window (watched_beats (standing other.spans).topo (standing other.spans).fragments w)) watch ∙ sym second.beats;
  entry = moved SameTally (entry_for key one.board) (entry_for key other.board) (Some t.entry) (Some u.entry) first.entry second.entry entries;
}
  where
    now : standing one.spans ≡ standing other.spans
    now = ap (λ (l : LogData). inputs_after l.topo l.edits) log

    watch : t.held.watch ≡ u.held.watch
    watch = one_value (watch_at key.owner (standing other.spans).monitors) t.held.watch u.held.watch (sym (ap (λ (i : InputData). watch_at key.owner i.monitors) now) ∙ first.watch) second.watch

-- ---- checks

span_pass : (t u : TaskData) (r q : Pass SpanState (List Row)) → SameTask t u → IsPassOf t r → IsPassOf u q → SameSpan r.entry q.entry → SamePass SameSpan r q
span_pass t u r q same first second entry = record {
  entry = entry;
  exit = shown_same (manager_of t) r.exit q.exit first.ends.0 (subst (λ (m : Manager). IsOf m q.exit) manager second.ends.0) (first.ends.1 ∙ passes.0 ∙ sym second.ends.1);
  rows = passes.1;
}
  where
    manager : manager_of u ≡ manager_of t
    manager = sym (ap (λ (p : Topology). manager_at p t.owner (areas_of t.regions)) same.topo ∙ ap (λ n. manager_at u.topo n (areas_of t.regions)) same.owner
        ∙ ap (λ (rs : List (ℕ × Area)). manager_at u.topo u.owner (areas_of rs)) same.regions)

    entries : first.entry ≡ second.entry
    entries = sym first.begins.1 ∙ same_shown r.entry q.entry entry ∙ second.begins.1

    passes : (first.exit ≡ second.exit) × (r.rows ≡ q.rows)
    passes = one_pass (judging (manager_of t)) (record { entry = first.entry; beats = t.beats; exit = first.exit; rows = r.rows }) (record { entry = second.entry; beats = u.beats; exit = second.exit; rows = q.rows })
        entries same.beats first.pass
        (subst (λ (m : Manager). IsPass (judging m) (record { entry = second.entry; beats = u.beats; exit = second.exit; rows = q.rows })) manager second.pass)

watch_pass : (t u : WatchTaskData) (r q : Pass Tally (List Row)) → SameWatchTask t u → IsWatchPassOf t r → IsWatchPassOf u q → SameTally r.entry q.entry → SamePass SameTally r q
watch_pass t u r q same first second entry = record { entry = entry; exit = passes.0; rows = passes.1 }
  where
    judge : watching u.number u.held.watch ≡ watching t.number t.held.watch
    judge = sym (ap (λ n. watching n t.held.watch) same.number ∙ ap (watching u.number) same.watch)

    passes : (r.exit.count ≡ q.exit.count) × (r.rows ≡ q.rows)
    passes = one_pass (watching t.number t.held.watch) (record { entry = r.entry.count; beats = t.beats; exit = r.exit.count; rows = r.rows }) (record { entry = q.entry.count; beats = u.beats; exit = q.exit.count; rows = q.rows })
        entry same.beats first.pass
        (subst (λ (j : Judge ℕ). IsPass j (record { entry = q.entry.count; beats = u.beats; exit = q.exit.count; rows = q.rows })) judge second.pass)

-- ---- jobs

pub record SameSpanJob (one other : JobData) : Type 0 where
  pub ticket : one.ticket ≡ other.ticket
  pub task : SameTask one.task other.task

pub record SameWatchJob (one other : MonitorJobData) : Type 0 where
  pub ticket : one.ticket ≡ other.ticket
  pub task : SameWatchTask one.task other.task

span_done : (d b : DoneData) → SameSpanJob d.job b.job → IsDone d → IsDone b → SamePass SameSpan d.result b.result
span_done d b same first second =
    span_pass d.job.task b.job.task d.result b.result same.task first.pass second.pass
    (subst (λ s. SameSpan s b.result.entry) (sym first.entry) (subst (λ s. SameSpan d.job.task.entry s) (sym second.entry) same.task.entry))

watch_done : (d b : MonitorDoneData) → SameWatchJob d.job b.job → IsMonitorDone d → IsMonitorDone b → SamePass SameTally d.result b.result
watch_done d b same first second =
    watch_pass d.job.task b.job.task d.result b.result same.task first.pass second.pass
    (subst (λ s. SameTally s b.result.entry) (sym first.entry) (subst (λ s. SameTally d.job.task.entry s) (sym second.entry) same.task.entry))

-- a job whose monitor came back with another tally
watch_back : (j b x y : MonitorJobData) → SameWatchJob j b → SameJob j x → SameJob b y → SameWatchJob x y
watch_back j b x y alike first second = record {
  ticket = first.ticket ∙ alike.ticket ∙ sym second.ticket;
  task = record {
    number = ap (λ (t : WatchTaskData). t.number) first.task ∙ alike.task.number ∙ sym (ap (λ (t : WatchTaskData). t.number) second.task);
    window = ap (λ (t : WatchTaskData). t.window) first.task ∙ alike.task.window ∙ sym (ap (λ (t : WatchTaskData). t.window) second.task);
    watch = ap (λ (t : WatchTaskData). t.held.watch) first.task ∙ alike.task.watch ∙ sym (ap (λ (t : WatchTaskData). t.held.watch) second.task);
    beats = ap (λ (t : WatchTaskData). t.beats) first.task ∙ alike.task.beats ∙ sym (ap (λ (t : WatchTaskData). t.beats) second.task);
    entry = ap (λ (t : WatchTaskData). t.entry.count) first.task ∙ alike.task.entry ∙ sym (ap (λ (t : WatchTaskData). t.entry.count) second.task);
  };
}

module _ {M : Type 0} where
  -- Two jobs are out for the same window under the same ticket, and show the same.
  abbrev pub JobsAlike : Job M → Job M → Type 0
  JobsAlike (a_job.Manager j) (a_job.Manager b) = SameSpanJob j b
  JobsAlike (a_job.Monitor j) (a_job.Monitor b) = SameWatchJob j b
  JobsAlike (a_job.Manager j) (a_job.Monitor b) = ⊥
  JobsAlike (a_job.Monitor j) (a_job.Manager b) = ⊥

  -- So do their results.
  abbrev pub DonesAlike : Done M → Done M → Type 0
  DonesAlike (a_done.Manager d) (a_done.Manager b) = SameSpanJob d.job b.job × SamePass SameSpan d.result b.result
  DonesAlike (a_done.Monitor d) (a_done.Monitor b) = SameWatchJob d.job b.job × SamePass SameTally d.result b.result
  DonesAlike (a_done.Manager d) (a_done.Monitor b) = ⊥
  DonesAlike (a_done.Monitor d) (a_done.Manager b) = ⊥

  pub came_back : (job its one other : Job M) → JobsAlike job its → ComesBack job one → ComesBack its other → JobsAlike one other
  came_back (a_job.Manager j) (a_job.Monitor b) one other alike first second = absurd alike
  came_back (a_job.Monitor j) (a_job.Manager b) one other alike first second = absurd alike
  came_back (a_job.Manager j) (a_job.Manager b) (a_job.Monitor x) other alike first second = absurd first
  came_back (a_job.Manager j) (a_job.Manager b) (a_job.Manager x) (a_job.Monitor y) alike first second = absurd second
  came_back (a_job.Manager j) (a_job.Manager b) (a_job.Manager x) (a_job.Manager y) alike first second = subst (λ (d : JobData). SameSpanJob d y) (sym first) (subst (λ (d : JobData). SameSpanJob j d) (sym second) alike)
  came_back (a_job.Monitor j) (a_job.Monitor b) (a_job.Manager x) other alike first second = absurd first
  came_back (a_job.Monitor j) (a_job.Monitor b) (a_job.Monitor x) (a_job.Manager y) alike first second = absurd second
  came_back (a_job.Monitor j) (a_job.Monitor b) (a_job.Monitor x) (a_job.Monitor y) alike first second = watch_back j b x y alike first second

  pub were_checked : (job its : Job M) (done other : Done M) → JobsAlike job its → IsDoneFrom job done → IsDoneFrom its other → IsChecked done → IsChecked other → DonesAlike done other
  were_checked job its (a_done.Manager d) (a_done.Manager b) alike first second checked its_checked =
      let jobs : SameSpanJob d.job b.job = came_back job its (a_job.Manager d.job) (a_job.Manager b.job) alike first second in
      (jobs, span_done d b jobs checked its_checked)
  were_checked job its (a_done.Monitor d) (a_done.Monitor b) alike first second checked its_checked =
      let jobs : SameWatchJob d.job b.job = came_back job its (a_job.Monitor d.job) (a_job.Monitor b.job) alike first second in
      (jobs, watch_done d b jobs checked its_checked)
  were_checked job its (a_done.Manager d) (a_done.Monitor b) alike first second checked its_checked = absurd (came_back job its (a_job.Manager d.job) (a_job.Monitor b.job) alike first second)
  were_checked job its (a_done.Monitor d) (a_done.Manager b) alike first second checked its_checked = absurd (came_back job its (a_job.Monitor d.job) (a_job.Manager b.job) alike first second)
