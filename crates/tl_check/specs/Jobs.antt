-- Jobs and their results, as plain data.
use Rattle.std.specs.Prelude.{ℕ, ◌≡◌, ◌<◌, List, length}
use Rattle.std.specs.List.{All, Contains}
use Rattle.std.specs.List.Sorted.{IsStrictlySortedBy}
use Rattle.tl_topology.specs.Regions.{Area}
use Rattle.tl_topology.specs.Topology.{IsSound}
use Rattle.tl_topology.specs.declared.LinkDecl.{LinkDecl}
use Rattle.tl_beats.specs.Beats.{IsWellFormed}
use Rattle.tl_beats.specs.declared.Placed.{Placed}
use Rattle.tl_beats.specs.declared.Row.{Row}
use Rattle.tl_definitions.specs.Positions.{position_order, links_of}
use Rattle.tl_definitions.specs.Rules.{Manager}
use Rattle.tl_definitions.specs.Judging.{Snapshot, judging}
use Rattle.tl_definitions.specs.Passes.{Pass, IsPass, rows_judged, left_after}
use Rattle.tl_client_rules.specs.Manager as managers
use Rattle.tl_check.specs.declared.state.SpanState.{SpanState}
use Rattle.tl_check.specs.States.{shown, IsOf}

-- What a window of a manager is judged by: the block's exponent, all links of the topology, the manager's regions, its beats
-- of the window, and the state that they are judged from.
pub record Job : Type 0 where
  pub exponent : ℕ
  pub links : List LinkDecl
  pub regions : List Area
  pub beats : List Placed
  pub entry : SpanState

-- The manager whose clients a state knows.
abbrev pub manager_from : List LinkDecl → ℕ → List Area → SpanState → Manager
manager_from links exponent regions state =
    record { links = links_of links; clients = (managers.shown state.clients).clients; exponent = exponent; regions = regions }

abbrev pub manager_of : Job → Manager
manager_of job = manager_from job.links job.exponent job.regions job.entry

-- What each job keeps.
pub record IsJob (job : Job) : Type 0 where
  pub links : All IsSound job.links
  pub beats : All (λ p. IsWellFormed p.beat) job.beats
  pub within : All (λ p. p.link < length job.links) job.beats
  pub linked : All (λ p. Contains (manager_of job).clients p.link) job.beats
  pub rises : IsStrictlySortedBy position_order job.beats
  pub entry : IsOf (manager_of job) job.entry

-- A job with the state after its beats and the rows of what they break.
pub record Checked : Type 0 where
  pub job : Job
  pub exit : SpanState
  pub rows : List Row

abbrev pub pass_of : Checked → Pass Snapshot
pass_of result = record { entry = shown result.job.entry; beats = result.job.beats; exit = shown result.exit; rows = result.rows }

-- What each result keeps: it is the pass of its own job.
pub record IsResult (result : Checked) : Type 0 where
  pub job : IsJob result.job
  pub exit : IsOf (manager_of result.job) result.exit
  pub pass : IsPass (judging (manager_of result.job)) (pass_of result)

-- Judging these beats of a manager from a state leaves a state of the manager and these rows.
abbrev pub Judges : Manager → SpanState → List Placed → SpanState → List Row → Type 0
Judges m entry beats exit rows = IsOf m exit × IsPass (judging m) (record { entry = shown entry; beats = beats; exit = shown exit; rows = rows })

-- A state of a manager goes on after these beats, and these are the rows of what they break, in the order of positions.
pub record GoesOn (m : Manager) (old : SpanState) (beats : List Placed) (new : SpanState) (rows : List Row) : Type 0 where
  pub is_of : IsOf m new
  pub left : shown new ≡ left_after (judging m) (shown old) beats
  pub found : rows ≡ rows_judged (judging m) (shown old) beats
