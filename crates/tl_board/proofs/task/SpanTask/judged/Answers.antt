use Rattle.std.proofs.Common.{◌<◌, ℕ, List, length, sym, subst, get_or}
use Rattle.std.specs.Prelude.{IfOk, vec_len}
use Rattle.std.specs.Arc.{arc_value}
use Rattle.std.specs.List.{Contains}
use Rattle.tl_topology.specs.Regions.{areas_of}
use Rattle.tl_topology.specs.Topology.{Topology}
use Rattle.tl_beats.specs.declared.Placed.{Placed}
use Rattle.tl_definitions.specs.Managers.{declared_links, manager_at}
use Rattle.tl_definitions.specs.Positions.{clients_of}
use Rattle.tl_check.specs.Jobs.{Judges}
use Rattle.tl_check.specs.States.{IsOf, SameSpan}
use Rattle.tl_check.proofs.StateLaws.{same_is_of}
use Rattle.tl_board.specs.Tasks.{TaskData, manager_of}
use Rattle.tl_board.proofs.TaskLemmas.{parted_there, each_list}
use Rattle.tl_board.proofs.task.SpanTask.judged.Goals as goal

pub check_window-requires-clause-linked : goal.check_window-requires-clause-linked
check_window-requires-clause-linked c =
    let walk : List Placed = c.in_ok-walk.walk in
    subst (λ (t : Topology). (k : ℕ) (d : Placed) → k < length walk → Contains (clients_of c.self.inside.manager (declared_links t)) (get_or walk k d).link) (sym c.deref.ensures)
    (subst (λ (ps : List Placed). (k : ℕ) (d : Placed) → k < length ps → Contains (clients_of c.self.inside.manager (declared_links (arc_value c.self.inside.topo))) (get_or ps k d).link) (sym c.in_ok-walk.ensures)
    c.self.invariant.0.beats.linked)

pub check_window-requires-clause-state : goal.check_window-requires-clause-state
check_window-requires-clause-state c =
    subst (λ (t : Topology). IsOf (manager_at t c.self.inside.manager (areas_of c.self.inside.regions)) c.args.state.now) (sym c.deref.ensures)
    (same_is_of (manager_at (arc_value c.self.inside.topo) c.self.inside.manager (areas_of c.self.inside.regions)) (arc_value c.self.inside.entry) c.args.state.now c.self.invariant.0.entry
    (subst (λ (t : TaskData). SameSpan t.entry c.args.state.now) (sym c.self.view_is) c.requires))

pub check_apart-requires-clause-each : goal.check_apart-requires-clause-each
check_apart-requires-clause-each c = each_list c.deref-2.result.now c.self.inside.manager c.self.inside.beats c.deref-3.result.now
    (parted_there (arc_value c.self.inside.topo) c.deref-2.result.now c.self.inside.manager c.self.inside.links.items c.self.inside.beats c.self.inside.apart.items c.deref-3.result.now (vec_len c.self.inside.apart)
    c.deref-2.ensures c.deref-3.ensures.value c.deref-3.ensures.len c.if-is_empty.ensures c.self.invariant.1 c.self.invariant.0.beats c.self.invariant.2)

pub check_apart-requires-clause-state : goal.check_apart-requires-clause-state
check_apart-requires-clause-state c =
    subst (λ (t : Topology). IsOf (manager_at t c.self.inside.manager (areas_of c.self.inside.regions)) c.args.state.now) (sym c.deref-2.ensures)
    (same_is_of (manager_at (arc_value c.self.inside.topo) c.self.inside.manager (areas_of c.self.inside.regions)) (arc_value c.self.inside.entry) c.args.state.now c.self.invariant.0.entry
    (subst (λ (t : TaskData). SameSpan t.entry c.args.state.now) (sym c.self.view_is) c.requires))

pub returns-then-is_empty : goal.returns-then-is_empty
returns-then-is_empty c =
    let task : TaskData = record { topo = arc_value c.self.inside.topo; owner = c.self.inside.manager; window = c.self.inside.window; regions = c.self.inside.regions; beats = c.self.inside.beats; entry = arc_value c.self.inside.entry } in
    subst (λ (t : TaskData). IfOk c.check_window.result (λ rows. Judges (manager_of t) c.args.state.now t.beats c.check_window.new.state rows.items)) c.self.view_is
    (subst (λ (ps : List Placed). IfOk c.check_window.result (λ rows. Judges (manager_of task) c.args.state.now ps c.check_window.new.state rows.items)) c.in_ok-walk.ensures
    (subst (λ (t : Topology). IfOk c.check_window.result (λ rows. Judges (manager_at t c.self.inside.manager (areas_of c.self.inside.regions)) c.args.state.now c.in_ok-walk.walk c.check_window.new.state rows.items)) c.deref.ensures
    c.check_window.ensures))

pub returns : goal.returns
returns c =
    let task : TaskData = record { topo = arc_value c.self.inside.topo; owner = c.self.inside.manager; window = c.self.inside.window; regions = c.self.inside.regions; beats = c.self.inside.beats; entry = arc_value c.self.inside.entry } in
    subst (λ (t : TaskData). IfOk c.check_apart.result (λ rows. Judges (manager_of t) c.args.state.now t.beats c.check_apart.new.state rows.items)) c.self.view_is
    (subst (λ (t : Topology). IfOk c.check_apart.result (λ rows. Judges (manager_at t c.self.inside.manager (areas_of c.self.inside.regions)) c.args.state.now task.beats c.check_apart.new.state rows.items)) c.deref-2.ensures
    (c.check_apart.ensures task.beats
    (parted_there (arc_value c.self.inside.topo) c.deref-2.result.now c.self.inside.manager c.self.inside.links.items c.self.inside.beats c.self.inside.apart.items c.deref-3.result.now (vec_len c.self.inside.apart)
    c.deref-2.ensures c.deref-3.ensures.value c.deref-3.ensures.len c.if-is_empty.ensures c.self.invariant.1 c.self.invariant.0.beats c.self.invariant.2)))
