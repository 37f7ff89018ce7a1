use Rattle.std.proofs.Common.{◌≡◌, ◌++◌, ℕ, None, rules, map, length, sym, ap, subst, ◌∙◌}
use Rattle.tl_monitor.specs.Boxes.{IsBoxes, told, here_in, first_out}
use Rattle.tl_edits.specs.Log.{LogData}
use Rattle.tl_desk.specs.Core.{Core, log_of}
use Rattle.tl_desk.specs.Ends.{AllHaveEnded}
use Rattle.tl_desk.proofs.FinishLemmas.{all_have_ended}
use Rattle.tl_desk.proofs.desk.Desk.finish.Goals as goal

pub returns-clause-told : goal.returns-clause-told
returns-clause-told g c =
    c.finish-told.ensures
    ∙ ap (λ (n : ℕ). c.self.inside.boxes.ended ++ map (λ e. (e.0, told e.1 n)) (here_in c.self.inside.boxes.slots)) (c.len.ensures.count ∙ ap (λ (l : LogData). length l.edits) c.into_log-log.ensures)
    ∙ ap (λ (s : Core). s.boxes.ended ++ map (λ e. (e.0, told e.1 (length (log_of s).edits))) (here_in s.boxes.slots)) c.self.view_is

pub returns-clause-once : goal.returns-clause-once
returns-clause-once g c =
    let inside : Core = record { windows = c.self.inside.windows; boxes = c.self.inside.boxes; reports = c.self.inside.reports.items; tickets = c.self.inside.tickets } in
    let is : c.finish-told.result.items ≡ inside.boxes.ended ++ map (λ e. (e.0, told e.1 (length (log_of inside).edits))) (here_in inside.boxes.slots) =
    c.finish-told.ensures
    ∙ ap (λ (n : ℕ). inside.boxes.ended ++ map (λ e. (e.0, told e.1 n)) (here_in inside.boxes.slots)) (c.len.ensures.count ∙ ap (λ (l : LogData). length l.edits) c.into_log-log.ensures) in
    let none : first_out inside.boxes.slots ≡ None = search rules in
    subst (λ (s : Core). AllHaveEnded (log_of s) c.finish-told.result.items) c.self.view_is
    (subst (AllHaveEnded (log_of inside)) (sym is) (all_have_ended inside c.self.invariant (subst (λ (s : Core). IsBoxes s.boxes) (sym c.self.view_is) c.first_away.ensures.boxes) none))
