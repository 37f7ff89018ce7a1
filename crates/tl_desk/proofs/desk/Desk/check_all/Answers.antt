use Rattle.std.proofs.Common.{[], List, refl, sym, ap, subst, ◌∙◌}
use Rattle.tl_beats.specs.declared.Row.{Row}
use Rattle.tl_pieces.specs.Pieces.{Board}
use Rattle.tl_board.specs.Recheck.{ChecksSome}
use Rattle.tl_board.proofs.RecheckLemmas.{none_checked, in_error}
use Rattle.tl_board.specs.declared.tally.Tally.{Tally}
use Rattle.tl_board.specs.Tally.{SameTally}
use Rattle.tl_desk.specs.Core.{Core}
use Rattle.tl_desk.specs.Steps.{RechecksSome}
use Rattle.tl_desk.proofs.AttachedLemmas.{kept_none}
use Rattle.tl_desk.proofs.TallyLemmas.{none_left}
use Rattle.tl_desk.proofs.ReportLemmas.{sound_still}
use Rattle.tl_check.specs.States.{SameSpan}
use Rattle.tl_board.specs.Spans.{SpansData}
use Rattle.tl_desk.proofs.desk.Desk.check_all.Goals as goal

pub returns-in_err-of_managers-clause-err : goal.returns-in_err-of_managers-clause-err
returns-in_err-of_managers-clause-err g c =
    let old : Core = record { windows = c.self.inside.windows; boxes = c.self.inside.boxes; reports = c.self.inside.reports.items; tickets = c.self.inside.tickets } in
    let new : Core = record { windows = c.recheck_spans.new.self; boxes = c.self.inside.boxes; reports = c.self.inside.reports.items; tickets = c.self.inside.tickets } in
    let some : RechecksSome old new = record {
      log = c.in_err-of_managers.ensures.log;
      managers = c.in_err-of_managers.ensures.err;
      monitors = subst (λ (b : Board Tally (List Row)). ChecksSome SameTally old.windows.board b) (sym c.in_err-of_managers.ensures.rest) ([], none_checked SameTally old.windows.board);
      boxes = kept_none old.boxes;
      left = none_left new.windows old.boxes;
      reports = refl;
      tickets = refl;
    } in
    in_error c.from_residual.result _ (subst (λ (s : Core). RechecksSome s new) c.self.view_is some)

pub invariant_of-self-in_err-of_monitors : goal.invariant_of-self-in_err-of_monitors
invariant_of-self-in_err-of_monitors g c =
    let old : Core = record { windows = c.self.inside.windows; boxes = c.self.inside.boxes; reports = c.self.inside.reports.items; tickets = c.self.inside.tickets } in
    sound_still old c.check_watches.new.windows c.check_watches.new.boxes c.self.invariant (ap (λ (s : SpansData). s.log) c.check_watches.ensures.spans ∙ c.recheck_spans.ensures.log) c.check_watches.ensures.boxes
    (subst (λ (s : SpansData). ChecksSome SameSpan old.windows.spans.board s.board) (sym c.check_watches.ensures.spans) (c.in_ok-of_managers.ensures.ok.keys, c.in_ok-of_managers.ensures.ok.checked))
    (subst (λ (b : Board Tally (List Row)). ChecksSome SameTally b c.check_watches.new.windows.board) c.recheck_spans.ensures.rest c.in_err-of_monitors.ensures.err)

pub invariant_of-self-2 : goal.invariant_of-self-2
invariant_of-self-2 g c =
    let old : Core = record { windows = c.self.inside.windows; boxes = c.self.inside.boxes; reports = c.self.inside.reports.items; tickets = c.self.inside.tickets } in
    sound_still old c.check_watches.new.windows c.check_watches.new.boxes c.self.invariant (ap (λ (s : SpansData). s.log) c.check_watches.ensures.spans ∙ c.recheck_spans.ensures.log) c.check_watches.ensures.boxes
    (subst (λ (s : SpansData). ChecksSome SameSpan old.windows.spans.board s.board) (sym c.check_watches.ensures.spans) (c.in_ok-of_managers.ensures.ok.keys, c.in_ok-of_managers.ensures.ok.checked))
    (subst (λ (b : Board Tally (List Row)). ChecksSome SameTally b c.check_watches.new.windows.board) c.recheck_spans.ensures.rest (c.in_ok-of_monitors.ensures.ok.keys, c.in_ok-of_monitors.ensures.ok.checked))
