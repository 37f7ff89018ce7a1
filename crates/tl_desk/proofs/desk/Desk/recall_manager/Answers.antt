use Rattle.std.proofs.Common.{◌≡◌, inl, inr, None, refl, sym, ap, subst, ◌∙◌}
use Rattle.tl_pieces.specs.declared.key.PieceKey.{PieceKey}
use Rattle.tl_board.specs.Spans.{SpansData}
use Rattle.tl_board.specs.Windows.{key_of}
use Rattle.tl_desk.specs.Core.{Core}
use Rattle.tl_desk.specs.Jobs.{IsLiveAt, Unmarks, Recalls, marked, with_spans}
use Rattle.tl_desk.proofs.JobLemmas.{unmarked, unmarked_log, sound_recalled, rest_is}
use Rattle.tl_desk.proofs.desk.Desk.recall_manager.Goals as goal

pub invariant_of-self : goal.invariant_of-self
invariant_of-self g c =
    let inside : Core = record { windows = c.self.inside.windows; boxes = c.self.inside.boxes; reports = c.self.inside.reports.items; tickets = c.self.inside.tickets } in
    let key : PieceKey = key_of c.from-owner.result c.args.window in
    sound_recalled inside c.self.invariant key c.args.ticket c.unmark.new.windows (unmarked_log inside.windows.spans c.unmark.new.windows.spans key c.args.ticket c.unmark.ensures.made)
    (unmarked inside.windows.spans c.unmark.new.windows.spans key c.args.ticket c.unmark.ensures.made) c.unmark.ensures.rest

pub returns-clause-live : goal.returns-clause-live
returns-clause-live g c =
    let inside : Core = record { windows = c.self.inside.windows; boxes = c.self.inside.boxes; reports = c.self.inside.reports.items; tickets = c.self.inside.tickets } in
    let same : key_of c.from-owner.result c.args.window ≡ key_of c.args.owner c.args.window = ap (λ n. key_of n c.args.window) c.from-owner.ensures in (
      (λ h. subst (λ (k : Core). IsLiveAt k.windows.spans (key_of c.args.owner c.args.window) c.args.ticket) c.self.view_is (subst (λ (k : PieceKey). IsLiveAt inside.windows.spans k c.args.ticket) same (c.unmark.ensures.live.0 h))),
      (λ live. c.unmark.ensures.live.1 (subst (λ (k : PieceKey). IsLiveAt inside.windows.spans k c.args.ticket) (sym same) (subst (λ (k : Core). IsLiveAt k.windows.spans (key_of c.args.owner c.args.window) c.args.ticket) (sym c.self.view_is) live))),
    )

pub returns-clause-step : goal.returns-clause-step
returns-clause-step g c = λ yes. (
    let inside : Core = record { windows = c.self.inside.windows; boxes = c.self.inside.boxes; reports = c.self.inside.reports.items; tickets = c.self.inside.tickets } in
    let key : PieceKey = key_of c.from-owner.result c.args.window in
    let new : Core = record { windows = c.unmark.new.windows; boxes = inside.boxes; reports = inside.reports; tickets = inside.tickets } in
    let live : IsLiveAt inside.windows.spans key c.args.ticket = c.unmark.ensures.live.0 yes in
    let made : Unmarks inside.windows.spans key c.args.ticket c.unmark.new.windows.spans = c.unmark.ensures.made in
    let spans : c.unmark.new.windows.spans ≡ marked key None inside.windows.spans = elim made [ inl h ↦ h.1 | inr h ↦ absurd (h.0 live) ] in
    let rest : new ≡ with_spans (marked key None inside.windows.spans) inside =
    rest_is inside c.unmark.new.windows inside.tickets inside.tickets c.unmark.ensures.rest refl ∙ ap (λ (s : SpansData). with_spans s inside) spans in
    subst (λ (k : Core). Recalls k c.args.ticket new) c.self.view_is (record { key = key; live = live; rest = rest }))
