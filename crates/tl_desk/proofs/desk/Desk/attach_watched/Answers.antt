use Rattle.std.proofs.Common.{◌≡◌, ◌<◌, ◌++◌, ◌∷◌, [], Some, None, length, refl, sym, ap, subst, ◌∙◌, rules}
use Rattle.std.specs.Option.{IsSome}
use Rattle.tl_monitor.specs.Boxes.{BoxesData, place_at}
use Rattle.tl_edits.specs.Edits.{AnEdit, attach}
use Rattle.tl_edits.specs.Inputs.{changed, refusal}
use Rattle.tl_board.specs.Watches.{WatchesData}
use Rattle.tl_board.proofs.EditLemmas.{stands}
use Rattle.tl_desk.specs.Core.{Core, IsSound, log_of, standing}
use Rattle.tl_desk.specs.Ends.{HaveEnded}
use Rattle.tl_desk.proofs.AttachedLemmas.{Keeps, attached_more, not_held, given_back, put_found, was_attached_more}
use Rattle.tl_desk.proofs.EndLemmas.{Goes, goes_on, ends_attached}
use Rattle.tl_desk.proofs.ReportLemmas.{sound_edited}
use Rattle.tl_desk.proofs.desk.Desk.attach_watched.Goals as goal

pub attach-requires : goal.attach-requires
attach-requires g c =
    let old : Core = record { windows = c.self.inside.windows; boxes = c.self.inside.boxes; reports = c.self.inside.reports.items; tickets = c.self.inside.tickets } in
    let accepted : refusal (length (log_of old).edits) (standing old) (attach c.args.number c.watch.result) ≡ None = search rules in
    not_held _ (standing old) old.boxes c.args.number c.watch.result c.self.invariant.known accepted

pub accept-requires : goal.accept-requires
accept-requires g c = search rules

pub invariant_of-self-in-Ok : goal.invariant_of-self-in-Ok
invariant_of-self-in-Ok g c =
    let old : Core = record { windows = c.self.inside.windows; boxes = c.self.inside.boxes; reports = c.self.inside.reports.items; tickets = c.self.inside.tickets } in
    let e : AnEdit = attach c.args.number c.watch.result in
    let accepted : refusal (length (log_of old).edits) (standing old) e ≡ None = search rules in
    let none : place_at c.args.number c.self.inside.boxes.slots ≡ None = not_held _ (standing old) old.boxes c.args.number c.watch.result c.self.invariant.known accepted in
    let few : c.args.number < 4294967296 = search rules in
    let kept : Keeps (changed (standing old) e) old.boxes c.attach.new.self =
    attached_more (standing old) old.boxes c.attach.new.self c.args.number c.args.watched c.watch.result (sym c.watch.ensures.watch) few none c.in_ok-attach.ensures.ok c.self.invariant.attached c.self.invariant.known in
    let log : c.accept.new.self.spans.log ≡ record (log_of old) { edits = (log_of old).edits ++ e ∷ [] } = c.in-Ok.ensures.ok.spans.log in
    let goes : Goes (log_of old) c.accept.new.self.spans.log (Some c.args.number) =
    goes_on (log_of old) c.accept.new.self.spans.log e log (stands old.windows.spans e c.accept.new.self.spans.log c.accept.new.self.spans.board log) (was_attached_more (standing old) c.args.number c.watch.result) in
    let ends : HaveEnded c.accept.new.self.spans.log c.attach.new.self =
    ends_attached (log_of old) c.accept.new.self.spans.log c.args.number c.watch.result c.args.watched old.boxes c.attach.new.self c.self.invariant.ends accepted goes c.in_ok-attach.ensures.ok in
    sound_edited old e c.accept.new.self c.attach.new.self c.self.invariant c.in-Ok.ensures.ok c.in-Ok.ensures.before c.in-Ok.ensures.after kept ends

pub unwrap-requires : goal.unwrap-requires
unwrap-requires g c =
    subst IsSome (sym (c.give_back.ensures.monitor ∙ put_found c.self.inside.boxes c.attach.new.self c.args.number c.args.watched c.in_ok-attach.ensures.ok)) refl

pub invariant_of-self-in-Err : goal.invariant_of-self-in-Err
invariant_of-self-in-Err g c =
    let old : Core = record { windows = c.self.inside.windows; boxes = c.self.inside.boxes; reports = c.self.inside.reports.items; tickets = c.self.inside.tickets } in
    let accepted : refusal (length (log_of old).edits) (standing old) (attach c.args.number c.watch.result) ≡ None = search rules in
    let none : place_at c.args.number c.self.inside.boxes.slots ≡ None = not_held _ (standing old) old.boxes c.args.number c.watch.result c.self.invariant.known accepted in
    let back : c.give_back.new.self ≡ old.boxes = given_back old.boxes c.attach.new.self c.give_back.new.self c.args.number c.args.watched none c.in_ok-attach.ensures.ok c.give_back.ensures.rest in
    subst (λ (s : WatchesData). IsSound (record { windows = s; boxes = c.give_back.new.self; reports = old.reports; tickets = old.tickets })) (sym c.in-Err.ensures.err)
    (subst (λ (b : BoxesData). IsSound (record { windows = old.windows; boxes = b; reports = old.reports; tickets = old.tickets })) (sym back) c.self.invariant)

pub returns-in-Err-clause-back : goal.returns-in-Err-clause-back
returns-in-Err-clause-back g c =
    let found : Some c.unwrap.result ≡ Some c.args.watched = sym c.unwrap.ensures ∙ c.give_back.ensures.monitor
    ∙ put_found c.self.inside.boxes c.attach.new.self c.args.number c.args.watched c.in_ok-attach.ensures.ok in
    cc

pub returns-in-Err-clause-err : goal.returns-in-Err-clause-err
returns-in-Err-clause-err g c =
    let old : Core = record { windows = c.self.inside.windows; boxes = c.self.inside.boxes; reports = c.self.inside.reports.items; tickets = c.self.inside.tickets } in
    let accepted : refusal (length (log_of old).edits) (standing old) (attach c.args.number c.watch.result) ≡ None = search rules in
    let none : place_at c.args.number c.self.inside.boxes.slots ≡ None = not_held _ (standing old) old.boxes c.args.number c.watch.result c.self.invariant.known accepted in
    let back : c.give_back.new.self ≡ old.boxes = given_back old.boxes c.attach.new.self c.give_back.new.self c.args.number c.args.watched none c.in_ok-attach.ensures.ok c.give_back.ensures.rest in
    ap (λ (s : WatchesData). record { windows = s; boxes = c.give_back.new.self; reports = old.reports; tickets = old.tickets }) c.in-Err.ensures.err
    ∙ ap (λ (b : BoxesData). record { windows = old.windows; boxes = b; reports = old.reports; tickets = old.tickets }) back
    ∙ c.self.view_is
