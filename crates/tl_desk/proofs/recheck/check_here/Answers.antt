use Rattle.std.proofs.Common.{◌≡◌, ◌⊎◌, Some, refl, sym, ap, subst, ◌∙◌}
use Rattle.std.specs.Option.{IsSome, option_and_then}
use Rattle.tl_monitor.specs.Places.{held_of}
use Rattle.tl_board.specs.Spans.{standing}
use Rattle.tl_desk.proofs.AttachedLemmas.{here_or_out, lent_place, lent_kept, lent_back}
use Rattle.tl_desk.proofs.TallyLemmas.{on_ok, on_err, one_left}
use Rattle.tl_board.specs.Watches.{IsAmidWindow}
use Rattle.tl_desk.proofs.recheck.check_here.Goals as goal

pub unwrap-monitor-requires : goal.unwrap-monitor-requires
unwrap-monitor-requires g c =
    let found = here_or_out (standing c.args.windows.now.spans) c.args.boxes.now c.args.key.owner c.requires.attached c.requires.owner c.requires.here in
    subst IsSome (sym (c.take_here.ensures.monitor ∙ ap (λ o. option_and_then held_of o) found.1)) refl

pub check_watch-checked-requires-clause-watch : goal.check_watch-checked-requires-clause-watch
check_watch-checked-requires-clause-watch g c =
    let found = here_or_out (standing c.args.windows.now.spans) c.args.boxes.now c.args.key.owner c.requires.attached c.requires.owner c.requires.here in
    let both : Some found.0 ≡ Some c.unwrap-monitor.result = sym (ap (λ o. option_and_then held_of o) found.1) ∙ sym c.take_here.ensures.monitor ∙ c.unwrap-monitor.ensures in
    let same : found.0 ≡ c.unwrap-monitor.result = cc in
    found.2 ∙ ap (λ h. Some h.watch) same

pub put_here-requires : goal.put_here-requires
put_here-requires g c =
    lent_place c.args.key.owner c.unwrap-monitor.result c.check_watch-checked.new.monitor c.args.boxes.now c.take_here.new.self (sym c.take_here.ensures.monitor ∙ c.unwrap-monitor.ensures) c.take_here.ensures.rest
    c.check_watch-checked.ensures.watch

pub returns-clause-kept : goal.returns-clause-kept
returns-clause-kept g c =
    lent_kept c.args.key.owner c.unwrap-monitor.result c.check_watch-checked.new.monitor c.args.boxes.now c.take_here.new.self (sym c.take_here.ensures.monitor ∙ c.unwrap-monitor.ensures) c.take_here.ensures.rest
    c.check_watch-checked.ensures.watch c.put_here.new.self c.check_watch-checked.ensures.closed_at c.put_here.ensures

pub returns-clause-tally : goal.returns-clause-tally
returns-clause-tally g c =
    on_ok c.check_watch-checked.result _ _
    (λ amid. one_left c.args.key.owner c.unwrap-monitor.result c.check_watch-checked.new.monitor (λ held. IsAmidWindow c.args.windows.now c.args.key held.watch) c.args.boxes.now c.put_here.new.self
    (sym c.take_here.ensures.monitor ∙ c.unwrap-monitor.ensures)
    (lent_back c.args.key.owner c.unwrap-monitor.result c.check_watch-checked.new.monitor c.args.boxes.now c.take_here.new.self (sym c.take_here.ensures.monitor ∙ c.unwrap-monitor.ensures) c.take_here.ensures.rest
    c.check_watch-checked.ensures.watch c.put_here.new.self c.put_here.ensures) amid)
    c.check_watch-checked.ensures.tally

pub returns-clause-left : goal.returns-clause-left
returns-clause-left g c =
    on_err c.check_watch-checked.result _ _
    (λ left. one_left c.args.key.owner c.unwrap-monitor.result c.check_watch-checked.new.monitor (λ held tally. (tally ≡ held.tally) ⊎ IsAmidWindow c.args.windows.now c.args.key held.watch tally) c.args.boxes.now c.put_here.new.self
    (sym c.take_here.ensures.monitor ∙ c.unwrap-monitor.ensures)
    (lent_back c.args.key.owner c.unwrap-monitor.result c.check_watch-checked.new.monitor c.args.boxes.now c.take_here.new.self (sym c.take_here.ensures.monitor ∙ c.unwrap-monitor.ensures) c.take_here.ensures.rest
    c.check_watch-checked.ensures.watch c.put_here.new.self c.put_here.ensures) left)
    c.check_watch-checked.ensures.left
