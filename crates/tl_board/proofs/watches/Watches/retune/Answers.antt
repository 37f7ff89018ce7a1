use Rattle.std.proofs.Common.{ap, subst}
use Rattle.tl_edits.specs.Edits.{AnEdit, retune}
use Rattle.tl_edits.specs.Inputs.{InputData, changed}
use Rattle.tl_capture.specs.Present.{IsPresent}
use Rattle.tl_board.specs.Spans.{SpansData, standing}
use Rattle.tl_board.specs.Accepting.{EditsBoth}
use Rattle.tl_board.specs.Watches.{WatchesData}
use Rattle.tl_board.proofs.AfterLemmas.{both_edited, both_watched, told}
use Rattle.tl_board.proofs.OwnerLemmas.{retuned_edited}
use Rattle.tl_board.proofs.watches.Watches.retune.Goals as goal

pub invariant_of-self-2 : goal.invariant_of-self-2
invariant_of-self-2 c =
    let old : WatchesData = record { spans = c.self.inside.spans; board = c.self.inside.pieces } in
    let now : InputData = standing old.spans in
    let e : AnEdit = retune c.args.monitor c.args.limit in
    let spans : SpansData = c.accept.new.self in
    let edits = c.in_ok-number.ensures.ok in
    let before : IsPresent now.fragments = c.in_ok-number.ensures.before in
    let after : IsPresent (changed now e).fragments = subst IsPresent (ap (λ (i : InputData). i.fragments) (told old.spans spans e edits)) c.in_ok-number.ensures.after in
    both_watched old e spans edits before after c.touch_all.new.self
    (retuned_edited now c.args.monitor c.args.limit c.ranges.limit.fits before after old.board c.touch_all.new.self c.self.invariant c.touch_all.ensures) c.self.invariant

pub returns-clause-ok : goal.returns-clause-ok
returns-clause-ok c =
    let old : WatchesData = record { spans = c.self.inside.spans; board = c.self.inside.pieces } in
    let now : InputData = standing old.spans in
    let e : AnEdit = retune c.args.monitor c.args.limit in
    let spans : SpansData = c.accept.new.self in
    let edits = c.in_ok-number.ensures.ok in
    let before : IsPresent now.fragments = c.in_ok-number.ensures.before in
    let after : IsPresent (changed now e).fragments = subst IsPresent (ap (λ (i : InputData). i.fragments) (told old.spans spans e edits)) c.in_ok-number.ensures.after in
    subst (λ (d : WatchesData). EditsBoth d e (record { spans = spans; board = c.touch_all.new.self })) c.self.view_is
    (both_edited old e spans edits before after c.touch_all.new.self (retuned_edited now c.args.monitor c.args.limit c.ranges.limit.fits before after old.board c.touch_all.new.self c.self.invariant c.touch_all.ensures))

pub returns-clause-before : goal.returns-clause-before
returns-clause-before c = subst (λ (d : WatchesData). IsPresent (standing d.spans).fragments) c.self.view_is c.in_ok-number.ensures.before
