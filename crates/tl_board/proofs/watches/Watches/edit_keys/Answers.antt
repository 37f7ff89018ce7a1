use Rattle.std.proofs.Common.{◌≡◌, List, ap, sym, subst, ◌∙◌}
use Rattle.tl_beats.specs.declared.Row.{Row}
use Rattle.tl_edits.specs.Edits.{AnEdit, plain}
use Rattle.tl_edits.specs.Inputs.{InputData, changed}
use Rattle.tl_pieces.specs.Pieces.{Board}
use Rattle.tl_capture.specs.Present.{IsPresent}
use Rattle.tl_board.specs.Spans.{SpansData, standing}
use Rattle.tl_board.proofs.EditLemmas.{on_ok}
use Rattle.tl_board.specs.declared.tally.Tally.{Tally}
use Rattle.tl_board.specs.Accepting.{EditsBoth}
use Rattle.tl_board.specs.TouchedWatches.{AreTouched}
use Rattle.tl_board.specs.Watches.{WatchesData, AreWatches}
use Rattle.tl_board.proofs.AfterLemmas.{both_edited, both_watched, told}
use Rattle.tl_board.proofs.KeyLemmas.{owned_keys, keys_restored, keys_edited}
use Rattle.tl_board.proofs.watches.Watches.edit_keys.Goals as goal

pub grow-requires : goal.grow-requires
grow-requires c =
    let old : WatchesData = record { spans = c.self.inside.spans; board = c.self.inside.pieces } in
    let now : InputData = standing old.spans in
    let e : AnEdit = plain c.args.edit in
    let touched : AreTouched now e c.args.link c.args.keys.now = subst (λ (d : WatchesData). AreTouched (standing d.spans) e c.args.link c.args.keys.now) (sym c.self.view_is) c.requires.touched in
    owned_keys now e c.present-present.ensures.kept old.board c.self.invariant c.requires.links c.args.link c.args.keys.now touched

pub invariant_of-self : goal.invariant_of-self
invariant_of-self c =
    let old : WatchesData = record { spans = c.self.inside.spans; board = c.self.inside.pieces } in
    let now : InputData = standing old.spans in
    let e : AnEdit = plain c.args.edit in
    let touched : AreTouched now e c.args.link c.args.keys.now = subst (λ (d : WatchesData). AreTouched (standing d.spans) e c.args.link c.args.keys.now) (sym c.self.view_is) c.requires.touched in
    let back : c.prune.new.pieces ≡ old.board = keys_restored now e c.present-present.ensures.kept old.board c.self.invariant c.requires.links c.args.link c.args.keys.now touched c.present-present.result.now
    c.present-present.ensures.exact
    c.grow.new.pieces c.prune.new.pieces c.grow.ensures.grown c.prune.ensures.pruned c.grow.ensures.board.keys c.prune.ensures.board.keys in
    subst (AreWatches now) (sym back) c.self.invariant

pub returns-then-is_err-clause-err : goal.returns-then-is_err-clause-err
returns-then-is_err-clause-err c =
    let old : WatchesData = record { spans = c.self.inside.spans; board = c.self.inside.pieces } in
    let now : InputData = standing old.spans in
    let e : AnEdit = plain c.args.edit in
    let touched : AreTouched now e c.args.link c.args.keys.now = subst (λ (d : WatchesData). AreTouched (standing d.spans) e c.args.link c.args.keys.now) (sym c.self.view_is) c.requires.touched in
    let back : c.prune.new.pieces ≡ old.board = keys_restored now e c.present-present.ensures.kept old.board c.self.invariant c.requires.links c.args.link c.args.keys.now touched c.present-present.result.now
    c.present-present.ensures.exact
    c.grow.new.pieces c.prune.new.pieces c.grow.ensures.grown c.prune.ensures.pruned c.grow.ensures.board.keys c.prune.ensures.board.keys in
    ap (λ (b : Board Tally (List Row)). record { spans = old.spans; board = b }) back ∙ c.self.view_is

pub invariant_of-self-in-Ok : goal.invariant_of-self-in-Ok
invariant_of-self-in-Ok c =
    let old : WatchesData = record { spans = c.self.inside.spans; board = c.self.inside.pieces } in
    let now : InputData = standing old.spans in
    let e : AnEdit = plain c.args.edit in
    let spans : SpansData = c.accept.new.self in
    let edits = c.in-Ok.ensures.ok in
    let touched : AreTouched now e c.args.link c.args.keys.now = subst (λ (d : WatchesData). AreTouched (standing d.spans) e c.args.link c.args.keys.now) (sym c.self.view_is) c.requires.touched in
    let same : c.present-present-in-Ok.result.now ≡ (changed now e).fragments =
    c.present-present-in-Ok.ensures.exact ∙ ap (λ (i : InputData). i.fragments) (told old.spans spans e edits) in
    let after : IsPresent (changed now e).fragments = subst IsPresent (ap (λ (i : InputData). i.fragments) (told old.spans spans e edits)) c.in-Ok.ensures.after in
    both_watched old e spans edits c.present-present.ensures.kept after c.touch_each.new.pieces
    (keys_edited now e c.present-present.ensures.kept old.board c.self.invariant c.requires.links c.args.link c.args.keys.now touched after c.present-present-in-Ok.result.now same c.grow.new.pieces c.prune-in-Ok.new.pieces c.touch_each.new.pieces c.grow.ensures.grown
    (on_ok c.grow.result _ c.grow.ensures.all (sym c.is_err.ensures.value ∙ c.if-is_err.false)) c.prune-in-Ok.ensures.pruned c.touch_each.ensures) c.self.invariant

pub returns-in-Ok-clause-ok : goal.returns-in-Ok-clause-ok
returns-in-Ok-clause-ok c =
    let old : WatchesData = record { spans = c.self.inside.spans; board = c.self.inside.pieces } in
    let now : InputData = standing old.spans in
    let e : AnEdit = plain c.args.edit in
    let spans : SpansData = c.accept.new.self in
    let edits = c.in-Ok.ensures.ok in
    let touched : AreTouched now e c.args.link c.args.keys.now = subst (λ (d : WatchesData). AreTouched (standing d.spans) e c.args.link c.args.keys.now) (sym c.self.view_is) c.requires.touched in
    let same : c.present-present-in-Ok.result.now ≡ (changed now e).fragments =
    c.present-present-in-Ok.ensures.exact ∙ ap (λ (i : InputData). i.fragments) (told old.spans spans e edits) in
    let after : IsPresent (changed now e).fragments = subst IsPresent (ap (λ (i : InputData). i.fragments) (told old.spans spans e edits)) c.in-Ok.ensures.after in
    subst (λ (d : WatchesData). EditsBoth d e (record { spans = spans; board = c.touch_each.new.pieces })) c.self.view_is
    (both_edited old e spans edits c.present-present.ensures.kept after c.touch_each.new.pieces
    (keys_edited now e c.present-present.ensures.kept old.board c.self.invariant c.requires.links c.args.link c.args.keys.now touched after c.present-present-in-Ok.result.now same c.grow.new.pieces c.prune-in-Ok.new.pieces c.touch_each.new.pieces c.grow.ensures.grown
    (on_ok c.grow.result _ c.grow.ensures.all (sym c.is_err.ensures.value ∙ c.if-is_err.false)) c.prune-in-Ok.ensures.pruned c.touch_each.ensures))

pub invariant_of-self-in-Err : goal.invariant_of-self-in-Err
invariant_of-self-in-Err c =
    let old : WatchesData = record { spans = c.self.inside.spans; board = c.self.inside.pieces } in
    let now : InputData = standing old.spans in
    let e : AnEdit = plain c.args.edit in
    let left : c.accept.new.self ≡ old.spans = c.in-Err.ensures.err in
    let touched : AreTouched now e c.args.link c.args.keys.now = subst (λ (d : WatchesData). AreTouched (standing d.spans) e c.args.link c.args.keys.now) (sym c.self.view_is) c.requires.touched in
    let back : c.prune-in-Err.new.pieces ≡ old.board = keys_restored now e c.present-present.ensures.kept old.board c.self.invariant c.requires.links c.args.link c.args.keys.now touched c.present-present-in-Err.result.now
    (c.present-present-in-Err.ensures.exact ∙ ap (λ (s : SpansData). (standing s).fragments) left)
    c.grow.new.pieces c.prune-in-Err.new.pieces c.grow.ensures.grown c.prune-in-Err.ensures.pruned c.grow.ensures.board.keys c.prune-in-Err.ensures.board.keys in
    subst (λ (s : SpansData). AreWatches (standing s) c.prune-in-Err.new.pieces) (sym left) (subst (AreWatches now) (sym back) c.self.invariant)

pub returns-in-Err-clause-err : goal.returns-in-Err-clause-err
returns-in-Err-clause-err c =
    let old : WatchesData = record { spans = c.self.inside.spans; board = c.self.inside.pieces } in
    let now : InputData = standing old.spans in
    let e : AnEdit = plain c.args.edit in
    let left : c.accept.new.self ≡ old.spans = c.in-Err.ensures.err in
    let touched : AreTouched now e c.args.link c.args.keys.now = subst (λ (d : WatchesData). AreTouched (standing d.spans) e c.args.link c.args.keys.now) (sym c.self.view_is) c.requires.touched in
    let back : c.prune-in-Err.new.pieces ≡ old.board = keys_restored now e c.present-present.ensures.kept old.board c.self.invariant c.requires.links c.args.link c.args.keys.now touched c.present-present-in-Err.result.now
    (c.present-present-in-Err.ensures.exact ∙ ap (λ (s : SpansData). (standing s).fragments) left)
    c.grow.new.pieces c.prune-in-Err.new.pieces c.grow.ensures.grown c.prune-in-Err.ensures.pruned c.grow.ensures.board.keys c.prune-in-Err.ensures.board.keys in
    ap (λ (b : Board Tally (List Row)). record { spans = c.accept.new.self; board = b }) back ∙ ap (λ (s : SpansData). record { spans = s; board = old.board }) left ∙ c.self.view_is

pub returns-in-Ok-clause-before : goal.returns-in-Ok-clause-before
returns-in-Ok-clause-before c = subst (λ (d : WatchesData). IsPresent (standing d.spans).fragments) c.self.view_is c.in-Ok.ensures.before
