use Rattle.std.proofs.Common.{◌≡◌, ◌<◌, ℕ, List, [], ◌∷◌, length, sym, ap, subst, ◌∙◌}
use Rattle.std.specs.Prelude.{◌↔◌, is_some}
use Rattle.std.specs.List.{Contains}
use Rattle.tl_beats.specs.declared.Row.{Row}
use Rattle.tl_definitions.specs.Captures.{manager_beats}
use Rattle.tl_definitions.specs.Positions.{beats_of_all}
use Rattle.tl_edits.specs.Edits.{AnEdit, plain}
use Rattle.tl_edits.specs.Inputs.{InputData, changed}
use Rattle.tl_edits.specs.Log.{LogData, inputs_after}
use Rattle.tl_pieces.specs.Pieces.{Board, opening_of}
use Rattle.tl_check.specs.declared.state.SpanState.{SpanState}
use Rattle.tl_capture.specs.Present.{IsPresent}
use Rattle.tl_board.specs.Edits.{EditsTo}
use Rattle.tl_board.specs.Spans.{SpansData, standing, IsSound}
use Rattle.tl_board.specs.Touch.{Touches}
use Rattle.tl_board.specs.Windows.{AreKeysOf}
use Rattle.tl_board.proofs.EditLemmas.{stands, of_one_owner, read_beats, manager_there, gone_again, windows_sound, windows_edited, on_ok}
use Rattle.tl_board.proofs.TouchLemmas.{same_topology}
use Rattle.tl_board.proofs.spans.Spans.edit_windows.Goals as goal

pub grow-requires : goal.grow-requires
grow-requires c key has =
    let inside : SpansData = record { log = c.self.inside.log; board = c.self.inside.pieces } in
    let owner : ℕ = c.from-owner.result in
    let topo : (standing inside).topo ≡ inside.log.topo = ap (λ (i : InputData). i.topo) (sym c.inputs.ensures.exact) ∙ c.inputs.ensures.topo in
    let below : c.args.manager < length (standing inside).topo.managers = subst (λ (s : SpansData). c.args.manager < length (standing s).topo.managers) (sym c.self.view_is) c.requires.manager in
    let are : AreKeysOf (owner ∷ []) c.args.windows.now c.as_slice-keys.result.now = subst (AreKeysOf (owner ∷ []) c.args.windows.now) (sym c.as_slice-keys.ensures.value) c.in_ok-keys.ensures in
    ap (λ o. is_some (opening_of o inside.board.openings)) ((of_one_owner owner c.args.windows.now c.as_slice-keys.result.now are key).0 has).0 ∙ manager_there inside c.self.invariant topo c.args.manager owner c.from-owner.ensures below

pub invariant_of-self : goal.invariant_of-self
invariant_of-self c =
    let inside : SpansData = record { log = c.self.inside.log; board = c.self.inside.pieces } in
    let owner : ℕ = c.from-owner.result in
    let keys = c.as_slice-keys.result.now in
    let topo : (standing inside).topo ≡ inside.log.topo = ap (λ (i : InputData). i.topo) (sym c.inputs.ensures.exact) ∙ c.inputs.ensures.topo in
    let below : c.args.manager < length (standing inside).topo.managers = subst (λ (s : SpansData). c.args.manager < length (standing s).topo.managers) (sym c.self.view_is) c.requires.manager in
    let are : AreKeysOf (owner ∷ []) c.args.windows.now keys = subst (AreKeysOf (owner ∷ []) c.args.windows.now) (sym c.as_slice-keys.ensures.value) c.in_ok-keys.ensures in
    let back : c.prune.new.pieces ≡ inside.board = gone_again inside c.self.invariant topo c.args.manager owner c.from-owner.ensures below c.topo.result.now c.deref.result.now c.present.result.now
    (c.topo.ensures ∙ ap (λ (i : InputData). i.topo) c.inputs.ensures.exact) (c.deref.ensures.value ∙ c.in_ok-links.ensures) (c.present.ensures ∙ ap (λ (i : InputData). i.fragments) c.inputs-then-is_err.ensures.exact)
    c.args.windows.now keys are c.grow.new.pieces c.prune.new.pieces c.grow.ensures.grown c.prune.ensures.pruned c.grow.ensures.board.keys c.prune.ensures.board.keys in
    subst (λ (b : Board SpanState (List Row)). IsSound (record { log = inside.log; board = b })) (sym back) c.self.invariant

pub returns-then-is_err-clause-err : goal.returns-then-is_err-clause-err
returns-then-is_err-clause-err c =
    let inside : SpansData = record { log = c.self.inside.log; board = c.self.inside.pieces } in
    let owner : ℕ = c.from-owner.result in
    let keys = c.as_slice-keys.result.now in
    let topo : (standing inside).topo ≡ inside.log.topo = ap (λ (i : InputData). i.topo) (sym c.inputs.ensures.exact) ∙ c.inputs.ensures.topo in
    let below : c.args.manager < length (standing inside).topo.managers = subst (λ (s : SpansData). c.args.manager < length (standing s).topo.managers) (sym c.self.view_is) c.requires.manager in
    let are : AreKeysOf (owner ∷ []) c.args.windows.now keys = subst (AreKeysOf (owner ∷ []) c.args.windows.now) (sym c.as_slice-keys.ensures.value) c.in_ok-keys.ensures in
    let back : c.prune.new.pieces ≡ inside.board = gone_again inside c.self.invariant topo c.args.manager owner c.from-owner.ensures below c.topo.result.now c.deref.result.now c.present.result.now
    (c.topo.ensures ∙ ap (λ (i : InputData). i.topo) c.inputs.ensures.exact) (c.deref.ensures.value ∙ c.in_ok-links.ensures) (c.present.ensures ∙ ap (λ (i : InputData). i.fragments) c.inputs-then-is_err.ensures.exact)
    c.args.windows.now keys are c.grow.new.pieces c.prune.new.pieces c.grow.ensures.grown c.prune.ensures.pruned c.grow.ensures.board.keys c.prune.ensures.board.keys in
    ap (λ (b : Board SpanState (List Row)). record { log = inside.log; board = b }) back ∙ c.self.view_is

pub invariant_of-self-in-Ok : goal.invariant_of-self-in-Ok
invariant_of-self-in-Ok c =
    let inside : SpansData = record { log = c.self.inside.log; board = c.self.inside.pieces } in
    let now : InputData = standing inside in
    let e : AnEdit = plain c.args.edit in
    let owner : ℕ = c.from-owner.result in
    let windows : List ℕ = c.args.windows.now in
    let keys = c.as_slice-keys.result.now in
    let own : owner ≡ c.args.manager = c.from-owner.ensures in
    let topo : now.topo ≡ inside.log.topo = ap (λ (i : InputData). i.topo) (sym c.inputs.ensures.exact) ∙ c.inputs.ensures.topo in
    let are : AreKeysOf (owner ∷ []) windows keys = subst (AreKeysOf (owner ∷ []) windows) (sym c.as_slice-keys.ensures.value) c.in_ok-keys.ensures in
    let is : (number window : ℕ) → Touches now e number window ↔ ((number ≡ owner) × Contains windows window) = λ number window.
    subst (λ o. Touches now e number window ↔ ((number ≡ o) × Contains windows window)) (sym own)
    (subst (λ (s : SpansData). Touches (standing s) e number window ↔ ((number ≡ c.args.manager) × Contains windows window)) (sym c.self.view_is) (c.requires.touched number window)) in
    let told : standing (record { log = c.accepted.new.log; board = inside.board }) ≡ changed now e = stands inside e c.accepted.new.log inside.board c.in-Ok.ensures.ok in
    let after : IsPresent (changed now e).fragments = subst IsPresent (ap (λ (i : InputData). i.fragments) told) c.accepted.ensures.after in
    let beats : beats_of_all c.deref-in-Ok.result.now c.present-in-Ok.result.now ≡ manager_beats (changed now e).topo (changed now e).fragments owner =
    read_beats (changed now e).topo c.topo.result.now c.args.manager owner c.deref-in-Ok.result.now c.present-in-Ok.result.now (changed now e).fragments (c.topo.ensures ∙ ap (λ (i : InputData). i.topo) c.inputs.ensures.exact ∙ sym (same_topology now e)) own
    (c.deref-in-Ok.ensures.value ∙ c.in_ok-links.ensures) (c.present-in-Ok.ensures ∙ ap (λ (i : InputData). i.fragments) (c.inputs-in-Ok.ensures.exact ∙ told)) in
    windows_sound inside c.self.invariant e topo c.accepted.ensures.before owner windows keys are is c.accepted.new.log c.in-Ok.ensures.ok (beats_of_all c.deref-in-Ok.result.now c.present-in-Ok.result.now) c.grow.new.pieces c.prune-in-Ok.new.pieces c.touch_each.new.pieces
    c.grow.ensures.grown c.prune-in-Ok.ensures.pruned c.touch_each.ensures after beats (on_ok c.grow.result _ c.grow.ensures.all (sym c.is_err.ensures.value ∙ c.if-is_err.false))

pub returns-in-Ok-clause-ok : goal.returns-in-Ok-clause-ok
returns-in-Ok-clause-ok c =
    let inside : SpansData = record { log = c.self.inside.log; board = c.self.inside.pieces } in
    let now : InputData = standing inside in
    let e : AnEdit = plain c.args.edit in
    let owner : ℕ = c.from-owner.result in
    let windows : List ℕ = c.args.windows.now in
    let keys = c.as_slice-keys.result.now in
    let topo : now.topo ≡ inside.log.topo = ap (λ (i : InputData). i.topo) (sym c.inputs.ensures.exact) ∙ c.inputs.ensures.topo in
    let are : AreKeysOf (owner ∷ []) windows keys = subst (AreKeysOf (owner ∷ []) windows) (sym c.as_slice-keys.ensures.value) c.in_ok-keys.ensures in
    let is : (number window : ℕ) → Touches now e number window ↔ ((number ≡ owner) × Contains windows window) = λ number window.
    subst (λ o. Touches now e number window ↔ ((number ≡ o) × Contains windows window)) (sym c.from-owner.ensures)
    (subst (λ (s : SpansData). Touches (standing s) e number window ↔ ((number ≡ c.args.manager) × Contains windows window)) (sym c.self.view_is) (c.requires.touched number window)) in
    subst (λ (s : SpansData). EditsTo s e (record { log = c.accepted.new.log; board = c.touch_each.new.pieces })) c.self.view_is
    (windows_edited inside c.self.invariant e topo c.accepted.ensures.before owner windows keys are is c.accepted.new.log c.in-Ok.ensures.ok (beats_of_all c.deref-in-Ok.result.now c.present-in-Ok.result.now) c.grow.new.pieces c.prune-in-Ok.new.pieces c.touch_each.new.pieces
    c.grow.ensures.grown c.prune-in-Ok.ensures.pruned c.touch_each.ensures)

pub invariant_of-self-in-Err : goal.invariant_of-self-in-Err
invariant_of-self-in-Err c =
    let inside : SpansData = record { log = c.self.inside.log; board = c.self.inside.pieces } in
    let owner : ℕ = c.from-owner.result in
    let keys = c.as_slice-keys.result.now in
    let topo : (standing inside).topo ≡ inside.log.topo = ap (λ (i : InputData). i.topo) (sym c.inputs.ensures.exact) ∙ c.inputs.ensures.topo in
    let below : c.args.manager < length (standing inside).topo.managers = subst (λ (s : SpansData). c.args.manager < length (standing s).topo.managers) (sym c.self.view_is) c.requires.manager in
    let are : AreKeysOf (owner ∷ []) c.args.windows.now keys = subst (AreKeysOf (owner ∷ []) c.args.windows.now) (sym c.as_slice-keys.ensures.value) c.in_ok-keys.ensures in
    let back : c.prune-in-Err.new.pieces ≡ inside.board = gone_again inside c.self.invariant topo c.args.manager owner c.from-owner.ensures below c.topo.result.now c.deref-in-Err.result.now c.present-in-Err.result.now
    (c.topo.ensures ∙ ap (λ (i : InputData). i.topo) c.inputs.ensures.exact) (c.deref-in-Err.ensures.value ∙ c.in_ok-links.ensures)
    (c.present-in-Err.ensures ∙ ap (λ (i : InputData). i.fragments) (c.inputs-in-Err.ensures.exact ∙ ap (λ (l : LogData). inputs_after l.topo l.edits) c.in-Err.ensures.err))
    c.args.windows.now keys are c.grow.new.pieces c.prune-in-Err.new.pieces c.grow.ensures.grown c.prune-in-Err.ensures.pruned c.grow.ensures.board.keys c.prune-in-Err.ensures.board.keys in
    subst (λ (b : Board SpanState (List Row)). IsSound (record { log = c.accepted.new.log; board = b })) (sym back)
    (subst (λ (l : LogData). IsSound (record { log = l; board = inside.board })) (sym c.in-Err.ensures.err) c.self.invariant)

pub returns-clause-err : goal.returns-clause-err
returns-clause-err c =
    let inside : SpansData = record { log = c.self.inside.log; board = c.self.inside.pieces } in
    let owner : ℕ = c.from-owner.result in
    let keys = c.as_slice-keys.result.now in
    let topo : (standing inside).topo ≡ inside.log.topo = ap (λ (i : InputData). i.topo) (sym c.inputs.ensures.exact) ∙ c.inputs.ensures.topo in
    let below : c.args.manager < length (standing inside).topo.managers = subst (λ (s : SpansData). c.args.manager < length (standing s).topo.managers) (sym c.self.view_is) c.requires.manager in
    let are : AreKeysOf (owner ∷ []) c.args.windows.now keys = subst (AreKeysOf (owner ∷ []) c.args.windows.now) (sym c.as_slice-keys.ensures.value) c.in_ok-keys.ensures in
    let back : c.prune-in-Err.new.pieces ≡ inside.board = gone_again inside c.self.invariant topo c.args.manager owner c.from-owner.ensures below c.topo.result.now c.deref-in-Err.result.now c.present-in-Err.result.now
    (c.topo.ensures ∙ ap (λ (i : InputData). i.topo) c.inputs.ensures.exact) (c.deref-in-Err.ensures.value ∙ c.in_ok-links.ensures)
    (c.present-in-Err.ensures ∙ ap (λ (i : InputData). i.fragments) (c.inputs-in-Err.ensures.exact ∙ ap (λ (l : LogData). inputs_after l.topo l.edits) c.in-Err.ensures.err))
    c.args.windows.now keys are c.grow.new.pieces c.prune-in-Err.new.pieces c.grow.ensures.grown c.prune-in-Err.ensures.pruned c.grow.ensures.board.keys c.prune-in-Err.ensures.board.keys in
    ap (λ (b : Board SpanState (List Row)). record { log = c.accepted.new.log; board = b }) back ∙ ap (λ (l : LogData). record { log = l; board = inside.board }) c.in-Err.ensures.err ∙ c.self.view_is

pub returns-in-Ok-clause-before : goal.returns-in-Ok-clause-before
returns-in-Ok-clause-before c = subst (λ (s : SpansData). IsPresent (standing s).fragments) c.self.view_is c.accepted.ensures.before
