use Rattle.std.proofs.Common.{refl, sym, ap, subst}
use Rattle.tl_edits.specs.Edits.{AnEdit, plain}
use Rattle.tl_edits.specs.Inputs.{InputData, changed}
use Rattle.tl_capture.specs.Present.{IsPresent}
use Rattle.tl_board.specs.Spans.{SpansData, standing}
use Rattle.tl_board.specs.Touched.{IsTouched, names}
use Rattle.tl_board.specs.declared.touched.Touched.TheVariants as touched
use Rattle.tl_board.proofs.EditLemmas.{stands, sound_after, none_touched}
use Rattle.tl_board.proofs.spans.Spans.edit_none.Goals as goal

pub invariant_of-self-2 : goal.invariant_of-self-2
invariant_of-self-2 c =
    let inside : SpansData = record { log = c.self.inside.log; board = c.self.inside.pieces } in
    let now : InputData = standing inside in
    let e : AnEdit = plain c.args.edit in
    let is : IsTouched now e touched.Nothing = subst (λ (s : SpansData). IsTouched (standing s) e touched.Nothing) (sym c.self.view_is) c.requires.touched in
    let after : IsPresent (changed now e).fragments =
    subst IsPresent (ap (λ (i : InputData). i.fragments) (stands inside e c.accepted.new.log inside.board c.in_ok-number.ensures.ok)) c.accepted.ensures.after in
    sound_after inside c.self.invariant e c.accepted.ensures.topo c.accepted.ensures.before (names touched.Nothing) is.exact c.accepted.new.log c.in_ok-number.ensures.ok inside.board refl none_touched (λ key not. refl) (λ key named. absurd named) after (λ key named owner. absurd named)

pub returns-clause-before : goal.returns-clause-before
returns-clause-before c = subst (λ (s : SpansData). IsPresent (standing s).fragments) c.self.view_is c.accepted.ensures.before
