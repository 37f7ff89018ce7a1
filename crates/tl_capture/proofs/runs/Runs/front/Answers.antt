use Rattle.std.proofs.Common.{◌≡◌, ◌∷◌, ◌++◌, [], List, refl, sym, subst, ◌∙◌}
use Rattle.tl_capture.specs.declared.cursor.Cursor.{Cursor}
use Rattle.tl_capture.specs.Waiting.{under_top}
use Rattle.tl_capture.proofs.StackLemmas.{split_top}
use Rattle.tl_capture.proofs.runs.Runs.front.Goals as goal

pub returns : goal.returns
returns c =
    let top : Cursor = c.in_ok-top.top.now in
    let cs : List Cursor = c.deref.result.now in
    let same = c.deref.ensures.value in
    (top, subst (λ xs. xs ≡ under_top xs ++ top ∷ []) (same ∙ c.self.view_is) (split_top cs top (sym c.in_ok-top.ensures.value)), sym c.here.ensures, refl)
