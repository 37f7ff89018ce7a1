use Rattle.std.proofs.Common.{◌≡◌, ◌≤◌, ◌∷◌, ◌++◌, [], List, sym, subst}
use Rattle.tl_capture.specs.declared.cursor.Cursor.{Cursor}
use Rattle.tl_capture.specs.Runs.{IsAlone, IsPast}
use Rattle.tl_capture.specs.Waiting.{under_top}
use Rattle.tl_capture.proofs.AheadLemmas.{passed}
use Rattle.tl_capture.proofs.StackLemmas.{split_top}
use Rattle.tl_capture.proofs.runs.Runs.pass.Goals as goal

pub returns-in-Some : goal.returns-in-Some
returns-in-Some c top is =
    let own : Cursor = c.in-Some.top.now in
    let cs : List Cursor = c.deref.result.now in
    let held : List Cursor = c.self.inside.cursors.items in
    let new : List Cursor = c.go_on.new.cursors.items in
    let same = c.deref.ensures.value in
    let has : held ≡ under_top held ++ own ∷ [] = subst (λ xs. xs ≡ under_top xs ++ own ∷ []) same (split_top cs own (sym c.in-Some.ensures.value)) in
    subst (λ xs. xs ≡ under_top xs ++ top ∷ [] → (1 ≤ c.args.more → IsAlone xs) → IsPast top c.args.more xs new) c.self.view_is
    (λ at alone. passed held new top own c.args.more has at alone c.go_on.ensures.next c.go_on.ensures.left) is c.requires.alone
