use Rattle.std.proofs.Common.{◌≡◌, ◌∷◌, ◌++◌, ◌-◌, [], List, length, take, sym, ap, subst, ◌∙◌, arith}
use Rattle.tl_capture.specs.declared.cursor.Cursor.{Cursor}
use Rattle.tl_capture.specs.Runs.{AreOthers}
use Rattle.tl_capture.specs.Waiting.{under_top}
use Rattle.tl_capture.proofs.AheadLemmas.{same_last}
use Rattle.tl_capture.proofs.StackLemmas.{split_top}
use Rattle.tl_capture.proofs.runs.Runs.is_alone.Goals as goal

pub returns-then-under-le-FEW : goal.returns-then-under-le-FEW
returns-then-under-le-FEW c e top is =
    let own : Cursor = c.in-Some.top.now in
    let held : List Cursor = c.args.self.now in
    let one : List Cursor = c.deref.result.now in
    let cs : List Cursor = c.deref-then-under-le-FEW.result.now in
    let whole : cs ≡ held = c.deref-then-under-le-FEW.ensures.value ∙ c.self.view_is in
    let has : held ≡ under_top held ++ own ∷ [] = subst (λ xs. xs ≡ under_top xs ++ own ∷ []) (c.deref.ensures.value ∙ c.self.view_is) (split_top one own (sym c.in-Some.ensures.value)) in
    let count = c.len-under.ensures in
    let long = c.deref.ensures.len in
    let also = ap length (c.deref.ensures.value ∙ c.self.view_is) in
    let many : c.len-under.result ≡ length held = omega arith in
    let others : AreOthers own.link (under_top held) = subst (AreOthers own.link) (ap (λ n. take (n - 1) cs) many ∙ ap (take (length held - 1)) whole) (c.are_others.ensures e) in
    subst (λ (d : Cursor). AreOthers d.link (under_top held)) (same_last (under_top held) own top (sym has ∙ is)) others
