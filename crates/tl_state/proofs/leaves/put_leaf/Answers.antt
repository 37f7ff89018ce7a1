use Rattle.std.proofs.Common.{◌≡◌, ◌++◌, ◌<◌, ◌+◌, ◌/◌, length, take, drop, set, insert, sym, ap, ◌∙◌, subst, arith, All, length-take, length-drop}
use Rattle.std.proofs.lemmas.List.{take_rest, take-append-drop}
use Rattle.std.proofs.lemmas.List.Elements.{All-set}
use Rattle.tl_state.specs.Leaves.{leaf_entries, all_entries}
use Rattle.tl_state.proofs.LeafLemmas.{all_set, all_split, All-insert}
use Rattle.tl_state.proofs.leaves.put_leaf.Goals as goal

pub returns-then-entries-le-LEAF-clause-ok : goal.returns-then-entries-le-LEAF-clause-ok
returns-then-entries-le-LEAF-clause-ok g c = all_set leaf_entries c.args.leaves.now.items c.args.at c.requires.at c.in_ok-leaf.leaf c.args.made.items (ap (λ v. v.items) c.in_ok-leaf.ensures.ok)

pub returns-then-entries-le-LEAF-clause-full : goal.returns-then-entries-le-LEAF-clause-full
returns-then-entries-le-LEAF-clause-full g c = All-set (λ l. 0 < length (leaf_entries l)) c.args.leaves.now.items c.args.at c.in_ok-leaf.leaf (subst (λ v. 0 < length v.items) (sym c.in_ok-leaf.ensures.ok) c.requires.some)

pub returns-clause-ok : goal.returns-clause-ok
returns-clause-ok g c =
    let es = c.as_slice-entries.result.now in
    let ls = c.args.leaves.now.items in
    let new : c.insert.new.self.items ≡ insert ls (c.args.at + 1) c.in_ok-right.right = c.in_ok-insert.ensures.items in
    let left : leaf_entries c.in_ok-left.left ≡ take (length es / 2) es = ap (λ v. v.items) c.in_ok-left.ensures.ok ∙ c.in_ok-from_slice.ensures.items in
    let right : leaf_entries c.in_ok-right.right ≡ drop (length es / 2) es = ap (λ v. v.items) c.in_ok-right.ensures.ok ∙ c.in_ok-from_slice-2.ensures.items ∙ take_rest es (length es / 2) in
    let both : leaf_entries c.in_ok-left.left ++ leaf_entries c.in_ok-right.right ≡ c.args.made.items =
    ap (λ t. t ++ leaf_entries c.in_ok-right.right) left ∙ ap (λ t. take (length es / 2) es ++ t) right ∙ take-append-drop (length es / 2) es ∙ c.as_slice-entries.ensures.value in
    ap (λ t. all_entries (set t c.args.at c.in_ok-left.left)) new
    ∙ all_split leaf_entries ls c.args.at c.requires.at c.in_ok-left.left c.in_ok-right.right c.args.made.items both

pub returns-clause-full : goal.returns-clause-full
returns-clause-full g c =
    let es = c.as_slice-entries.result.now in
    let ls = c.args.leaves.now.items in
    let new : c.insert.new.self.items ≡ insert ls (c.args.at + 1) c.in_ok-right.right = c.in_ok-insert.ensures.items in
    let left : leaf_entries c.in_ok-left.left ≡ take (length es / 2) es = ap (λ v. v.items) c.in_ok-left.ensures.ok ∙ c.in_ok-from_slice.ensures.items in
    let right : leaf_entries c.in_ok-right.right ≡ drop (length es / 2) es = ap (λ v. v.items) c.in_ok-right.ensures.ok ∙ c.in_ok-from_slice-2.ensures.items ∙ take_rest es (length es / 2) in
    let some_left : 0 < length (leaf_entries c.in_ok-left.left) = omega (arith, ap length left, length-take (length es / 2) es) in
    let some_right : 0 < length (leaf_entries c.in_ok-right.right) = omega (arith, ap length right, length-drop (length es / 2) es) in
    λ h. subst (λ t. All (λ l. 0 < length (leaf_entries l)) (set t c.args.at c.in_ok-left.left)) (sym new)
    (All-set (λ l. 0 < length (leaf_entries l)) (insert ls (c.args.at + 1) c.in_ok-right.right) c.args.at c.in_ok-left.left some_left (All-insert (λ l. 0 < length (leaf_entries l)) ls (c.args.at + 1) c.in_ok-right.right some_right h))
