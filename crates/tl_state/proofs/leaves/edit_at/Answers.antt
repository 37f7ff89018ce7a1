use Rattle.std.proofs.Common.{◌≡◌, ◌<◌, ◌++◌, true, false, length, take, drop, set, sym, ap, ◌∙◌, subst, option_to_list}
use Rattle.std.proofs.lemmas.List.{set-get_or}
use Rattle.std.proofs.lemmas.List.Elements.{All-set}
use Rattle.std.proofs.lemmas.Result.{IfOk-weaker, on_err_weaker}
use Rattle.tl_state.specs.Leaves.{leaf_entries, all_entries, entries_ahead, entries_behind}
use Rattle.tl_state.proofs.LeafLemmas.{all_edited, all_kept}
use Rattle.tl_state.proofs.leaves.edit_at.Goals as goal

pub returns-clause-done : goal.returns-clause-done
returns-clause-done g c =
    let ls = c.args.leaves.now.items in
    let leaf = c.index_mut.result.now in
    let other = c.edit.new.leaf in
    let made = take c.args.start (leaf_entries leaf) ++ (option_to_list c.args.entry ++ drop c.args.end (leaf_entries leaf)) in
    let there = entries_ahead ls c.args.at c.args.start ++ (option_to_list c.args.entry ++ entries_behind ls c.args.at c.args.end) in
    IfOk-weaker c.edit.result (λ done. done ≡ true → leaf_entries other ≡ made) (λ done. done ≡ true → all_entries (set ls c.args.at other) ≡ there)
    (λ done h is. all_edited leaf_entries ls c.args.at c.requires.at leaf c.index_mut.ensures.value other c.args.start c.args.end (option_to_list c.args.entry) (h is)) c.edit.ensures.done

pub returns-clause-full : goal.returns-clause-full
returns-clause-full g c = λ h.
    let ls = c.args.leaves.now.items in
    let leaf = c.index_mut.result.now in
    let some : 0 < length (leaf_entries leaf) = subst (λ l. 0 < length (leaf_entries l)) (sym c.index_mut.ensures.value) (h c.args.at leaf c.requires.at) in
    All-set (λ l. 0 < length (leaf_entries l)) ls c.args.at c.edit.new.leaf (c.edit.ensures.some some) h

pub returns-clause-not : goal.returns-clause-not
returns-clause-not g c =
    let ls = c.args.leaves.now.items in
    let leaf = c.index_mut.result.now in
    let other = c.edit.new.leaf in
    IfOk-weaker c.edit.result (λ done. done ≡ false → other ≡ leaf) (λ done. done ≡ false → set ls c.args.at other ≡ ls)
    (λ done h is. ap (set ls c.args.at) (h is ∙ c.index_mut.ensures.value) ∙ set-get_or ls c.args.at leaf) c.edit.ensures.not

pub returns-clause-err : goal.returns-clause-err
returns-clause-err g c =
    on_err_weaker c.edit.result (all_kept leaf_entries c.args.leaves.now.items c.args.at c.requires.at c.index_mut.result.now c.index_mut.ensures.value c.edit.new.leaf) c.edit.ensures.err
