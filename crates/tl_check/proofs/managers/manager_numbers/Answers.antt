use Rattle.std.proofs.Common.{◌≡◌, ◌+◌, ◌<◌, ◌≤◌, [], ◌∷◌, ◌++◌, ℕ, List, length, take, get_or, rules, sym, ap, subst, ◌∙◌, arith}
use Rattle.std.proofs.lemmas.List.{take_all, take_more, length-take}
use Rattle.tl_check.specs.Managers.{numbered}
use Rattle.tl_check.proofs.Chunks.{numbered_more}
use Rattle.tl_check.proofs.managers.manager_numbers.Goals as goal

pub loop-manager-preserved : goal.loop-manager-preserved
loop-manager-preserved c = (
  (let managers : List (List ℕ × ℕ) = c.args.topo.now.managers in
      let k : ℕ = c.loop-manager.manager in
      let below : k < length managers = subst (λ n. k < n) c.manager_count-manager-end.ensures.count c.loop-manager-test.true in
      let front : 0 + length (take k managers) ≡ k = omega (arith, length-take k managers, below) in
      c.in_ok-push.ensures.items ∙ ap (λ (ns : List ℕ). ns ++ k ∷ []) c.loop-manager.invariant.0 ∙ ap (λ (n : ℕ). numbered 0 (take k managers) ++ n ∷ []) (sym front)
      ∙ sym (numbered_more 0 (take k managers) (get_or managers k ([], 0))) ∙ ap (λ (ms : List (List ℕ × ℕ)). numbered 0 ms) (sym (take_more managers k ([], 0) below))),
  search rules,
)

pub returns-clause-exact : goal.returns-clause-exact
returns-clause-exact c =
    let past : length c.args.topo.now.managers ≤ c.loop-manager.manager = subst (λ n. n ≤ c.loop-manager.manager) c.manager_count-manager-end.ensures.count c.loop-manager-test.false in
    c.loop-manager.invariant.0 ∙ ap (λ (ms : List (List ℕ × ℕ)). numbered 0 ms) (take_all c.loop-manager.manager c.args.topo.now.managers past)
