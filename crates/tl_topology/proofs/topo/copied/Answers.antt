use Rattle.std.proofs.Common.{◌≡◌, ◌+◌, ◌∙◌, ap, arith, suc, take, rules}
use Rattle.std.proofs.lemmas.Grind.{common_steps}
use Rattle.std.specs.Str.{bytes_eq}
use Rattle.indexmap.specs.IndexMap.{insert_entry}
use Rattle.tl_topology.proofs.Inserting.{insert_next}
use Rattle.tl_topology.proofs.topo.copied.Goals.{in-Some+in_ok-insert, in_default}
use Rattle.tl_topology.proofs.topo.copied.Goals as goal

pub loop-number-preserved : goal.loop-number-preserved
loop-number-preserved g c =
    let k : c.loop-number.number + 1 ≡ suc c.loop-number.number = omega arith in
    elim c.match-get_index.branch [
      | in-Some+in_ok-insert w ↦
          let next : insert_entry bytes_eq (take c.loop-number.number c.args.named.now.entries) w.in-Some.name.now w.in-Some.value.now ≡ take (suc c.loop-number.number) c.args.named.now.entries = insert_next c.args.named.now.entries c.loop-number.number w.in-Some.name.now w.in-Some.value.now c.len-number-end.ensures.unique (search rules) in
          rw (k, w.copy-is) (w.in_ok-insert.ensures.entries ∙ ap (λ es. insert_entry bytes_eq es w.in-Some.name.now w.in-Some.value.now) c.loop-number.invariant ∙ next)
      | in_default w ↦ absurd (grind (arith, common_steps, c.get_index.ensures.found))
    ]
