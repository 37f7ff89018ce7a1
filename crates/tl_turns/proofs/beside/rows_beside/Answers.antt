use Rattle.std.proofs.Common.{None, ◌++◌, [], sym, subst}
use Rattle.std.specs.List.{flat_map}
use Rattle.tl_pass.specs.Parts.{AreParts}
use Rattle.tl_turns.proofs.BesideLaws.{all_parts}
use Rattle.tl_turns.proofs.beside.rows_beside.Goals as goal

pub loop-round-preserved : goal.loop-round-preserved
loop-round-preserved g c =
    let topo = c.args.sieve.topo.now in
    let had = c.loop-round.invariant in
    let found = all_parts topo c.in_ok-parts.parts.items c.in_ok-parts.ensures in
    (had.0 ++ flat_map (λ gs. gs) found.0, c.in_ok-add_all.ensures None had.0 found.0 had.1 (subst (AreParts None topo found.0) (sym c.deref.ensures.value) found.1))

pub loop-round-init : goal.loop-round-init
loop-round-init g c = ([], c.new-whole.ensures None c.args.sieve.topo.now)
