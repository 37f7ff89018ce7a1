use Rattle.std.proofs.Common.{◌≡◌, ◌+◌, suc, length, rules, arith, sym, ◌∙◌}
use Rattle.std.proofs.lemmas.Result.{err_from_is_err_and}
use Rattle.tl_text.specs.Words.{lines_of}
use Rattle.tl_topology.proofs.Lines.{no_line, ends, goes_on, fails, shorter, reads_first, first_long}
use Rattle.tl_text.proofs.Cuts.{behind_all, behind_line}
use Rattle.tl_topology.proofs.reading.topology_of.Goals as goal

pub returns-in_default-line-clause-exact : goal.returns-in_default-line-clause-exact
returns-in_default-line-clause-exact c here = sym c.loop-next.invariant.read ∙ no_line c.in-Some-version_of.version c.loop-next.topo c.loop-next.number (lines_of c.loop-next.rest.now) (search rules)

pub returns-then-eq-clause-exact : goal.returns-then-eq-clause-exact
returns-then-eq-clause-exact c = sym c.loop-next.invariant.read ∙ ends c.in-Some-version_of.version c.loop-next.topo c.loop-next.number (lines_of c.loop-next.rest.now) c.in-Some-line.next.now (lines_of c.in-Some-line.after.now) (search rules) (search rules)

pub returns-in_err-topo-clause-exact : goal.returns-in_err-topo-clause-exact
returns-in_err-topo-clause-exact c =
    let one = fails c.in-Some-version_of.version c.loop-next.topo c.loop-next.number (lines_of c.loop-next.rest.now) c.in-Some-line.next.now (lines_of c.in-Some-line.after.now) c.in_err-topo.field-0.0 (search rules) (search rules) c.in_err-topo.ensures in
    let p = err_from_is_err_and c.from_residual.result c.from_residual.ensures.1 in
    rw (p.1, p.2, ← c.loop-next.invariant.read) one

pub loop-next-preserved : goal.loop-next-preserved
loop-next-preserved c =
    let one = goes_on c.in-Some-version_of.version c.loop-next.topo c.loop-next.number (lines_of c.loop-next.rest.now) c.in-Some-line.next.now (lines_of c.in-Some-line.after.now) c.in_ok-topo.topo (search rules) (search rules) c.in_ok-topo.ensures in
    let whole : length c.loop-next.rest.now ≡ length c.in-Some-line.next.now + suc (length c.in-Some-line.after.now) = shorter c.loop-next.rest.now c.in-Some-line.next.now c.in-Some-line.after.now (search rules) in
    record {
      read = sym one ∙ c.loop-next.invariant.read;
      counted = omega (arith, whole, c.loop-next.invariant.counted);
      behind = behind_line c.args.bytes.now c.loop-next.rest.now c.in-Some-line.next.now c.in-Some-line.after.now c.loop-next.invariant.behind (search rules);
    }

pub loop-next-init : goal.loop-next-init
loop-next-init c = record {
  read = rw c.new-topo.ensures (reads_first c.in-Some-version_of.version (lines_of c.args.bytes.now) c.in-Some.first.now (lines_of c.in-Some.rest.now) (search rules) (search rules));
  counted = (let whole : length c.args.bytes.now ≡ length c.in-Some.first.now + suc (length c.in-Some.rest.now) = shorter c.args.bytes.now c.in-Some.first.now c.in-Some.rest.now (search rules) in omega (arith, whole, first_long c.in-Some-version_of.version c.in-Some.first.now (search rules)));
  behind = behind_line c.args.bytes.now c.args.bytes.now c.in-Some.first.now c.in-Some.rest.now (behind_all c.args.bytes.now) (search rules);
}

pub returns-then-eq-clause-behind : goal.returns-then-eq-clause-behind
returns-then-eq-clause-behind c = behind_line c.args.bytes.now c.loop-next.rest.now c.in-Some-line.next.now c.in-Some-line.after.now c.loop-next.invariant.behind (search rules)
