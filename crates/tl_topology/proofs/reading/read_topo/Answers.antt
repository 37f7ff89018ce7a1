use Rattle.std.proofs.Common.{◌≡◌, ◌-◌, ℕ, length, Ok, ap, refl}
use Rattle.std.proofs.lemmas.Result.{err_from_is_err_and}
use Rattle.tl_text.specs.Words.{lines_of}
use Rattle.tl_topology.specs.Topology.{Topology}
use Rattle.tl_topology.specs.Text.{topology_text}
use Rattle.tl_topology.specs.Declarations.{topology_of}
use Rattle.tl_topology.proofs.TopologyLaws.{in_fails, text_takes, front_is, read_same, no_refusal}
use Rattle.tl_topology.proofs.reading.read_topo.Goals as goal

pub returns-in_err-topo-clause-only : goal.returns-in_err-topo-clause-only
returns-in_err-topo-clause-only c doc rest lawful is =
    let p = err_from_is_err_and c.from_residual.result c.from_residual.ensures.1 in
    rw (p.1, p.2) (λ m. absurd (no_refusal c.args.bytes.now rest doc c.in_err-topo.field-0.0 c.in_err-topo.ensures.exact lawful is m))

pub returns-in_err-topo-clause-first : goal.returns-in_err-topo-clause-first
returns-in_err-topo-clause-first c =
    let p = err_from_is_err_and c.from_residual.result c.from_residual.ensures.1 in
    rw (p.1, p.2) (λ m. in_fails (lines_of c.args.bytes.now) c.in_err-topo.field-0.0 (c.in_err-topo.ensures.exact m))

pub returns-clause-found : goal.returns-clause-found
returns-clause-found c =
    let law = text_takes c.args.bytes.now c.in_ok-topo.topo c.in_ok-topo.rest.now c.in_ok-topo.ensures.exact in
    (law.document, (law.lawful, law.made_is, front_is c.args.bytes.now c.in_ok-topo.rest.now (topology_text law.document) law.bytes_are))

pub returns-clause-only : goal.returns-clause-only
returns-clause-only c doc rest lawful is =
    let both = read_same c.args.bytes.now c.in_ok-topo.rest.now rest c.in_ok-topo.topo doc c.in_ok-topo.ensures.exact lawful is in
    let same : ◌≡◌ {A = Topology × ℕ} (topology_of doc.declarations, length (topology_text doc)) (c.in_ok-topo.topo, length c.args.bytes.now - length c.in_ok-topo.rest.now) = rw (both.0, both.1) refl in
    ap Ok same
