use Rattle.std.proofs.Common.{refl, subst, sym}
use Rattle.tl_advice.specs.LinkCounts.{AreCounted}
use Rattle.tl_advice.specs.Tallies.{AreLinked, AreTallied}
use Rattle.tl_advice.specs.Summaries.{body_of}
use Rattle.tl_show.proofs.Texts.{in_words}
use Rattle.tl_tables.specs.Rules.{all_rules}
use Rattle.tl_advice.proofs.SummaryLaws.{body_made}
use Rattle.tl_advice.proofs.summary.body.Goals as goal

pub returns : goal.returns
unfolding body_of
returns c linked =
    let topo = c.args.inputs.now.topo in
    let rows = c.args.rows.now in
    let counts = c.in_ok-counts.counts.items in
    let tallies = c.in_ok-tallies.tallies.items in
    body_made c.format.result topo c.args.inputs.now.fragments rows counts tallies
    (subst (λ t. AreCounted t c.args.inputs.now.fragments counts) c.topo-topo.ensures (subst (λ fs. AreCounted c.topo-topo.result.now fs counts) c.present.ensures c.in_ok-counts.ensures))
    (subst (λ t. AreTallied t all_rules rows tallies) c.topo-topo.ensures (c.in_ok-tallies.ensures (subst (λ t. AreLinked t rows) (sym c.topo-topo.ensures) linked)))
    (in_words c.format.result _ (body_of counts tallies) c.format.ensures.ok (rw (c.in_ok-links.ensures, c.in_ok-rules.ensures, c.deref.ensures.value, c.deref-2.ensures.value) refl))
