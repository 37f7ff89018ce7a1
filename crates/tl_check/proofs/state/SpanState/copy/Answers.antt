use Rattle.std.proofs.Common.{subst}
use Rattle.tl_same.specs.SameItems.{SameItems}
use Rattle.tl_check.specs.Links.{SameLink}
use Rattle.tl_check.proofs.StateLaws.{same_is_of}
use Rattle.tl_check.proofs.state.SpanState.copy.Goals as goal

pub returns-clause-same : goal.returns-clause-same
returns-clause-same c = record {
  links = subst (λ links. SameItems SameLink links c.in_ok-copied_links.field-0.items) c.deref.ensures.value c.in_ok-copied_links.ensures;
  clients = c.in_ok-copy.ensures;
}

pub returns-clause-kept : goal.returns-clause-kept
returns-clause-kept c m of = same_is_of m c.args.self.now _ of (record {
  links = subst (λ links. SameItems SameLink links c.in_ok-copied_links.field-0.items) c.deref.ensures.value c.in_ok-copied_links.ensures;
  clients = c.in_ok-copy.ensures;
})
