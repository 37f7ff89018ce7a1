use Rattle.std.proofs.Common.{refl, sym, subst}
use Rattle.std.specs.List.Sorted.{IsStrictlySortedBy}
use Rattle.tl_definitions.specs.Positions.{position_order}
use Rattle.tl_capture.specs.Cursors.{all_left}
use Rattle.tl_capture.proofs.StackLemmas.{asked_for}
use Rattle.tl_capture.proofs.merged.Merged.of.Goals as goal

pub invariant_of-result : goal.invariant_of-result
invariant_of-result c = record {
  stacked = c.stacked.ensures.stacked;
  apart = subst (IsStrictlySortedBy position_order) (sym (asked_for c.args.cursors.items c.stacked.result.items (all_left c.args.cursors.items) refl c.requires c.stacked.ensures.moves)) c.requires;
}

pub returns : goal.returns
returns c = asked_for c.args.cursors.items c.stacked.result.items (all_left c.args.cursors.items) refl c.requires c.stacked.ensures.moves
