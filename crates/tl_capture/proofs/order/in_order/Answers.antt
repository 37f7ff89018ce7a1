use Rattle.std.proofs.Common.{rules}
use Rattle.std.proofs.lemmas.List.Sorted.{answers_always}
use Rattle.tl_definitions.specs.Positions.{lies_before}
use Rattle.tl_capture.proofs.OrderLemmas.{order_from_sorted, weak_order}
use Rattle.tl_capture.proofs.order.in_order.Goals as goal

pub returns-clause-order : goal.returns-clause-order
returns-clause-order c =
    order_from_sorted c.sort_by.new.self.items
    (c.in_ok-sort_by.ensures.sorted lies_before weak_order (answers_always _ _ _ (λ f a r q k. search rules)))
