use Rattle.std.proofs.Common.{rules}
use Rattle.std.proofs.lemmas.List.Sorted.{answers_always}
use Rattle.std.specs.Ordering.{is_lt}
use Rattle.tl_capture.specs.Cursors.{all_left}
use Rattle.tl_capture.specs.Waiting.{stack_order}
use Rattle.tl_capture.proofs.CursorLemmas.{left_apart}
use Rattle.tl_capture.proofs.StackLemmas.{apart_of, stack_weak, stacked_from}
use Rattle.tl_capture.proofs.waiting.stacked.Goals as goal

pub returns-clause-stacked : goal.returns-clause-stacked
returns-clause-stacked c =
    let apart = left_apart c.args.cursors.items c.sort_unstable_by.new.self.items c.sort_unstable_by.ensures.permutation (apart_of (all_left c.args.cursors.items) c.requires) in
    stacked_from c.sort_unstable_by.new.self.items
    (c.sort_unstable_by.ensures.sorted (λ c d. is_lt (stack_order c d)) stack_weak (answers_always _ _ _ (λ f a r q k. search rules))) apart
