use Rattle.std.proofs.Common.{◌∙◌, ap, not, nat_eq}
use Rattle.tl_pieces.specs.Slots.{some_wanted}
use Rattle.tl_pieces.proofs.SlotLemmas.{none_counted}
use Rattle.tl_pieces.proofs.slots.Slots.none_wanted.Goals as goal

pub returns-clause-none : goal.returns-clause-none
returns-clause-none g c = ap (λ n. nat_eq n 0) c.self.invariant.wanted.counted ∙ none_counted c.self.inside.map.entries ∙ ap (λ es. not (some_wanted es)) c.self.view_is
