use Rattle.std.proofs.Common.{rules}
use Rattle.std.specs.Ordering.{nat_cmp}
use Rattle.tl_state.proofs.Tables.{copied}
use Rattle.tl_state.proofs.SlotLaws.{same_copy}
use Rattle.tl_state.proofs.slots.Slots.copy.Goals as goal

pub returns : goal.returns
returns g c = same_copy c.args.self.now (record { low = c.in_ok-from_slice.field-0; high = c.in_ok-clone.field-0 }) c.used.result (search rules) c.used.ensures.empty
    (copied nat_cmp (λ x y h. h) g.met.V.Faithful.faithful c.args.self.now.high c.in_ok-clone.field-0 c.in_ok-clone.ensures.cases)
