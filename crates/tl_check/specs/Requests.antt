-- The requests in flight on a link below the level of caches, and the rules of its heads on them.
use Rattle.std.specs.Prelude.{ℕ, ◌≡◌, ◌==◌, ◌&&◌, not, Bool, true, false, List, [], ◌∷◌, Option, None, is_some, is_none, slice_index_or}
use Rattle.std.specs.Option.{option_map_or}
use Rattle.tl_tables.specs.declared.Chan.TheVariants as chan
use Rattle.tl_tables.specs.declared.Op.{Op}
use Rattle.tl_tables.specs.declared.Op.TheVariants as op
use Rattle.tl_tables.specs.declared.Rule.{Rule}
use Rattle.tl_tables.specs.declared.Rule.TheVariants as rule
use Rattle.tl_tables.specs.Messages.{replies_to, same_chan}
use Rattle.tl_beats.specs.declared.Beat.{Beat}
use Rattle.tl_beats.specs.declared.Request.{Request}
use Rattle.tl_definitions.specs.Past.{FlowPast}
use Rattle.tl_check.specs.declared.requests.Requests.{Requests}

-- The request in flight on a source.
abbrev pub request_at : Requests → ℕ → Option Request
request_at requests source = slice_index_or requests.slots.items source None

-- They are those of what is in flight on the link.
abbrev pub Has : Requests → FlowPast → Type 0
Has requests past = (source : ℕ) → request_at requests source ≡ past.source source

-- The messages of links below the level of caches.
abbrev pub is_plain : Op → Bool
is_plain op.PutFullData = true
is_plain op.PutPartialData = true
is_plain op.ArithmeticData = true
is_plain op.LogicalData = true
is_plain op.Get = true
is_plain op.Intent = true
is_plain op.AccessAck = true
is_plain op.AccessAckData = true
is_plain op.HintAck = true
is_plain _ = false

-- The flow rules that a head with such a message breaks, by the request that is in flight on its source.
abbrev pub breaks_open : Option Request → Op → Beat → Rule → Bool
breaks_open request o beat rule.S1 = same_chan beat.chan chan.A && is_some request
breaks_open request o beat rule.S2 = same_chan beat.chan chan.D && is_none request
breaks_open request o beat rule.S3 = same_chan beat.chan chan.D && option_map_or (λ r. not (replies_to r.op o)) request false
breaks_open request o beat rule.S4 = same_chan beat.chan chan.D && option_map_or (λ r. not (r.size == beat.size)) request false
breaks_open request o beat _ = false

abbrev pub open_order : List Rule
open_order = rule.S1 ∷ rule.S2 ∷ rule.S3 ∷ rule.S4 ∷ []
