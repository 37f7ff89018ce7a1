-- What a manager knows of its links.
use Rattle.std.specs.Prelude.{ℕ, Bool, false, ◌≡◌, ◌==◌, ◌&&◌, not, nat_lt, List, map, Option, Some, None}
use Rattle.std.specs.List.{AllByRecursion, list_any, slice_get}
use Rattle.std.specs.List.Sorted.{IsStrictlySortedBy}
use Rattle.std.specs.Ordering.{nat_cmp}
use Rattle.tl_tables.specs.declared.Perm.{Perm}
use Rattle.tl_tables.specs.declared.Rule.{Rule}
use Rattle.tl_tables.specs.declared.Rule.TheVariants as rule
use Rattle.tl_tables.specs.Kinds.{is_probe, is_grant, conflicts}
use Rattle.tl_definitions.specs.OpenTables.{passes}
use Rattle.tl_definitions.specs.Events.{Shown}
use Rattle.tl_apart.specs.declared.event.Event.{Event}
use Rattle.tl_apart.specs.declared.holder.Holder.{Holder}
use Rattle.tl_apart.specs.declared.holders.Holders.{Holders}
use Rattle.tl_apart.specs.Holder.{shown}

-- The numbers of the links.
abbrev pub links_of : List Holder → List ℕ
links_of holders = map (λ holder. holder.link) holders

-- The link has this place, or none.
abbrev pub IsPlace : ℕ → List Holder → Option ℕ → Type 0
IsPlace link holders None = AllByRecursion (λ (holder : Holder). (holder.link == link) ≡ false) holders
IsPlace link holders (Some place) = slice_get (links_of holders) place ≡ Some link

-- The numbers of the manager's links.
abbrev pub clients_of : Holders → List ℕ
clients_of holders = links_of holders.holders.items

-- Of each of these links the manager knows this. Their numbers rise, so each link is there once.
pub record Shows (holders : Holders) (known : ℕ → Shown) : Type 0 where
  pub rises : IsStrictlySortedBy nat_cmp (clients_of holders)
  pub each : AllByRecursion (λ (holder : Holder). shown holder ≡ known holder.link) holders.holders.items

-- The bound of another link forbids what is set on the block.
abbrev pub forbidden_by : List Holder → ℕ → ℕ × Perm → Bool
forbidden_by holders link (block, set) = list_any (λ holder. not (holder.link == link) && conflicts set ((shown holder).bound block)) holders

-- The manager's rules that an event breaks by what is known.
abbrev pub breaks_known : List Holder → Event → Rule → Bool
breaks_known holders e rule.M1 = is_grant e.op && passes (forbidden_by holders e.place.link) e.sets
breaks_known holders e rule.M2 = is_grant e.op && passes (λ block. list_any (λ holder. (shown holder).probed block) holders) e.block
breaks_known holders e rule.M3 = is_probe e.op && passes (λ block. list_any (λ holder. nat_lt 0 ((shown holder).grants block)) holders) e.block
breaks_known holders e _ = false

-- This holds of whatever is known of the links.
abbrev pub ForShown : Holders → ((ℕ → Shown) → Type 0) → Type 0
ForShown holders Holds = (known : ℕ → Shown) → Shows holders known → Holds known
