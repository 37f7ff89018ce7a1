-- What a manager knows of one link.
use Rattle.std.specs.Prelude.{ℕ, ◌+◌, ◌-◌, ◌&&◌, ◌||◌, Bool, false, Option, unwrap_or, is_some, if◌then◌else◌}
use Rattle.tl_tables.specs.declared.Perm.{Perm}
use Rattle.tl_tables.specs.declared.Perm.TheVariants as perm
use Rattle.tl_state.specs.BlockMap.{BlockData, value_at}
use Rattle.tl_tables.specs.Kinds.{is_probe, is_probe_ack, is_grant, is_grant_ack}
use Rattle.tl_definitions.specs.OpenTables.{one_if}
use Rattle.tl_definitions.specs.Events.{Shown, is_on}
use Rattle.tl_apart.specs.declared.event.Event.{Event}
use Rattle.tl_apart.specs.declared.holder.Holder.{Holder}
use Rattle.tl_apart.specs.Grants.{open_on}

-- The bound that an entry stands for.
abbrev pub perm_of : Option Perm → Perm
perm_of entry = unwrap_or entry perm.Nothing

abbrev pub bound_in : BlockData Perm → ℕ → Perm
bound_in bounds block = perm_of (value_at bounds block)

-- A Probe of the block is open.
abbrev pub probed_in : {V : Type 0} → BlockData V → ℕ → Bool
probed_in probes block = is_some (value_at probes block)

-- A Probe of the block is open after an event, and how many Grants of it are, from what was open before it.
abbrev pub probed_after : Event → ℕ → Bool → Bool
probed_after e block was = if (is_probe e.op || is_probe_ack e.op) && is_on block e.block then is_probe e.op else was

abbrev pub granted_after : Event → ℕ → ℕ → ℕ
granted_after e block was = if is_grant e.op || is_grant_ack e.op then one_if (is_grant e.op && is_on block e.block) + (was - one_if (is_on block e.closes)) else was

-- What is known.
abbrev pub shown : Holder → Shown
shown holder = record { bound = bound_in holder.bounds; probed = probed_in holder.probes; grants = open_on holder.grants }

-- Nothing is held, and nothing is open.
abbrev pub nothing_shown : Shown
nothing_shown = record { bound = λ block. perm.Nothing; probed = λ block. false; grants = λ block. 0 }
