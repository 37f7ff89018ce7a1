-- What the openers of a link show, and what they stand for.
use Rattle.std.specs.Prelude.{ℕ, ◌≡◌, Bool, List, Option, Some, if◌then◌else◌, find}
use Rattle.std.specs.Ordering.{nat_cmp}
use Rattle.std.specs.BTreeMap.{BTreeMap, get, values, IsOrdered}
use Rattle.tl_definitions.specs.OpenTables.{Table, touches, if_opens}
use Rattle.tl_definitions.specs.Messages.{Message}
use Rattle.tl_definitions.specs.Laws.{sets_block}
use Rattle.tl_rows.specs.declared.origin.Origin.{Origin}
use Rattle.tl_rows.specs.declared.openers.Openers.{Openers}
use Rattle.tl_rows.specs.Origins.{message, placed}
use Rattle.tl_rows.specs.Reasons.{Trail, trail_of, acquires, gives_back, grants}

-- What is open on a source, a sink and a block, and what set the bound of a block.
abbrev pub source_at : Openers → ℕ → Option Origin
source_at state source = get nat_cmp state.sources source

abbrev pub release_at : Openers → ℕ → Option Origin
release_at state source = get nat_cmp state.releases source

abbrev pub sink_at : Openers → ℕ → Option Origin
sink_at state sink = get nat_cmp state.sinks sink

abbrev pub probe_at : Openers → ℕ → Option Origin
probe_at state block = get nat_cmp state.probes block

abbrev pub setter_at : Openers → ℕ → Option Origin
setter_at state block = get nat_cmp state.setters block

-- The first entry of a table, in the order of keys, that passes.
abbrev pub first_in : BTreeMap ℕ Origin → (Message → Bool) → Option Origin
first_in table test = find (λ origin. test (message origin)) (values table)

abbrev pub shown : ℕ → Openers → Trail
shown exponent state = record {
  source = source_at state;
  release = release_at state;
  sink = sink_at state;
  probe = probe_at state;
  setter = setter_at state;
  acquire = λ block. first_in state.sources (acquires exponent block);
  giving = λ block. first_in state.releases (gives_back exponent block);
  grant = λ block. first_in state.sinks (grants exponent block);
}

-- The tables that are walked are in the order of their keys.
pub record AreOrdered (state : Openers) : Type 0 where
  pub sources : IsOrdered nat_cmp state.sources
  pub releases : IsOrdered nat_cmp state.releases
  pub sinks : IsOrdered nat_cmp state.sinks

-- The state shows what these messages of its link leave, the newest first.
pub record StandsFor (exponent : ℕ) (state : Openers) (before : List Origin) : Type 0 where
  pub ordered : AreOrdered state
  pub shows : shown exponent state ≡ trail_of exponent before

-- What is open on a key after one more message, from what was open on it.
abbrev pub opened_after : Table Message → Origin → (ℕ → Option Origin) → ℕ → Option Origin
opened_after table origin old key = if touches (placed table) key origin then if_opens (placed table) origin else old key

-- What set the bound of a block.
abbrev pub setter_after : ℕ → Origin → (ℕ → Option Origin) → ℕ → Option Origin
setter_after exponent origin old block = if sets_block exponent block (message origin) then Some origin else old block
