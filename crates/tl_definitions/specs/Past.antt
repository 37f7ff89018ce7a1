-- What the past of a link leaves for its future, read from all its messages so far: all that later heads are judged by.
use Rattle.std.specs.Prelude.{ℕ, ◌==◌, ◌&&◌, Bool, false, List, length, Option, is_some}
use Rattle.std.specs.Option.{option_map_or}
use Rattle.tl_tables.specs.declared.Perm.{Perm}
use Rattle.tl_tables.specs.Params.{cap_of}
use Rattle.tl_beats.specs.declared.Placed.{Placed}
use Rattle.tl_beats.specs.declared.Request.{Request}
use Rattle.tl_tables.specs.Kinds.{is_acquire}
use Rattle.tl_definitions.specs.OpenTables.{open_at, entry_at, open_keys}
use Rattle.tl_definitions.specs.Messages.{Message, Links, as_request, sources, releases, sinks, probes, round_down, granted_block, messages_on, bound_of}

-- For the flow rules: the request in flight on a source, the Release in flight on a source, whether a Grant is open on a sink.
pub record FlowPast : Type 0 where
  pub source : ℕ → Option Request
  pub release : ℕ → Option Request
  pub sink : ℕ → Bool

abbrev pub flow_past : List Message → FlowPast
flow_past before = record {
  source = entry_at sources as_request before;
  release = entry_at releases as_request before;
  sink = λ sink. is_some (open_at sinks sink before);
}

-- An open request is an Acquire of the block.
abbrev pub acquires_block : ℕ → ℕ → Request → Bool
acquires_block exponent block request = is_acquire request.op && (round_down exponent request.address == block)

-- An open Release is of the block.
abbrev pub releases_block : ℕ → ℕ → Request → Bool
releases_block exponent block request = round_down exponent request.address == block

-- An open Grant is of the block, which is known.
abbrev pub grants_block : ℕ → Option ℕ → Bool
grants_block block granted = option_map_or (λ b. b == block) granted false

-- For the rules on blocks: by block the cap of the open Probe, if its param is lawful, and the bound; by sink the block of
-- the open Grant, if known; and by block how many Acquires, Releases and Grants are open on it. So whether some entry of a
-- table is open on a block is known without a walk over the table.
pub record ClientPast : Type 0 where
  pub probe : ℕ → Option (Option Perm)
  pub bound : ℕ → Perm
  pub granted : ℕ → Option (Option ℕ)
  pub acquires : ℕ → ℕ
  pub releases : ℕ → ℕ
  pub grants : ℕ → ℕ

abbrev pub client_past : ℕ → List Message → ClientPast
client_past exponent before = record {
  probe = entry_at (probes exponent) (λ message. cap_of message.op message.beat.param) before;
  bound = bound_of exponent before;
  granted = entry_at sinks (granted_block exponent) before;
  acquires = λ block. length (open_keys sources (λ message. acquires_block exponent block (as_request message)) before);
  releases = λ block. length (open_keys releases (λ message. releases_block exponent block (as_request message)) before);
  grants = λ block. length (open_keys sinks (λ message. grants_block block (granted_block exponent message)) before);
}

-- Both, of one link.
pub record LinkPast : Type 0 where
  pub flow : FlowPast
  pub client : ClientPast

abbrev pub past_of : ℕ → List Message → LinkPast
past_of exponent before = record { flow = flow_past before; client = client_past exponent before }

-- The past of each link of a manager.
abbrev pub pasts_of : Links → ℕ → List Placed → ℕ → LinkPast
pasts_of links exponent before link = past_of exponent (messages_on links link before)
