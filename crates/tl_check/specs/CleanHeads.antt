-- Heads that break no rule of their link's own.
use Rattle.std.specs.Prelude.{ℕ, ◌≡◌, ◌%◌, ◌^◌, ◌==◌, ◌&&◌, Bool, List, [], Option, Some, filter}
use Rattle.tl_tables.specs.declared.Op.{Op}
use Rattle.tl_topology.specs.Regions.{Area}
use Rattle.tl_topology.specs.declared.LinkDecl.{LinkDecl}
use Rattle.tl_beats.specs.declared.Beat.{Beat}
use Rattle.tl_beats.specs.declared.Request.{Request}
use Rattle.tl_definitions.specs.Heads.{message_of}
use Rattle.tl_definitions.specs.Rules.{is_in_region, breaks_format, format_order}
use Rattle.tl_check.specs.Requests.{breaks_open, open_order}

-- The address of a request is a multiple of its size, and one region permits all its bytes.
abbrev pub is_placed : List Area → Op → Beat → Bool
is_placed areas o head = (head.address % 2 ^ head.size == 0) && is_in_region areas o head

-- The head has this message, and breaks neither a format rule nor a flow rule, by the request that is in flight on its source.
pub record IsClean (link : LinkDecl) (areas : List Area) (head : Beat) (request : Option Request) (o : Op) : Type 0 where
  pub message : message_of link head ≡ Some o
  pub format : (exponent : ℕ) → filter (breaks_format exponent areas link o head) format_order ≡ []
  pub flow : filter (breaks_open request o head) open_order ≡ []
