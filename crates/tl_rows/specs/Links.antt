-- What the state of a link stands for.
use Rattle.std.specs.Prelude.{ℕ, ◌≡◌, List, Option, None, slice_index_or}
use Rattle.tl_tables.specs.declared.Chan.{Chan}
use Rattle.tl_tables.specs.Messages.{chan_number}
use Rattle.tl_topology.specs.declared.LinkDecl.{LinkDecl}
use Rattle.tl_beats.specs.declared.Placed.{Placed}
use Rattle.tl_definitions.specs.Messages.{Links}
use Rattle.tl_link_rules.specs.Bursts as bursts
use Rattle.tl_rows.specs.declared.link.LinkOrigins.{LinkOrigins}
use Rattle.tl_rows.specs.Origins.{origins_on, head_before}
use Rattle.tl_rows.specs.Openers as openers

-- The newest head on a channel.
abbrev pub head_at : LinkOrigins → Chan → Option Placed
head_at state chan = slice_index_or state.heads (chan_number chan) None

-- The state shows what these beats leave on the link with this number.
pub record IsAt (exponent : ℕ) (links : Links) (link : ℕ) (state : LinkOrigins) (before : List Placed) : Type 0 where
  pub bursts : bursts.StandsFor state.bursts (links link) link before
  pub heads : (chan : Chan) → head_at state chan ≡ head_before links link chan before
  pub openers : openers.StandsFor exponent state.openers (origins_on links link before)

-- This holds of whatever beats of the link with this number and declaration the state shows.
abbrev pub OnLink : ℕ → LinkOrigins → LinkDecl → ℕ → (Links → List Placed → Type 0) → Type 0
OnLink exponent state decl link Holds = (links : Links) (before : List Placed) → links link ≡ decl → IsAt exponent links link state before → Holds links before
