-- What the state of one link shows, and the rows of links judged apart.
use Rattle.std.specs.Prelude.{ℕ, ◌≡◌, List, [], ◌∷◌, ◌++◌, Some, None}
use Rattle.tl_tables.specs.declared.Chan.{Chan}
use Rattle.tl_topology.specs.Regions.{Area}
use Rattle.tl_topology.specs.declared.LinkDecl.{LinkDecl}
use Rattle.tl_beats.specs.Beats.{IsWellFormed}
use Rattle.tl_beats.specs.declared.Placed.{Placed}
use Rattle.tl_beats.specs.declared.Row.{Row}
use Rattle.tl_definitions.specs.declared.Unfinished.{Unfinished}
use Rattle.tl_definitions.specs.LinkPasses.{LinkSnapshot, link_judging}
use Rattle.tl_definitions.specs.Passes.{rows_judged}
use Rattle.tl_definitions.specs.Past.{past_of}
use Rattle.tl_definitions.specs.Positions.{Recorded, beats_of}
use Rattle.tl_definitions.specs.Rules.{Manager}
use Rattle.tl_link_rules.specs.Bursts.{slot_at}
use Rattle.tl_check.specs.Requests.{Has}
use Rattle.tl_check.specs.declared.apart.PlainLink.{PlainLink}

-- The state shows what a link below the level of caches has left, as far as its rules read it.
pub record Shows (state : PlainLink) (s : LinkSnapshot) : Type 0 where
  pub bursts : (chan : Chan) → slot_at state.bursts chan ≡ s.burst chan
  pub requests : Has state.requests s.past.flow

-- The heads of unfinished bursts are well-formed.
abbrev pub AreFormed : PlainLink → Type 0
AreFormed state = (chan : Chan) (burst : Unfinished) → slot_at state.bursts chan ≡ Some burst → IsWellFormed burst.head

-- A manager all links of which are declared so.
abbrev pub one_link : LinkDecl → ℕ → List Area → Manager
one_link decl exponent areas = record { links = λ link. decl; clients = []; exponent = exponent; regions = areas }

-- What a link has left before all its beats.
abbrev pub opening : ℕ → LinkSnapshot
opening exponent = record { burst = λ chan. None; past = past_of exponent [] }

-- The rows of a link's beats, from its first beat on.
abbrev pub judged_rows : Manager → List Placed → List Row
judged_rows m beats = rows_judged (link_judging m) (opening m.exponent) beats

-- The rows of links, one link after the other.
abbrev pub rows_of_links : Manager → List Recorded → List ℕ → List Row
rows_of_links m fragments [] = []
rows_of_links m fragments (link ∷ links) = judged_rows m (beats_of link fragments) ++ rows_of_links m fragments links
