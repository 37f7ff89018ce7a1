use Rattle.std.proofs.Common.{◌≡◌, map, take}
use Rattle.std.specs.List.{All}
use Rattle.tl_definitions.specs.Known.{first_past}
use Rattle.tl_definitions.specs.Managers.{declared_links}
use Rattle.tl_definitions.specs.Positions.{links_of}
use Rattle.tl_midway.specs.KnownLink.{Shows}
use Rattle.tl_midway.specs.declared.known_pasts.LinkPast.{LinkPast}
use Rattle.tl_midway.proofs.known_pasts.first_pasts.Given as goal

-- the first links, with what is known of each at first
abbrev pub invariant-loop-number : goal.invariant-loop-number
invariant-loop-number l = record {
  numbers : map (λ (link : LinkPast). link.number) l.links.items ≡ take l.number-index l.numbers;
  each : All (λ (link : LinkPast). Shows l.exponent link.past (first_past (links_of (declared_links l.topo) link.number))) l.links.items;
}
