use Rattle.std.proofs.Common.{◌≡◌, map, take}
use Rattle.std.specs.List.{All}
use Rattle.tl_definitions.specs.Managers.{declared_links}
use Rattle.tl_definitions.specs.Positions.{links_of}
use Rattle.tl_midway.specs.LinkReadings.{IsFirst}
use Rattle.tl_midway.specs.declared.link_readings.LinkReadings.{LinkReadings}
use Rattle.tl_midway.proofs.manager_readings.first_readings.Given as goal

-- the first links, each with its first readings
abbrev pub invariant-loop-number : goal.invariant-loop-number
invariant-loop-number l = record {
  numbers : map (λ (link : LinkReadings). link.number) l.links.items ≡ take l.number-index l.numbers;
  each : All (λ (link : LinkReadings). IsFirst l.law (links_of (declared_links l.topo) link.number) link) l.links.items;
}
