-- The managers of a topology, with the regions that they have.
use Rattle.std.specs.Prelude.{ℕ, List, map, slice_index}
use Rattle.tl_topology.specs.declared.LinkDecl.{LinkDecl}
use Rattle.tl_topology.specs.Regions.{Area}
use Rattle.tl_topology.specs.Topology.{Topology}
use Rattle.tl_definitions.specs.Positions.{links_of, clients_of}
use Rattle.tl_definitions.specs.Rules.{Manager}

-- The links of a topology, by number.
abbrev pub declared_links : Topology → List LinkDecl
declared_links topo = map (λ p. p.1) topo.links

-- The manager with this number: the links, its own among them, its block, these regions.
abbrev pub manager_at : Topology → ℕ → List Area → Manager
manager_at topo number regions = record {
  links = links_of (declared_links topo);
  clients = clients_of number (declared_links topo);
  exponent = slice_index (map (λ p. p.1) topo.managers) number;
  regions = regions;
}
