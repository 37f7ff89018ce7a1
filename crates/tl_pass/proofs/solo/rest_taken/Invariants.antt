use Rattle.std.proofs.Common.{◌≡◌, List}
use Rattle.tl_beats.specs.Fragments.{Frag}
use Rattle.tl_pass.specs.Solo.{HasAll, HasBegun}
use Rattle.tl_pass.proofs.solo.rest_taken.Given as goal

abbrev pub invariant-loop : goal.invariant-loop
invariant-loop g l = record {
  begun : HasBegun l.solo;
  topo : l.solo.topo.now ≡ l.fn.first.topo.now;
  came : (start : g.row.S.Denot) (ps : List Frag) → HasAll ps l.fn.first → g.S.Supply.has_given start l.fn.pieces ps → (all : List Frag) × HasAll all l.solo × g.S.Supply.has_given start l.pieces all;
}
