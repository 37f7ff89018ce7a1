use Rattle.std.proofs.Common.{◌≡◌, ◌≤◌, List, [], Option, length}
use Rattle.std.specs.List.{All}
use Rattle.tl_beats.specs.Fragments.{Frag}
use Rattle.tl_midway.specs.declared.midway.Midway.{Midway}
use Rattle.tl_pass.specs.Parts.{IsWithin}
use Rattle.tl_pass.specs.Reports.{standing}
use Rattle.tl_pass.proofs.supply.all_taken.Given as goal

abbrev pub invariant-loop : goal.invariant-loop
invariant-loop g l = (fs : List Frag) × g.S.Supply.has_given l.fn.supply l.supply fs × (l.fragments ≡ length fs) × (length fs ≤ l.counter) × All (IsWithin l.topo l.links.first l.links.next) fs
    × ((midway : Option Midway) → g.P.Pass.has_come midway l.topo [] l.fn.pass → g.P.Pass.has_come midway l.topo (standing l.topo fs) l.pass)
