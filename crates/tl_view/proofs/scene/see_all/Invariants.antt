use Rattle.std.proofs.Common.{◌≡◌, ◌<◌, length}
use Rattle.std.specs.List.{All}
use Rattle.tl_beats.specs.Beats.{IsWellFormed}
use Rattle.tl_rows.specs.States.{links_in}
use Rattle.tl_view.proofs.scene.see_all.Given as goal

-- the beats that are left are of links that the state knows
abbrev pub invariant-loop-place : goal.invariant-loop-place
invariant-loop-place l = record {
  formed : All (λ p. IsWellFormed p.beat) l.place-iterator;
  within : All (λ p. p.link < length l.topo.links) l.place-iterator;
  count : links_in l.pass.context.origins ≡ length l.topo.links;
}
