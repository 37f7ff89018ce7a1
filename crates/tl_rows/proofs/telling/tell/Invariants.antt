use Rattle.std.proofs.Common.{◌≡◌, ◌+◌, ◌≤◌, ◌++◌, [], length, drop, take}
use Rattle.std.specs.Prelude.{reverse}
use Rattle.tl_rows.specs.Counts.{heads_after}
use Rattle.tl_rows.specs.States.{StandsFor, manager_with}
use Rattle.tl_rows.specs.Telling.{told_after}
use Rattle.tl_rows.proofs.telling.tell.Given as goal

-- what is told so far and what is left to tell are all
abbrev pub invariant-loop-place : goal.invariant-loop-place
invariant-loop-place l = record {
  count : length l.state.links.items ≡ length l.topo.links;
  stands : StandsFor (manager_with l.topo l.exponent l.clients) l.state (reverse (take l.place-index l.beats));
  found : l.told.items ++ told_after (manager_with l.topo l.exponent l.clients) l.rows (reverse (take l.place-index l.beats)) (drop l.place-index l.beats)
      ≡ told_after (manager_with l.topo l.exponent l.clients) l.rows [] l.beats;
  few : l.heads ≤ l.place-index;
  heads : l.heads + heads_after (manager_with l.topo l.exponent l.clients).links (reverse (take l.place-index l.beats)) (drop l.place-index l.beats)
      ≡ heads_after (manager_with l.topo l.exponent l.clients).links [] l.beats;
}
