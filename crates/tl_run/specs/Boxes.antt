-- The monitors that a run is given.
use Rattle.std.specs.Prelude.{List, map}
use Rattle.tl_beats.specs.declared.watch.Watch.{Watch}
use Rattle.tl_monitor.specs.Held.{Held}

-- What monitors watch, in their order.
abbrev pub watches_in : {M : Type 0} → (M → Held) → List M → List Watch
watches_in held boxes = map (λ monitor. (held monitor).watch) boxes
