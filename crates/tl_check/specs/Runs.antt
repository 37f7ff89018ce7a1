-- Later beats of a burst that break no rule, one after the other.
use Rattle.std.specs.Prelude.{ℕ, ◌≡◌, ◌==◌, ◌&&◌, List, [], ◌∷◌, Option, Some, if◌then◌else◌}
use Rattle.tl_tables.specs.declared.Chan.{Chan}
use Rattle.tl_tables.specs.Messages.{same_chan}
use Rattle.tl_beats.specs.declared.Placed.{Placed}
use Rattle.tl_definitions.specs.declared.Unfinished.{Unfinished}
use Rattle.tl_definitions.specs.Rules.{Manager}
use Rattle.tl_definitions.specs.Judging.{Snapshot, judged_rules, judged_next, judging}
use Rattle.tl_definitions.specs.Passes.{left_after}
use Rattle.tl_check.specs.States.{shown, IsOf}
use Rattle.tl_check.specs.declared.state.SpanState.{SpanState}

-- The next beat goes on with a burst, and breaks no rule.
abbrev pub IsQuiet : Manager → Snapshot → Placed → Type 0
IsQuiet m s p = (burst : Unfinished) × (s.burst p.link p.beat.chan ≡ Some burst) × (judged_rules m s p ≡ [])

abbrev pub AreQuiet : Manager → Snapshot → List Placed → Type 0
AreQuiet m s [] = Unit {0}
AreQuiet m s (p ∷ run) = IsQuiet m s p × AreQuiet m (judged_next m s p) run

-- A snapshot with something else unfinished on a channel of a link.
abbrev pub with_slot : Snapshot → ℕ → Chan → Option Unfinished → Snapshot
with_slot s link chan slot = record { burst = λ l c. if (link == l) && same_chan chan c then slot else s.burst l c; past = s.past }

-- A state of a manager has gone on with these beats, which are quiet.
pub record HasRun (m : Manager) (old new : SpanState) (run : List Placed) : Type 0 where
  pub quiet : AreQuiet m (shown old) run
  pub is_of : IsOf m new
  pub left : shown new ≡ left_after (judging m) (shown old) run
