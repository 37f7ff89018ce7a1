-- A link that is judged apart, as plain data.
use Rattle.std.specs.Prelude.{ℕ, List, Option}
use Rattle.tl_beats.specs.declared.Row.{Row}
use Rattle.tl_definitions.specs.Events.{Event}
use Rattle.tl_apart.specs.declared.fault.ApartFault.{ApartFault}
use Rattle.tl_apart.specs.declared.feed.Newest.{Newest}
use Rattle.tl_apart.specs.declared.link_judge.LinkJudge.{LinkJudge}

-- What its beats leave, what it told that its manager has not judged, the rows of its own rules, its fragment that came last, how many came, and why it is
-- for nothing more, if it is.
pub record FeedData : Type 0 where
  pub judge : LinkJudge
  pub waiting : List Event
  pub rows : List Row
  pub newest : Option Newest
  pub count : ℕ
  pub fault : Option ApartFault
