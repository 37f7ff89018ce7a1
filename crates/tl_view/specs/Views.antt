-- Which beats are shown of a row.
use Rattle.std.specs.Prelude.{ℕ, ◌==◌, ◌&&◌, ◌||◌, Bool, false, Option, Some, None}
use Rattle.tl_view.specs.declared.moments.Moment.{Moment}
use Rattle.tl_view.specs.declared.scene.Subject.{Subject}

-- Both are known, and the same.
abbrev pub is_same : Option ℕ → Option ℕ → Bool
is_same (Some one) (Some other) = one == other
is_same (Some one) None = false
is_same None other = false

-- The same of sources.
abbrev pub has_source : Option ℕ → Option ℕ → Bool
has_source one other = is_same one other

-- A message is shown where it is of the row's block, or on the row's link of the row's source.
abbrev pub is_of : Subject → Moment → Bool
is_of subject moment = is_same subject.block moment.block || ((subject.link == moment.place.link) && has_source subject.source moment.source)
