-- Lists with the same members.
use Rattle.std.specs.Prelude.{List}
use Rattle.std.specs.List.{Contains}

-- Both lists have the same members, in whatever order and however often.
pub record SameMembers {X : Type 0} (one two : List X) : Type 0 where
  pub there : (x : X) → Contains one x → Contains two x
  pub back : (x : X) → Contains two x → Contains one x
