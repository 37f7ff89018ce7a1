use Rattle.std.proofs.Common.{◌≡◌, ◌∷◌, ap, subst, length, arith}
use Rattle.tl_capture.specs.Rising.{AreRising}
use Rattle.tl_capture.proofs.cursor.Cursor.new.Goals as goal

pub invariant_of-result : goal.invariant_of-result
invariant_of-result c =
    let whole : c.args.beats.now ≡ c.in_ok-next.next.now ∷ c.in_ok-next.rest.now = c.in_ok-next.ensures.cases.0 in
    let many = ap length whole in
    let room = c.requires.lines in
    record { lines = omega arith; rising = subst AreRising whole c.requires.rising }
