use Rattle.std.proofs.Common.{◌+◌, List, [], ◌∷◌, map, None, sym, ap, subst, ◌∙◌}
use Rattle.std.proofs.lemmas.List.{map-append}
use Rattle.tl_definitions.specs.Readings.{Reading, due, first_readings}
use Rattle.tl_midway.specs.Members.{SameMembers}
use Rattle.tl_midway.specs.Reading.{shown_reading}
use Rattle.tl_midway.specs.declared.reading.Reading.TheVariants as coded
use Rattle.tl_midway.proofs.ReadingLaws.{one_more_first}
use Rattle.tl_midway.proofs.readings.past_readings.Goals as goal

pub loop-fewer-preserved : goal.loop-fewer-preserved
loop-fewer-preserved c =
    let fewer = c.loop-fewer.fewer in
    let items = c.loop-fewer.readings.items in
    subst (λ (xs : List Reading). SameMembers (due ∷ xs) (first_readings (fewer + 1)))
    (sym (ap (map shown_reading) c.in_ok-push.ensures.items ∙ map-append shown_reading items (coded.Rest (fewer + 1) None ∷ [])))
    (one_more_first (map shown_reading items) fewer c.loop-fewer.invariant)
