use Rattle.std.proofs.Common.{◌==◌, not, map, sym, ◌∙◌}
use Rattle.std.specs.List.{list_any}
use Rattle.tl_definitions.specs.Readings.{missing_of}
use Rattle.tl_midway.specs.Reading.{shown_reading}
use Rattle.tl_midway.proofs.MemberLaws.{any_mapped}
use Rattle.tl_midway.proofs.ReadingLaws.{lead_by_one}
use Rattle.tl_midway.proofs.readings.Readings.in_lead_in.Goals as goal

pub returns : goal.returns
returns c =
    let state = c.args.self.now in
    c.any_differs.ensures
    ∙ (λ i. list_any (λ reading. not (missing_of (shown_reading reading) == c.missing.ensures i)) (c.deref.ensures.value i))
    ∙ sym (lead_by_one (shown_reading state.one) (map shown_reading state.others.items)
    ∙ any_mapped (λ y. not (missing_of y == missing_of (shown_reading state.one))) shown_reading state.others.items)
