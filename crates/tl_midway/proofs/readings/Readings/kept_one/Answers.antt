use Rattle.std.proofs.Common.{cond, map, not, Some, sym, ap, ◌∙◌}
use Rattle.std.specs.Prelude.{option_map}
use Rattle.std.specs.List.{find}
use Rattle.tl_midway.specs.Reading.{shown_reading, is_kept}
use Rattle.tl_midway.proofs.MemberLaws.{find_mapped}
use Rattle.tl_midway.proofs.readings.Readings.kept_one.Goals as goal

pub returns-then-is_refuted : goal.returns-then-is_refuted
returns-then-is_refuted c =
    let state = c.args.self.now in
    let keep = is_kept c.args.beat.now c.args.room in
    ap (option_map shown_reading) (c.first_kept.ensures ∙ ap (find (λ reading. keep (shown_reading reading))) c.deref.ensures.value)
    ∙ sym (find_mapped keep shown_reading state.others.items)
    ∙ sym (ap (λ t. cond (not t) (Some (shown_reading state.one)) (find keep (map shown_reading state.others.items))) (sym c.is_refuted.ensures ∙ c.if-is_refuted.true))
