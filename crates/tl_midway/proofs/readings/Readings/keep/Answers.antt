use Rattle.std.proofs.Common.{◌≡◌, Bool, List, ◌∷◌, map, sym, ap, subst, ◌∙◌}
use Rattle.std.specs.Prelude.{filter, option_map}
use Rattle.tl_definitions.specs.Readings.{Reading}
use Rattle.tl_midway.specs.Members.{SameMembers}
use Rattle.tl_midway.specs.Reading.{shown_reading, is_kept, kept_of}
use Rattle.tl_midway.specs.Readings.{shown_readings}
use Rattle.tl_midway.proofs.MemberLaws.{kept_mapped}
use Rattle.tl_midway.proofs.ReadingLaws.{kept_some, kept_none}
use Rattle.tl_midway.proofs.readings.Readings.keep.Goals as goal

pub returns-in-Some-clause-members : goal.returns-in-Some-clause-members
returns-in-Some-clause-members c =
    let state = c.args.self.now in
    let keep : Reading → Bool = is_kept c.args.beat.now c.args.room in
    let others : List Reading = map shown_reading state.others.items in
    let left : map shown_reading c.drop_refuted.new.readings.items ≡ filter keep others =
    ap (map shown_reading) c.drop_refuted.ensures ∙ sym (kept_mapped keep shown_reading state.others.items) in
    subst (λ (xs : List Reading). SameMembers (shown_reading c.in-Some.kept ∷ xs) (kept_of c.args.beat.now c.args.room (shown_readings state))) (sym left)
    (kept_some keep (shown_reading state.one) (shown_reading c.in-Some.kept) others (sym c.kept_one.ensures ∙ ap (option_map shown_reading) c.in-Some.is))

pub returns-in-None-clause-members : goal.returns-in-None-clause-members
returns-in-None-clause-members c =
    kept_none (is_kept c.args.beat.now c.args.room) (shown_readings c.args.self.now) (sym c.kept_one.ensures ∙ ap (option_map shown_reading) c.in-None.is)
