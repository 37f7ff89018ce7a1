use Rattle.std.proofs.Common.{◌≡◌, Bool, List, ◌∷◌, map, not, sym, ap, subst, ◌∙◌}
use Rattle.std.specs.Prelude.{filter}
use Rattle.tl_definitions.specs.Readings.{Reading, is_due, reading_after}
use Rattle.tl_midway.specs.Members.{SameMembers}
use Rattle.tl_midway.specs.Reading.{shown_reading}
use Rattle.tl_midway.proofs.MemberLaws.{kept_mapped}
use Rattle.tl_midway.proofs.ReadingLaws.{one_due}
use Rattle.tl_midway.proofs.readings.Readings.pass.Goals as goal

pub returns-then-is_due-clause-members : goal.returns-then-is_due-clause-members
returns-then-is_due-clause-members c =
    let state = c.args.self.now in
    let later : Reading → Bool = λ y. not (is_due y) in
    let first : Reading = shown_reading c.pass.new.self in
    let others : List Reading = map (reading_after c.args.link.now c.args.beat.now) (map shown_reading state.others.items) in
    let left : map shown_reading c.drop_due.new.readings.items ≡ filter later others =
    ap (map shown_reading) c.drop_due.ensures ∙ sym (kept_mapped later shown_reading c.pass_all.new.readings.items) ∙ ap (filter later) c.pass_all.ensures in
    subst (λ (xs : List Reading). SameMembers (first ∷ xs) (reading_after c.args.link.now c.args.beat.now (shown_reading state.one) ∷ others)) (sym left)
    (subst (λ (y : Reading). SameMembers (first ∷ filter later others) (y ∷ others)) c.pass.ensures (one_due first others (sym c.is_due.ensures ∙ c.if-is_due.true)))
