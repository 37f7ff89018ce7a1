use Rattle.std.proofs.Common.{◌≡◌, true, false, sym, ◌∙◌}
use Rattle.tl_link_rules.proofs.SameLaws.{shown_by_entries, entries_by_shown}
use Rattle.tl_link_rules.proofs.flow.FlowStateSame.is_same.Goals as goal
use Rattle.tl_link_rules.proofs.flow.FlowStateSame.is_same.Goals.{then-is_same, else-is_same}

pub returns-then-is_same-2 : goal.returns-then-is_same-2
returns-then-is_same-2 c =
    let one = c.args.self.now in
    let two = c.args.other.now in
    elim c.if-is_same.branch [
      | then-is_same w ↦ (
        (λ h. shown_by_entries one two (c.is_same.ensures.0 w.if-is_same.true) (w.is_same-then-is_same.ensures.0 (sym w.value-is ∙ c.if-is_same-2.true)) (c.is_same-then-is_same-2.ensures.0 h)),
        (λ e. c.is_same-then-is_same-2.ensures.1 (entries_by_shown one two e).2),
      )
      | else-is_same w ↦ (let never : true ≡ false = sym c.if-is_same-2.true ∙ w.value-is ∙ w.if-is_same.false in cc)
    ]

pub returns-else-is_same-2 : goal.returns-else-is_same-2
returns-else-is_same-2 c =
    let one = c.args.self.now in
    let two = c.args.other.now in
    elim c.if-is_same.branch [
      | then-is_same w ↦ (
        (λ h. let never : true ≡ false = sym h ∙ c.if-is_same-2.false in cc),
        (λ e. w.value-is ∙ w.is_same-then-is_same.ensures.1 (entries_by_shown one two e).1),
      )
      | else-is_same w ↦ (
        (λ h. let never : true ≡ false = sym h ∙ c.if-is_same-2.false in cc),
        (λ e. let never : true ≡ false = sym (c.is_same.ensures.1 (entries_by_shown one two e).0) ∙ w.if-is_same.false in cc),
      )
    ]
