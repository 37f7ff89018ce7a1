use Rattle.std.proofs.Common.{rules, sym, ap, ◌∙◌, ◌++◌, List, ℕ}
use Rattle.tl_text.specs.Words.{ended}
use Rattle.tl_beats.proofs.FrontAgain.{spells}
use Rattle.tl_beats.proofs.front_line.later_front.Goals as goal

pub returns-clause-spelled : goal.returns-clause-spelled
returns-clause-spelled c =
    let rest = c.in_ok-rest.rest.now in
    spells c.beat_at.result c.in_ok-cycle.cycle c.args.text.now c.in_ok-cycle.words.now rest c.beat_at.ensures.cycle (search rules)
    (c.in_ok-rest.ensures ∙ ap (λ (l : List ℕ). l ++ rest) c.requires.text ∙ ap (λ (l : List ℕ). ended l ++ rest) (sym c.beat_at.ensures.same))
