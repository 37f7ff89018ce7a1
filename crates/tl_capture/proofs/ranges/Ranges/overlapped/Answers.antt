use Rattle.std.proofs.Common.{◌≡◌, ℕ, not, ◌&&◌, List, Some, ap, ◌∙◌, rules}
use Rattle.std.specs.Prelude.{map, filter, ◌==◌}
use Rattle.tl_definitions.specs.Positions.{Recorded}
use Rattle.tl_capture.specs.Present.{shares, least}
use Rattle.tl_capture.specs.Ranges.{meets}
use Rattle.tl_capture.specs.Walk.{fragments_left}
use Rattle.tl_capture.proofs.WalkLemmas.{lower_least, read_all, other_number, numbers_read}
use Rattle.tl_capture.proofs.ranges.Ranges.overlapped.Goals as goal

asked : ℕ → ℕ → ℕ → ℕ → List Recorded → List ℕ
asked link first last number fs = map (λ (g : Recorded). g.number) (filter (λ g. not (g.number == number) && shares link first last g) fs)

pub loop-other-init : goal.loop-other-init
unfolding asked
loop-other-init c =
    let fs : List Recorded = c.args.self.now in
    let number : ℕ = c.number-number.result in
    let left : fragments_left c.into_iter-other-iterator.result ≡ filter (meets c.args.link c.first.result (Some c.last.result)) fs = search rules in
    lower_least (read_all (other_number number) (fragments_left c.into_iter-other-iterator.result))
    ∙ ap least (ap (read_all (other_number number)) left ∙ numbers_read c.args.link c.first.result c.last.result number fs
    ∙ ap (λ n. asked c.args.link n c.last.result number fs) c.first.ensures.exact
    ∙ ap (λ n. asked c.args.link c.args.fragment.now.first n number fs) c.last.ensures.exact
    ∙ ap (λ n. asked c.args.link c.args.fragment.now.first c.args.fragment.now.last n fs) c.number-number.ensures)
