use Rattle.std.proofs.Common.{◌≡◌, ◌++◌, None, ap, ◌∙◌, rules}
use Rattle.std.specs.Prelude.{filter}
use Rattle.tl_capture.specs.Ranges.{meets}
use Rattle.tl_capture.specs.Walk.{fragments_left}
use Rattle.tl_capture.proofs.WalkLemmas.{read_all, own_windows, windows_read}
use Rattle.tl_capture.proofs.ranges.Ranges.push_windows.Goals as goal

pub loop-fragment-init : goal.loop-fragment-init
loop-fragment-init c =
    let left : fragments_left c.into_iter-fragment-iterator.result ≡ filter (meets c.args.link 0 None) c.args.self.now = search rules in
    ap (λ ws. c.args.windows.now.items ++ ws) (ap (read_all own_windows) left ∙ windows_read c.args.link c.args.self.now)
