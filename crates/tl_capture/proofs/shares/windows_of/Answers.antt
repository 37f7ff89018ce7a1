use Rattle.std.proofs.Common.{sym, ap, subst, ◌∙◌}
use Rattle.std.proofs.Common.{◌++◌}
use Rattle.tl_beats.specs.Fragments.{AreBeats}
use Rattle.tl_definitions.specs.Positions.{placed_beats}
use Rattle.tl_capture.specs.Present.{recorded}
use Rattle.tl_capture.specs.Shares.{windows_from}
use Rattle.tl_capture.specs.Windows.{AreWindows}
use Rattle.tl_capture.proofs.LawLemmas.{fragment_windows}
use Rattle.tl_capture.proofs.shares.windows_of.Goals as goal

pub returns : goal.returns
returns c =
    let all = c.in_ok-push_windows.ensures ∙ ap (λ ws. ws ++ windows_from 0 c.beats.result.now) c.new-windows.ensures.items ∙ ap (windows_from 0) c.beats.ensures.exact in
    subst (AreWindows (placed_beats (recorded 0 c.args.fragment.now))) (sym all) (fragment_windows (recorded 0 c.args.fragment.now) (subst (AreBeats c.args.fragment.now.first c.args.fragment.now.last) c.beats.ensures.exact c.beats.ensures.kept))
