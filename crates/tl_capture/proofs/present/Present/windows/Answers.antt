use Rattle.std.proofs.Common.{◌≡◌, ◌++◌, ◌≤◌, List, length, sym, ap, subst, ◌∙◌, arith, append-nil, drop_of_length-le}
use Rattle.std.specs.List.{Contains}
use Rattle.tl_definitions.specs.Positions.{Recorded}
use Rattle.tl_capture.specs.Present.{IsPresent}
use Rattle.tl_capture.proofs.PresentLemmas.{ranges_of}
use Rattle.tl_capture.proofs.LawLemmas.{windows_pushed, pushed_windows}
use Rattle.tl_capture.proofs.present.Present.windows.Goals as goal

pub returns : goal.returns
returns c =
    let fs : List Recorded = c.args.self.now in
    let is = subst IsPresent c.self.view_is c.self.invariant.0 in
    let past : length c.args.links.now ≤ c.loop-link.link-index = omega arith in
    let all : c.loop-link.windows.items ≡ windows_pushed c.args.links.now fs =
    sym (append-nil c.loop-link.windows.items) ∙ ap (λ ls. c.loop-link.windows.items ++ windows_pushed ls fs) (sym (drop_of_length-le c.args.links.now past)) ∙ c.loop-link.invariant in
    record {
      rise = c.sort_once.ensures.rises;
      members = λ w. (
        (λ h. (pushed_windows c.args.links.now fs (ranges_of fs is) w).0 (subst (λ ws. Contains ws w) all ((c.sort_once.ensures.members w).0 h))),
        (λ h. (c.sort_once.ensures.members w).1 (subst (λ ws. Contains ws w) (sym all) ((pushed_windows c.args.links.now fs (ranges_of fs is) w).1 h))),
      );
    }
