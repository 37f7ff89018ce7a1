use Rattle.std.proofs.Common.{[], refl, sym, subst}
use Rattle.std.specs.Arc.{arc_value}
use Rattle.std.specs.List.{Contains}
use Rattle.tl_definitions.proofs.Lists.{contains_none}
use Rattle.tl_capture.specs.Present.{IsPresent}
use Rattle.tl_pass.specs.Parts.{HasNoCaches, HasJudged}
use Rattle.tl_pass.proofs.JoinLaws.{none_judged, nothing}
use Rattle.tl_pass.proofs.link_pass.LinkPass.new.Goals as goal

pub returns : goal.returns
returns c =
    let topo = arc_value c.args.topo in
    record {
      begins = refl;
      on = refl;
      plain = subst HasNoCaches c.deref.ensures (c.has_no_caches.ensures c.if-not-has_no_caches.false);
      done = [];
      judged = subst (λ rs. HasJudged c.args.midway topo 0 [] rs 0) (sym c.new-2.ensures.items) (none_judged c.args.midway topo 0);
      kept = subst IsPresent (sym c.new.ensures) nothing;
      own = λ f h. absurd (contains_none f (subst (λ ps. Contains ps f) c.new.ensures h));
      all = sym c.new.ensures;
    }
