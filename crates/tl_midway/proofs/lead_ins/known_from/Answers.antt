use Rattle.std.specs.Prelude.{IfOk}
use Rattle.std.proofs.Common.{◌≡◌, [], ◌∷◌, sym, ap, subst, ◌∙◌}
use Rattle.std.specs.List.Sorted.{IsStrictlySortedBy}
use Rattle.std.specs.Option.{option_copied}
use Rattle.tl_definitions.specs.Managers.{declared_links}
use Rattle.tl_definitions.specs.Positions.{beats_of_all, links_of}
use Rattle.tl_definitions.specs.Rules.{Manager}
use Rattle.tl_midway.specs.LeadIns.{first_sure, manager_of}
use Rattle.tl_midway.specs.Midway.{beginning_of}
use Rattle.tl_midway.proofs.PlaceLaws.{declared}
use Rattle.tl_midway.proofs.lead_ins.known_from.Goals as goal

pub walk-requires : goal.walk-requires
unfolding IsStrictlySortedBy
walk-requires c = (tt, tt)

pub returns : goal.returns
returns c =
    let now = c.args.inputs.now in
    let m : Manager = manager_of now c.args.link in
    let is : m.links c.args.link ≡ c.unwrap-decl.result.now =
    (λ i. links_of (declared_links (sym c.topo.ensures i)) c.args.link)
    ∙ sym (declared c.topo.result.now c.args.link c.unwrap-decl.result.now (sym (ap option_copied c.unwrap-decl.ensures) ∙ c.link.ensures.exact)) in
    subst (λ beats. IfOk c.first_sure.result (λ cycle. cycle ≡ first_sure m (beginning_of c.args.law m) c.args.chan [] beats))
    (c.in_ok-walk.ensures.exact ∙ ap (beats_of_all (c.args.link ∷ [])) c.present.ensures) (c.first_sure.ensures m is)
