use Rattle.std.proofs.Common.{List, [], ◌∷◌, ap, subst, ◌∙◌}
use Rattle.std.specs.Arc.{arc_value}
use Rattle.tl_beats.specs.Fragments.{Frag}
use Rattle.tl_pass.specs.Reports.{with_next}
use Rattle.tl_pass.specs.Solo.{IsWholeOf}
use Rattle.tl_pass.proofs.solo.report_of_pieces.Goals as goal

pub rest_taken-requires : goal.rest_taken-requires
rest_taken-requires g c = let pieces : List Frag = arc_value c.in-Some.first ∷ [] in (pieces, c.in_ok-take.ensures.came [] c.in_ok-solo.ensures.begun)

pub returns : goal.returns
returns g c =
    let first : List Frag = arc_value c.in-Some.first ∷ [] in
    let given = subst (λ o. g.S.Supply.has_given c.args.pieces.now c.next.new.self (with_next [] o)) c.in-Some.is (c.in_ok-first.ensures c.args.pieces.now [] c.requires) in
    let all = c.in_ok-whole.ensures.came c.args.pieces.now first (c.in_ok-take.ensures.came [] c.in_ok-solo.ensures.begun) given in
    let on = c.in_ok-whole.ensures.topo ∙ ap (λ topo. topo.now) c.in_ok-take.ensures.topo ∙ c.in_ok-solo.ensures.topo in
    (all.0, all.2, subst (λ topo. IsWholeOf topo all.0 c.report.result) on (c.report.ensures all.0 all.1))
