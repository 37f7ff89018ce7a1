use Rattle.std.proofs.Common.{◌≡◌, ◌∷◌, ◌++◌, ◌<◌, [], false, true, Some, Vec, length, sym, ap, subst, ◌∙◌, arith}
use Rattle.std.specs.Prelude.{slice_get}
use Rattle.std.specs.List.{All}
use Rattle.std.proofs.lemmas.List.Elements.{All-append, All-from_recursion}
use Rattle.std.proofs.lemmas.Option.{slice_get-map}
use Rattle.tl_topology.specs.Topology.{IsSound}
use Rattle.tl_topology.specs.declared.LinkDecl.{LinkDecl}
use Rattle.tl_definitions.specs.Managers.{declared_links}
use Rattle.tl_check.proofs.ListLaws.{take_more}
use Rattle.tl_check.proofs.walked.links_of.Goals as goal
use Rattle.tl_check.proofs.walked.links_of.Goals.{in-Some+in_ok-push, in_default}

pub loop-number-preserved : goal.loop-number-preserved
loop-number-preserved c =
    let links = declared_links c.args.topo.now in
    let number = c.loop-number.number in
    elim c.match-link.branch [
      | in-Some+in_ok-push w ↦ (let link : LinkDecl = w.in-Some.link.now in
          let found : slice_get links number ≡ Some link = slice_get-map (λ p. p.1) c.args.topo.now.links number ∙ sym w.in-Some.ensures.exact in
          let grown = ap (λ (v : Vec LinkDecl _). v.items) w.links-is ∙ w.in_ok-push.ensures.items in
          record {
            exact = grown ∙ ap (λ xs. xs ++ link ∷ []) c.loop-number.invariant.exact ∙ sym (take_more links number link found);
            sound = subst (All IsSound) (sym grown) (All-append IsSound c.loop-number.links.items (link ∷ []) c.loop-number.invariant.sound (All-from_recursion IsSound (link ∷ []) (w.in-Some.ensures.sound, tt)));
          })
      | in_default w ↦ (let within : number < length c.args.topo.now.links = omega (arith, c.loop-number-test.true, c.link_count-number-end.ensures.count) in
          let never : false ≡ true = w.in_default.ensures.found.1 within in cc)
    ]
