use Rattle.std.proofs.Common.{◌≡◌, refl, sym, ap, ◌∙◌}
use Rattle.std.specs.Option.{option_copied}
use Rattle.tl_topology.specs.declared.LinkDecl.{LinkDecl}
use Rattle.tl_rows.proofs.ManagerLaws.{declared}
use Rattle.tl_show.specs.Lines.{link_at, place_text_of}
use Rattle.tl_show.proofs.Texts.{in_words}
use Rattle.tl_show.proofs.lines.place_text.Goals as goal

pub returns : goal.returns
unfolding place_text_of
returns c =
    let p = c.args.place.now in
    let link : (link_at c.args.topo.now p.link).name ≡ c.unwrap.result.now.name =
    ap (λ (d : LinkDecl). d.name) (declared c.args.topo.now p.link c.unwrap.result.now (sym (ap option_copied c.unwrap.ensures) ∙ c.link.ensures.exact)) in
    in_words c.format.result _ (place_text_of c.args.topo.now c.args.place.now) c.format.ensures.ok (rw (link, c.in_ok-text.ensures) refl)
