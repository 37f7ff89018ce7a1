use Rattle.std.proofs.Common.{◌≡◌, sym, ◌∙◌}
use Rattle.tl_definitions.specs.Managers.{declared_links}
use Rattle.tl_board.proofs.CurrentLemmas.{one_more, linked, apart}
use Rattle.tl_board.proofs.current.have_same_links.Goals as goal

pub returns-then-not-is_link : goal.returns-then-not-is_link
returns-then-not-is_link c = (
  λ h. cc,
  λ same. (let alike : c.unwrap-link.result.now ≡ c.unwrap.result.now =
      apart (declared_links c.args.own.now) (declared_links c.args.other.now) c.loop-number.number c.unwrap-link.result.now c.unwrap.result.now
      (linked (λ p. p.1) c.args.own.now.links c.loop-number.number c.link.result c.unwrap-link.result c.link.ensures.exact c.unwrap-link.ensures)
      (linked (λ p. p.1) c.args.other.now.links c.loop-number.number c.link-in-loop-number.result c.unwrap.result c.link-in-loop-number.ensures.exact c.unwrap.ensures) same in
      sym c.if-not-is_link.true ∙ c.is_link.ensures.1 alike),
)

pub loop-number-preserved : goal.loop-number-preserved
loop-number-preserved c =
    one_more (declared_links c.args.own.now) (declared_links c.args.other.now) c.loop-number.number c.unwrap-link.result.now c.unwrap.result.now
    (linked (λ p. p.1) c.args.own.now.links c.loop-number.number c.link.result c.unwrap-link.result c.link.ensures.exact c.unwrap-link.ensures)
    (linked (λ p. p.1) c.args.other.now.links c.loop-number.number c.link-in-loop-number.result c.unwrap.result c.link-in-loop-number.ensures.exact c.unwrap.ensures)
    (c.is_link.ensures.0 c.if-not-is_link.false) c.loop-number.invariant
