use Rattle.std.proofs.Common.{ℕ, List, get_or, sym, ap, subst, ◌∙◌}
use Rattle.std.specs.Option.{option_copied}
use Rattle.std.specs.List.{All}
use Rattle.std.proofs.lemmas.List.Elements.{All-push}
use Rattle.tl_topology.specs.declared.LinkDecl.{LinkDecl}
use Rattle.tl_definitions.specs.Managers.{declared_links}
use Rattle.tl_definitions.specs.Positions.{links_of}
use Rattle.tl_midway.specs.LinkReadings.{IsFirst}
use Rattle.tl_midway.specs.declared.link_readings.LinkReadings.{LinkReadings}
use Rattle.tl_midway.proofs.PlaceLaws.{declared, numbers_more}
use Rattle.tl_midway.proofs.manager_readings.first_readings.Goals as goal

pub loop-number-preserved : goal.loop-number-preserved
loop-number-preserved c =
    let topo = c.args.topo.now in
    let numbers : List ℕ = c.args.numbers.now in
    let k : ℕ = c.loop-number.number-index in
    let number : ℕ = get_or numbers k 0 in
    let First : LinkReadings → Type 0 = λ link. IsFirst c.args.law (links_of (declared_links topo) link.number) link in
    let known = declared topo number c.unwrap-link.result.now (sym (ap option_copied c.unwrap-link.ensures) ∙ c.link.ensures.exact) in
    let one : First c.in_ok-new.field-0 =
    subst (λ (n : ℕ). IsFirst c.args.law (links_of (declared_links topo) n) c.in_ok-new.field-0) (sym c.in_ok-new.ensures.number)
    (subst (λ (d : LinkDecl). IsFirst c.args.law d c.in_ok-new.field-0) known c.in_ok-new.ensures.first) in
    record {
      numbers = numbers_more (λ (link : LinkReadings). link.number) numbers c.loop-number.links.items c.push.new.self.items c.in_ok-new.field-0 k c.loop-number-test.true c.in_ok-push.ensures.items
          c.in_ok-new.ensures.number c.loop-number.invariant.numbers;
      each = subst (All First) (sym c.in_ok-push.ensures.items) (All-push First c.loop-number.links.items c.in_ok-new.field-0 c.loop-number.invariant.each one);
    }
