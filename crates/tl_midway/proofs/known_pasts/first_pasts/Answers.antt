use Rattle.std.proofs.Common.{ℕ, List, get_or, refl, sym, ap, subst, ◌∙◌}
use Rattle.std.specs.Option.{option_copied}
use Rattle.std.specs.List.{All}
use Rattle.std.proofs.lemmas.List.Elements.{All-push}
use Rattle.tl_topology.specs.declared.LinkDecl.{LinkDecl}
use Rattle.tl_definitions.specs.Known.{first_past}
use Rattle.tl_definitions.specs.Managers.{declared_links}
use Rattle.tl_definitions.specs.Positions.{links_of}
use Rattle.tl_midway.specs.KnownLink.{Shows}
use Rattle.tl_midway.specs.declared.known_pasts.LinkPast.{LinkPast}
use Rattle.tl_midway.proofs.PlaceLaws.{declared, numbers_more}
use Rattle.tl_midway.proofs.known_pasts.first_pasts.Goals as goal

pub loop-number-preserved : goal.loop-number-preserved
loop-number-preserved c =
    let topo = c.args.topo.now in
    let numbers : List ℕ = c.args.numbers.now in
    let k : ℕ = c.loop-number.number-index in
    let number : ℕ = get_or numbers k 0 in
    let First : LinkPast → Type 0 = λ link. Shows c.args.exponent link.past (first_past (links_of (declared_links topo) link.number)) in
    let known = declared topo number c.unwrap-link.result.now (sym (ap option_copied c.unwrap-link.ensures) ∙ c.link.ensures.exact) in
    let item : LinkPast = record { number = number; past = c.new.result } in
    let one : First item = subst (λ (d : LinkDecl). Shows c.args.exponent c.new.result (first_past d)) known c.new.ensures in
    record {
      numbers = numbers_more (λ (link : LinkPast). link.number) numbers c.loop-number.links.items c.push.new.self.items item k c.loop-number-test.true c.in_ok-push.ensures.items
          refl c.loop-number.invariant.numbers;
      each = subst (All First) (sym c.in_ok-push.ensures.items) (All-push First c.loop-number.links.items item c.loop-number.invariant.each one);
    }
