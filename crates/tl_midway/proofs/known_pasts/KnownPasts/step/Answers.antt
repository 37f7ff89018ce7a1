use Rattle.std.proofs.Common.{refl, sym, ◌∙◌}
use Rattle.std.specs.Vec.{with_item}
use Rattle.tl_midway.specs.declared.known_pasts.LinkPast.{LinkPast}
use Rattle.tl_midway.proofs.KnownPastLaws.{same_numbers, head_stands}
use Rattle.tl_midway.proofs.known_pasts.KnownPasts.step.Goals as goal

pub returns-clause-stands : goal.returns-clause-stands
returns-clause-stands c m start before stands begins =
    let next : LinkPast = record { number = c.index_mut.result.now.number; past = c.step.new.self } in
    head_stands m start before c.args.at.now c.step.result c.args.certain c.args.link.now c.args.self.now
    (record { exponent = c.args.self.now.exponent; links = with_item c.args.self.now.links c.unwrap-place.result next }) c.unwrap-place.result c.index_mut.result.now next
    (sym c.place.ensures ∙ c.unwrap-place.ensures) c.requires c.index_mut.ensures.value refl refl refl c.step.ensures stands begins

pub returns-clause-numbers : goal.returns-clause-numbers
returns-clause-numbers c =
    let next : LinkPast = record { number = c.index_mut.result.now.number; past = c.step.new.self } in
    same_numbers c.args.at.now c.args.self.now (record { exponent = c.args.self.now.exponent; links = with_item c.args.self.now.links c.unwrap-place.result next })
    c.unwrap-place.result c.index_mut.result.now next (sym c.place.ensures ∙ c.unwrap-place.ensures) c.requires c.index_mut.ensures.value refl refl
