use Rattle.std.proofs.Common.{ℕ, get_or, take_all, sym, ap, subst, ◌∙◌}
use Rattle.std.specs.Option.{option_copied}
use Rattle.std.proofs.lemmas.List.Elements.{All-more}
use Rattle.tl_definitions.specs.Managers.{manager_at}
use Rattle.tl_midway.specs.Midway.{beginning_of}
use Rattle.tl_midway.proofs.PlaceLaws.{declared}
use Rattle.tl_midway.specs.Named.{BeginsAtHeads, AllBegin}
use Rattle.tl_midway.proofs.plain_links.all_begin_at_heads.Goals as goal

pub loop-number-preserved : goal.loop-number-preserved
loop-number-preserved c manager areas =
    let topo = c.args.topo.now in
    let k : ℕ = c.loop-number.number-index in
    let number : ℕ = get_or c.args.links.now k 0 in
    let m = manager_at topo manager areas in
    All-more (BeginsAtHeads (beginning_of c.args.law m)) c.args.links.now k 0 c.loop-number-test.true (c.loop-number.invariant manager areas)
    (c.begins_at_heads.ensures c.if-not-begins_at_heads.false m number (sym (declared topo number c.in-Some.link.now (sym (ap option_copied c.in-Some.is) ∙ c.link.ensures.exact))))

pub returns : goal.returns
returns c e manager areas =
    subst (AllBegin (beginning_of c.args.law (manager_at c.args.topo.now manager areas))) (take_all c.loop-number.number-index c.args.links.now c.loop-number-test.false) (c.loop-number.invariant manager areas)
