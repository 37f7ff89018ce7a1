use Rattle.std.proofs.Common.{◌+◌, ◌-◌, ◌==◌, ◌<◌, cond, ap, ◌∙◌, arith}
use Rattle.tl_definitions.specs.OpenTables.{one_if, passes}
use Rattle.tl_definitions.specs.Past.{grants_block}
use Rattle.tl_client_rules.specs.OpenBlocks.{block_at, open_on}
use Rattle.tl_midway.specs.Known.{known_of}
use Rattle.tl_midway.proofs.CountedLaws.{counted_next}
use Rattle.tl_midway.proofs.counted.CountedTable.set.Goals as goal

pub returns-clause-entries : goal.returns-clause-entries
returns-clause-entries g c f other =
    c.in_ok-set-2.ensures f other

pub returns-clause-counted : goal.returns-clause-counted
returns-clause-counted g c block_of first has was =
    let old = c.args.self.now in
    let key = c.args.key in
    let below : c.args.key < 65536 = omega arith in
    counted_next block_of first old (record { entries = c.set-2.new.self; counted = c.set.new.self }) key (known_of c.args.entry) c.args.block below has
    (λ other. c.in_ok-set.ensures.blocks other ∙ ap (λ p. cond (key == other) p (block_at old.counted other)) c.open_block.ensures)
    (λ on. c.in_ok-set.ensures.counts on
    ∙ ap (λ p. one_if (passes (grants_block on) p) + (open_on old.counted on - one_if (passes (grants_block on) (block_at old.counted key)))) c.open_block.ensures)
    (λ f other. c.in_ok-set-2.ensures f other)
    was
