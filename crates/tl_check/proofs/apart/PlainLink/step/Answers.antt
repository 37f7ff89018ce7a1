use Rattle.std.proofs.Common.{refl, sym, subst, ◌∙◌}
use Rattle.tl_topology.specs.Regions.{areas_of}
use Rattle.tl_beats.specs.Beats.{IsWellFormed}
use Rattle.tl_link_rules.specs.Bursts.{slot_at}
use Rattle.tl_check.proofs.LinkLaws.{later_is_taken}
use Rattle.tl_check.proofs.StepLaws.{on_ok, whatever}
use Rattle.tl_check.proofs.PlainLinkLaws.{later_rows, later_next, still_formed}
use Rattle.tl_check.proofs.apart.PlainLink.step.Goals as goal

pub check_later-later-requires-clause-head : goal.check_later-later-requires-clause-head
check_later-later-requires-clause-head c =
    let p = c.args.at.now in
    let found = later_is_taken c.head.result c.in-Some.head (slot_at c.args.self.now.bursts p.beat.chan) c.head.ensures c.in-Some.is in
    subst IsWellFormed found.2 (c.requires.formed p.beat.chan found.0 found.1)

pub returns-in-Some-clause-rows : goal.returns-in-Some-clause-rows
returns-in-Some-clause-rows c s shows =
    let p = c.args.at.now in
    let found = later_is_taken c.head.result c.in-Some.head (slot_at c.args.self.now.bursts p.beat.chan) c.head.ensures c.in-Some.is in
    on_ok c.add_rows.result
    (λ one. later_rows c.args.decl.now c.args.exponent (areas_of c.args.regions.now) s p c.in-Some.head.now found.0 c.check_later-later.result c.args.rows.now.items c.add_rows.new.rows.items
    (sym (shows.bursts p.beat.chan) ∙ found.1) found.2 c.check_later-later.ensures one)
    c.add_rows.ensures

pub returns-in-Some-clause-next : goal.returns-in-Some-clause-next
returns-in-Some-clause-next c s shows =
    let p = c.args.at.now in
    let found = later_is_taken c.head.result c.in-Some.head (slot_at c.args.self.now.bursts p.beat.chan) c.head.ensures c.in-Some.is in
    whatever c.add_rows.result
    (later_next c.args.decl.now c.args.exponent (areas_of c.args.regions.now) s p c.args.self.now _ shows c.pass.ensures found.0 (sym (shows.bursts p.beat.chan) ∙ found.1) refl)

pub returns-in-Some-clause-formed : goal.returns-in-Some-clause-formed
returns-in-Some-clause-formed c = whatever c.add_rows.result (still_formed c.args.decl.now c.args.at.now.beat c.args.self.now.bursts _ c.requires.beat c.requires.formed c.pass.ensures)
