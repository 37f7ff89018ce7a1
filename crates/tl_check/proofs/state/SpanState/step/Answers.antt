use Rattle.std.proofs.Common.{[], Some, append-nil, refl, sym, ap, subst, ◌∙◌}
use Rattle.std.specs.Prelude.{is_none}
use Rattle.tl_beats.specs.Beats.{IsWellFormed}
use Rattle.tl_link_rules.specs.Bursts.{slot_at}
use Rattle.tl_check.proofs.StateLaws.{later_next}
use Rattle.tl_check.proofs.LinkLaws.{head_is_free, later_is_taken}
use Rattle.tl_check.proofs.StepLaws.{at_place, link_at, burst_here, on_ok, whatever, later_rows}
use Rattle.tl_check.proofs.state.SpanState.step.Goals as goal

pub check_later-later-requires-clause-head : goal.check_later-later-requires-clause-head
check_later-later-requires-clause-head c =
    let p = c.args.at.now in
    let old = c.args.self.now in
    let place = c.place-place.result in
    let link = c.index.result.now in
    let stood = at_place old p.link place link (Some place) (sym c.place-place.ensures.at) refl c.requires.link c.index.ensures in
    let at = link_at old p.link place link stood.0 stood.1 in
    let found = later_is_taken c.head.result c.in-Some.head (slot_at link.bursts p.beat.chan) c.head.ensures c.in-Some.is in
    subst IsWellFormed found.2 (c.requires.formed p.link p.beat.chan found.0 (burst_here old p.link link p.beat.chan at ∙ found.1))

pub go_on-requires-in-Some-clause-later : goal.go_on-requires-in-Some-clause-later
go_on-requires-in-Some-clause-later c =
    let p = c.args.at.now in
    let old = c.args.self.now in
    let place = c.place-place.result in
    let link = c.index.result.now in
    let stood = at_place old p.link place link (Some place) (sym c.place-place.ensures.at) refl c.requires.link c.index.ensures in
    let at = link_at old p.link place link stood.0 stood.1 in
    let found = later_is_taken c.head.result c.in-Some.head (slot_at link.bursts p.beat.chan) c.head.ensures c.in-Some.is in
    let own = c.index_mut-in-Some.result.now in
    let stood_own = at_place old p.link place own (Some place) (sym c.place-place.ensures.at) refl c.requires.link c.index_mut-in-Some.ensures.value in
    let taken = sym (burst_here old p.link own p.beat.chan (link_at old p.link place own stood_own.0 stood_own.1)) ∙ burst_here old p.link link p.beat.chan at ∙ found.1 in
    ap is_none taken

pub step_head-requires-clause-head : goal.step_head-requires-clause-head
step_head-requires-clause-head c =
    let p = c.args.at.now in
    let old = c.args.self.now in
    let place = c.place-place.result in
    let link = c.index.result.now in
    let stood = at_place old p.link place link (Some place) (sym c.place-place.ensures.at) refl c.requires.link c.index.ensures in
    let at = link_at old p.link place link stood.0 stood.1 in
    burst_here old p.link link p.beat.chan at ∙ head_is_free c.head.result (slot_at link.bursts p.beat.chan) c.head.ensures c.in-None.is

pub returns-else-keeps_burst-clause-rows : goal.returns-else-keeps_burst-clause-rows
returns-else-keeps_burst-clause-rows c m of serves =
    let p = c.args.at.now in
    let old = c.args.self.now in
    let place = c.place-place.result in
    let link = c.index.result.now in
    let stood = at_place old p.link place link (Some place) (sym c.place-place.ensures.at) refl c.requires.link c.index.ensures in
    let at = link_at old p.link place link stood.0 stood.1 in
    let found = later_is_taken c.head.result c.in-Some.head (slot_at link.bursts p.beat.chan) c.head.ensures c.in-Some.is in
    on_ok c.add_rows.result
    (λ one. later_rows m old p c.args.decl.now c.in-Some.head.now found.0 c.check_later-later.result c.args.rows.now.items c.add_rows.new.rows.items serves.declared
    (burst_here old p.link link p.beat.chan at ∙ found.1) found.2 c.check_later-later.ensures one)
    c.add_rows.ensures

pub returns-else-keeps_burst-clause-next : goal.returns-else-keeps_burst-clause-next
returns-else-keeps_burst-clause-next c m of serves =
    let p = c.args.at.now in
    let old = c.args.self.now in
    let place = c.place-place.result in
    let link = c.index.result.now in
    let stood = at_place old p.link place link (Some place) (sym c.place-place.ensures.at) refl c.requires.link c.index.ensures in
    let at = link_at old p.link place link stood.0 stood.1 in
    let found = later_is_taken c.head.result c.in-Some.head (slot_at link.bursts p.beat.chan) c.head.ensures c.in-Some.is in
    let own = c.index_mut-in-Some.result.now in
    let stood_own = at_place old p.link place own (Some place) (sym c.place-place.ensures.at) refl c.requires.link c.index_mut-in-Some.ensures.value in
    let taken = sym (burst_here old p.link own p.beat.chan (link_at old p.link place own stood_own.0 stood_own.1)) ∙ burst_here old p.link link p.beat.chan at ∙ found.1 in
    whatever c.add_rows.result
    (later_next m old _ p c.args.decl.now place own c.go_on-in-Some.new.self of serves.declared c.requires.beat stood_own.0 stood_own.1 c.go_on-in-Some.ensures refl refl found.0 taken refl)

pub go_on-requires-clause-later : goal.go_on-requires-clause-later
go_on-requires-clause-later c =
    let p = c.args.at.now in
    let old = c.args.self.now in
    let place = c.place-place.result in
    let link = c.index.result.now in
    let stood = at_place old p.link place link (Some place) (sym c.place-place.ensures.at) refl c.requires.link c.index.ensures in
    let at = link_at old p.link place link stood.0 stood.1 in
    let found = later_is_taken c.head.result c.in-Some.head (slot_at link.bursts p.beat.chan) c.head.ensures c.in-Some.is in
    let own = c.index_mut.result.now in
    let stood_own = at_place old p.link place own (Some place) (sym c.place-place.ensures.at) refl c.requires.link c.index_mut.ensures.value in
    let taken = sym (burst_here old p.link own p.beat.chan (link_at old p.link place own stood_own.0 stood_own.1)) ∙ burst_here old p.link link p.beat.chan at ∙ found.1 in
    ap is_none taken

pub returns-then-keeps_burst-clause-rows : goal.returns-then-keeps_burst-clause-rows
returns-then-keeps_burst-clause-rows c m of serves =
    let p = c.args.at.now in
    let old = c.args.self.now in
    let place = c.place-place.result in
    let link = c.index.result.now in
    let stood = at_place old p.link place link (Some place) (sym c.place-place.ensures.at) refl c.requires.link c.index.ensures in
    let at = link_at old p.link place link stood.0 stood.1 in
    let found = later_is_taken c.head.result c.in-Some.head (slot_at link.bursts p.beat.chan) c.head.ensures c.in-Some.is in
    later_rows m old p c.args.decl.now c.in-Some.head.now found.0 [] c.args.rows.now.items c.args.rows.now.items serves.declared
    (burst_here old p.link link p.beat.chan at ∙ found.1) found.2 (sym (c.keeps_burst.ensures c.if-keeps_burst.true c.args.decl.now)) (sym (append-nil c.args.rows.now.items))

pub returns-then-keeps_burst-clause-next : goal.returns-then-keeps_burst-clause-next
returns-then-keeps_burst-clause-next c m of serves =
    let p = c.args.at.now in
    let old = c.args.self.now in
    let place = c.place-place.result in
    let link = c.index.result.now in
    let stood = at_place old p.link place link (Some place) (sym c.place-place.ensures.at) refl c.requires.link c.index.ensures in
    let at = link_at old p.link place link stood.0 stood.1 in
    let found = later_is_taken c.head.result c.in-Some.head (slot_at link.bursts p.beat.chan) c.head.ensures c.in-Some.is in
    let own = c.index_mut.result.now in
    let stood_own = at_place old p.link place own (Some place) (sym c.place-place.ensures.at) refl c.requires.link c.index_mut.ensures.value in
    let taken = sym (burst_here old p.link own p.beat.chan (link_at old p.link place own stood_own.0 stood_own.1)) ∙ burst_here old p.link link p.beat.chan at ∙ found.1 in
    later_next m old _ p c.args.decl.now place own c.go_on.new.self of serves.declared c.requires.beat stood_own.0 stood_own.1 c.go_on.ensures refl refl found.0 taken refl
