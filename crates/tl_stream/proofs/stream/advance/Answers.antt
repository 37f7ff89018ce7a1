use Rattle.std.proofs.Common.{◌≡◌, sym, ap, subst, ◌∙◌}
use Rattle.std.specs.Prelude.{nat_lt}
use Rattle.std.specs.List.{list_all}
use Rattle.tl_topology.specs.Regions.{areas_of}
use Rattle.tl_check.specs.Captured.{areas_at}
use Rattle.tl_check.proofs.ScratchLaws.{own_areas}
use Rattle.tl_stream.specs.Courses.{IsRunning, Judged, Loses, AreNewRows}
use Rattle.tl_stream.specs.Fronts.{has_reached, past}
use Rattle.tl_stream.proofs.AcceptLemmas.{has_state}
use Rattle.tl_stream.proofs.CourseLemmas.{nothing_reached, nothing_reached_rows, goes_on, new_rows}
use Rattle.tl_stream.proofs.stream.advance.Goals as goal

pub returns-in_default-clause-all : goal.returns-in_default-clause-all
returns-in_default-clause-all c fs come = nothing_reached c.args.topo.now (areas_at c.args.regions.now c.args.course.now.manager) fs c.args.fronts.now c.args.waiting.now c.args.course.now come
    (λ cycle few. ap (λ ls. list_all (has_reached c.args.fronts.now cycle) ls) (sym c.deref.ensures.value) ∙ c.reached.ensures cycle few ∙ ap (λ o. nat_lt cycle (past o)) c.in_default.is)

pub returns-in_default-clause-ok : goal.returns-in_default-clause-ok
returns-in_default-clause-ok c fs come =
    let areas = areas_at c.args.regions.now c.args.course.now.manager in
    let state = has_state c.args.course.now.state (sym c.is_lost.ensures ∙ c.if-is_lost.false) in
    subst (AreNewRows c.args.topo.now areas fs c.args.course.now) (sym c.new.ensures.items)
    (nothing_reached_rows c.args.topo.now areas fs c.args.fronts.now c.args.waiting.now c.args.course.now come state.0 state.1
    (λ cycle few. ap (λ ls. list_all (has_reached c.args.fronts.now cycle) ls) (sym c.deref.ensures.value) ∙ c.reached.ensures cycle few ∙ ap (λ o. nat_lt cycle (past o)) c.in_default.is))

pub judge-requires : goal.judge-requires
judge-requires c =
    let own : areas_of c.unwrap_or-own.result.now ≡ areas_at c.args.regions.now c.from.result =
    own_areas c.args.regions.now c.from.result c.get.result _ c.unwrap_or-own.result c.unwrap_or-own.ensures c.new-none.ensures c.get.ensures.lookup.0 c.get.ensures.lookup.1 in
    record { running = subst (λ areas. IsRunning c.args.topo.now areas c.args.course.now) (ap (areas_at c.args.regions.now) (sym c.from.ensures) ∙ sym own) c.requires }

pub returns-clause-all : goal.returns-clause-all
returns-clause-all c fs come =
    let areas = areas_at c.args.regions.now c.args.course.now.manager in
    let own : areas_of c.unwrap_or-own.result.now ≡ areas =
    own_areas c.args.regions.now c.from.result c.get.result _ c.unwrap_or-own.result c.unwrap_or-own.ensures c.new-none.ensures c.get.ensures.lookup.0 c.get.ensures.lookup.1 ∙ ap (areas_at c.args.regions.now) c.from.ensures in
    let judged = subst (λ xs. Judged c.args.topo.now xs c.args.waiting.now c.in-Some.to c.args.course.now c.judge.new.self c.in_ok-rows.rows.items) own c.in_ok-rows.ensures.ok in
    let links = c.deref-2.ensures.value ∙ ap (λ v. v.items) judged.links in
    goes_on c.args.topo.now areas fs c.args.fronts.now c.args.waiting.now c.args.course.now come c.in-Some.to
    (λ cycle few. ap (λ ls. list_all (has_reached c.args.fronts.now cycle) ls) (sym c.deref.ensures.value) ∙ c.reached.ensures cycle few ∙ ap (λ o. nat_lt cycle (past o)) c.in-Some.is)
    c.judge.new.self c.in_ok-rows.rows.items c.drop_ended.new.waiting (subst (λ xs. IsRunning c.args.topo.now xs c.judge.new.self) own c.in_ok-rows.ensures.running) judged
    (subst (λ ls. Loses ls c.args.waiting.now c.drop_ended.new.waiting) links c.drop_ended.ensures.loses) (c.drop_ended.ensures.present come.present_waiting) c.drop_ended.ensures.ended

pub returns-clause-ok : goal.returns-clause-ok
returns-clause-ok c fs come =
    let areas = areas_at c.args.regions.now c.args.course.now.manager in
    let own : areas_of c.unwrap_or-own.result.now ≡ areas =
    own_areas c.args.regions.now c.from.result c.get.result _ c.unwrap_or-own.result c.unwrap_or-own.ensures c.new-none.ensures c.get.ensures.lookup.0 c.get.ensures.lookup.1 ∙ ap (areas_at c.args.regions.now) c.from.ensures in
    let judged = subst (λ xs. Judged c.args.topo.now xs c.args.waiting.now c.in-Some.to c.args.course.now c.judge.new.self c.in_ok-rows.rows.items) own c.in_ok-rows.ensures.ok in
    let links = c.deref-2.ensures.value ∙ ap (λ v. v.items) judged.links in
    let state = has_state c.args.course.now.state (sym c.is_lost.ensures ∙ c.if-is_lost.false) in
    new_rows c.args.topo.now areas fs c.args.fronts.now c.args.waiting.now c.args.course.now come c.in-Some.to
    (λ cycle few. ap (λ ls. list_all (has_reached c.args.fronts.now cycle) ls) (sym c.deref.ensures.value) ∙ c.reached.ensures cycle few ∙ ap (λ o. nat_lt cycle (past o)) c.in-Some.is)
    c.judge.new.self c.in_ok-rows.rows.items c.drop_ended.new.waiting (subst (λ xs. IsRunning c.args.topo.now xs c.judge.new.self) own c.in_ok-rows.ensures.running) judged
    (subst (λ ls. Loses ls c.args.waiting.now c.drop_ended.new.waiting) links c.drop_ended.ensures.loses) (c.drop_ended.ensures.present come.present_waiting) c.drop_ended.ensures.ended state.0 state.1
