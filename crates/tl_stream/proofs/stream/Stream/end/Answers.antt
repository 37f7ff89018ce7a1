use Rattle.std.proofs.Common.{◌≡◌, ◌<◌, List, length, Some, sym, ap, subst, ◌∙◌}
use Rattle.std.specs.Arc.{arc_value}
use Rattle.std.specs.Prelude.{IfOk}
use Rattle.std.specs.Io.Iter.{u64_saturate}
use Rattle.std.specs.List.{All}
use Rattle.std.proofs.lemmas.Result.{IfOk-weaker}
use Rattle.tl_definitions.specs.Positions.{Recorded}
use Rattle.tl_check.specs.Captured.{areas_at}
use Rattle.tl_midway.specs.Counts.{managers_counted}
use Rattle.tl_midway.specs.LeadIns.{leads_in}
use Rattle.tl_stream.specs.Courses.{HasEnded}
use Rattle.tl_stream.specs.Streams.{StreamData, HasAccepted, areas_in}
use Rattle.tl_stream.specs.Told.{untold_of}
use Rattle.tl_stream.specs.declared.stream.Rest.{Rest}
use Rattle.tl_stream.proofs.EndLemmas.{has_ended_by, untold_back, counted_back, all_linked}
use Rattle.tl_stream.proofs.stream.Stream.end.Goals as goal

pub ended-requires : goal.ended-requires
ended-requires c =
    let old : StreamData = record { topo = arc_value c.self.inside.topo; regions = c.self.inside.regions.items; midway = c.self.inside.midway; fronts = c.self.inside.fronts.items; waiting = c.self.inside.waiting; courses = c.self.inside.courses.items } in
    let fs : List Recorded = c.self.invariant.0 in (
      old.midway,
      fs,
      (has_ended_by fs old c.deref.result.now c.deref-2.result.now c.deref.ensures c.deref-2.ensures.value c.deref_mut.result.now c.deref_mut.ensures.value c.self.invariant.1),
    )

pub returns-clause-rows : goal.returns-clause-rows
returns-clause-rows c fs had =
    let old : StreamData = record { topo = arc_value c.self.inside.topo; regions = c.self.inside.regions.items; midway = c.self.inside.midway; fronts = c.self.inside.fronts.items; waiting = c.self.inside.waiting; courses = c.self.inside.courses.items } in
    let has : HasAccepted fs old = subst (HasAccepted fs) (sym c.self.view_is) had in
    subst (λ (s : StreamData). IfOk c.ended.result (λ (rest : Rest). rest.rows.items ≡ untold_of s.midway s.topo (areas_in s) fs (length s.topo.managers))) c.self.view_is
    (IfOk-weaker c.ended.result (λ (rest : Rest). rest.rows.items ≡ untold_of old.midway c.deref.result.now (areas_at c.deref-2.result.now) fs (length c.deref.result.now.managers))
    (λ (rest : Rest). rest.rows.items ≡ untold_of old.midway old.topo (areas_in old) fs (length old.topo.managers))
    (λ rest is. untold_back fs old c.deref.result.now c.deref-2.result.now c.deref.ensures c.deref-2.ensures.value rest.rows.items is)
    (c.ended.ensures.rows old.midway fs (has_ended_by fs old c.deref.result.now c.deref-2.result.now c.deref.ensures c.deref-2.ensures.value c.deref_mut.result.now c.deref_mut.ensures.value has)))

pub returns-clause-lead_ins : goal.returns-clause-lead_ins
returns-clause-lead_ins c law fs by had =
    let old : StreamData = record { topo = arc_value c.self.inside.topo; regions = c.self.inside.regions.items; midway = c.self.inside.midway; fronts = c.self.inside.fronts.items; waiting = c.self.inside.waiting; courses = c.self.inside.courses.items } in
    let has : HasAccepted fs old = subst (HasAccepted fs) (sym c.self.view_is) had in
    subst (λ (s : StreamData). IfOk c.ended.result (λ (rest : Rest). rest.lead_ins ≡ u64_saturate (managers_counted leads_in law s.topo (areas_in s) fs (length s.topo.managers)))) c.self.view_is
    (IfOk-weaker c.ended.result (λ (rest : Rest). rest.lead_ins ≡ u64_saturate (managers_counted leads_in law c.deref.result.now (areas_at c.deref-2.result.now) fs (length c.deref.result.now.managers)))
    (λ (rest : Rest). rest.lead_ins ≡ u64_saturate (managers_counted leads_in law old.topo (areas_in old) fs (length old.topo.managers)))
    (λ rest is. counted_back fs old c.deref.result.now c.deref-2.result.now c.deref.ensures c.deref-2.ensures.value law rest.lead_ins is)
    (c.ended.ensures.lead_ins law fs
    (subst (λ w. HasEnded w c.deref.result.now (areas_at c.deref-2.result.now) fs old.waiting c.deref_mut.result.now) (ap (λ (s : StreamData). s.midway) c.self.view_is ∙ by)
    (has_ended_by fs old c.deref.result.now c.deref-2.result.now c.deref.ensures c.deref-2.ensures.value c.deref_mut.result.now c.deref_mut.ensures.value has))))

pub returns-clause-links : goal.returns-clause-links
returns-clause-links c =
    let old : StreamData = record { topo = arc_value c.self.inside.topo; regions = c.self.inside.regions.items; midway = c.self.inside.midway; fronts = c.self.inside.fronts.items; waiting = c.self.inside.waiting; courses = c.self.inside.courses.items } in
    let fs : List Recorded = c.self.invariant.0 in
    let has : HasAccepted fs old = c.self.invariant.1 in
    subst (λ (s : StreamData). IfOk c.ended.result (λ (rest : Rest). All (λ row. row.link < length s.topo.links) rest.rows.items)) c.self.view_is
    (IfOk-weaker c.ended.result (λ (rest : Rest). rest.rows.items ≡ untold_of old.midway c.deref.result.now (areas_at c.deref-2.result.now) fs (length c.deref.result.now.managers))
    (λ (rest : Rest). All (λ row. row.link < length old.topo.links) rest.rows.items)
    (λ rest is. all_linked old.midway old.topo (areas_in old) fs (length old.topo.managers) rest.rows.items has.present
    (untold_back fs old c.deref.result.now c.deref-2.result.now c.deref.ensures c.deref-2.ensures.value rest.rows.items is))
    (c.ended.ensures.rows old.midway fs (has_ended_by fs old c.deref.result.now c.deref-2.result.now c.deref.ensures c.deref-2.ensures.value c.deref_mut.result.now c.deref_mut.ensures.value has)))
