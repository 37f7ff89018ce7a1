use Rattle.std.proofs.Common.{◌≡◌, ◌<◌, ◌≤◌, ◌++◌, length, sym, ap, subst, ◌∙◌}
use Rattle.std.specs.List.{AllByRecursion}
use Rattle.tl_show.specs.Lines.{IsSoundTold}
use Rattle.tl_show.specs.Shown.{told_from, told_of_all}
use Rattle.tl_show.proofs.KeptLaws.{all_join, rec_all}
use Rattle.tl_show.proofs.SurveyLaws.{survey_next, survey_all}
use Rattle.tl_show.proofs.survey.survey_beats.Goals as goal

pub loop-manager-init : goal.loop-manager-init
loop-manager-init c = record {
  told = ap (λ told. told ++ told_from c.args.topo.now c.args.present.now c.args.rows.now 0 c.args.topo.now.managers) c.new-told.ensures.items;
  sound = subst (AllByRecursion (IsSoundTold c.args.topo.now)) (sym c.new-told.ensures.items) tt;
}

pub loop-manager-preserved : goal.loop-manager-preserved
loop-manager-preserved c =
    let topo = c.args.topo.now in
    let k = c.loop-manager.manager in
    let below : k < length topo.managers = subst (λ n. k < n) c.manager_count-manager-end.ensures.count c.loop-manager-test.true in
    let is = c.in_ok-extend_from_slice.ensures.items ∙ ap (λ own. c.loop-manager.told.items ++ own) c.deref.ensures.value in
    record {
      told = survey_next topo c.args.present.now c.args.rows.now k c.loop-manager.told.items c.in_ok-own.own.told.items c.extend_from_slice.new.self.items (told_of_all topo c.args.present.now c.args.rows.now)
          below is c.in_ok-own.ensures.exact.told c.loop-manager.invariant.told;
      sound = subst (AllByRecursion (IsSoundTold topo)) (sym is) (all_join (IsSoundTold topo) c.loop-manager.told.items c.in_ok-own.own.told.items c.loop-manager.invariant.sound c.in_ok-own.ensures.sound);
    }

pub returns-clause-told : goal.returns-clause-told
returns-clause-told c =
    survey_all c.args.topo.now c.args.present.now c.args.rows.now c.loop-manager.manager c.loop-manager.told.items
    (subst (λ n. n ≤ c.loop-manager.manager) c.manager_count-manager-end.ensures.count c.loop-manager-test.false) c.loop-manager.invariant.told

pub returns-clause-sound : goal.returns-clause-sound
returns-clause-sound c = rec_all (IsSoundTold c.args.topo.now) c.loop-manager.told.items c.loop-manager.invariant.sound
