use Rattle.std.proofs.Common.{◌≡◌, sym, ap, subst, ◌∙◌}
use Rattle.std.specs.Option.{IsSomeAnd}
use Rattle.tl_monitor.specs.Boxes.{away_at, brought_back}
use Rattle.tl_monitor.specs.declared.away.Away.{Away}
use Rattle.tl_monitor.specs.Held.{Held}
use Rattle.tl_desk.proofs.monitor_jobs.bring_back.Goals as goal

pub bring_back-requires : goal.bring_back-requires
bring_back-requires g c =
    subst (λ n. IsSomeAnd (away_at n c.args.boxes.now.slots) (λ (away : Away). away.taken ≡ c.into_monitor-monitor.result.watch)) (sym c.number-number.ensures.exact)
    (subst (λ (h : Held). IsSomeAnd (away_at c.args.task.number c.args.boxes.now.slots) (λ (away : Away). away.taken ≡ h.watch)) (sym c.into_monitor-monitor.ensures) c.requires)

pub returns-clause-exact : goal.returns-clause-exact
returns-clause-exact g c =
    c.bring_back.ensures ∙ ap (λ n. brought_back n c.into_monitor-monitor.result c.args.boxes.now) c.number-number.ensures.exact
    ∙ ap (λ h. brought_back c.args.task.number h c.args.boxes.now) c.into_monitor-monitor.ensures
