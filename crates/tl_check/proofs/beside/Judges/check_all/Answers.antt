use Rattle.tl_check.proofs.beside.Judges.check_all.Goals as goal

pub returns-clause-report : goal.returns-clause-report
returns-clause-report g c = c.in_ok-rows.ensures.report c.args.regions.now c.in_ok-managers.ensures

pub returns-clause-links : goal.returns-clause-links
returns-clause-links g c = c.in_ok-rows.ensures.links c.args.regions.now c.in_ok-managers.ensures
