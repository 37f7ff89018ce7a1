use Rattle.std.proofs.Common.{subst, sym}
use Rattle.tl_desk.specs.Core.{AreVersions}
use Rattle.tl_desk.proofs.ReportLemmas.{version_found}
use Rattle.tl_desk.proofs.desk.Desk.report.Goals as goal

pub returns-clause-version : goal.returns-clause-version
returns-clause-version g c =
    version_found c.get.result c.deref.result.now c.in_ok-place.place c.args.version (subst (AreVersions 1) (sym c.deref.ensures.value) c.self.invariant.versions) c.get.ensures.lookup.0 c.get.ensures.lookup.1
    c.in_ok-place.ensures.0 c.in_ok-place.ensures.1
