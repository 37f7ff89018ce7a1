use Rattle.std.proofs.Common.{sym, subst}
use Rattle.tl_rows.specs.Counts.{IsOpenOn}
use Rattle.tl_rows.specs.Origins.{origins_on}
use Rattle.tl_rows.proofs.link.LinkOrigins.open_count.Goals as goal

pub returns-in-Request : goal.returns-in-Request
returns-in-Request c exponent links before is at =
    subst (λ kind. IsOpenOn links exponent before kind c.args.link c.request_count.result) (sym c.in-Request.is) (c.request_count.ensures exponent (origins_on links c.args.link before) at.openers)

pub returns-in-Release : goal.returns-in-Release
returns-in-Release c exponent links before is at =
    subst (λ kind. IsOpenOn links exponent before kind c.args.link c.release_count.result) (sym c.in-Release.is) (c.release_count.ensures exponent (origins_on links c.args.link before) at.openers)

pub returns-in-Probe : goal.returns-in-Probe
returns-in-Probe c exponent links before is at =
    subst (λ kind. IsOpenOn links exponent before kind c.args.link c.probe_count.result) (sym c.in-Probe.is) (c.probe_count.ensures exponent (origins_on links c.args.link before) at.openers)

pub returns-in-Grant : goal.returns-in-Grant
returns-in-Grant c exponent links before is at =
    subst (λ kind. IsOpenOn links exponent before kind c.args.link c.grant_count.result) (sym c.in-Grant.is) (c.grant_count.ensures exponent (origins_on links c.args.link before) at.openers)

pub returns-in-Burst : goal.returns-in-Burst
returns-in-Burst c exponent links before is at =
    subst (λ kind. IsOpenOn links exponent before kind c.args.link c.unfinished_count.result) (sym c.in-Burst.is) (c.unfinished_count.ensures exponent links before is at)
