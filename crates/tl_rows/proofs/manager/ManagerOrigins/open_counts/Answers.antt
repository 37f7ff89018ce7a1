use Rattle.tl_rows.proofs.manager.ManagerOrigins.open_counts.Goals as goal

pub returns : goal.returns
returns c exponent before stands = (
  c.in_ok-requests.ensures exponent before stands,
  c.in_ok-releases.ensures exponent before stands,
  c.in_ok-probes.ensures exponent before stands,
  c.in_ok-grants.ensures exponent before stands,
  c.in_ok-bursts.ensures exponent before stands,
)
