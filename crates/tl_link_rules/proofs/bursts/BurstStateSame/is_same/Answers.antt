use Rattle.std.proofs.Common.{arith}
use Rattle.tl_beats.specs.Exact.{beats_exact}
use Rattle.tl_link_rules.proofs.SameBurstLaws.{bursts_exact, same_law}
use Rattle.tl_link_rules.proofs.bursts.BurstStateSame.is_same.Goals as goal

pub returns : goal.returns
returns c = same_law (bursts_exact beats_exact) c.args.self.now c.args.other.now c.eq.result (omega arith) (omega arith) c.eq.ensures
