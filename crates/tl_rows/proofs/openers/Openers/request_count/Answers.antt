use Rattle.std.proofs.Common.{ap}
use Rattle.tl_definitions.specs.Messages.{sources}
use Rattle.tl_rows.specs.Reasons.{Trail}
use Rattle.tl_rows.proofs.CountLaws.{counted}
use Rattle.tl_rows.proofs.openers.Openers.request_count.Goals as goal

pub returns : goal.returns
returns c exponent before stands = counted sources before c.args.self.now.sources _ c.len.ensures.len c.len.ensures.ordered (λ key. ap (λ (t : Trail). t.source key) stands.shows)
