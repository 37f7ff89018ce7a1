use Rattle.std.proofs.Common.{refl}
use Rattle.tl_client_rules.proofs.ClientLaws.{starts}
use Rattle.tl_client_rules.proofs.client.ClientState.new.Goals as goal

pub returns : goal.returns
returns c = starts c.args.exponent
    (record { exponent = c.args.exponent; probes = c.new.result; bounds = c.new-2.result; acquires = c.new-3.result; releases = c.new-4.result; grants = c.new-5.result })
    refl c.new.ensures c.new-2.ensures (c.new-3.ensures.blocks, c.new-3.ensures.counts) (c.new-4.ensures.blocks, c.new-4.ensures.counts) (c.new-5.ensures.blocks, c.new-5.ensures.counts)
