use Rattle.std.proofs.Common.{refl}
use Rattle.tl_client_rules.proofs.SameLaws.{same_parts}
use Rattle.tl_client_rules.proofs.client.ClientState.copy.Goals as goal

pub returns : goal.returns
returns c = same_parts c.args.self.now
    (record { exponent = c.args.self.now.exponent; probes = c.in_ok-copy.field-0; bounds = c.in_ok-copy-2.field-0; acquires = c.in_ok-copy-3.field-0; releases = c.in_ok-copy-4.field-0; grants = c.in_ok-copy-5.field-0 })
    refl c.in_ok-copy.ensures c.in_ok-copy-2.ensures c.in_ok-copy-3.ensures c.in_ok-copy-4.ensures c.in_ok-copy-5.ensures
