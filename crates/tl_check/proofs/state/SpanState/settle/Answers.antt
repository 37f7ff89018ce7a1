use Rattle.tl_check.proofs.StateLaws.{same_clients, same_is_of}
use Rattle.tl_check.proofs.state.SpanState.settle.Goals as goal

pub returns-clause-kept : goal.returns-clause-kept
returns-clause-kept c m of =
    let state = c.args.self.now in
    same_is_of m state (record { links = state.links; clients = c.settle.new.self }) of (same_clients state c.settle.new.self c.settle.ensures.same)
