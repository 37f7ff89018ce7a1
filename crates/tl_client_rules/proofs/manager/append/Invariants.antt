use Rattle.std.proofs.Common.{◌≡◌, ◌++◌, take}
use Rattle.tl_client_rules.proofs.manager.append.Given as goal

-- as many of the second list stand after the first
abbrev pub invariant-loop-rule : goal.invariant-loop-rule
invariant-loop-rule l = l.rules ≡ l.fn.rules ++ take l.rule-index l.more
