use Rattle.std.proofs.Common.{take}
use Rattle.std.specs.List.{All}
use Rattle.tl_check.specs.Managers.{IsPlain}
use Rattle.tl_check.proofs.managers.are_plain.Given as goal

-- the first of them have none
abbrev pub invariant-loop-link : goal.invariant-loop-link
invariant-loop-link l = All (IsPlain l.topo) (take l.link-index l.links)
