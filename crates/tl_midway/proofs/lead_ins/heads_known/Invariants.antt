use Rattle.std.specs.Prelude.{◌≡◌}
use Rattle.tl_midway.specs.LeadIns.{links_heads}
use Rattle.tl_midway.proofs.lead_ins.heads_known.Given as goal

-- the heads so far are those of the links so far
abbrev pub invariant-loop-link : goal.invariant-loop-link
invariant-loop-link l = l.heads.items ≡ links_heads l.fn.law l.inputs l.link
