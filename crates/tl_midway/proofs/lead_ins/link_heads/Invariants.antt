use Rattle.std.proofs.Common.{◌≡◌, map, take}
use Rattle.tl_midway.specs.LeadIns.{channel_heads}
use Rattle.tl_midway.proofs.lead_ins.link_heads.Given as goal

-- the heads so far are those of the channels so far
abbrev pub invariant-loop-chan : goal.invariant-loop-chan
invariant-loop-chan l = l.heads.items ≡ map (channel_heads l.fn.law l.inputs l.link) (take l.chan-index l.chans)
