-- Kinds of messages. "Acquire" is AcquireBlock or AcquirePerm, and each of Probe, ProbeAck, Release and Grant is both of
-- its opcodes, with data or without.
use Rattle.std.specs.Prelude.{◌||◌, Bool, true, false}
use Rattle.tl_tables.specs.declared.Op.{Op}
use Rattle.tl_tables.specs.declared.Op.TheVariants as op
use Rattle.tl_tables.specs.declared.Perm.{Perm}
use Rattle.tl_tables.specs.declared.Perm.TheVariants as perm

abbrev pub is_acquire : Op → Bool
is_acquire op.AcquireBlock = true
is_acquire op.AcquirePerm = true
is_acquire _ = false

abbrev pub is_probe : Op → Bool
is_probe op.ProbeBlock = true
is_probe op.ProbePerm = true
is_probe _ = false

abbrev pub is_probe_ack : Op → Bool
is_probe_ack op.ProbeAck = true
is_probe_ack op.ProbeAckData = true
is_probe_ack _ = false

abbrev pub is_release : Op → Bool
is_release op.Release = true
is_release op.ReleaseData = true
is_release _ = false

abbrev pub is_grant : Op → Bool
is_grant op.Grant = true
is_grant op.GrantData = true
is_grant _ = false

abbrev pub is_release_ack : Op → Bool
is_release_ack op.ReleaseAck = true
is_release_ack _ = false

abbrev pub is_grant_ack : Op → Bool
is_grant_ack op.GrantAck = true
is_grant_ack _ = false

abbrev pub is_put_partial : Op → Bool
is_put_partial op.PutPartialData = true
is_put_partial _ = false

-- The messages that are always of one whole block. [TileLink 1.8: transfer operations, size]
abbrev pub is_of_block : Op → Bool
is_of_block o = is_acquire o || is_probe o || is_probe_ack o || is_release o || is_grant o || is_release_ack o

-- Permissions of two clients that may not stand beside each other: one writer, or many readers.
-- [TileLink 1.8: coherence, permissions of a tree]
abbrev pub conflicts : Perm → Perm → Bool
conflicts perm.Trunk perm.Branch = true
conflicts perm.Trunk perm.Trunk = true
conflicts perm.Branch perm.Trunk = true
conflicts _ _ = false
