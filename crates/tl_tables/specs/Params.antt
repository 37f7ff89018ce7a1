-- What the param of a message says.
use Rattle.std.specs.Prelude.{ℕ, Bool, List, [], ◌∷◌, Option, nat_lt}
use Rattle.std.specs.List.{slice_get}
use Rattle.tl_tables.specs.declared.Op.{Op}
use Rattle.tl_tables.specs.declared.Op.TheVariants as op
use Rattle.tl_tables.specs.declared.Perm.{Perm}
use Rattle.tl_tables.specs.declared.Perm.TheVariants as perm

-- The lawful params of a message are those below this number. [TileLink 1.8: param fields; own profile: NtoB on
-- AcquirePerm, and all six of ProbeAck and Release for each]
abbrev pub param_count : Op → ℕ
param_count op.ArithmeticData = 5
param_count op.LogicalData = 4
param_count op.Intent = 2
param_count op.ProbeBlock = 3
param_count op.ProbePerm = 3
param_count op.Grant = 3
param_count op.GrantData = 3
param_count op.AcquireBlock = 3
param_count op.AcquirePerm = 3
param_count op.ProbeAck = 6
param_count op.ProbeAckData = 6
param_count op.Release = 6
param_count op.ReleaseData = 6
param_count _ = 1

abbrev pub is_lawful : Op → ℕ → Bool
is_lawful o param = nat_lt param (param_count o)

-- The permissions that params name, in the order of the params. [TileLink 1.8: permission transitions]

-- toT, toB, toN
abbrev pub cap_list : List Perm
cap_list = perm.Trunk ∷ perm.Branch ∷ perm.Nothing ∷ []

-- NtoB, NtoT, BtoT
abbrev pub grow_froms : List Perm
grow_froms = perm.Nothing ∷ perm.Nothing ∷ perm.Branch ∷ []

abbrev pub grow_tos : List Perm
grow_tos = perm.Branch ∷ perm.Trunk ∷ perm.Trunk ∷ []

-- TtoB, TtoN, BtoN, TtoT, BtoB, NtoN
abbrev pub shrink_froms : List Perm
shrink_froms = perm.Trunk ∷ perm.Trunk ∷ perm.Branch ∷ perm.Trunk ∷ perm.Branch ∷ perm.Nothing ∷ []

abbrev pub shrink_tos : List Perm
shrink_tos = perm.Branch ∷ perm.Nothing ∷ perm.Nothing ∷ perm.Trunk ∷ perm.Branch ∷ perm.Nothing ∷ []

abbrev pub caps : Op → List Perm
caps op.ProbeBlock = cap_list
caps op.ProbePerm = cap_list
caps op.Grant = cap_list
caps op.GrantData = cap_list
caps _ = []

abbrev pub froms : Op → List Perm
froms op.AcquireBlock = grow_froms
froms op.AcquirePerm = grow_froms
froms op.ProbeAck = shrink_froms
froms op.ProbeAckData = shrink_froms
froms op.Release = shrink_froms
froms op.ReleaseData = shrink_froms
froms _ = []

abbrev pub tos : Op → List Perm
tos op.AcquireBlock = grow_tos
tos op.AcquirePerm = grow_tos
tos op.ProbeAck = shrink_tos
tos op.ProbeAckData = shrink_tos
tos op.Release = shrink_tos
tos op.ReleaseData = shrink_tos
tos _ = []

-- None where the message names no such permission, or the param isn't lawful.
abbrev pub cap_of : Op → ℕ → Option Perm
cap_of o param = slice_get (caps o) param

abbrev pub from_of : Op → ℕ → Option Perm
from_of o param = slice_get (froms o) param

abbrev pub to_of : Op → ℕ → Option Perm
to_of o param = slice_get (tos o) param

-- Nothing below Branch below Trunk.
abbrev pub perm_number : Perm → ℕ
perm_number perm.Nothing = 0
perm_number perm.Branch = 1
perm_number perm.Trunk = 2

abbrev pub is_above : Perm → Perm → Bool
is_above p q = nat_lt (perm_number q) (perm_number p)
