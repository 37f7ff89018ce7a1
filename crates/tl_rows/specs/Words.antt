-- The words of a beat: channel, message, param, size, address, mask, source, sink and bits.
use Rattle.std.specs.Prelude.{ℕ, ◌^◌, ◌==◌, Bool, true, false, List, [], ◌∷◌, ◌++◌, codes, Option, Some, None, if◌then◌else◌}
use Rattle.std.specs.Fmt.{decimal, digits}
use Rattle.std.specs.List.{slice_get}
use Rattle.tl_tables.specs.declared.Chan.{Chan}
use Rattle.tl_tables.specs.declared.Chan.TheVariants as chan
use Rattle.tl_tables.specs.declared.Op.{Op}
use Rattle.tl_tables.specs.declared.Op.TheVariants as op
use Rattle.tl_beats.specs.declared.Beat.{Beat}

-- The name of a channel.
abbrev pub chan_text_of : Chan → List ℕ
chan_text_of chan.A = codes "A"
chan_text_of chan.B = codes "B"
chan_text_of chan.C = codes "C"
chan_text_of chan.D = codes "D"
chan_text_of chan.E = codes "E"

-- The name of a message.
abbrev pub op_text_of : Op → List ℕ
op_text_of op.PutFullData = codes "PutFullData"
op_text_of op.PutPartialData = codes "PutPartialData"
op_text_of op.ArithmeticData = codes "ArithmeticData"
op_text_of op.LogicalData = codes "LogicalData"
op_text_of op.Get = codes "Get"
op_text_of op.Intent = codes "Intent"
op_text_of op.AcquireBlock = codes "AcquireBlock"
op_text_of op.AcquirePerm = codes "AcquirePerm"
op_text_of op.ProbeBlock = codes "ProbeBlock"
op_text_of op.ProbePerm = codes "ProbePerm"
op_text_of op.AccessAck = codes "AccessAck"
op_text_of op.AccessAckData = codes "AccessAckData"
op_text_of op.HintAck = codes "HintAck"
op_text_of op.ProbeAck = codes "ProbeAck"
op_text_of op.ProbeAckData = codes "ProbeAckData"
op_text_of op.Release = codes "Release"
op_text_of op.ReleaseData = codes "ReleaseData"
op_text_of op.Grant = codes "Grant"
op_text_of op.GrantData = codes "GrantData"
op_text_of op.ReleaseAck = codes "ReleaseAck"
op_text_of op.GrantAck = codes "GrantAck"

-- The names of the params of a message, from 0; none for a message without params.
abbrev pub param_texts : Op → List (List ℕ)
param_texts op.ArithmeticData = codes "MIN" ∷ codes "MAX" ∷ codes "MINU" ∷ codes "MAXU" ∷ codes "ADD" ∷ []
param_texts op.LogicalData = codes "XOR" ∷ codes "OR" ∷ codes "AND" ∷ codes "SWAP" ∷ []
param_texts op.Intent = codes "PrefetchRead" ∷ codes "PrefetchWrite" ∷ []
param_texts op.AcquireBlock = codes "NtoB" ∷ codes "NtoT" ∷ codes "BtoT" ∷ []
param_texts op.AcquirePerm = codes "NtoB" ∷ codes "NtoT" ∷ codes "BtoT" ∷ []
param_texts op.ProbeBlock = codes "toT" ∷ codes "toB" ∷ codes "toN" ∷ []
param_texts op.ProbePerm = codes "toT" ∷ codes "toB" ∷ codes "toN" ∷ []
param_texts op.ProbeAck = codes "TtoB" ∷ codes "TtoN" ∷ codes "BtoN" ∷ codes "TtoT" ∷ codes "BtoB" ∷ codes "NtoN" ∷ []
param_texts op.ProbeAckData = codes "TtoB" ∷ codes "TtoN" ∷ codes "BtoN" ∷ codes "TtoT" ∷ codes "BtoB" ∷ codes "NtoN" ∷ []
param_texts op.Release = codes "TtoB" ∷ codes "TtoN" ∷ codes "BtoN" ∷ codes "TtoT" ∷ codes "BtoB" ∷ codes "NtoN" ∷ []
param_texts op.ReleaseData = codes "TtoB" ∷ codes "TtoN" ∷ codes "BtoN" ∷ codes "TtoT" ∷ codes "BtoB" ∷ codes "NtoN" ∷ []
param_texts op.Grant = codes "toT" ∷ codes "toB" ∷ codes "toN" ∷ []
param_texts op.GrantData = codes "toT" ∷ codes "toB" ∷ codes "toN" ∷ []
param_texts _ = []

-- The name of a param, where the message has one for it.
abbrev pub param_text_of : Op → ℕ → Option (List ℕ)
param_text_of o param = slice_get (param_texts o) param

-- The pieces, one after the other.
abbrev pub joined : List (List ℕ) → List ℕ
joined [] = []
joined (piece ∷ []) = piece
joined (piece ∷ next ∷ pieces) = piece ++ joined (next ∷ pieces)

-- Channel and message with its param: with the name of the param; without a param; with the number of a param that has no name; and
-- the numbers of an opcode that is no message.
unfoldable pub named_text_of : Op → List ℕ → Beat → List ℕ
named_text_of o name beat = joined (chan_text_of beat.chan ∷ codes " " ∷ op_text_of o ∷ codes " " ∷ name ∷ [])

unfoldable pub plain_text_of : Op → Beat → List ℕ
plain_text_of o beat = joined (chan_text_of beat.chan ∷ codes " " ∷ op_text_of o ∷ [])

unfoldable pub numbered_text_of : Op → Beat → List ℕ
numbered_text_of o beat = joined (chan_text_of beat.chan ∷ codes " " ∷ op_text_of o ∷ codes " param " ∷ decimal beat.param ∷ [])

unfoldable pub coded_text_of : Beat → List ℕ
coded_text_of beat = joined (chan_text_of beat.chan ∷ codes " opcode " ∷ decimal beat.opcode ∷ codes " param " ∷ decimal beat.param ∷ [])

abbrev pub op_text_with : Op → Option (List ℕ) → Beat → List ℕ
op_text_with o (Some name) beat = named_text_of o name beat
op_text_with o None beat = if beat.param == 0 then plain_text_of o beat else numbered_text_of o beat

abbrev pub message_text_of : Option Op → Beat → List ℕ
message_text_of None beat = coded_text_of beat
message_text_of (Some o) beat = op_text_with o (param_text_of o beat.param) beat

-- How many bytes.
unfoldable pub bytes_text_of : ℕ → List ℕ
bytes_text_of size = if size == 0 then codes "1 byte" else decimal (2 ^ size) ++ codes " bytes"

-- The fields of its channel: address and mask in hexadecimal, all else in decimal.
unfoldable pub access_text_of : Beat → List ℕ
access_text_of beat = joined (codes ", " ∷ bytes_text_of beat.size ∷ codes " at " ∷ digits 16 false beat.address ∷ codes ", mask " ∷ digits 16 false beat.mask ∷ codes ", source " ∷ decimal beat.source ∷ [])

unfoldable pub release_text_of : Beat → List ℕ
release_text_of beat = joined (codes ", " ∷ bytes_text_of beat.size ∷ codes " at " ∷ digits 16 false beat.address ∷ codes ", source " ∷ decimal beat.source ∷ [])

unfoldable pub reply_text_of : Beat → List ℕ
reply_text_of beat = joined (codes ", " ∷ bytes_text_of beat.size ∷ codes ", source " ∷ decimal beat.source ∷ codes ", sink " ∷ decimal beat.sink ∷ [])

unfoldable pub ack_text_of : Beat → List ℕ
ack_text_of beat = joined (codes ", sink " ∷ decimal beat.sink ∷ [])

abbrev pub fields_text_of : Chan → Beat → List ℕ
fields_text_of chan.A beat = access_text_of beat
fields_text_of chan.B beat = access_text_of beat
fields_text_of chan.C beat = release_text_of beat
fields_text_of chan.D beat = reply_text_of beat
fields_text_of chan.E beat = ack_text_of beat

abbrev pub bits_text_of : Bool → Bool → List ℕ
bits_text_of true true = codes ", denied, corrupt"
bits_text_of true false = codes ", denied"
bits_text_of false true = codes ", corrupt"
bits_text_of false false = []

-- All of it.
unfoldable pub beat_text_of : Option Op → Beat → List ℕ
beat_text_of found beat = joined (message_text_of found beat ∷ fields_text_of beat.chan beat ∷ bits_text_of beat.denied beat.corrupt ∷ [])
