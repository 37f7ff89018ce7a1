-- Captures that begin in the middle of a run, with all that is printed of them. Each expected line was worked out by hand.
use Rattle.std.specs.Prelude.{◌≡◌, false, true, List, [], ◌∷◌, map}
use Rattle.tl_tables.specs.declared.Rule.TheVariants as rule
use Rattle.tl_beats.specs.declared.Placed.{Placed}
use Rattle.tl_definitions.specs.Positions.{in_order}
use Rattle.tl_definitions.specs.Written.{a, c, d, e, fragment, Line, row, line_of, with_regions}
use Rattle.tl_definitions.specs.Known.{Beginning}
use Rattle.tl_definitions.specs.Printed.{printed_rows}
use Rattle.tl_definitions.specs.Lawful.{any_past, told_bursts, at_heads}

-- What is printed of these beats of the links of `decls`: whatever came before; where bursts are told by their fields; and
-- where the capture begins at a head of each channel.
abbrev pub printed_by : Beginning → List Placed → List Line
printed_by start beats = map line_of (printed_rows (with_regions []) start (in_order beats))

abbrev pub certain : List Placed → List Line
certain beats = printed_by (any_past (with_regions [])) beats

abbrev pub by_fields : List Placed → List Line
by_fields beats = printed_by (told_bursts (with_regions [])) beats

abbrev pub from_heads : List Placed → List Line
from_heads beats = printed_by at_heads beats

-- Keys: link 2 has messages of one beat alone, so its heads are known at once.
abbrev pub KeyRows : Type 0
KeyRows =
    -- A reply: its request may be in the past.
    (certain (fragment 2 1 (d 20 1 0 3 0 0 false ∷ [])) ≡ [])
    -- The next one on its source has no request.
    × (certain (fragment 2 1 (d 20 1 0 3 0 0 false ∷ d 30 1 0 3 0 0 false ∷ [])) ≡ row 2 1 3 rule.S2 ∷ [])
    -- A reply on a source that the link doesn't have: no lawful past opened it.
    × (certain (fragment 2 1 (d 20 1 0 3 2 0 false ∷ [])) ≡ row 2 1 2 rule.F9 ∷ row 2 1 2 rule.S2 ∷ [])
    -- A request: its source may be in flight. The next on its source finds it so.
    × (certain (fragment 2 1 (a 10 4 0 3 0 0x1000 0xff ∷ a 20 4 0 3 0 0x2000 0xff ∷ [])) ≡ row 2 1 3 rule.S1 ∷ [])
    -- A reply of another kind and size than a request of the capture.
    × (certain (fragment 2 1 (a 10 4 0 3 0 0x1000 0xff ∷ d 20 0 0 2 0 0 false ∷ [])) ≡ row 2 1 3 rule.S3 ∷ row 2 1 3 rule.S4 ∷ [])

-- Bursts: messages of link 0 have up to sixteen beats.
abbrev pub ReadingRows : Type 0
ReadingRows =
    -- Each of two Gets on a source may be a later beat of a put of the past, though its fields speak against it.
    (certain (fragment 0 1 (a 10 4 0 3 0 0x1000 0xff ∷ a 20 4 0 3 0 0x1000 0xff ∷ [])) ≡ [])
    × (by_fields (fragment 0 1 (a 10 4 0 3 0 0x1000 0xff ∷ a 20 4 0 3 0 0x1000 0xff ∷ [])) ≡ row 0 1 3 rule.S1 ∷ [])
    × (from_heads (fragment 0 1 (a 10 4 0 3 0 0x1000 0xff ∷ a 20 4 0 3 0 0x1000 0xff ∷ [])) ≡ row 0 1 3 rule.S1 ∷ [])
    -- Data that is denied and sound, be it a head or a later beat.
    × (certain (fragment 0 1 (d 20 5 0 6 0 1 true ∷ [])) ≡ row 0 1 2 rule.F7 ∷ [])
    -- A lane that the link lacks.
    × (certain (fragment 0 1 (a 10 0 0 6 0 0x1000 0x1ff ∷ [])) ≡ row 0 1 2 rule.F5 ∷ [])
    -- A beat that differs from its head: the first may be the last of a message of the past, and the second a head.
    × (certain (fragment 0 1 (a 10 0 0 4 0 0x1000 0xff ∷ a 11 0 0 4 1 0x1000 0xff ∷ [])) ≡ [])
    × (from_heads (fragment 0 1 (a 10 0 0 4 0 0x1000 0xff ∷ a 11 0 0 4 1 0x1000 0xff ∷ [])) ≡ row 0 1 3 rule.U1 ∷ [])

-- Bounds and Grants, where the capture begins at heads.
abbrev pub BoundRows : Type 0
BoundRows =
    -- A Release: its client may hold what it claims.
    (from_heads (fragment 0 1 (c 10 6 1 6 0 0x1000 ∷ [])) ≡ [])
    -- Another of the block, which the client no longer holds.
    × (from_heads (fragment 0 1 (c 10 6 1 6 0 0x1000 ∷ d 20 6 0 6 0 0 false ∷ c 30 6 1 6 0 0x1000 ∷ [])) ≡ row 0 1 4 rule.P2 ∷ [])
    -- The same with a Grant between them, of a request that nobody recorded: it may be of that block.
    × (from_heads (fragment 0 1 (c 10 6 1 6 0 0x1000 ∷ d 20 6 0 6 0 0 false ∷ d 25 4 0 6 1 1 false ∷ c 30 6 1 6 0 0x1000 ∷ [])) ≡ [])
    -- With a denied Grant, which gives nothing.
    × (from_heads (fragment 0 1 (c 10 6 1 6 0 0x1000 ∷ d 20 6 0 6 0 0 false ∷ d 25 4 0 6 1 1 true ∷ c 30 6 1 6 0 0x1000 ∷ [])) ≡ row 0 1 5 rule.P2 ∷ [])
    -- A GrantAck: a Grant may be open on its sink. The next finds none.
    × (from_heads (fragment 0 1 (e 10 1 ∷ e 20 1 ∷ [])) ≡ row 0 1 3 rule.S9 ∷ [])
