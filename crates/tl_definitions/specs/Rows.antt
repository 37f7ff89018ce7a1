-- Captures with all that is found in them, and nothing else. Each expected line was worked out by hand from the rules.
use Rattle.std.specs.Prelude.{◌≡◌, true, false, [], ◌∷◌, ◌++◌}
use Rattle.tl_tables.specs.declared.Rule.TheVariants as rule
use Rattle.tl_definitions.specs.Written.{a, b, c, d, e, burst, grant, fragment, found, found_with, found_strict, gets, puts, only, each_kind, answered, corrupt, row, shared, owned}

-- What the format rules find.
abbrev pub FormatRows : Type 0
FormatRows =
    -- An Acquire isn't spoken on a link without caching.
    (found (fragment 2 1 (a 10 6 0 6 0 0x1000 0xff ∷ [])) ≡ row 2 1 2 rule.F1 ∷ [])
    -- HintAck isn't spoken on a link of level TL-UL, and each beat is a head.
    × (found (fragment 2 1 (burst 3 0 (λ cycle. d cycle 2 0 0 0 0 false))) ≡ row 2 1 2 rule.F1 ∷ row 2 1 3 rule.F1 ∷ row 2 1 4 rule.F1 ∷ [])
    -- A head without a message opens nothing.
    × (found (fragment 2 1 (a 10 6 0 3 0 0x1000 0xff ∷ a 20 4 0 3 0 0x1000 0xff ∷ [])) ≡ row 2 1 2 rule.F1 ∷ [])
    -- An address off its size.
    × (found (fragment 2 1 (a 10 4 0 3 0 4 0xff ∷ [])) ≡ row 2 1 2 rule.F3 ∷ [])
    -- A head over the limit still has two beats.
    × (found (fragment 2 1 (a 10 0 0 4 0 0x1000 0xff ∷ a 11 0 0 4 0 0x1000 0xff ∷ [])) ≡ row 2 1 2 rule.F4 ∷ [])
    -- Lanes beside the active ones, where only a partial put may have fewer.
    × (found (fragment 0 1 (a 10 1 0 1 0 0x1006 0x80 ∷ a 20 0 0 1 1 0x1006 0x80 ∷ [])) ≡ row 0 1 3 rule.F5 ∷ [])
    -- Lanes of a partial put that aren't active, and of a later beat of one.
    × (found (fragment 0 1 (a 10 1 0 1 0 0x1006 0xa0 ∷ a 20 1 0 4 1 0x1000 0xff ∷ a 21 1 0 4 1 0x1000 0x1ff ∷ []))
    ≡ row 0 1 2 rule.F5 ∷ row 0 1 4 rule.F5 ∷ [])
    -- A Probe that leaves out a lane.
    × (found (fragment 0 1 (b 10 6 2 6 0 0x1000 0x7f ∷ [])) ≡ row 0 1 2 rule.F5 ∷ [])
    -- Lanes of an address off its size are those of the address rounded down.
    × (found (fragment 2 1 (a 10 0 0 1 0 0x1007 0xc0 ∷ [])) ≡ row 2 1 2 rule.F3 ∷ [])
    -- A message without data is corrupt.
    × (found (fragment 2 1 (corrupt (a 10 4 0 3 0 0x1000 0xff) ∷ corrupt (d 20 1 0 3 0 0 true) ∷ [])) ≡ row 2 1 2 rule.F6 ∷ [])
    -- Denied data that says it is sound.
    × (found (fragment 2 1 (a 5 4 0 3 0 0x1000 0xff ∷ d 10 1 0 3 0 0 true ∷ [])) ≡ row 2 1 3 rule.F7 ∷ [])
    -- Each message of a block with another size.
    × (found (fragment 0 1 (a 10 7 0 5 0 0x1000 0xff ∷ b 15 6 2 5 0 0x1000 0xff ∷ c 16 4 5 5 0 0x1000 ∷ c 17 6 5 5 1 0x2000 ∷ d 20 4 1 5 0 1 false ∷ e 21 1 ∷
    d 22 6 0 5 1 0 false ∷ [])) ≡ row 0 1 2 rule.F8 ∷ row 0 1 3 rule.F8 ∷ row 0 1 4 rule.F8 ∷ row 0 1 5 rule.F8 ∷ row 0 1 6 rule.F8 ∷
    row 0 1 8 rule.F8 ∷ [])
    -- A source past the last.
    × (found (fragment 2 1 (a 10 4 0 3 2 0x1000 0xff ∷ [])) ≡ row 2 1 2 rule.F9 ∷ [])
    -- One beat breaks three rules.
    × (found (fragment 0 1 (d 10 5 3 6 0 1 true ∷ [])) ≡ row 0 1 2 rule.F2 ∷ row 0 1 2 rule.F7 ∷ row 0 1 2 rule.S2 ∷ [])
    -- Addresses off their size on B and C.
    × (found (fragment 0 1 (b 10 6 2 6 0 0x1004 0xff ∷ c 20 6 5 6 0 0x2004 ∷ [])) ≡ row 0 1 2 rule.F3 ∷ row 0 1 3 rule.F3 ∷ [])
    -- Rows stand by link first, though the other link broke a rule before.
    × (found (fragment 0 1 (a 20 4 0 3 0 0x1004 0xff ∷ []) ++ fragment 1 1 (a 10 4 0 3 0 0x1004 0xff ∷ []))
    ≡ row 0 1 2 rule.F3 ∷ row 1 1 2 rule.F3 ∷ [])
    -- Then by cycle, and in one cycle by channel before rule.
    × (found (fragment 0 1 (a 10 4 0 3 4 0x1000 0xff ∷ d 10 4 3 6 0 1 false ∷ []))
    ≡ row 0 1 2 rule.F9 ∷ row 0 1 3 rule.F2 ∷ row 0 1 3 rule.S2 ∷ [])
    -- Param 1 where 0 is the only lawful one: Puts, Get, a Release that is sound, AccessAcks, AccessAckData, ReleaseAck.
    × (found (fragment 0 1 (a 10 0 1 3 0 0x1000 0xff ∷ a 11 1 1 3 1 0x1000 0xff ∷ a 12 4 1 3 2 0x1000 0xff ∷ c 13 6 5 6 0 0x1000 ∷
    d 20 0 1 3 0 0 false ∷ d 21 0 1 3 1 0 false ∷ d 22 1 1 3 2 0 false ∷ d 23 6 1 6 0 0 false ∷ []))
    ≡ row 0 1 2 rule.F2 ∷ row 0 1 3 rule.F2 ∷ row 0 1 4 rule.F2 ∷ row 0 1 6 rule.F2 ∷ row 0 1 7 rule.F2 ∷ row 0 1 8 rule.F2 ∷ row 0 1 9 rule.F2 ∷ [])
    -- The last lawful params of channel A: both atomics, Intent, both Acquires, which claim what was never held.
    × (found (fragment 0 1 (a 10 2 4 3 0 0x1000 0xff ∷ a 11 3 3 3 1 0x1000 0xff ∷ a 12 5 1 3 2 0x1000 0xff ∷ a 13 6 2 6 3 0x1000 0xff ∷ [])
    ++ fragment 1 1 (a 10 7 2 6 0 0x1000 0xff ∷ [])) ≡ row 0 1 5 rule.P1 ∷ row 1 1 2 rule.P1 ∷ [])
    -- The next params of the same messages.
    × (found (fragment 0 1 (a 10 2 5 3 0 0x1000 0xff ∷ a 11 3 4 3 1 0x1000 0xff ∷ a 12 5 2 3 2 0x1000 0xff ∷ a 13 6 3 6 3 0x1000 0xff ∷ [])
    ++ fragment 1 1 (a 10 7 3 6 0 0x1000 0xff ∷ []))
    ≡ row 0 1 2 rule.F2 ∷ row 0 1 3 rule.F2 ∷ row 0 1 4 rule.F2 ∷ row 0 1 5 rule.F2 ∷ row 1 1 2 rule.F2 ∷ [])
    -- The first unlawful params of ProbePerm, ProbeAck, Release, ProbeAckData and ReleaseData.
    × (found (fragment 0 1 (b 10 7 3 6 0 0x2000 0xff ∷ c 20 4 6 6 0 0x1000 ∷ c 21 6 6 6 0 0x1040 ∷
    burst 8 22 (λ cycle. c cycle 5 6 6 0 0x1080) ++ burst 8 30 (λ cycle. c cycle 7 6 6 1 0x10c0)))
    ≡ row 0 1 2 rule.F2 ∷ row 0 1 3 rule.F2 ∷ row 0 1 3 rule.P3 ∷ row 0 1 4 rule.F2 ∷ row 0 1 5 rule.F2 ∷ row 0 1 5 rule.P3 ∷ row 0 1 13 rule.F2 ∷ [])
    -- Sizes over the limit on C, D and B.
    × (found (fragment 0 1 (c 10 6 5 8 0 0x1000 ∷ d 20 1 0 8 0 0 false ∷ b 30 4 0 8 0 0x1000 0xff ∷ []))
    ≡ row 0 1 2 rule.F4 ∷ row 0 1 2 rule.F8 ∷ row 0 1 3 rule.F4 ∷ row 0 1 3 rule.S2 ∷ row 0 1 4 rule.F4 ∷ [])
    -- Corrupt messages without data on C and D.
    × (found (fragment 0 1 (corrupt (c 10 6 5 6 0 0x1000) ∷ corrupt (d 20 6 0 6 0 0 false) ∷ [])) ≡ row 0 1 2 rule.F6 ∷ row 0 1 3 rule.F6 ∷ [])
    -- Sources past the last on C, D and B.
    × (found (fragment 0 1 (c 10 6 5 6 4 0x1000 ∷ d 20 6 0 6 4 0 false ∷ b 30 6 2 6 4 0x2000 0xff ∷ []))
    ≡ row 0 1 2 rule.F9 ∷ row 0 1 3 rule.F9 ∷ row 0 1 4 rule.F9 ∷ [])

-- What links of each level and width speak.
abbrev pub LevelRows : Type 0
LevelRows =
    -- On TL-UH atomics and Intent are spoken, and on a link of 4 bytes 8 bytes have two beats.
    (found (fragment 3 1 (a 10 2 0 3 0 0x1000 0x0f ∷ a 11 2 0 3 0 0x1000 0x0f ∷ d 20 1 0 3 0 0 false ∷ d 21 1 0 3 0 0 false ∷ a 30 5 0 3 1 0x1000 0x0f ∷
    d 40 2 0 3 1 0 false ∷ [])) ≡ [])
    -- Acquire, Probe, Release, Grant and GrantAck aren't spoken there.
    × (found (fragment 3 1 (a 10 6 0 6 0 0x1000 0x0f ∷ b 11 6 2 6 0 0x1000 0x0f ∷ c 12 6 5 6 0 0x1000 ∷ d 13 4 0 6 0 0 false ∷ e 14 0 ∷ []))
    ≡ row 3 1 2 rule.F1 ∷ row 3 1 3 rule.F1 ∷ row 3 1 4 rule.F1 ∷ row 3 1 5 rule.F1 ∷ row 3 1 6 rule.F1 ∷ [])
    -- Lanes of a link of 4 bytes.
    × (found (fragment 3 1 (a 10 0 0 1 0 0x1006 0x0c ∷ a 20 0 0 0 1 0x1005 0x02 ∷ [])) ≡ [])
    -- Atomics and Intent aren't spoken on TL-UL.
    × (found (fragment 2 1 (a 10 2 0 3 0 0x1000 0xff ∷ a 11 3 0 3 0 0x1000 0xff ∷ a 12 5 0 3 0 0x1000 0xff ∷ []))
    ≡ row 2 1 2 rule.F1 ∷ row 2 1 3 rule.F1 ∷ row 2 1 4 rule.F1 ∷ [])
    -- Opcodes without a message on C and D.
    × (found (fragment 0 1 (c 10 3 0 3 0 0x1000 ∷ d 20 3 0 3 0 0 false ∷ d 21 7 0 3 0 0 false ∷ []))
    ≡ row 0 1 2 rule.F1 ∷ row 0 1 3 rule.F1 ∷ row 0 1 4 rule.F1 ∷ [])

-- What the regions of the manager permit.
abbrev pub RegionRows : Type 0
RegionRows =
    -- A region that permits the kind holds the bytes.
    (found_with (gets ∷ puts ∷ []) (fragment 2 1 (a 10 4 0 3 0 0x1000 0xff ∷ d 10 1 0 3 0 0 false ∷ [])) ≡ [])
    -- No region that permits the kind holds the bytes.
    × (found_with (puts ∷ []) (fragment 2 1 (a 10 4 0 3 0 0x1000 0xff ∷ d 10 1 0 3 0 0 false ∷ [])) ≡ row 2 1 2 rule.F10 ∷ [])
    -- The last bytes of a region, and the next.
    × (found_with (gets ∷ []) (fragment 2 1 (a 10 4 0 3 0 0x1ff8 0xff ∷ d 20 1 0 3 0 0 false ∷ a 30 4 0 3 0 0x2000 0xff ∷ d 40 1 0 3 0 0 false ∷ []))
    ≡ row 2 1 4 rule.F10 ∷ [])
    -- Two regions hold the bytes together, and neither by itself; and what each holds.
    × (found_with (record gets { last = 0x1ffb } ∷ record gets { first = 0x1ffc } ∷ []) (fragment 2 1 (a 10 4 0 3 0 0x1ff8 0xff ∷ d 20 1 0 3 0 0 false ∷
    a 30 4 0 2 0 0x1ff8 0x0f ∷ d 40 1 0 2 0 0 false ∷ a 50 4 0 2 0 0x1ffc 0xf0 ∷ [])) ≡ row 2 1 2 rule.F10 ∷ [])
    -- The bytes of an address off its size begin at the address rounded down.
    × (found_with (gets ∷ []) (fragment 2 1 (a 10 4 0 3 0 0x1ffc 0xff ∷ [])) ≡ row 2 1 2 rule.F3 ∷ [])
    -- A region that holds the bytes permits another kind.
    × (found_with (gets ∷ []) (fragment 2 1 (a 10 0 0 3 0 0x1000 0xff ∷ d 20 0 0 3 0 0 false ∷ [])) ≡ row 2 1 2 rule.F10 ∷ [])
    -- The first bytes of a region, and those before.
    × (found_with (puts ∷ []) (fragment 2 1 (a 10 0 0 3 0 0x7ff8 0xff ∷ d 20 0 0 3 0 0 false ∷ a 30 0 0 3 0 0x8000 0xff ∷ d 40 0 0 3 0 0 false ∷ []))
    ≡ row 2 1 2 rule.F10 ∷ [])
    -- Each kind of access without regions.
    × (found each_kind ≡ [])
    -- A region for get alone.
    × (found_with (only true false false false false ∷ []) each_kind
    ≡ row 0 1 3 rule.F10 ∷ row 0 1 4 rule.F10 ∷ row 0 1 5 rule.F10 ∷ row 1 1 2 rule.F10 ∷ row 1 1 3 rule.F10 ∷ row 1 1 4 rule.F10 ∷ row 1 1 5 rule.F10 ∷ [])
    -- A region for put alone.
    × (found_with (only false true false false false ∷ []) each_kind
    ≡ row 0 1 2 rule.F10 ∷ row 0 1 5 rule.F10 ∷ row 1 1 2 rule.F10 ∷ row 1 1 3 rule.F10 ∷ row 1 1 4 rule.F10 ∷ row 1 1 5 rule.F10 ∷ [])
    -- A region for atomics alone.
    × (found_with (only false false true false false ∷ []) each_kind
    ≡ row 0 1 2 rule.F10 ∷ row 0 1 3 rule.F10 ∷ row 0 1 4 rule.F10 ∷ row 1 1 3 rule.F10 ∷ row 1 1 4 rule.F10 ∷ row 1 1 5 rule.F10 ∷ [])
    -- A region for hints alone.
    × (found_with (only false false false true false ∷ []) each_kind
    ≡ row 0 1 2 rule.F10 ∷ row 0 1 3 rule.F10 ∷ row 0 1 4 rule.F10 ∷ row 0 1 5 rule.F10 ∷ row 1 1 2 rule.F10 ∷ row 1 1 4 rule.F10 ∷ row 1 1 5 rule.F10 ∷ [])
    -- A region for caching alone.
    × (found_with (only false false false false true ∷ []) each_kind
    ≡ row 0 1 2 rule.F10 ∷ row 0 1 3 rule.F10 ∷ row 0 1 4 rule.F10 ∷ row 0 1 5 rule.F10 ∷ row 1 1 2 rule.F10 ∷ row 1 1 3 rule.F10 ∷ [])
    -- Regions speak of channel A alone.
    × (found_with (gets ∷ []) (fragment 0 1 (b 10 6 2 6 0 0x1000 0xff ∷ c 20 4 5 6 0 0x1000 ∷ [])) ≡ [])

-- What is found in later beats.
abbrev pub BurstRows : Type 0
BurstRows =
    -- A later beat of another size is still a beat of the burst.
    (found (fragment 0 1 (a 20 0 0 6 0 0x1000 0xff ∷ a 21 0 0 6 0 0x1000 0xff ∷ a 22 0 0 5 0 0x1000 0xff ∷
    burst 5 23 (λ cycle. a cycle 0 0 6 0 0x1000 0xff) ++ d 30 0 0 6 0 0 false ∷ [])) ≡ row 0 1 4 rule.U1 ∷ [])
    -- Later beats of a request with another opcode, param, size, source, address.
    × (found (fragment 0 1 (a 20 0 0 6 0 0x1000 0xff ∷ a 21 1 0 6 0 0x1000 0xff ∷ a 22 0 1 6 0 0x1000 0xff ∷ a 23 0 0 5 0 0x1000 0xff ∷ a 24 0 0 6 1 0x1000 0xff ∷
    a 25 0 0 6 0 0x1008 0xff ∷ [])) ≡ row 0 1 3 rule.U1 ∷ row 0 1 4 rule.U1 ∷ row 0 1 5 rule.U1 ∷ row 0 1 6 rule.U1 ∷ row 0 1 7 rule.U1 ∷ [])
    -- Later beats of a reply with another opcode, param, size, source, sink, denied.
    × (found (fragment 0 1 (a 10 6 1 6 0 0x1000 0xff ∷ d 20 5 0 6 0 1 false ∷ d 21 4 0 6 0 1 false ∷ d 22 5 1 6 0 1 false ∷ d 23 5 0 5 0 1 false ∷
    d 24 5 0 6 1 1 false ∷ d 25 5 0 6 0 2 false ∷ d 26 5 0 6 0 1 true ∷ []))
    ≡ row 0 1 4 rule.U1 ∷ row 0 1 5 rule.U1 ∷ row 0 1 6 rule.U1 ∷ row 0 1 7 rule.U1 ∷ row 0 1 8 rule.U1 ∷ row 0 1 9 rule.F7 ∷ row 0 1 9 rule.U1 ∷
    [])
    -- Later beats on C and on B with another address.
    × (found (fragment 0 1 (c 10 7 5 6 0 0x1000 ∷ c 11 7 5 6 0 0x1000 ∷ c 12 7 5 6 0 0x1040 ∷ burst 5 13 (λ cycle. c cycle 7 5 6 0 0x1000)))
    ≡ row 0 1 4 rule.U1 ∷ [])
    × (found (fragment 0 1 (b 10 0 0 6 0 0x1000 0xff ∷ b 11 0 0 6 0 0x1000 0xff ∷ b 12 0 0 6 0 0x1040 0xff ∷ burst 5 13 (λ cycle. b cycle 0 0 6 0 0x1000 0xff)))
    ≡ row 0 1 4 rule.U1 ∷ [])
    -- A later beat of data is denied and has another opcode.
    × (found (fragment 0 1 (a 10 4 0 6 0 0x1000 0xff ∷ d 20 1 0 6 0 0 false ∷ d 21 0 0 6 0 0 true ∷ burst 6 22 (λ cycle. d cycle 1 0 6 0 0 false)))
    ≡ row 0 1 4 rule.F7 ∷ row 0 1 4 rule.U1 ∷ [])
    -- Lanes of a later beat are judged by its head.
    × (found (fragment 0 1 (a 10 0 0 4 0 0x1000 0xff ∷ a 11 0 0 4 0 0x1000 0x7f ∷ a 12 1 0 4 1 0x1000 0xff ∷ a 13 0 0 4 1 0x1000 0x7f ∷ []))
    ≡ row 0 1 3 rule.F5 ∷ row 0 1 5 rule.U1 ∷ [])
    -- A later beat of a small size has the lanes of its head.
    × (found (fragment 0 1 (a 10 0 0 4 0 0x1000 0xff ∷ a 11 0 0 1 0 0x1000 0xff ∷ [])) ≡ row 0 1 3 rule.U1 ∷ [])
    -- The bursts of two links in the same cycles.
    × (found (fragment 0 1 (a 10 6 0 6 0 0x1000 0xff ∷ grant 20 1 1 ++ e 30 1 ∷ []) ++ fragment 1 1 (a 10 6 0 6 0 0x2000 0xff ∷ grant 24 1 1 ++ e 34 1 ∷ []))
    ≡ [])
    -- A request between the beats of a reply.
    × (found (fragment 0 1 (a 10 6 0 6 0 0x1000 0xff ∷ burst 4 20 (λ cycle. d cycle 5 1 6 0 1 false) ++ a 24 4 0 3 1 0x1000 0xff ∷
    burst 4 24 (λ cycle. d cycle 5 1 6 0 1 false) ++ d 30 1 0 3 1 0 false ∷ e 31 1 ∷ [])) ≡ [])

-- What the flow rules find.
abbrev pub FlowRows : Type 0
FlowRows =
    -- A reply in the cycle of its request.
    (found (fragment 2 1 (a 10 4 0 3 0 0x1000 0xff ∷ d 10 1 0 3 0 0 false ∷ [])) ≡ [])
    -- A second request on a source in flight.
    × (found (fragment 2 1 (a 10 4 0 3 0 0x1000 0xff ∷ a 20 4 0 3 0 0x2000 0xff ∷ d 20 1 0 3 0 0 false ∷ [])) ≡ row 2 1 3 rule.S1 ∷ [])
    -- A reply whose request was never recorded.
    × (found (fragment 2 2 (d 20 1 0 3 0 0 false ∷ [])) ≡ row 2 2 2 rule.S2 ∷ [])
    -- The same, with the request in another fragment of the link.
    × (found (fragment 2 2 (d 20 1 0 3 0 0 false ∷ []) ++ fragment 2 1 (a 10 4 0 3 0 0x1000 0xff ∷ [])) ≡ [])
    -- A reply of another kind and size.
    × (found (fragment 2 1 (a 10 4 0 3 0 0x1000 0xff ∷ d 20 0 0 2 0 0 false ∷ [])) ≡ row 2 1 3 rule.S3 ∷ row 2 1 3 rule.S4 ∷ [])
    -- A reply that breaks a rule closes.
    × (found (fragment 2 1 (a 10 4 0 3 0 0x1000 0xff ∷ d 20 0 0 2 0 0 false ∷ d 30 1 0 3 0 0 false ∷ []))
    ≡ row 2 1 3 rule.S3 ∷ row 2 1 3 rule.S4 ∷ row 2 1 4 rule.S2 ∷ [])
    -- Two Releases on one source.
    × (found (fragment 0 1 (c 10 6 5 6 0 0x1000 ∷ c 20 6 5 6 0 0x1040 ∷ d 30 6 0 5 0 0 false ∷ d 40 6 0 6 0 0 false ∷ []))
    ≡ row 0 1 3 rule.S6 ∷ row 0 1 4 rule.F8 ∷ row 0 1 4 rule.S7 ∷ row 0 1 5 rule.S5 ∷ [])
    -- A request and a Release on one source: each reply closes its own.
    × (found (fragment 0 1 (a 10 4 0 3 0 0x1000 0xff ∷ c 11 6 5 6 0 0x2000 ∷ d 20 6 0 6 0 0 false ∷ d 30 1 0 3 0 0 false ∷ [])) ≡ [])
    -- The same the other way round.
    × (found (fragment 0 1 (c 10 6 5 6 0 0x2000 ∷ a 11 4 0 3 0 0x1000 0xff ∷ d 20 1 0 3 0 0 false ∷ d 30 6 0 6 0 0 false ∷ [])) ≡ [])
    -- ReleaseAcks that are denied break what others break, and close.
    × (found (fragment 0 1 (c 10 6 5 6 0 0x1000 ∷ corrupt (d 20 6 0 8 0 0 true) ∷ d 30 6 0 6 4 0 true ∷ d 40 6 0 6 0 0 false ∷ []))
    ≡ row 0 1 3 rule.F4 ∷ row 0 1 3 rule.F6 ∷ row 0 1 3 rule.F8 ∷ row 0 1 3 rule.S7 ∷ row 0 1 4 rule.F9 ∷ row 0 1 4 rule.S5 ∷ row 0 1 5 rule.S5 ∷ [])
    -- A ProbeAck and a Release that are corrupt, though they have no data.
    × (found (fragment 0 1 (corrupt (c 10 4 5 6 0 0x1000) ∷ c 20 6 5 6 0 0x2000 ∷ corrupt (c 21 6 5 6 0 0x3000) ∷ []))
    ≡ row 0 1 2 rule.F6 ∷ row 0 1 2 rule.P3 ∷ row 0 1 4 rule.F6 ∷ row 0 1 4 rule.S6 ∷ [])
    -- Two Grants on one sink.
    × (found (fragment 0 1 (a 10 7 0 6 0 0x1000 0xff ∷ a 11 7 0 6 1 0x1040 0xff ∷ d 20 4 1 6 0 3 false ∷ d 30 4 1 6 1 3 false ∷ e 40 3 ∷ e 50 3 ∷ []))
    ≡ row 0 1 5 rule.S8 ∷ row 0 1 7 rule.S9 ∷ [])
    -- The second of them denied.
    × (found (fragment 0 1 (a 10 7 0 6 0 0x1000 0xff ∷ a 11 7 0 6 1 0x1040 0xff ∷ d 20 4 1 6 0 3 false ∷ d 30 4 1 6 1 3 true ∷ []))
    ≡ row 0 1 5 rule.S8 ∷ [])
    -- A Grant in two fragments of one link, beside another link.
    × (found (fragment 0 1 (a 4000 6 0 6 0 0x1000 0xff ∷ []) ++ fragment 0 2 (grant 4092 1 3 ++ e 4100 3 ∷ [])
    ++ fragment 2 1 (a 8200 4 0 3 0 0x1000 0xff ∷ d 8210 1 0 3 0 0 false ∷ [])) ≡ [])
    -- The same without the fragment of the Acquire.
    × (found (fragment 0 2 (grant 4092 1 3 ++ e 4100 3 ∷ []) ++ fragment 2 1 (a 8200 4 0 3 0 0x1000 0xff ∷ d 8210 1 0 3 0 0 false ∷ []))
    ≡ row 0 2 2 rule.S2 ∷ [])

-- What is found in replies to requests of each kind: Get, both Puts and Arithmetic; Logical, Intent, both Acquires.
abbrev pub ReplyRows : Type 0
ReplyRows =
    -- Each has its own reply.
    (found (answered 1 0 0 1 1 2 4 4) ≡ [])
    -- AccessAck to all but the Puts, and AccessAckData to these.
    × (found (answered 0 1 1 0 0 0 0 0)
    ≡ row 0 2 2 rule.S3 ∷ row 0 2 3 rule.S3 ∷ row 0 2 4 rule.S3 ∷ row 0 2 5 rule.S3 ∷ row 1 2 2 rule.S3 ∷ row 1 2 3 rule.S3 ∷ row 1 2 4 rule.S3 ∷
    row 1 2 5 rule.S3 ∷ [])
    -- HintAck to all but Intent, and AccessAckData to this.
    × (found (answered 2 2 2 2 2 1 2 2)
    ≡ row 0 2 2 rule.S3 ∷ row 0 2 3 rule.S3 ∷ row 0 2 4 rule.S3 ∷ row 0 2 5 rule.S3 ∷ row 1 2 2 rule.S3 ∷ row 1 2 3 rule.S3 ∷ row 1 2 4 rule.S3 ∷
    row 1 2 5 rule.S3 ∷ [])
    -- Grant to all; to an access it has another size than the block, too.
    × (found (answered 4 4 4 4 4 4 4 4)
    ≡ row 0 2 2 rule.F8 ∷ row 0 2 2 rule.S3 ∷ row 0 2 3 rule.F8 ∷ row 0 2 3 rule.S3 ∷ row 0 2 4 rule.F8 ∷ row 0 2 4 rule.S3 ∷ row 0 2 5 rule.F8 ∷
    row 0 2 5 rule.S3 ∷ row 1 2 2 rule.F8 ∷ row 1 2 2 rule.S3 ∷ row 1 2 3 rule.F8 ∷ row 1 2 3 rule.S3 ∷ [])

-- What is found in claims beyond a bound.
abbrev pub BoundRows : Type 0
BoundRows =
    -- A whole Acquire.
    (found (fragment 0 1 (a 4000 6 0 6 0 0x1000 0xff ∷ grant 4092 1 3 ++ e 4100 3 ∷ [])) ≡ [])
    -- A reader becomes the writer.
    × (found (fragment 0 1 (shared ++ a 40 7 2 6 0 0x1000 0xff ∷ d 50 4 0 6 0 1 false ∷ e 60 1 ∷ [])) ≡ [])
    -- Claiming less than was granted is lawful, and a denied Grant gives nothing.
    × (found (fragment 0 1 (owned ++ a 40 6 0 6 0 0x1000 0xff ∷ d 50 4 1 6 0 1 true ∷ e 60 1 ∷ a 70 7 2 6 0 0x1000 0xff ∷ [])) ≡ row 0 1 15 rule.P1 ∷ [])
    -- A Release of what was never held.
    × (found (fragment 0 1 (c 10 6 1 6 0 0x1000 ∷ [])) ≡ row 0 1 2 rule.P2 ∷ [])
    -- A reader releases as a writer.
    × (found (fragment 0 1 (shared ++ c 40 6 3 6 0 0x1000 ∷ [])) ≡ row 0 1 5 rule.P2 ∷ [])
    -- A reader releases from B to N, and has nothing left to release.
    × (found (fragment 0 1 (shared ++ c 40 6 2 6 0 0x1000 ∷ d 50 6 0 6 0 0 false ∷ c 60 6 2 6 0 0x1000 ∷ [])) ≡ row 0 1 7 rule.P2 ∷ [])
    -- A reader answers a Probe from B to N, and then another.
    × (found (fragment 0 1 (shared ++ b 40 6 2 6 0 0x1000 0xff ∷ c 50 4 2 6 0 0x1000 ∷ b 60 6 2 6 0 0x1000 0xff ∷ c 70 4 2 6 0 0x1000 ∷ []))
    ≡ row 0 1 8 rule.P2 ∷ [])
    -- A Grant that is no reply to its Acquire sets the bound.
    × (found (fragment 0 1 (a 10 7 1 6 0 0x1000 0xff ∷ grant 20 0 1 ++ e 30 1 ∷ c 40 6 1 6 0 0x1000 ∷ [])) ≡ row 0 1 3 rule.S3 ∷ [])
    -- An Acquire with an unlawful param claims nothing and has a block.
    × (found (fragment 0 1 (a 10 6 5 6 0 0x1000 0xff ∷ grant 20 0 1 ++ e 30 1 ∷ c 40 6 1 6 0 0x1000 ∷ [])) ≡ row 0 1 2 rule.F2 ∷ [])
    -- A Release of a part of a block is of the block.
    × (found (fragment 0 1 (owned ++ c 40 6 1 5 0 0x1020 ∷ [])) ≡ row 0 1 12 rule.F8 ∷ [])
    -- A Release to N leaves nothing to release.
    × (found (fragment 0 1 (owned ++ c 40 6 1 6 1 0x1000 ∷ d 50 6 0 6 1 0 false ∷ c 60 6 1 6 1 0x1000 ∷ [])) ≡ row 0 1 14 rule.P2 ∷ [])
    -- What is held of one block is not held of another.
    × (found (fragment 0 1 (owned ++ c 40 6 1 6 1 0x1040 ∷ [])) ≡ row 0 1 12 rule.P2 ∷ [])
    -- A ProbeAck of what was never held.
    × (found (fragment 0 1 (b 10 6 2 6 0 0x1000 0xff ∷ c 20 4 1 6 0 0x1000 ∷ [])) ≡ row 0 1 3 rule.P2 ∷ [])
    -- A ReleaseData has its ReleaseAck and leaves what it says.
    × (found (fragment 0 1 (owned ++ burst 8 40 (λ cycle. c cycle 7 1 6 1 0x1000) ++ d 50 6 0 6 1 0 false ∷ c 60 6 1 6 1 0x1000 ∷ []))
    ≡ row 0 1 21 rule.P2 ∷ [])

-- What is found in claims on a strict link, number 0, and on one beside it that isn't, number 1.
abbrev pub StrictRows : Type 0
StrictRows =
    -- An Acquire claims less than was granted, and after a denied Grant one claims more than that.
    (found_strict (fragment 0 1 (owned ++ a 40 6 0 6 0 0x1000 0xff ∷ d 50 4 1 6 0 1 true ∷ e 60 1 ∷ a 70 7 2 6 0 0x1000 0xff ∷ []))
    ≡ row 0 1 12 rule.P1 ∷ row 0 1 15 rule.P1 ∷ [])
    -- The same on the other link: a block may be dropped in silence.
    × (found_strict (fragment 1 1 (owned ++ a 40 6 0 6 0 0x1000 0xff ∷ d 50 4 1 6 0 1 true ∷ e 60 1 ∷ a 70 7 2 6 0 0x1000 0xff ∷ [])) ≡ row 1 1 15 rule.P1 ∷ [])
    -- A writer acquires as a reader.
    × (found_strict (fragment 0 1 (owned ++ a 40 7 2 6 0 0x1000 0xff ∷ [])) ≡ row 0 1 12 rule.P1 ∷ [])
    × (found_strict (fragment 1 1 (owned ++ a 40 7 2 6 0 0x1000 0xff ∷ [])) ≡ [])
    -- A writer releases as a reader.
    × (found_strict (fragment 0 1 (owned ++ c 40 6 2 6 0 0x1000 ∷ [])) ≡ row 0 1 12 rule.P2 ∷ [])
    × (found_strict (fragment 1 1 (owned ++ c 40 6 2 6 0 0x1000 ∷ [])) ≡ [])
    -- A reader answers a Probe as if it held nothing.
    × (found_strict (fragment 0 1 (shared ++ b 40 6 2 6 0 0x1000 0xff ∷ c 50 4 5 6 0 0x1000 ∷ [])) ≡ row 0 1 6 rule.P2 ∷ [])
    × (found_strict (fragment 1 1 (shared ++ b 40 6 2 6 0 0x1000 0xff ∷ c 50 4 5 6 0 0x1000 ∷ [])) ≡ [])
    -- Claims of what is held: a reader becomes the writer, keeps it in a report, is probed to B and releases that.
    × (found_strict (fragment 0 1 (shared ++ a 40 7 2 6 0 0x1000 0xff ∷ d 50 4 0 6 0 1 false ∷ e 60 1 ∷ c 70 6 3 6 0 0x1000 ∷ d 80 6 0 6 0 0 false ∷
    b 90 6 1 6 0 0x1000 0xff ∷ c 100 4 0 6 0 0x1000 ∷ c 110 6 2 6 0 0x1000 ∷ d 120 6 0 6 0 0 false ∷ [])) ≡ [])
    -- Claims of more than is held: an Acquire, a Release, and a ProbeAck.
    × (found_strict (fragment 0 1 (a 10 7 2 6 0 0x2000 0xff ∷ c 20 6 1 6 0 0x1000 ∷ b 30 6 2 6 0 0x1040 0xff ∷ c 40 4 1 6 0 0x1040 ∷ []))
    ≡ row 0 1 2 rule.P1 ∷ row 0 1 3 rule.P2 ∷ row 0 1 5 rule.P2 ∷ [])
    -- A wrong claim still sets the bound: after a Release to N nothing is held.
    × (found_strict (fragment 0 1 (owned ++ c 40 6 2 6 0 0x1000 ∷ d 50 6 0 6 0 0 false ∷ c 60 6 5 6 0 0x1000 ∷ [])) ≡ row 0 1 12 rule.P2 ∷ [])
    -- An unlawful param claims nothing.
    × (found_strict (fragment 0 1 (owned ++ a 40 6 5 6 0 0x1000 0xff ∷ [])) ≡ row 0 1 12 rule.F2 ∷ [])
    -- A block that the other client holds is not this one's.
    × (found_strict (fragment 1 1 owned ++ fragment 0 1 (c 40 6 5 6 0 0x1000 ∷ [])) ≡ [])

-- What is found where two operations of a client are open on one block.
abbrev pub ConcurrencyRows : Type 0
ConcurrencyRows =
    -- A Probe is answered after the ReleaseAck.
    (found (fragment 0 1 (owned ++ c 40 6 1 6 1 0x1000 ∷ b 42 6 2 6 0 0x1000 0xff ∷ d 50 6 0 6 1 0 false ∷ c 60 4 5 6 0 0x1000 ∷ [])) ≡ [])
    -- A Probe is answered before the ReleaseAck.
    × (found (fragment 0 1 (owned ++ c 40 6 1 6 1 0x1000 ∷ b 42 6 2 6 0 0x1000 0xff ∷ c 45 4 5 6 0 0x1000 ∷ d 50 6 0 6 1 0 false ∷ []))
    ≡ row 0 1 14 rule.P8 ∷ [])
    -- An answer to no Probe.
    × (found (fragment 0 1 (c 10 4 5 6 0 0x1000 ∷ [])) ≡ row 0 1 2 rule.P3 ∷ [])
    -- An answer that keeps more than the Probe allows.
    × (found (fragment 0 1 (owned ++ b 40 6 2 6 0 0x1000 0xff ∷ c 50 4 4 6 0 0x1000 ∷ [])) ≡ row 0 1 13 rule.P4 ∷ [])
    -- A Release keeps more than an open Probe allows, and an Acquire asks for more; neither answers it.
    × (found (fragment 0 1 (owned ++ b 40 6 2 6 0 0x1000 0xff ∷ c 42 6 0 6 1 0x1000 ∷ d 50 6 0 6 1 0 false ∷ a 60 6 1 6 0 0x1000 0xff ∷ [])) ≡ [])
    -- Two Probes of one block.
    × (found (fragment 0 1 (owned ++ b 40 6 2 6 0 0x1000 0xff ∷ b 41 6 2 6 0 0x1000 0xff ∷ c 50 4 1 6 0 0x1000 ∷ [])) ≡ row 0 1 13 rule.P5 ∷ [])
    -- Two Acquires of one block.
    × (found (fragment 0 1 (a 10 6 1 6 0 0x1000 0xff ∷ a 11 6 1 6 1 0x1000 0xff ∷ [])) ≡ row 0 1 3 rule.P6 ∷ [])
    -- An Acquire on the source of an open one.
    × (found (fragment 0 1 (a 10 6 1 6 0 0x1000 0xff ∷ a 11 6 1 6 0 0x1000 0xff ∷ [])) ≡ row 0 1 3 rule.S1 ∷ row 0 1 3 rule.P6 ∷ [])
    -- A Release of a block that is being acquired.
    × (found (fragment 0 1 (a 10 6 1 6 0 0x1000 0xff ∷ c 11 6 5 6 0 0x1000 ∷ [])) ≡ row 0 1 3 rule.P7 ∷ [])
    -- Two Releases of one block.
    × (found (fragment 0 1 (c 10 6 5 6 0 0x1000 ∷ c 11 6 5 6 1 0x1000 ∷ [])) ≡ row 0 1 3 rule.P8 ∷ [])
    -- An Acquire while a Release of its block is open.
    × (found (fragment 0 1 (owned ++ c 40 6 1 6 1 0x1000 ∷ a 42 6 1 6 0 0x1000 0xff ∷ [])) ≡ row 0 1 13 rule.P8 ∷ [])
    -- A Probe with an unlawful param opens and limits nothing.
    × (found (fragment 0 1 (owned ++ b 40 6 3 6 0 0x1000 0xff ∷ c 50 4 3 6 0 0x1000 ∷ [])) ≡ row 0 1 12 rule.F2 ∷ [])
    -- A Get of the block is no Acquire of it.
    × (found (fragment 0 1 (a 10 4 0 6 0 0x1000 0xff ∷ a 11 6 1 6 1 0x1000 0xff ∷ c 12 6 5 6 0 0x1040 ∷ [])) ≡ [])
    -- Two ProbePerms of one block, and one of another.
    × (found (fragment 0 1 (b 10 7 2 6 0 0x1000 0xff ∷ b 11 7 2 6 0 0x1000 0xff ∷ b 12 7 2 6 0 0x1040 0xff ∷ [])) ≡ row 0 1 3 rule.P5 ∷ [])
    -- A ProbeAckData answers its Probe and leaves what it says.
    × (found (fragment 0 1 (owned ++ b 40 6 1 6 0 0x1000 0xff ∷ burst 8 50 (λ cycle. c cycle 5 0 6 0 0x1000) ++ b 70 6 2 6 0 0x1000 0xff ∷ c 80 4 1 6 0 0x1000 ∷ []))
    ≡ row 0 1 22 rule.P2 ∷ [])

-- What is found between clients.
abbrev pub ManagerRows : Type 0
ManagerRows =
    -- A block is granted to share while another client holds it to write.
    (found (fragment 1 1 (a 100 6 1 6 0 0x1000 0xff ∷ grant 110 0 1 ++ e 120 1 ∷ []) ++ fragment 0 1 (a 4000 6 0 6 0 0x1000 0xff ∷ [])
    ++ fragment 0 2 (grant 4092 1 3 ++ e 4100 3 ∷ [])) ≡ row 0 2 2 rule.M1 ∷ [])
    -- A Grant without its request.
    × (found (fragment 1 1 (a 100 6 1 6 0 0x1000 0xff ∷ grant 110 0 1 ++ e 120 1 ∷ []) ++ fragment 0 2 (grant 4092 1 3 ++ e 4100 3 ∷ []))
    ≡ row 0 2 2 rule.S2 ∷ [])
    -- A block is granted to write to two clients.
    × (found (fragment 0 1 owned ++ fragment 1 1 (a 100 6 1 6 0 0x1000 0xff ∷ grant 200 0 2 ++ e 210 2 ∷ [])) ≡ row 1 1 3 rule.M1 ∷ [])
    -- The same in one cycle, where the lower link's Grant comes first.
    × (found (fragment 0 1 (a 10 6 1 6 0 0x1000 0xff ∷ d 20 4 0 6 0 1 false ∷ []) ++ fragment 1 1 (a 10 6 1 6 0 0x1000 0xff ∷ d 20 4 0 6 0 1 false ∷ []))
    ≡ row 1 1 3 rule.M1 ∷ [])
    -- A Grant in the cycle of the other client's ProbeAck, which comes first: C before D.
    × (found (fragment 0 1 (a 100 6 1 6 0 0x1000 0xff ∷ d 120 4 0 6 0 1 false ∷ [])
    ++ fragment 1 1 (owned ++ b 110 6 2 6 0 0x1000 0xff ∷ c 120 4 1 6 0 0x1000 ∷ [])) ≡ [])
    -- A block is granted to write to two clients, with a Probe of the first between.
    × (found (fragment 0 1 owned ++ fragment 1 1 (a 100 6 1 6 0 0x1000 0xff ∷ grant 200 0 2 ++ e 210 2 ∷ [])
    ++ fragment 0 2 (b 110 6 2 6 0 0x1000 0xff ∷ c 120 4 1 6 0 0x1000 ∷ [])) ≡ [])
    -- Two readers, then a writer.
    × (found (fragment 1 1 shared
    ++ fragment 0 1 (a 100 7 0 6 0 0x1000 0xff ∷ d 110 4 1 6 0 1 false ∷ e 120 1 ∷ a 130 7 2 6 0 0x1000 0xff ∷ d 140 4 0 6 0 1 false ∷ e 150 1 ∷ []))
    ≡ row 0 1 6 rule.M1 ∷ [])
    -- An Acquire that claims B beside a writer.
    × (found (fragment 1 1 owned ++ fragment 0 1 (a 100 7 2 6 0 0x1000 0xff ∷ [])) ≡ row 0 1 2 rule.P1 ∷ [])
    -- A Grant toN beside a writer.
    × (found (fragment 1 1 owned ++ fragment 0 1 (a 100 7 1 6 0 0x1000 0xff ∷ d 110 4 2 6 0 1 false ∷ e 120 1 ∷ [])) ≡ [])
    -- A Grant of a block that is being probed.
    × (found (fragment 0 1 (a 10 6 1 6 0 0x1000 0xff ∷ b 15 6 2 6 0 0x1000 0xff ∷ grant 20 0 1 ++ c 30 4 5 6 0 0x1000 ∷ e 40 1 ∷ []))
    ≡ row 0 1 4 rule.M2 ∷ [])
    -- A Probe of a block whose Grant is open.
    × (found (fragment 0 1 (a 10 6 1 6 0 0x1000 0xff ∷ grant 20 0 1 ++ b 28 6 2 6 0 0x1000 0xff ∷ [])) ≡ row 0 1 11 rule.M3 ∷ [])
    -- A denied Grant meets an open Probe, and a Probe meets it.
    × (found (fragment 0 1 (a 10 6 1 6 0 0x1000 0xff ∷ b 15 6 2 6 0 0x1000 0xff ∷ d 20 4 0 6 0 1 true ∷ b 25 6 2 6 0 0x1000 0xff ∷ []))
    ≡ row 0 1 4 rule.M2 ∷ row 0 1 5 rule.P5 ∷ row 0 1 5 rule.M3 ∷ [])
    -- A Grant while another client is probed, and a Probe while another's Grant is open.
    × (found (fragment 0 1 (a 10 7 0 6 0 0x1000 0xff ∷ d 20 4 1 6 0 1 false ∷ [])
    ++ fragment 1 1 (b 15 6 2 6 0 0x1000 0xff ∷ c 22 4 5 6 0 0x1000 ∷ b 25 6 2 6 0 0x1000 0xff ∷ [])) ≡ row 0 1 3 rule.M2 ∷ row 1 1 4 rule.M3 ∷ [])
    -- A Probe and a Grant of different blocks.
    × (found (fragment 0 1 (a 10 7 1 6 0 0x1000 0xff ∷ b 15 6 2 6 0 0x1040 0xff ∷ d 20 4 0 6 0 1 false ∷ b 25 6 2 6 0 0x1080 0xff ∷ [])) ≡ [])
    -- A Grant that answers a Get has no block, so a Probe doesn't meet it.
    × (found (fragment 1 1 owned ++ fragment 0 1 (a 100 4 0 6 0 0x1000 0xff ∷ d 110 4 0 6 0 1 false ∷ b 120 6 2 6 0 0x1000 0xff ∷ []))
    ≡ row 0 1 3 rule.S3 ∷ [])
