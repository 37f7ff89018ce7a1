-- Captures of a watched link with all that its watch flags, and nothing else. Each expected line was worked out by hand.
use Rattle.std.specs.Prelude.{ℕ, ◌≡◌, ◌==◌, false, List, [], ◌∷◌, ◌++◌, Some, map, filter}
use Rattle.tl_tables.specs.declared.Chan.{Chan}
use Rattle.tl_tables.specs.declared.Chan.TheVariants as chan
use Rattle.tl_tables.specs.declared.Rule.TheVariants as rule
use Rattle.tl_beats.specs.declared.Placed.{Placed}
use Rattle.tl_beats.specs.declared.watch.Class.{Class}
use Rattle.tl_beats.specs.declared.watch.Watch.{Watch}
use Rattle.tl_beats.specs.declared.watch.Watch.TheVariants as watch
use Rattle.tl_definitions.specs.Positions.{in_order}
use Rattle.tl_definitions.specs.Watching.{flags_in}
use Rattle.tl_definitions.specs.Written.{a, c, d, e, burst, fragment, Line, line_of, row}

abbrev pub class : Chan → ℕ → Class
class channel opcode = record { chan = channel; opcode = opcode }

abbrev pub budget : Chan → ℕ → ℕ → Watch
budget channel opcode limit = watch.Budget [] (class channel opcode) limit

abbrev pub after : Chan → ℕ → Chan → ℕ → Watch
after one opcode two other = watch.After [] (class one opcode) (class two other)

-- What the watch of monitor 5 flags on a link of a capture.
abbrev pub flagged : ℕ → Watch → List Placed → List Line
flagged link w beats = map line_of (flags_in 5 w (filter (λ p. p.link == link) (in_order beats)))

abbrev pub flag : ℕ → Line
flag line = row 2 1 line rule.X1

-- What watches flag.
abbrev pub WatchRows : Type 0
WatchRows =
    -- Two Gets, each after the other: the second alone.
    (flagged 2 (after chan.A 4 chan.A 4) (fragment 2 1 (a 10 4 0 3 0 0x1000 0xff ∷ a 20 4 0 3 1 0x1000 0xff ∷ [])) ≡ flag 3 ∷ [])
    -- A beat of both classes begins, and each later one is flagged.
    × (flagged 2 (after chan.A 4 chan.A 4) (fragment 2 1 (a 10 4 0 3 0 0x1000 0xff ∷ a 20 4 0 3 1 0x1000 0xff ∷ a 30 4 0 3 0 0x1000 0xff ∷ []))
    ≡ flag 3 ∷ flag 4 ∷ [])
    -- A Get before the first Put is let through, one after it is not.
    × (flagged 2 (after chan.A 0 chan.A 4) (fragment 2 1 (a 10 4 0 3 0 0x1000 0xff ∷ a 20 0 0 3 1 0x1000 0xff ∷ a 30 4 0 3 0 0x1000 0xff ∷ [])) ≡ flag 4 ∷ [])
    -- In one cycle A stands before D.
    × (flagged 2 (after chan.A 4 chan.D 1) (fragment 2 1 (a 10 4 0 3 0 0x1000 0xff ∷ d 10 1 0 3 0 0 false ∷ [])) ≡ flag 3 ∷ [])
    -- A limit of 0 flags every beat of the class, and no other.
    × (flagged 2 (budget chan.A 4 0) (fragment 2 1 (a 10 4 0 3 0 0x1000 0xff ∷ a 20 0 0 3 1 0x1000 0xff ∷ a 30 4 0 3 0 0x1000 0xff ∷ [])) ≡ flag 2 ∷ flag 4 ∷ [])
    -- A limit of 1 lets the first through.
    × (flagged 2 (budget chan.A 4 1) (fragment 2 1 (a 10 4 0 3 0 0x1000 0xff ∷ a 20 0 0 3 1 0x1000 0xff ∷ a 30 4 0 3 0 0x1000 0xff ∷ [])) ≡ flag 4 ∷ [])
    -- The greatest limit.
    × (flagged 2 (budget chan.A 4 4294967295) (fragment 2 1 (a 10 4 0 3 0 0x1000 0xff ∷ a 20 4 0 3 1 0x1000 0xff ∷ [])) ≡ [])
    -- The later beats of a burst count.
    × (flagged 0 (budget chan.A 0 6) (fragment 0 1 (burst 8 20 (λ cycle. a cycle 0 0 6 0 0x1000 0xff))) ≡ row 0 1 8 rule.X1 ∷ row 0 1 9 rule.X1 ∷ [])
    -- So does a beat whose opcode is no message of its link.
    × (flagged 2 (budget chan.A 6 0) (fragment 2 1 (a 10 6 0 3 0 0x1000 0xff ∷ [])) ≡ flag 2 ∷ [])
    -- Beats on E have opcode 0.
    × (flagged 0 (budget chan.E 0 0) (fragment 0 1 (e 10 1 ∷ [])) ≡ row 0 1 2 rule.X1 ∷ [])
    × (flagged 0 (budget chan.E 4 0) (fragment 0 1 (e 10 1 ∷ [])) ≡ [])
    -- The same opcode on another channel.
    × (flagged 0 (budget chan.A 4 0) (fragment 0 1 (c 10 4 5 6 0 0x1000 ∷ [])) ≡ [])
    -- A link without beats beside one with.
    × (flagged 1 (budget chan.A 4 0) (fragment 2 1 (a 10 4 0 3 0 0x1000 0xff ∷ [])) ≡ [])
    -- Beats of another link do not count.
    × (flagged 2 (budget chan.A 4 1) (fragment 0 1 (a 10 4 0 3 0 0x1000 0xff ∷ []) ++ fragment 2 1 (a 20 4 0 3 1 0x1000 0xff ∷ [])) ≡ [])
    -- A row names its monitor.
    × (flags_in 5 (budget chan.A 4 0) (fragment 2 1 (a 10 4 0 3 0 0x1000 0xff ∷ []))
    ≡ record { link = 2; cycle = 10; chan = chan.A; rule = rule.X1; monitor = Some 5; fragment = 1; line = 2 } ∷ [])
