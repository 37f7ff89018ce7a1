-- The rules in the order of reports, with their names and lines.
use Rattle.std.specs.Prelude.{ℕ, ◌+◌, List, [], ◌∷◌, codes}
use denote.Enum.Declared.{tag_of}
use Rattle.tl_tables.specs.contracts.Rule.{the_type}
use Rattle.tl_tables.specs.declared.Rule.{Rule}
use Rattle.tl_tables.specs.declared.Rule.TheVariants as rule

-- What a report calls a rule; and what is so where it is broken, as its entry in docs/RULES.md is headed.
abbrev pub entry_of : Rule → List ℕ × List ℕ
entry_of rule.F1 = (codes "F1", codes "the opcode is no message here")
entry_of rule.F2 = (codes "F2", codes "the param is not lawful")
entry_of rule.F3 = (codes "F3", codes "the address is not aligned")
entry_of rule.F4 = (codes "F4", codes "the size is above the link's largest")
entry_of rule.F5 = (codes "F5", codes "the mask is not that of the active lanes")
entry_of rule.F6 = (codes "F6", codes "corrupt on a message without data")
entry_of rule.F7 = (codes "F7", codes "denied data that is not corrupt")
entry_of rule.F8 = (codes "F8", codes "the size is not the block")
entry_of rule.F9 = (codes "F9", codes "the source is not one of the link's")
entry_of rule.F10 = (codes "F10", codes "no region permits the access")
entry_of rule.U1 = (codes "U1", codes "a later beat differs from its head")
entry_of rule.S1 = (codes "S1", codes "the source is in flight")
entry_of rule.S2 = (codes "S2", codes "a reply without a request")
entry_of rule.S3 = (codes "S3", codes "a reply of another kind")
entry_of rule.S4 = (codes "S4", codes "a reply of another size")
entry_of rule.S5 = (codes "S5", codes "a ReleaseAck without a Release")
entry_of rule.S6 = (codes "S6", codes "the source of a Release is in flight")
entry_of rule.S7 = (codes "S7", codes "a ReleaseAck of another size")
entry_of rule.S8 = (codes "S8", codes "the sink is in use")
entry_of rule.S9 = (codes "S9", codes "a GrantAck without a Grant")
entry_of rule.P1 = (codes "P1", codes "an Acquire grows from more than is held")
entry_of rule.P2 = (codes "P2", codes "a ProbeAck or Release of more than is held")
entry_of rule.P3 = (codes "P3", codes "a ProbeAck without a Probe")
entry_of rule.P4 = (codes "P4", codes "a ProbeAck keeps more than the cap")
entry_of rule.P5 = (codes "P5", codes "a second Probe of a block")
entry_of rule.P6 = (codes "P6", codes "a second Acquire of a block")
entry_of rule.P7 = (codes "P7", codes "a Release of a block that is being acquired")
entry_of rule.P8 = (codes "P8", codes "a Release of the block is open")
entry_of rule.M1 = (codes "M1", codes "a Grant beside another holder")
entry_of rule.M2 = (codes "M2", codes "a Grant while a Probe is open")
entry_of rule.M3 = (codes "M3", codes "a Probe while a Grant is open")
entry_of rule.X1 = (codes "X1", codes "a monitor flags the beat")

abbrev pub rule_text_of : Rule → List ℕ
rule_text_of broken = (entry_of broken).0

abbrev pub rule_line_of : Rule → List ℕ
rule_line_of broken = (entry_of broken).1

-- All rules, in the order of reports.
abbrev pub all_rules : List Rule
all_rules = rule.F1 ∷ rule.F2 ∷ rule.F3 ∷ rule.F4 ∷ rule.F5 ∷ rule.F6 ∷ rule.F7 ∷ rule.F8 ∷ rule.F9 ∷ rule.F10 ∷ rule.U1 ∷ rule.S1 ∷ rule.S2 ∷ rule.S3 ∷ rule.S4 ∷ rule.S5
    ∷ rule.S6 ∷ rule.S7 ∷ rule.S8 ∷ rule.S9 ∷ rule.P1 ∷ rule.P2 ∷ rule.P3 ∷ rule.P4 ∷ rule.P5 ∷ rule.P6 ∷ rule.P7 ∷ rule.P8 ∷ rule.M1 ∷ rule.M2 ∷ rule.M3 ∷ rule.X1 ∷ []

-- The place of a rule among the rules, from 1.
abbrev pub rule_number : Rule → ℕ
rule_number broken = tag_of the_type broken + 1
