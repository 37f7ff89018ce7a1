-- Reading waivers from the first line on, up to the first fault.
use Rattle.std.specs.Prelude.{ℕ, ◌+◌, ◌-◌, ◌^◌, ◌==◌, Bool, true, false, List, [], ◌∷◌, ◌++◌, codes, length, Option, Some, None, Result, Ok, nat_le, if◌then◌else◌}
use Rattle.std.specs.Option.{option_to_list}
use Rattle.std.specs.Str.{bytes_eq}
use Rattle.tl_text.specs.Words.{◌>>=◌, word_at}
use Rattle.tl_text.specs.Numbers.{number_at}
use Rattle.tl_text.specs.Readings.{◌>>>◌, or_fault}
use Rattle.tl_tables.specs.declared.Rule.{Rule}
use Rattle.tl_text.specs.Naming.{name_at}
use Rattle.tl_topology.specs.Topology.{Topology, number_of_name}
use Rattle.tl_rows.specs.declared.cycles.Cycles.{Cycles}
use Rattle.tl_rows.specs.Choice.{named_rule}
use Rattle.tl_formats.specs.declared.pick.Waiver.{Waiver}
use Rattle.tl_formats.specs.declared.waiver_fault.WaiverFault.{WaiverFault}
use Rattle.tl_formats.specs.declared.waiver_fault.WaiverFault.TheVariants as fault

abbrev pub is_memory : WaiverFault → Bool
is_memory fault.Memory = true
is_memory _ = false

-- ---- words

-- a rule, or any for '*'
unfoldable pub rule_at : List ℕ → Option (Option Rule)
rule_at word = if bytes_eq word (codes "*") then Some None else (named_rule word >>= λ found. Some (Some found))

-- the number of a link, or any for '*'
unfoldable pub link_at : Topology → List ℕ → Option (Option ℕ)
link_at topo word = if bytes_eq word (codes "*") then Some None else (name_at word >>= λ name. number_of_name topo.links name >>= λ number. Some (Some number))

-- two cycles, of which the first is not above the last
unfoldable pub cycles_at : List ℕ → List ℕ → Option Cycles
cycles_at first last = do
  from ← number_at 10 (2 ^ 64 - 1) first
  to ← number_at 10 (2 ^ 64 - 1) last
  if nat_le from to then Some (record { first = from; last = to }) else None

-- ---- a line

-- it says nothing of rows: it is empty, or begins with '#'
abbrev pub is_remark : List ℕ → Bool
is_remark [] = true
is_remark (b ∷ bytes) = b == 35

-- a word that a reason stands after
unfoldable pub reasoned_at : List ℕ → Option (List ℕ)
reasoned_at words = word_at words >>= λ last. if length last.1 == 0 then None else Some last.0

-- its four words, where a reason stands after them
unfoldable pub columns_at : List ℕ → Option (List ℕ × List ℕ × List ℕ × List ℕ)
columns_at line = do
  broken ← word_at line
  link ← word_at broken.1
  first ← word_at link.1
  last ← reasoned_at first.1
  Some (broken.0, link.0, first.0, last)

-- the waiver of line n
unfoldable pub waiver_at : Topology → List ℕ → ℕ → Result Waiver WaiverFault
waiver_at topo line n =
    or_fault (columns_at line) (fault.BadLine n) >>> λ columns.
    or_fault (rule_at columns.0) (fault.NoRule n) >>> λ broken.
    or_fault (link_at topo columns.1) (fault.NoLink n) >>> λ link.
    or_fault (cycles_at columns.2 columns.3) (fault.BadCycles n) >>> λ cycles.
    Ok (record { line = n; rule = broken; link = link; cycles = cycles })

-- the same, if it is no remark
abbrev pub line_waiver : Topology → List ℕ → ℕ → Result (Option Waiver) WaiverFault
line_waiver topo line n = if is_remark line then Ok None else (waiver_at topo line n >>> λ waiver. Ok (Some waiver))

-- ---- lines

-- those of the lines from line n on, after others; the last piece of a text is after its last newline, and no line
unfoldable pub waivers_from : Topology → List Waiver → ℕ → List (List ℕ) → Result (List Waiver) WaiverFault
waivers_from topo done n [] = Ok done
waivers_from topo done n (line ∷ []) = Ok done
waivers_from topo done n (line ∷ next ∷ lines) = line_waiver topo line n >>> λ found. waivers_from topo (done ++ option_to_list found) (n + 1) (next ∷ lines)

abbrev pub waivers_in : Topology → List (List ℕ) → Result (List Waiver) WaiverFault
waivers_in topo lines = waivers_from topo [] 1 lines
