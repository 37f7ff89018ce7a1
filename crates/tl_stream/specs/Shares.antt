-- Which fragments of an input are passed over, where not all managers are checked. Of these the numbers are given; None are all.
use Rattle.std.specs.Prelude.{◌≡◌, ℕ, ◌+◌, ◌==◌, not, Bool, false, List, [], ◌∷◌, Option, Some, None, Result, Ok, Err, codes, length, option_map, slice_get, if◌then◌else◌}
use Rattle.std.specs.Option.{option_map_or, option_and_then}
use Rattle.std.specs.List.{list_any}
use Rattle.std.specs.Str.{bytes_eq}
use Rattle.tl_text.specs.Words.{◌>>=◌, first_line}
use Rattle.tl_topology.specs.Topology.{Topology, number_of_name}
use Rattle.tl_topology.specs.declared.LinkDecl.{LinkDecl}
use Rattle.tl_beats.specs.declared.fault.FragmentFault.{FragmentFault}
use Rattle.tl_beats.specs.Fragments.{Frag}
use Rattle.tl_beats.specs.Reading.{header_at}
use Rattle.tl_stream.specs.declared.share.Passed.{Passed}

-- The name is that of a link of a manager that is none of these.
abbrev pub is_of_others : Topology → List ℕ → List ℕ → Bool
is_of_others topo managers name =
    option_map_or (λ (entry : List ℕ × LinkDecl). not (list_any (λ manager. manager == entry.1.manager) managers)) (option_and_then (slice_get topo.links) (number_of_name topo.links name)) false

-- A share of some managers leaves out the links of all others; a share of all leaves out none.
abbrev pub leaves : Topology → Option (List ℕ) → List ℕ → Bool
leaves topo None name = false
leaves topo (Some managers) name = is_of_others topo managers name

-- The last cycle of the range of the fragment whose first line this is, where its link is left out.
unfoldable pub left_at : Topology → Option (List ℕ) → List ℕ → Option ℕ
left_at topo managers line = header_at line >>= λ header. if leaves topo managers header.link then Some header.last else None

-- The same of a fragment that was read.
abbrev pub left_in : Topology → Option (List ℕ) → Result (Frag × List (List ℕ)) FragmentFault → Option ℕ
left_in topo managers (Ok read) = if leaves topo managers read.0.link then Some read.0.last else None
left_in topo managers (Err fault) = None

-- The lines of a fragment with this first line and no beats.
abbrev pub without_beats : List ℕ → List (List ℕ)
without_beats line = line ∷ codes "end" ∷ [] ∷ []

-- How many lines and bytes there are up to the first line `end` that a newline ends, and with it, after so many before.
unfoldable pub end_from : ℕ → ℕ → List (List ℕ) → Option (ℕ × ℕ)
end_from lines bytes [] = None
end_from lines bytes (line ∷ []) = None
end_from lines bytes (line ∷ next ∷ rest) = if bytes_eq line (codes "end") then Some (lines + 1, bytes + (length line + 1))
    else end_from (lines + 1) (bytes + (length line + 1)) (next ∷ rest)

-- The fragment at the front that is passed over: the first line is the header of one of a link that is left out, and its end follows.
unfoldable pub passed_over : Topology → Option (List ℕ) → List (List ℕ) → Option Passed
passed_over topo managers lines = do
  first ← first_line lines
  last ← left_at topo managers first.0
  end ← end_from 0 0 lines
  Some (record { last = last; lines = end.0; bytes = end.1 })

-- What is told of this fragment: its last cycle and how many lines it has, where its link is left out; else nothing.
abbrev pub TellsOf : Topology → Option (List ℕ) → Frag → Option Passed → Type 0
TellsOf topo managers f found = option_map {U = ℕ × ℕ} (λ passed. (passed.last, passed.lines)) found ≡ (if leaves topo managers f.link then Some (f.last, length f.beats + 2) else None)
