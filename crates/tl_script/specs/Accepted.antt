-- The accepted edits of a script.
use Rattle.std.specs.Prelude.{List, [], ◌∷◌, ◌++◌, length}
use Rattle.std.specs.Option.{option_map_or}
use Rattle.tl_topology.specs.Topology.{Topology}
use Rattle.tl_edits.specs.Edits.{AnEdit}
use Rattle.tl_edits.specs.Inputs.{refusal}
use Rattle.tl_edits.specs.Log.{inputs_after}
use Rattle.tl_script.specs.Asked.{Asking, an_edit, no_fragment, a_report, asked}
use Rattle.tl_script.specs.declared.command.Command.{Command}

-- the accepted edits after one command, and after several
abbrev pub edits_with : Topology → List AnEdit → Asking → List AnEdit
edits_with topo edits (an_edit e) = option_map_or (λ why. edits) (refusal (length edits) (inputs_after topo edits) e) (edits ++ e ∷ [])
edits_with topo edits (no_fragment fault) = edits
edits_with topo edits a_report = edits

abbrev pub accepted : Topology → List AnEdit → List Command → List AnEdit
accepted topo edits [] = edits
accepted topo edits (c ∷ cs) = accepted topo (edits_with topo edits (asked c)) cs
