-- The accepted edits of a script, command by command.
use Rattle.std.proofs.Common.{◌≡◌, ℕ, ◌+◌, List, [], ◌∷◌, ◌++◌, length, Option, Some, None, Result, Ok, Err, OnOk, refl, sym, ap, ◌∙◌}
use Rattle.std.specs.Option.{option_map}
use Rattle.tl_topology.specs.Topology.{Topology}
use Rattle.tl_edits.specs.Edits.{AnEdit}
use Rattle.tl_script.specs.Accepted.{accepted, edits_with}
use Rattle.tl_script.specs.Asked.{asked}
use Rattle.tl_script.specs.Audits.{IsStopAt}
use Rattle.tl_script.specs.Causes.{of_script}
use Rattle.tl_script.specs.Scripts.{commands_of, fault_of}
use Rattle.tl_script.specs.declared.command.Command.{Command}
use Rattle.tl_script.specs.declared.fault.ScriptFault.{ScriptFault}

pub when_done : {E X Y : Type 0} (r : Result (Unit {0}) E) → (X → Y) → OnOk r X → OnOk r Y
when_done (Ok done) f x = f x
when_done (Err e) f x = tt

accepted_more : (topo : Topology) (edits : List AnEdit) (cs : List Command) (c : Command) → accepted topo edits (cs ++ c ∷ []) ≡ edits_with topo (accepted topo edits cs) (asked c)
accepted_more topo edits [] c = refl
accepted_more topo edits (d ∷ cs) c = accepted_more topo (edits_with topo edits (asked d)) cs c

-- The edits of one command more.
pub more_accepted : (topo now_topo : Topology) (edits now next : List AnEdit) (before : List Command) (c : Command) → now_topo ≡ topo → now ≡ accepted topo edits before → next ≡ edits_with now_topo now (asked c) → next ≡ accepted topo edits (before ++ c ∷ [])
more_accepted topo now_topo edits now next before c same was then =
    then ∙ ap (λ t. edits_with t now (asked c)) same ∙ ap (λ es. edits_with topo es (asked c)) was ∙ sym (accepted_more topo edits before c)

none_of : (n : ℕ) (found : Option ScriptFault) → None ≡ option_map (λ f. (let p : ℕ × ScriptFault = (n, f) in p)) found → found ≡ None
none_of n None e = refl
none_of n (Some f) e = absurd cc

-- how a script ends that was seen whole
pub seen_whole : (script : List ℕ) → None ≡ fault_of (commands_of script) → (commands_of script).fault ≡ None
seen_whole script e = none_of (length (commands_of script).commands + 1) (commands_of script).fault e

pub seen_stop : (script : List ℕ) (done : ℕ) (found : ScriptFault) → Some (done + 1, found) ≡ fault_of (commands_of script) → IsStopAt script (record { cause = of_script found; command = done + 1 })
seen_stop script done found e = (found, sym e, refl)
