-- Commands that a visitor has seen.
use Rattle.std.proofs.Common.{◌≡◌, ℕ, ◌+◌, List, [], ◌∷◌, ◌++◌, drop, Option, Some, None, Result, Ok, Err, sym, subst}
use Rattle.tl_script.specs.declared.command.Command.{Command}
use Rattle.tl_script.specs.declared.fault.ScriptFault.{ScriptFault}
use Rattle.tl_script.specs.Reading.{command_in}
use Rattle.tl_script.specs.Scripts.{commands_of, fault_of}
use Rattle.tl_script.proofs.ReadCommands.{IsRead, one_read, all_read, fault_read}

-- So many commands of a script were read, and the visitor has seen them.
pub record Visited {V : Type 0} (HasSeen : V → V → List Command → Type 0) (first now : V) (script rest : List ℕ) (count : ℕ) : Type 0 where
  pub before : List Command
  pub read : IsRead script rest before count
  pub seen : HasSeen first now before

module _ {V : Type 0} (HasSeen : V → V → List Command → Type 0) (first now : V) (script rest : List ℕ) (count : ℕ) (visited : Visited HasSeen first now script rest count) where
  pub visit_more : (next : V) (c : Command) (taken : ℕ) → command_in rest ≡ Ok (Some (c, taken)) → ((first : V) (before : List Command) → HasSeen first now before → HasSeen first next (before ++ c ∷ []))
      → Visited HasSeen first next script (drop taken rest) (count + 1)
  visit_more next c taken e more = record {
    before = visited.before ++ c ∷ [];
    read = one_read script rest visited.before count c taken visited.read e;
    seen = more first visited.before visited.seen;
  }

  pub visited_all : command_in rest ≡ Ok None → HasSeen first now (commands_of script).commands × ((commands_of script).fault ≡ None)
  visited_all e =
      let all = all_read script rest visited.before count visited.read e in
      (subst (HasSeen first now) (sym all.0) visited.seen, all.1)

  pub visited_fault : (found : ScriptFault) → command_in rest ≡ Err found → HasSeen first now (commands_of script).commands × (fault_of (commands_of script) ≡ Some (count + 1, found))
  visited_fault found e =
      let all = fault_read script rest visited.before count found visited.read e in
      (subst (HasSeen first now) (sym all.0) visited.seen, all.1)
