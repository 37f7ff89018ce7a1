-- States that stand for the beats of their manager, and the permission and manager rules among those of a head.
use Rattle.std.specs.Prelude.{OnOk, IfOk, filter}
use Rattle.std.proofs.Common.{Result, Ok, Err, ◌≡◌, ℕ, ◌==◌, ◌&&◌, ◌++◌, true, false, cond, List, [], ◌∷◌, Option, Some, None, refl, sym, ap, ◌∙◌, append_assoc, arith}
use Rattle.std.specs.Option.{option_map_or}
use Rattle.std.proofs.lemmas.Bool.Decides.{nat_tests}
use Rattle.tl_tables.specs.declared.Op.{Op}
use Rattle.tl_tables.specs.declared.Rule.{Rule}
use Rattle.tl_topology.specs.declared.LinkDecl.{LinkDecl}
use Rattle.tl_beats.specs.declared.Placed.{Placed}
use Rattle.tl_definitions.specs.Heads.{message_of, last_head, before_on}
use Rattle.tl_definitions.specs.Messages.{Message, message_at, with_message, at_head, messages_on}
use Rattle.tl_definitions.specs.Past.{LinkPast, past_of, pasts_of}
use Rattle.tl_definitions.specs.Rules.{Manager, breaks_format, breaks_flow, breaks_permission, breaks_manager, format_order, flow_order, permission_order, manager_order, format_rules}
use Rattle.tl_definitions.specs.Breaks.{head_rules, later_rules, rules_at}
use Rattle.tl_definitions.specs.Judging.{past_with}
use Rattle.tl_link_rules.specs.Flow.{flow_rules}
use Rattle.tl_client_rules.specs.Client.{client_view}
use Rattle.tl_client_rules.proofs.ClientLaws.{past_law}
use Rattle.tl_client_rules.specs.declared.manager.ManagerState.{ManagerState}
use Rattle.tl_client_rules.specs.Manager.{Shows, StandsFor, rules_in, pasts_with}

-- The pasts after a head are those of the beats with it.
pasts_law : (m : Manager) (before : List Placed) (p : Placed) (decl : LinkDecl) → m.links p.link ≡ decl → at_head m.links before p ≡ true → (n : ℕ)
    → pasts_with m.exponent p.link (pasts_of m.links m.exponent before) p.beat (message_of decl p.beat) n ≡ pasts_of m.links m.exponent (p ∷ before) n
pasts_law m before p decl is head n =
    let own : List Message = messages_on m.links n before in
    elim (p.link == n) as (λ b. (p.link == n) ≡ b → cond b (past_with m.exponent (past_of m.exponent own) p.beat (message_of decl p.beat)) (past_of m.exponent own)
    ≡ past_of m.exponent (cond (b && at_head m.links before p) (with_message p.beat (message_of (m.links n) p.beat) own) own)) [
      | true ↦ λ e. let same : p.link ≡ n = grind (arith, nat_tests) in
          past_law m.exponent own p.beat (message_of decl p.beat)
          ∙ ap (λ d. past_of m.exponent (with_message p.beat (message_of d p.beat) own)) (sym is ∙ ap m.links same)
          ∙ ap (λ b. past_of m.exponent (cond b (with_message p.beat (message_of (m.links n) p.beat) own) own)) (sym head)
      | false ↦ λ e. refl
    ] refl

pub stands_law : {X E : Type 0} (made : Result X E) (m : Manager) (before : List Placed) (p : Placed) (decl : LinkDecl) (new : ManagerState)
    → m.links p.link ≡ decl → at_head m.links before p ≡ true
    → OnOk made (Shows m.clients m.exponent new (pasts_with m.exponent p.link (pasts_of m.links m.exponent before) p.beat (message_of decl p.beat)))
    → OnOk made (StandsFor m new (p ∷ before))
stands_law (Ok x) m before p decl new is head next = record {
  clients = next.clients;
  exponent = next.exponent;
  each = λ n. next.each n ∙ ap (client_view m.exponent) (pasts_law m before p decl is head n);
}
stands_law (Err e) m before p decl new is head next = tt

-- The rules of a head are its format rules, its flow rules, and then its permission and manager rules.
head_law : (m : Manager) (before : List Placed) (p : Placed) (found : Option Op) → head_rules m before p found
    ≡ format_rules m.exponent m.regions (m.links p.link) p.beat found ++ flow_rules (messages_on m.links p.link before) p.beat found
    ++ rules_in m.clients m.exponent (m.links p.link).strict (pasts_of m.links m.exponent before) p.link p.beat found
head_law m before p None = refl
head_law m before p (Some o) =
    let pasts : ℕ → LinkPast = pasts_of m.links m.exponent before in
    let message : Message = message_at (messages_on m.links p.link before) p.beat o in
    append_assoc (filter (breaks_format m.exponent m.regions (m.links p.link) o p.beat) format_order ++ filter (breaks_flow (pasts p.link).flow message) flow_order)
    (filter (breaks_permission (m.links p.link).strict m.exponent (pasts p.link).client message) permission_order)
    (filter (breaks_manager m.clients m.exponent (λ client. (pasts client).client) p.link message) manager_order)

rules_law : (m : Manager) (before : List Placed) (p : Placed) (decl : LinkDecl) → m.links p.link ≡ decl → at_head m.links before p ≡ true
    → rules_at m before p ≡ format_rules m.exponent m.regions decl p.beat (message_of decl p.beat) ++ flow_rules (messages_on m.links p.link before) p.beat (message_of decl p.beat)
    ++ rules_in m.clients m.exponent decl.strict (pasts_of m.links m.exponent before) p.link p.beat (message_of decl p.beat)
rules_law m before p decl is head =
    ap (λ t. cond t (head_rules m before p (message_of (m.links p.link) p.beat)) (option_map_or (later_rules (m.links p.link) p.beat) (last_head (m.links p.link) (before_on p.link p.beat.chan before)) [])) head
    ∙ head_law m before p (message_of (m.links p.link) p.beat)
    ∙ ap (λ d. format_rules m.exponent m.regions d p.beat (message_of d p.beat) ++ flow_rules (messages_on m.links p.link before) p.beat (message_of d p.beat)
    ++ rules_in m.clients m.exponent d.strict (pasts_of m.links m.exponent before) p.link p.beat (message_of d p.beat)) is

pub broken_law : {E : Type 0} (made : Result (List Rule) E) (m : Manager) (before : List Placed) (p : Placed) (decl : LinkDecl)
    → m.links p.link ≡ decl → at_head m.links before p ≡ true
    → IfOk made (λ rules. rules ≡ rules_in m.clients m.exponent decl.strict (pasts_of m.links m.exponent before) p.link p.beat (message_of decl p.beat))
    → IfOk made (λ rules. rules_at m before p ≡ format_rules m.exponent m.regions decl p.beat (message_of decl p.beat)
    ++ flow_rules (messages_on m.links p.link before) p.beat (message_of decl p.beat) ++ rules)
broken_law (Ok rules) m before p decl is head judged = rules_law m before p decl is head
    ∙ ap (λ rest. format_rules m.exponent m.regions decl p.beat (message_of decl p.beat) ++ flow_rules (messages_on m.links p.link before) p.beat (message_of decl p.beat) ++ rest) (sym judged)
broken_law (Err e) m before p decl is head judged = tt
