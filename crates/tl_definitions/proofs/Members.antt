-- Rules that a test finds are among the rules of a beat.
use Rattle.std.proofs.Common.{◌≡◌, ◌==◌, ◌||◌, ℕ, Bool, true, false, List, [], ◌∷◌, ◌++◌, refl, subst, arith, eqb-true}
use Rattle.std.specs.Prelude.{filter}
use Rattle.std.specs.List.{Contains, list_any}
use Rattle.std.proofs.lemmas.List.Elements.{Contains-append_left, Contains-append_right}
use Rattle.tl_tables.specs.declared.Op.{Op}
use Rattle.tl_tables.specs.declared.Rule.{Rule}
use Rattle.tl_tables.specs.declared.Rule.TheVariants as rule
use Rattle.tl_tables.specs.Rules.{rule_number}
use Rattle.tl_topology.specs.declared.LinkDecl.{LinkDecl}
use Rattle.tl_topology.specs.Regions.{Area}
use Rattle.tl_beats.specs.declared.Beat.{Beat}
use Rattle.tl_definitions.specs.Messages.{Message}
use Rattle.tl_definitions.specs.Past.{FlowPast, ClientPast, LinkPast}
use Rattle.tl_definitions.specs.Rules.{Manager, breaks_format, breaks_flow, breaks_permission, breaks_manager, format_order, flow_order, permission_order, manager_order, rules_of_message}
use Rattle.tl_definitions.specs.Breaks.{breaks_later, later_order}
use Rattle.tl_definitions.proofs.Lists.{contains_here, contains_there, contains_kept}
use Rattle.tl_definitions.proofs.ReportLaws.{one_rule}
use Rattle.tl_definitions.specs.Printed.{is_f1}

-- Whether a rule is among some, as a test that computes.
abbrev is_in : List Rule → Rule → Bool
is_in order r = list_any (λ s. rule_number s == rule_number r) order

listed : (order : List Rule) (r : Rule) → is_in order r ≡ true → Contains order r
listed [] r h = absurd cc
listed (s ∷ order) r h =
    elim (rule_number s == rule_number r) as (λ t. (rule_number s == rule_number r) ≡ t → (t || is_in order r) ≡ true → Contains (s ∷ order) r) [
      | true ↦ λ e g. subst (Contains (s ∷ order)) (one_rule s r (eqb-true (rule_number s) (rule_number r) e)) (contains_here s order)
      | false ↦ λ e g. contains_there s order r (listed order r g)
    ] refl h

format_is_in : (exponent : ℕ) (regions : List Area) (link : LinkDecl) (o : Op) (beat : Beat) (r : Rule) → breaks_format exponent regions link o beat r ≡ true → is_in format_order r ≡ true
format_is_in exponent regions link o beat rule.F2 h = refl
format_is_in exponent regions link o beat _ h = cc

flow_is_in : (past : FlowPast) (message : Message) (r : Rule) → breaks_flow past message r ≡ true → is_in flow_order r ≡ true
flow_is_in past message rule.S1 h = refl
flow_is_in past message _ h = cc

permission_is_in : (strict : Bool) (exponent : ℕ) (past : ClientPast) (message : Message) (r : Rule) → breaks_permission strict exponent past message r ≡ true → is_in permission_order r ≡ true
permission_is_in strict exponent past message rule.P1 h = refl
permission_is_in strict exponent past message _ h = cc

manager_is_in : (clients : List ℕ) (exponent : ℕ) (pasts : ℕ → ClientPast) (link : ℕ) (message : Message) (r : Rule) → breaks_manager clients exponent pasts link message r ≡ true → is_in manager_order r ≡ true
manager_is_in clients exponent pasts link message rule.M1 h = refl
manager_is_in clients exponent pasts link message _ h = cc

later_is_in : (link : LinkDecl) (o : Op) (head beat : Beat) (r : Rule) → breaks_later link o head beat r ≡ true → is_in later_order r ≡ true
later_is_in link o head beat rule.F5 h = refl
later_is_in link o head beat _ h = cc

pub later_in : (link : LinkDecl) (o : Op) (head beat : Beat) (r : Rule) → breaks_later link o head beat r ≡ true → Contains (filter (breaks_later link o head beat) later_order) r
later_in link o head beat r h = contains_kept (breaks_later link o head beat) later_order r (listed later_order _ (later_is_in link o head beat r h)) h

f1_is : (r : Rule) → is_f1 r ≡ true → rule.F1 ≡ r
f1_is rule.F1 h = refl
f1_is _ h = cc

pub f1_in : (r : Rule) → is_f1 r ≡ true → Contains (rule.F1 ∷ []) r
f1_in r h = (0, omega arith, f1_is r h)

-- The four parts of a head's rules.
abbrev formats : Manager → ℕ → Message → List Rule
formats m link message = filter (breaks_format m.exponent m.regions (m.links link) message.op message.beat) format_order

abbrev flows : (ℕ → LinkPast) → ℕ → Message → List Rule
flows pasts link message = filter (breaks_flow (pasts link).flow message) flow_order

abbrev permissions : Manager → (ℕ → LinkPast) → ℕ → Message → List Rule
permissions m pasts link message = filter (breaks_permission (m.links link).strict m.exponent (pasts link).client message) permission_order

abbrev managers : Manager → (ℕ → LinkPast) → ℕ → Message → List Rule
managers m pasts link message = filter (breaks_manager m.clients m.exponent (λ client. (pasts client).client) link message) manager_order

pub format_in : (m : Manager) (pasts : ℕ → LinkPast) (link : ℕ) (message : Message) (r : Rule) → breaks_format m.exponent m.regions (m.links link) message.op message.beat r ≡ true
    → Contains (rules_of_message m pasts link message) r
format_in m pasts link message r h =
    Contains-append_left (formats m link message ++ flows pasts link message ++ permissions m pasts link message) (managers m pasts link message) r
    (Contains-append_left (formats m link message ++ flows pasts link message) (permissions m pasts link message) r
    (Contains-append_left (formats m link message) (flows pasts link message) r
    (contains_kept (breaks_format m.exponent m.regions (m.links link) message.op message.beat) format_order r (listed format_order _ (format_is_in m.exponent m.regions (m.links link) message.op message.beat r h)) h)))

pub flow_in : (m : Manager) (pasts : ℕ → LinkPast) (link : ℕ) (message : Message) (r : Rule) → breaks_flow (pasts link).flow message r ≡ true → Contains (rules_of_message m pasts link message) r
flow_in m pasts link message r h =
    Contains-append_left (formats m link message ++ flows pasts link message ++ permissions m pasts link message) (managers m pasts link message) r
    (Contains-append_left (formats m link message ++ flows pasts link message) (permissions m pasts link message) r
    (Contains-append_right (formats m link message) (flows pasts link message) r
    (contains_kept (breaks_flow (pasts link).flow message) flow_order r (listed flow_order _ (flow_is_in (pasts link).flow message r h)) h)))

pub permission_in : (m : Manager) (pasts : ℕ → LinkPast) (link : ℕ) (message : Message) (r : Rule) → breaks_permission (m.links link).strict m.exponent (pasts link).client message r ≡ true
    → Contains (rules_of_message m pasts link message) r
permission_in m pasts link message r h =
    Contains-append_left (formats m link message ++ flows pasts link message ++ permissions m pasts link message) (managers m pasts link message) r
    (Contains-append_right (formats m link message ++ flows pasts link message) (permissions m pasts link message) r
    (contains_kept (breaks_permission (m.links link).strict m.exponent (pasts link).client message) permission_order r
    (listed permission_order _ (permission_is_in (m.links link).strict m.exponent (pasts link).client message r h)) h))

pub manager_in : (m : Manager) (pasts : ℕ → LinkPast) (link : ℕ) (message : Message) (r : Rule) → breaks_manager m.clients m.exponent (λ client. (pasts client).client) link message r ≡ true
    → Contains (rules_of_message m pasts link message) r
manager_in m pasts link message r h =
    Contains-append_right (formats m link message ++ flows pasts link message ++ permissions m pasts link message) (managers m pasts link message) r
    (contains_kept (breaks_manager m.clients m.exponent (λ client. (pasts client).client) link message) manager_order r
    (listed manager_order _ (manager_is_in m.clients m.exponent (λ client. (pasts client).client) link message r h)) h)
