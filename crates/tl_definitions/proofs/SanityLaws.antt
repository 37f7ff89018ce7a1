-- What a TileLink engineer expects of the rules.
use Rattle.std.proofs.Common.{◌≡◌, ℕ, ◌^◌, ◌==◌, ◌&&◌, ◌||◌, Bool, true, false, cond, List, [], ◌∷◌, ◌++◌, Option, Some, None, refl, sym, ap, ◌∙◌, arith}
use Rattle.std.specs.Prelude.{filter, not, is_none}
use Rattle.std.specs.List.{list_any}
use Rattle.std.specs.Option.{option_map_or}
use Rattle.std.proofs.lemmas.Bool.Decides.{nat_tests}
use Rattle.std.proofs.lemmas.List.Folds.{list_any_at}
use Rattle.std.proofs.lemmas.Nat.{pow_pos}
use Rattle.std.proofs.lemmas.List.{append-nil}
use Rattle.std.proofs.Math.Nat.{div-mul-le_self, lt-div-mul-add}
use Rattle.tl_tables.specs.declared.Op.{Op}
use Rattle.tl_tables.specs.declared.Rule.{Rule}
use Rattle.tl_tables.specs.declared.Rule.TheVariants as rule
use Rattle.tl_tables.specs.Messages.{replies_to}
use Rattle.tl_topology.specs.declared.LinkDecl.{LinkDecl}
use Rattle.tl_beats.specs.declared.Beat.{Beat}
use Rattle.tl_beats.specs.declared.Placed.{Placed}
use Rattle.tl_definitions.specs.Heads.{message_of, last_head, before_on}
use Rattle.tl_definitions.specs.Messages.{Message, is_reply, message_at, messages_on, at_head}
use Rattle.tl_definitions.specs.Past.{LinkPast, pasts_of}
use Rattle.tl_definitions.specs.Rules.{Manager, breaks_format, breaks_flow, breaks_permission, breaks_manager, format_order, flow_order, permission_order, manager_order, rules_of_message, format_rules}
use Rattle.tl_definitions.specs.Breaks.{head_rules, later_rules, later_order, breaks_later, rules_at}
use Rattle.tl_definitions.specs.Laws.{FittingRepliesAreSound, NoMessageBreaksF1Alone, BlocksHoldTheirAddresses, FormatNeedsNoPast}
use Rattle.tl_definitions.proofs.Lists.{kept_of_both}

and_none : (a b : Bool) → b ≡ false → (a && b) ≡ false
and_none true b h = h
and_none false b h = refl

pub fitting_replies_are_sound : FittingRepliesAreSound
fitting_replies_are_sound past before o beat request is fits same =
    let reply : Bool = is_reply (message_at before beat o) in
    let sized : (request.size == beat.size) ≡ true = grind (arith, nat_tests) in (
      and_none reply _ (ap is_none is),
      and_none reply _ (ap (λ found. option_map_or (λ r. not (replies_to r.op o)) found false) is ∙ ap not fits),
      and_none reply _ (ap (λ found. option_map_or (λ r. not (r.size == beat.size)) found false) is ∙ ap not sized),
    )

abbrev is_f1 : Rule → Bool
is_f1 rule.F1 = true
is_f1 _ = false

or_none : (a b : Bool) → a ≡ false → b ≡ false → (a || b) ≡ false
or_none true b h g = cc
or_none false b h g = g

none_of_both : (p : Rule → Bool) (xs ys : List Rule) → list_any p xs ≡ false → list_any p ys ≡ false → list_any p (xs ++ ys) ≡ false
none_of_both p [] ys h g = g
none_of_both p (x ∷ xs) ys h g =
    elim (p x) as (λ t. (t || list_any p xs) ≡ false → (t || list_any p (xs ++ ys)) ≡ false) [ true ↦ λ f. cc | false ↦ λ f. none_of_both p xs ys f g ] h

none_left : (p q : Rule → Bool) (xs : List Rule) → list_any p xs ≡ false → list_any p (filter q xs) ≡ false
none_left p q [] h = refl
none_left p q (x ∷ xs) h =
    elim (p x) as (λ t. p x ≡ t → (t || list_any p xs) ≡ false → list_any p (cond (q x) (x ∷ filter q xs) (filter q xs)) ≡ false) [
      | true ↦ λ e f. cc
      | false ↦ λ e f. elim (q x) as (λ t. list_any p (cond t (x ∷ filter q xs) (filter q xs)) ≡ false) [
        | true ↦ ap (λ b. b || list_any p (filter q xs)) e ∙ none_left p q xs f
        | false ↦ none_left p q xs f
      ]
    ] refl h

no_f1 : (m : Manager) (pasts : ℕ → LinkPast) (link : ℕ) (message : Message) → list_any is_f1 (rules_of_message m pasts link message) ≡ false
no_f1 m pasts link message =
    let format : List Rule = filter (breaks_format m.exponent m.regions (m.links link) message.op message.beat) format_order in
    let flow : List Rule = filter (breaks_flow (pasts link).flow message) flow_order in
    let permission : List Rule = filter (breaks_permission (m.links link).strict m.exponent (pasts link).client message) permission_order in
    none_of_both is_f1 (format ++ flow ++ permission) (filter (breaks_manager m.clients m.exponent (λ client. (pasts client).client) link message) manager_order)
    (none_of_both is_f1 (format ++ flow) permission
    (none_of_both is_f1 format flow (none_left is_f1 (breaks_format m.exponent m.regions (m.links link) message.op message.beat) format_order refl) (none_left is_f1 (breaks_flow (pasts link).flow message) flow_order refl))
    (none_left is_f1 (breaks_permission (m.links link).strict m.exponent (pasts link).client message) permission_order refl))
    (none_left is_f1 (breaks_manager m.clients m.exponent (λ client. (pasts client).client) link message) manager_order refl)

no_f1_later : (link : LinkDecl) (beat head : Beat) (found : Option Op) → list_any is_f1 (option_map_or (λ o. filter (breaks_later link o head beat) later_order) found []) ≡ false
no_f1_later link beat head None = refl
no_f1_later link beat head (Some o) = none_left is_f1 (breaks_later link o head beat) later_order refl

alone : (m : Manager) (before : List Placed) (p : Placed) (head : Bool) (found : Option Op) (last : Option Beat)
    → list_any is_f1 (cond head (head_rules m before p found) (option_map_or (later_rules (m.links p.link) p.beat) last [])) ≡ true
    → cond head (head_rules m before p found) (option_map_or (later_rules (m.links p.link) p.beat) last []) ≡ rule.F1 ∷ []
alone m before p true None last h = refl
alone m before p true (Some o) last h =
    let e : true ≡ false = sym h ∙ no_f1 m (pasts_of m.links m.exponent before) p.link (message_at (messages_on m.links p.link before) p.beat o) in cc
alone m before p false found None h = cc
alone m before p false found (Some head) h =
    let e : true ≡ false = sym h ∙ no_f1_later (m.links p.link) p.beat head (message_of (m.links p.link) head) in cc

pub no_message_breaks_f1_alone : NoMessageBreaksF1Alone
no_message_breaks_f1_alone m before p has =
    alone m before p (at_head m.links before p) (message_of (m.links p.link) p.beat) (last_head (m.links p.link) (before_on p.link p.beat.chan before))
    (list_any_at is_f1 (rules_at m before p) has.0 rule.F1 has.1 (ap is_f1 has.2))

pub blocks_hold_their_addresses : BlocksHoldTheirAddresses
blocks_hold_their_addresses exponent address = (div-mul-le_self address (2 ^ exponent), lt-div-mul-add {a = address} {b = 2 ^ exponent} (pow_pos exponent))

-- Rules that don't pass are not among those kept.
pub none_of : (kept f : Rule → Bool) (xs : List Rule) → list_any kept xs ≡ false → filter kept (filter f xs) ≡ []
none_of kept f [] h = refl
none_of kept f (x ∷ xs) h =
    elim (kept x) as (λ t. kept x ≡ t → (t || list_any kept xs) ≡ false → filter kept (cond (f x) (x ∷ filter f xs) (filter f xs)) ≡ []) [
      | true ↦ λ e g. cc
      | false ↦ λ e g. elim (f x) as (λ t. filter kept (cond t (x ∷ filter f xs) (filter f xs)) ≡ []) [
        | true ↦ ap (λ t. cond t (x ∷ filter kept (filter f xs)) (filter kept (filter f xs))) e ∙ none_of kept f xs g
        | false ↦ none_of kept f xs g
      ]
    ] refl h

-- The first of two lists, where nothing of the second is kept.
pub first_kept : (kept : Rule → Bool) (xs ys : List Rule) → filter kept ys ≡ [] → filter kept (xs ++ ys) ≡ filter kept xs
first_kept kept xs ys none = kept_of_both kept xs ys ∙ ap (λ zs. filter kept xs ++ zs) none ∙ append-nil (filter kept xs)

format_of : (kept : Rule → Bool) (m : Manager) (before : List Placed) (p : Placed) (found : Option Op) → list_any kept flow_order ≡ false → list_any kept permission_order ≡ false → list_any kept manager_order ≡ false
    → filter kept (head_rules m before p found) ≡ filter kept (format_rules m.exponent m.regions (m.links p.link) p.beat found)
format_of kept m before p None flow permission manager = refl
format_of kept m before p (Some o) flow permission manager =
    let pasts : ℕ → LinkPast = pasts_of m.links m.exponent before in
    let message : Message = message_at (messages_on m.links p.link before) p.beat o in
    let format_part : List Rule = filter (breaks_format m.exponent m.regions (m.links p.link) o p.beat) format_order in
    let flow_part : List Rule = filter (breaks_flow (pasts p.link).flow message) flow_order in
    let permission_part : List Rule = filter (breaks_permission (m.links p.link).strict m.exponent (pasts p.link).client message) permission_order in
    let manager_part : List Rule = filter (breaks_manager m.clients m.exponent (λ client. (pasts client).client) p.link message) manager_order in
    first_kept kept (format_part ++ flow_part ++ permission_part) manager_part (none_of kept (breaks_manager m.clients m.exponent (λ client. (pasts client).client) p.link message) manager_order manager)
    ∙ first_kept kept (format_part ++ flow_part) permission_part (none_of kept (breaks_permission (m.links p.link).strict m.exponent (pasts p.link).client message) permission_order permission)
    ∙ first_kept kept format_part flow_part (none_of kept (breaks_flow (pasts p.link).flow message) flow_order flow)

pub format_needs_no_past : FormatNeedsNoPast
format_needs_no_past kept m before p flow permission manager head =
    ap (λ t. filter kept (cond t (head_rules m before p (message_of (m.links p.link) p.beat)) (option_map_or (later_rules (m.links p.link) p.beat) (last_head (m.links p.link) (before_on p.link p.beat.chan before)) []))) head
    ∙ format_of kept m before p (message_of (m.links p.link) p.beat) flow permission manager
