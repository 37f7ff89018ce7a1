-- Where no bound is exceeded, no two clients' bounds conflict.
use Rattle.std.proofs.Common.{◌≡◌, ℕ, ◌==◌, ◌&&◌, ◌||◌, Bool, true, false, cond, List, [], ◌∷◌, ◌++◌, Option, Some, None, refl, sym, ap, subst, ◌∙◌, arith, zero, suc, reverse}
use Rattle.std.specs.Prelude.{filter, not, slice_get, map}
use Rattle.std.specs.List.{list_any, Contains}
use Rattle.std.specs.Option.{option_map, option_map_or}
use Rattle.std.proofs.lemmas.Bool.Decides.{nat_tests}
use Rattle.tl_tables.specs.declared.Op.{Op}
use Rattle.tl_tables.specs.declared.Op.TheVariants as op
use Rattle.tl_tables.specs.declared.Perm.{Perm}
use Rattle.tl_tables.specs.declared.Perm.TheVariants as perm
use Rattle.tl_tables.specs.declared.Rule.{Rule}
use Rattle.tl_tables.specs.declared.Rule.TheVariants as rule
use Rattle.tl_tables.specs.Params.{from_of, to_of, is_above, shrink_froms, shrink_tos}
use Rattle.tl_beats.specs.declared.Placed.{Placed}
use Rattle.tl_beats.specs.declared.Row.{Row}
use Rattle.tl_tables.specs.Kinds.{is_acquire, is_probe_ack, is_release, is_grant, conflicts}
use Rattle.tl_definitions.specs.Heads.{message_of, last_head, before_on}
use Rattle.tl_definitions.specs.Messages.{Message, message_at, with_message, at_head, messages_on, own_claim, grant_claim, claim, claimed_or, block_of, bound_of}
use Rattle.tl_definitions.specs.Past.{LinkPast, ClientPast, pasts_of}
use Rattle.tl_definitions.specs.Rules.{Manager, breaks_format, breaks_flow, breaks_permission, breaks_manager, format_order, flow_order, permission_order, manager_order, rules_of_message, conflicts_with_other, is_wrong}
use Rattle.tl_definitions.specs.Breaks.{head_rules, later_rules, rules_at, row_of, rows_after, rows_in}
use Rattle.tl_definitions.specs.Report.{of_manager}
use Rattle.tl_definitions.specs.Coherence.{guards_bounds, is_client, OneWriter, exceeds, GuardedCapturesAreCoherent, ReportedCapturesAreCoherent}
use Rattle.tl_definitions.proofs.Lists.{onto, onto_reverse, contains_none, contains_kept, none_kept}
use Rattle.tl_definitions.proofs.ReportLaws.{rows_are_breaks}

abbrev client_pasts : Manager → List Placed → ℕ → ClientPast
client_pasts m before client = (pasts_of m.links m.exponent before client).client

-- The bound of a client on a block after these beats.
abbrev bound_at : Manager → ℕ → List Placed → ℕ → Perm
bound_at m client before block = bound_of m.exponent (messages_on m.links client before) block

-- Permissions.
conflicts_sym : (p q : Perm) → conflicts p q ≡ conflicts q p
conflicts_sym perm.Nothing perm.Nothing = refl
conflicts_sym perm.Nothing perm.Branch = refl
conflicts_sym perm.Nothing perm.Trunk = refl
conflicts_sym perm.Branch perm.Nothing = refl
conflicts_sym perm.Branch perm.Branch = refl
conflicts_sym perm.Branch perm.Trunk = refl
conflicts_sym perm.Trunk perm.Nothing = refl
conflicts_sym perm.Trunk perm.Branch = refl
conflicts_sym perm.Trunk perm.Trunk = refl

-- Less conflicts with no more.
lower : (set old other : Perm) → is_above set old ≡ false → conflicts old other ≡ false → conflicts set other ≡ false
lower perm.Nothing old other h g = refl
lower perm.Branch perm.Nothing other h g = cc
lower perm.Branch perm.Branch other h g = g
lower perm.Branch perm.Trunk perm.Nothing h g = refl
lower perm.Branch perm.Trunk perm.Branch h g = refl
lower perm.Branch perm.Trunk perm.Trunk h g = cc
lower perm.Trunk perm.Nothing other h g = cc
lower perm.Trunk perm.Branch other h g = cc
lower perm.Trunk perm.Trunk other h g = g

alone : (p : Perm) → conflicts perm.Trunk p ≡ false → p ≡ perm.Nothing
alone perm.Nothing h = refl
alone perm.Branch h = cc
alone perm.Trunk h = cc

below : (to from bound : Perm) → is_above to from ≡ false → is_above from bound ≡ false → is_above to bound ≡ false
below to from bound h g = grind (arith, nat_tests)

-- What a ProbeAck or Release keeps isn't above what it had.
shrinks : (bound : Perm) (param : ℕ) → option_map_or (λ from. is_above from bound) (slice_get shrink_froms param) false ≡ false
    → option_map_or (λ to. is_above to bound) (slice_get shrink_tos param) false ≡ false
shrinks bound zero h = below perm.Branch perm.Trunk bound refl h
shrinks bound (suc zero) h = below perm.Nothing perm.Trunk bound refl h
shrinks bound (suc (suc zero)) h = below perm.Nothing perm.Branch bound refl h
shrinks bound (suc (suc (suc zero))) h = h
shrinks bound (suc (suc (suc (suc zero)))) h = h
shrinks bound (suc (suc (suc (suc (suc zero))))) h = h
shrinks bound (suc (suc (suc (suc (suc (suc n)))))) h = refl

-- The claim of an Acquire, ProbeAck or Release.
abbrev own_claim_of : Op → ℕ → Option Perm
own_claim_of o param = cond (is_acquire o) (from_of o param) (cond (is_probe_ack o || is_release o) (to_of o param) None)

abbrev froms_above : Perm → Op → ℕ → Bool
froms_above bound o param = option_map_or (λ from. is_above from bound) (from_of o param) false

lawful_below : (o : Op) (param : ℕ) (bound : Perm) → (is_acquire o && froms_above bound o param) ≡ false → ((is_probe_ack o || is_release o) && froms_above bound o param) ≡ false
    → option_map_or (λ set. is_above set bound) (own_claim_of o param) false ≡ false
lawful_below op.PutFullData param bound h g = refl
lawful_below op.PutPartialData param bound h g = refl
lawful_below op.ArithmeticData param bound h g = refl
lawful_below op.LogicalData param bound h g = refl
lawful_below op.Get param bound h g = refl
lawful_below op.Intent param bound h g = refl
lawful_below op.AcquireBlock param bound h g = h
lawful_below op.AcquirePerm param bound h g = h
lawful_below op.ProbeBlock param bound h g = refl
lawful_below op.ProbePerm param bound h g = refl
lawful_below op.AccessAck param bound h g = refl
lawful_below op.AccessAckData param bound h g = refl
lawful_below op.HintAck param bound h g = refl
lawful_below op.ProbeAck param bound h g = shrinks bound param g
lawful_below op.ProbeAckData param bound h g = shrinks bound param g
lawful_below op.Release param bound h g = shrinks bound param g
lawful_below op.ReleaseData param bound h g = shrinks bound param g
lawful_below op.Grant param bound h g = refl
lawful_below op.GrantData param bound h g = refl
lawful_below op.ReleaseAck param bound h g = refl
lawful_below op.GrantAck param bound h g = refl

or_none : (a b : Bool) → (a || b) ≡ false → (a ≡ false) × (b ≡ false)
or_none true b h = cc
or_none false b h = (refl, h)

-- What isn't wrong isn't above the bound.
right_below : (strict : Bool) (bound : Perm) (found : Option Perm) → option_map_or (is_wrong strict bound) found false ≡ false → option_map_or (λ from. is_above from bound) found false ≡ false
right_below strict bound None h = refl
right_below strict bound (Some from) h = (or_none (is_above from bound) (strict && is_above bound from) h).0

kept_of : (t a b : Bool) → (a ≡ false → b ≡ false) → (t && a) ≡ false → (t && b) ≡ false
kept_of true a b f h = f h
kept_of false a b f h = refl

abbrev froms_wrong : Bool → Perm → Op → ℕ → Bool
froms_wrong strict bound o param = option_map_or (is_wrong strict bound) (from_of o param) false

pub own_below : (strict : Bool) (o : Op) (param : ℕ) (bound : Perm) → (is_acquire o && froms_wrong strict bound o param) ≡ false → ((is_probe_ack o || is_release o) && froms_wrong strict bound o param) ≡ false
    → option_map_or (λ set. is_above set bound) (own_claim_of o param) false ≡ false
own_below strict o param bound h g =
    let right = right_below strict bound (from_of o param) in
    lawful_below o param bound (kept_of (is_acquire o) (froms_wrong strict bound o param) (froms_above bound o param) right h)
    (kept_of (is_probe_ack o || is_release o) (froms_wrong strict bound o param) (froms_above bound o param) right g)

not_and : (a b : Bool) → a ≡ false → (not a && b) ≡ false → b ≡ false
not_and true b e h = cc
not_and false b e h = h

any_none : (f : ℕ → Bool) (cs : List ℕ) (c : ℕ) → list_any f cs ≡ false → list_any (λ x. x == c) cs ≡ true → f c ≡ false
any_none f [] c h g = cc
any_none f (x ∷ cs) c h g =
    let parts = or_none (f x) (list_any f cs) h in
    elim (x == c) as (λ t. (x == c) ≡ t → (t || list_any (λ y. y == c) cs) ≡ true → f c ≡ false) [
      | true ↦ λ e _. let same : x ≡ c = grind (arith, nat_tests) in subst (λ k. f k ≡ false) same parts.0
      | false ↦ λ e r. any_none f cs c parts.1 r
    ] refl g

-- None of two lists passes.
pub none_of_both : (q : Rule → Bool) (xs ys : List Rule) → filter q (xs ++ ys) ≡ [] → (filter q xs ≡ []) × (filter q ys ≡ [])
none_of_both q [] ys h = (refl, h)
none_of_both q (x ∷ xs) ys h = elim (q x) as (λ t. cond t (x ∷ filter q (xs ++ ys)) (filter q (xs ++ ys)) ≡ [] → (cond t (x ∷ filter q xs) (filter q xs) ≡ []) × (filter q ys ≡ [])) [
  | true ↦ λ g. cc
  | false ↦ λ g. none_of_both q xs ys g
] h

-- A rule that passes isn't broken where none that passes is.
guarded_first : (q f : Rule → Bool) (r : Rule) (rs : List Rule) → q r ≡ true → filter q (filter f (r ∷ rs)) ≡ [] → (f r ≡ false) × (filter q (filter f rs) ≡ [])
guarded_first q f r rs guards h = elim (f r) as (λ t. f r ≡ t → filter q (cond t (r ∷ filter f rs) (filter f rs)) ≡ [] → (f r ≡ false) × (filter q (filter f rs) ≡ [])) [
  | true ↦ λ e g. (let absurd_list : (r ∷ filter q (filter f rs)) ≡ [] = subst (λ t. cond t (r ∷ filter q (filter f rs)) (filter q (filter f rs)) ≡ []) guards g in cc)
  | false ↦ λ e g. (e, g)
] refl h

guarded_parts : (q f g h k : Rule → Bool) (fs gs hs ks : List Rule) → filter q (filter f fs ++ filter g gs ++ filter h hs ++ filter k ks) ≡ [] → (filter q (filter h hs) ≡ []) × (filter q (filter k ks) ≡ [])
guarded_parts q f g h k fs gs hs ks clean =
    let last = none_of_both q (filter f fs ++ filter g gs ++ filter h hs) (filter k ks) clean in
    ((none_of_both q (filter f fs ++ filter g gs) (filter h hs) last.0).1, last.1)

abbrev after_p2 : List Rule
after_p2 = rule.P3 ∷ rule.P4 ∷ rule.P5 ∷ rule.P6 ∷ rule.P7 ∷ rule.P8 ∷ []

-- A Grant conflicts with nobody.
grant_fits : (m : Manager) (before : List Placed) (link other block : ℕ) (old : Perm) (found : Option (ℕ × Perm)) → option_map_or (conflicts_with_other m.clients (client_pasts m before) link) found false ≡ false
    → is_client m other ≡ true → (other == link) ≡ false → conflicts old (bound_at m other before block) ≡ false
    → conflicts (claimed_or found block old) (bound_at m other before block) ≡ false
grant_fits m before link other block old None clean member ne h = h
grant_fits m before link other block old (Some (b, set)) clean member ne h =
    let new : conflicts set (bound_at m other before b) ≡ false =
    not_and (other == link) _ ne (any_none (λ client. not (client == link) && conflicts set (bound_at m client before b)) m.clients other clean member) in
    elim (b == block) as (λ t. (b == block) ≡ t → conflicts (cond t set old) (bound_at m other before block) ≡ false) [
      | true ↦ λ e. let same : b ≡ block = grind (arith, nat_tests) in subst (λ k. conflicts set (bound_at m other before k) ≡ false) same new
      | false ↦ λ e. h
    ] refl

-- A message that takes no more than its client has conflicts with nobody.
own_fits : (found : Option Perm) (own_block block : ℕ) (bound : ℕ → Perm) (other : Perm) → option_map_or (λ set. is_above set (bound own_block)) found false ≡ false
    → conflicts (bound block) other ≡ false → conflicts (claimed_or (option_map (λ set. (own_block, set)) found) block (bound block)) other ≡ false
own_fits None own_block block bound other clean h = h
own_fits (Some set) own_block block bound other clean h =
    elim (own_block == block) as (λ t. (own_block == block) ≡ t → conflicts (cond t set (bound block)) other ≡ false) [
      | true ↦ λ e. let same : own_block ≡ block = grind (arith, nat_tests) in lower set (bound block) other (subst (λ k. is_above set (bound k) ≡ false) same clean) h
      | false ↦ λ e. h
    ] refl

fits : (m : Manager) (before : List Placed) (link other block : ℕ) (message : Message) → filter guards_bounds (rules_of_message m (pasts_of m.links m.exponent before) link message) ≡ []
    → is_client m other ≡ true → (other == link) ≡ false → conflicts (bound_at m link before block) (bound_at m other before block) ≡ false
    → conflicts (claimed_or (claim m.exponent message) block (bound_at m link before block)) (bound_at m other before block) ≡ false
fits m before link other block message clean member ne h =
    let own_past : LinkPast = pasts_of m.links m.exponent before link in
    let parts = guarded_parts guards_bounds (breaks_format m.exponent m.regions (m.links link) message.op message.beat) (breaks_flow own_past.flow message) (breaks_permission (m.links link).strict m.exponent own_past.client message) (breaks_manager m.clients m.exponent (client_pasts m before) link message)
    format_order flow_order permission_order manager_order clean in
    let p1 = guarded_first guards_bounds (breaks_permission (m.links link).strict m.exponent own_past.client message) rule.P1 (rule.P2 ∷ after_p2) refl parts.0 in
    let p2 = guarded_first guards_bounds (breaks_permission (m.links link).strict m.exponent own_past.client message) rule.P2 after_p2 refl p1.1 in
    let m1 = guarded_first guards_bounds (breaks_manager m.clients m.exponent (client_pasts m before) link message) rule.M1 (rule.M2 ∷ rule.M3 ∷ []) refl parts.1 in
    let own_block : ℕ = block_of m.exponent message in
    elim (is_grant message.op) as (λ t. is_grant message.op ≡ t
    → conflicts (claimed_or (cond t (grant_claim m.exponent message) (option_map (λ set. (own_block, set)) (own_claim message))) block (bound_at m link before block)) (bound_at m other before block) ≡ false) [
      | true ↦ λ e. grant_fits m before link other block (bound_at m link before block) (grant_claim m.exponent message)
          (subst (λ t. (t && option_map_or (conflicts_with_other m.clients (client_pasts m before) link) (cond t (grant_claim m.exponent message) (option_map (λ set. (own_block, set)) (own_claim message))) false) ≡ false) e m1.0)
          member ne h
      | false ↦ λ e. own_fits (own_claim message) own_block block (bound_at m link before) (bound_at m other before block)
          (own_below (m.links link).strict message.op message.beat.param (bound_at m link before own_block) p1.0 p2.0) h
    ] refl

not_same : (a b : ℕ) → (a == b) ≡ false → (b == a) ≡ false
not_same a b h = grind (arith, nat_tests)

head_moves : (m : Manager) (before : List Placed) (p : Placed) (other block : ℕ) (found : Option Op) → filter guards_bounds (head_rules m before p found) ≡ []
    → is_client m other ≡ true → (p.link == other) ≡ false → conflicts (bound_at m p.link before block) (bound_at m other before block) ≡ false
    → conflicts (bound_of m.exponent (with_message p.beat found (messages_on m.links p.link before)) block) (bound_at m other before block) ≡ false
head_moves m before p other block None clean member ne h = h
head_moves m before p other block (Some o) clean member ne h =
    fits m before p.link other block (message_at (messages_on m.links p.link before) p.beat o) clean member (not_same p.link other ne) h

-- The bound of a client after a beat on some link that may be its own.
abbrev next_bound : Manager → List Placed → Placed → ℕ → ℕ → Bool → Perm
next_bound m before p block client t =
    bound_of m.exponent (cond (t && at_head m.links before p) (with_message p.beat (message_of (m.links client) p.beat) (messages_on m.links client before)) (messages_on m.links client before)) block

own_moves : (m : Manager) (before : List Placed) (p : Placed) (other block : ℕ) → filter guards_bounds (rules_at m before p) ≡ [] → is_client m other ≡ true
    → (p.link == other) ≡ false → conflicts (bound_at m p.link before block) (bound_at m other before block) ≡ false → conflicts (next_bound m before p block p.link true) (bound_at m other before block) ≡ false
own_moves m before p other block clean member ne h =
    elim (at_head m.links before p) as (λ t. at_head m.links before p ≡ t
    → conflicts (bound_of m.exponent (cond t (with_message p.beat (message_of (m.links p.link) p.beat) (messages_on m.links p.link before)) (messages_on m.links p.link before)) block) (bound_at m other before block) ≡ false) [
      | true ↦ λ e. head_moves m before p other block (message_of (m.links p.link) p.beat) (ap (λ t. filter guards_bounds (cond t (head_rules m before p (message_of (m.links p.link) p.beat)) (option_map_or (later_rules (m.links p.link) p.beat) (last_head (m.links p.link) (before_on p.link p.beat.chan before)) []))) (sym e) ∙ clean) member ne h
      | false ↦ λ e. h
    ] refl

moves : (m : Manager) (before : List Placed) (p : Placed) → filter guards_bounds (rules_at m before p) ≡ [] → (client other block : ℕ) → is_client m other ≡ true → (client == other) ≡ false
    → conflicts (bound_at m client before block) (bound_at m other before block) ≡ false → conflicts (bound_at m client (p ∷ before) block) (bound_at m other before block) ≡ false
moves m before p clean client other block member ne h =
    elim (p.link == client) as (λ t. (p.link == client) ≡ t → conflicts (next_bound m before p block client t) (bound_at m other before block) ≡ false) [
      | true ↦ λ e. let same : p.link ≡ client = grind (arith, nat_tests) in
          subst (λ k. (k == other) ≡ false → conflicts (bound_at m k before block) (bound_at m other before block) ≡ false → conflicts (next_bound m before p block k true) (bound_at m other before block) ≡ false)
          same (own_moves m before p other block clean member) ne h
      | false ↦ λ e. h
    ] refl

stays : (m : Manager) (before : List Placed) (p : Placed) (client block : ℕ) → (p.link == client) ≡ false → bound_at m client (p ∷ before) block ≡ bound_at m client before block
stays m before p client block ne = ap (next_bound m before p block client) ne

-- No beat so far breaks a rule on bounds.
abbrev IsGuarded : Manager → List Placed → Type 0
IsGuarded m [] = Unit {0}
IsGuarded m (p ∷ before) = (filter guards_bounds (rules_at m before p) ≡ []) × IsGuarded m before

coherent : (m : Manager) (before : List Placed) → IsGuarded m before → (a b block : ℕ) → is_client m a ≡ true → is_client m b ≡ true → (a == b) ≡ false
    → conflicts (bound_at m a before block) (bound_at m b before block) ≡ false
coherent m [] clean a b block at_a at_b ne = refl
coherent m (p ∷ before) clean a b block at_a at_b ne =
    let known = coherent m before clean.1 a b block at_a at_b ne in
    elim (p.link == a) as (λ t. (p.link == a) ≡ t → conflicts (bound_at m a (p ∷ before) block) (bound_at m b (p ∷ before) block) ≡ false) [
      | true ↦ λ e. let other : (p.link == b) ≡ false = grind (arith, nat_tests) in
          ap (conflicts (bound_at m a (p ∷ before) block)) (stays m before p b block other) ∙ moves m before p clean.0 a b block at_b ne known
      | false ↦ λ e. ap (λ x. conflicts x (bound_at m b (p ∷ before) block)) (stays m before p a block e) ∙ conflicts_sym (bound_at m a before block) (bound_at m b (p ∷ before) block)
          ∙ moves m before p clean.0 b a block at_a (not_same a b ne) (conflicts_sym (bound_at m b before block) (bound_at m a before block) ∙ known)
    ] refl

guarded_is_coherent : (m : Manager) (before : List Placed) → IsGuarded m before → OneWriter m before
guarded_is_coherent m before clean writer other block at_writer at_other ne t =
    alone (bound_at m other before block) (subst (λ x. conflicts x (bound_at m other before block) ≡ false) t (coherent m before clean writer other block at_writer at_other ne))

no_rows : (p : Placed) (rules : List Rule) (rows : List Row) → filter exceeds (map (row_of p) rules ++ rows) ≡ [] → (filter guards_bounds rules ≡ []) × (filter exceeds rows ≡ [])
no_rows p [] rows h = (refl, h)
no_rows p (r ∷ rules) rows h =
    elim (guards_bounds r) as (λ t. cond t (row_of p r ∷ filter exceeds (map (row_of p) rules ++ rows)) (filter exceeds (map (row_of p) rules ++ rows)) ≡ []
    → (cond t (r ∷ filter guards_bounds rules) (filter guards_bounds rules) ≡ []) × (filter exceeds rows ≡ [])) [
      | true ↦ λ g. cc
      | false ↦ λ g. no_rows p rules rows g
    ] h

guarded_onto : (m : Manager) (before earlier later : List Placed) → IsGuarded m before → filter exceeds (rows_after m before (earlier ++ later)) ≡ [] → IsGuarded m (onto before earlier)
guarded_onto m before [] later clean h = clean
guarded_onto m before (p ∷ earlier) later clean h =
    let parts = no_rows p (rules_at m before p) (rows_after m (p ∷ before) (earlier ++ later)) h in
    guarded_onto m (p ∷ before) earlier later (parts.0, clean) parts.1

pub guarded_captures_are_coherent : GuardedCapturesAreCoherent
guarded_captures_are_coherent m beats h earlier later parts =
    guarded_is_coherent m (reverse earlier)
    (subst (IsGuarded m) (onto_reverse [] earlier) (guarded_onto m [] earlier later tt (subst (λ ps. filter exceeds (rows_in m ps) ≡ []) parts h)))

pub reported_captures_are_coherent : ReportedCapturesAreCoherent
reported_captures_are_coherent captures rows report clean m beats is =
    guarded_captures_are_coherent m beats (none_kept exceeds (rows_in m beats) (λ row h.
    let reported : Contains rows row = (report.members row).1 (of_manager m beats, is, (rows_are_breaks m beats row).0 h) in
    let unkept : (t : Bool) → exceeds row ≡ t → t ≡ false = λ t. elim t as (λ t. exceeds row ≡ t → t ≡ false) [
      | true ↦ λ e. absurd (contains_none row (subst (λ rs. Contains rs row) clean (contains_kept exceeds rows row reported e)))
      | false ↦ λ e. refl
    ] in
    unkept (exceeds row) refl))
