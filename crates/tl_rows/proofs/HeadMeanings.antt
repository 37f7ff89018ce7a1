-- Each rule that a beat breaks has the reason that is meant.
use Rattle.std.proofs.Common.{◌≡◌, ◌⊎◌, inl, inr, ℕ, ◌==◌, ◌&&◌, ◌||◌, Bool, true, false, List, ◌++◌, map, Option, Some, None, refl, sym, ap, subst, ◌∙◌}
use Rattle.std.specs.Prelude.{filter, not, is_some, is_none, nat_lt}
use Rattle.std.specs.List.{Contains, list_any}
use Rattle.std.specs.Option.{option_and_then, option_map_or}
use Rattle.std.proofs.lemmas.List.Elements.{Contains-append_cases}
use Rattle.tl_tables.specs.declared.Op.{Op}
use Rattle.tl_tables.specs.declared.Perm.{Perm}
use Rattle.tl_tables.specs.declared.Rule.{Rule}
use Rattle.tl_tables.specs.declared.Rule.TheVariants as rule
use Rattle.tl_tables.specs.Kinds.{conflicts}
use Rattle.tl_tables.specs.Messages.{replies_to}
use Rattle.tl_tables.specs.Params.{cap_of, to_of, is_above}
use Rattle.tl_beats.specs.declared.Placed.{Placed}
use Rattle.tl_beats.specs.declared.Request.{Request}
use Rattle.tl_definitions.specs.OpenTables.{open_at}
use Rattle.tl_definitions.specs.Messages.{Message, as_request, sources, releases, sinks, probes, is_reply, message_at, round_down, claim, granted_block}
use Rattle.tl_definitions.specs.Past.{LinkPast, past_of}
use Rattle.tl_definitions.specs.Rules.{Manager, breaks_format, breaks_flow, breaks_permission, breaks_manager}
use Rattle.tl_definitions.proofs.Lists.{kept_from}
use Rattle.tl_client_rules.specs.Client.{can_carry}
use Rattle.tl_rows.specs.declared.origin.Origin.{Origin}
use Rattle.tl_rows.specs.declared.reason.Reason.{Reason}
use Rattle.tl_rows.specs.declared.reason.Reason.TheVariants as why
use Rattle.tl_rows.specs.Origins.{message, placed}
use Rattle.tl_rows.specs.Reasons.{Trail, trail_of, named, first_some, rival, rival_at, head_reason, acquires, gives_back, grants}
use Rattle.tl_rows.specs.Meanings.{HeadMeaning, NamesRival, NamesAnyProbe, NamesAnyGrant}
use Rattle.tl_rows.proofs.MeaningLaws.{found_open}
use Rattle.tl_rows.proofs.NamingLaws.{and_parts, not_some, kept_open, seen_open, names_open, names_none, nothing_open, passes_some, reply_request, ack_request, ack_on_d, same_message, names_setter, names_own_setter, names_first, names_some_first, first_there, first_client, rival_there, rival_parts}

-- ---- which rules a head breaks

either : (a b : Bool) → (a ≡ true) ⊎ (b ≡ true) → (a || b) ≡ true
either true b h = refl
either false b (inl h) = cc
either false b (inr h) = h

pub broken_in : (f s p m : Rule → Bool) (fs ss ps ms : List Rule) (r : Rule) → Contains (filter f fs ++ filter s ss ++ filter p ps ++ filter m ms) r → (((f r || s r) || p r) || m r) ≡ true
broken_in f s p m fs ss ps ms r h = elim (Contains-append_cases (filter f fs ++ filter s ss ++ filter p ps) (filter m ms) r h) [
  | inr d ↦ either ((f r || s r) || p r) (m r) (inr (kept_from m ms r d).1)
  | inl abc ↦ either ((f r || s r) || p r) (m r) (inl (elim (Contains-append_cases (filter f fs ++ filter s ss) (filter p ps) r abc) [
    | inr c ↦ either (f r || s r) (p r) (inr (kept_from p ps r c).1)
    | inl ab ↦ either (f r || s r) (p r) (inl (elim (Contains-append_cases (filter f fs) (filter s ss) r ab) [
      | inr b ↦ either (f r) (s r) (inr (kept_from s ss r b).1)
      | inl a ↦ either (f r) (s r) (inl (kept_from f fs r a).1)
    ]))
  ]))
]

or_none : (b : Bool) → (b || false) ≡ true → b ≡ true
or_none true h = refl
or_none false h = h

or_nones : (b : Bool) → ((b || false) || false) ≡ true → b ≡ true
or_nones true h = refl
or_nones false h = h

either_of : (test : Perm → Perm → Bool) (to : Option Perm) (cap : Option (Option Perm))
    → option_map_or (λ t. option_map_or (test t) (option_and_then (λ c. c) cap) false) to false ≡ true → is_some cap ≡ true
either_of test None cap h = cc
either_of test (Some t) None h = cc
either_of test (Some t) (Some c) h = refl

module _ (m : Manager) (before : ℕ → List Origin) (p : Placed) (o : Op) (carries : can_carry p.beat.chan o ≡ true) where
  abbrev own : List Origin
  own = before p.link

  abbrev head : Message
  head = message_at (map message own) p.beat o

  abbrev block : ℕ
  block = round_down m.exponent p.beat.address

  abbrev pasts : ℕ → LinkPast
  pasts link = past_of m.exponent (map message (before link))

  abbrev trails : ℕ → Trail
  trails link = trail_of m.exponent (before link)

  abbrev pub reason : Rule → Reason
  reason broken = head_reason m.clients m.exponent trails p o broken

  abbrev pub is_broken : Rule → Bool
  is_broken r =
      ((breaks_format m.exponent m.regions (m.links p.link) o p.beat r || breaks_flow (pasts p.link).flow head r) || breaks_permission (m.links p.link).strict m.exponent (pasts p.link).client head r)
      || breaks_manager m.clients m.exponent (λ client. (pasts client).client) p.link head r

  request_open : (test : Request → Bool) → is_reply head ≡ true → option_map_or test head.request false ≡ true → is_some (open_at (placed sources) p.beat.source own) ≡ true
  request_open test is good =
      sym (kept_open as_request sources p.beat.source own) ∙ sym (ap is_some (reply_request (map message own) o p.beat is)) ∙ passes_some test head.request good

  rival_meaning : (found : Option (ℕ × Perm)) → claim m.exponent head ≡ found
      → option_map_or (λ set. list_any (λ client. not (client == p.link) && conflicts set.1 ((pasts client).client.bound set.0)) m.clients) found false ≡ true
      → NamesRival m before p.link head (named why.Rival (option_and_then (rival m.clients m.exponent trails p.link) found))
  rival_meaning None e h = cc
  rival_meaning (Some set) e h =
      let r = first_client (rival_at m.exponent trails p.link set.0 set.1) (λ client. not (client == p.link) && conflicts set.1 ((pasts client).client.bound set.0)) m.clients
      (rival_there m.exponent before p.link set.0 set.1) h in
      let parts = rival_parts m.exponent before p.link set.0 set.1 r.0 r.2 r.3 in
      subst (λ found. NamesRival m before p.link head (named why.Rival found)) (sym r.4)
      (set, e, r.0, r.1, parts.0, parts.1, names_setter why.Rival m.exponent set.0 (before r.0) r.2 parts.2)

  probe_meaning : (found : Option ℕ) → granted_block m.exponent head ≡ found
      → option_map_or (λ b. list_any (λ client. is_some ((pasts client).client.probe b)) m.clients) found false ≡ true
      → NamesAnyProbe m before head (named why.Probe (option_and_then (λ b. first_some (λ client. (trails client).probe b) m.clients) found))
  probe_meaning None e h = cc
  probe_meaning (Some b) e h =
      let r = first_client (λ client. (trails client).probe b) (λ client. is_some ((pasts client).client.probe b)) m.clients
      (λ client g. sym (kept_open (λ message. cap_of message.op message.beat.param) (probes m.exponent) b (before client)) ∙ g) h in
      let entry = found_open (placed (probes m.exponent)) (before r.0) b r.2 r.3 in
      subst (λ found. NamesAnyProbe m before head (named why.Probe found)) (sym r.4) (b, e, r.0, r.1, (r.2, entry.0, entry.1, refl))

  grant_meaning : list_any (λ client. nat_lt 0 ((pasts client).client.grants block)) m.clients ≡ true
      → NamesAnyGrant m before block (named why.Grant (first_some (λ client. (trails client).grant block) m.clients))
  grant_meaning h =
      let r = first_client (λ client. (trails client).grant block) (λ client. nat_lt 0 ((pasts client).client.grants block)) m.clients
      (λ client g. first_there sinks (grants m.exponent block) (before client) g) h in
      subst (λ found. NamesAnyGrant m before block (named why.Grant found)) (sym r.4)
      (r.0, r.1, names_first why.Grant sinks (grants m.exponent block) (before r.0) r.2 r.3)

  pub head_meaning : (r : Rule) → is_broken r ≡ true → HeadMeaning m before p head r (reason r)
  head_meaning rule.S1 h = names_open why.Request sources p.beat.source own (sym (kept_open as_request sources p.beat.source own) ∙ (and_parts _ _ (or_nones _ h)).1)
  head_meaning rule.S2 h = names_none why.Request sources p.beat.source own (nothing_open as_request sources p.beat.source own (sym (ap is_none (reply_request (map message own) o p.beat (and_parts _ _ (or_nones _ h)).0)) ∙ (and_parts _ _ (or_nones _ h)).1))
  head_meaning rule.S3 h = names_open why.Request sources p.beat.source own (request_open (λ request. not (replies_to request.op o)) (and_parts _ _ (or_nones _ h)).0 (and_parts _ _ (or_nones _ h)).1)
  head_meaning rule.S4 h = names_open why.Request sources p.beat.source own (request_open (λ request. not (request.size == p.beat.size)) (and_parts _ _ (or_nones _ h)).0 (and_parts _ _ (or_nones _ h)).1)
  head_meaning rule.S5 h = names_none why.Release releases p.beat.source own (nothing_open as_request releases p.beat.source own (sym (ap is_none (ack_request (map message own) o p.beat (and_parts _ _ (or_nones _ h)).0 (ack_on_d p.beat.chan o (and_parts _ _ (or_nones _ h)).0 carries))) ∙ (and_parts _ _ (or_nones _ h)).1))
  head_meaning rule.S6 h = names_open why.Release releases p.beat.source own (sym (kept_open as_request releases p.beat.source own) ∙ (and_parts _ _ (or_nones _ h)).1)
  head_meaning rule.S7 h = names_open why.Release releases p.beat.source own (sym (kept_open as_request releases p.beat.source own) ∙ sym (ap is_some (ack_request (map message own) o p.beat (and_parts _ _ (or_nones _ h)).0 (ack_on_d p.beat.chan o (and_parts _ _ (or_nones _ h)).0 carries))) ∙ passes_some (λ request. not (request.size == p.beat.size)) head.request (and_parts _ _ (or_nones _ h)).1)
  head_meaning rule.S8 h = names_open why.Grant sinks p.beat.sink own (sym (seen_open sinks p.beat.sink own) ∙ (and_parts _ _ (or_nones _ h)).1)
  head_meaning rule.S9 h = names_none why.Grant sinks p.beat.sink own (not_some (open_at (placed sinks) p.beat.sink own) (ap not (sym (seen_open sinks p.beat.sink own)) ∙ (and_parts _ _ (or_nones _ h)).1))
  head_meaning rule.P1 h = names_own_setter m.exponent block own
  head_meaning rule.P2 h = names_own_setter m.exponent block own
  head_meaning rule.P3 h = names_none why.Probe (probes m.exponent) block own (nothing_open (λ message. cap_of message.op message.beat.param) (probes m.exponent) block own (and_parts _ _ (or_none _ h)).1)
  head_meaning rule.P4 h = names_open why.Probe (probes m.exponent) block own (sym (kept_open (λ message. cap_of message.op message.beat.param) (probes m.exponent) block own) ∙ either_of is_above (to_of o p.beat.param) ((pasts p.link).client.probe block) (and_parts _ _ (or_none _ h)).1)
  head_meaning rule.P5 h = names_open why.Probe (probes m.exponent) block own (sym (kept_open (λ message. cap_of message.op message.beat.param) (probes m.exponent) block own) ∙ (and_parts _ _ (or_none _ h)).1)
  head_meaning rule.P6 h = names_some_first why.Request sources (acquires m.exponent block) own (and_parts _ _ (or_none _ h)).1
  head_meaning rule.P7 h = names_some_first why.Request sources (acquires m.exponent block) own (and_parts _ _ (or_none _ h)).1
  head_meaning rule.P8 h = names_some_first why.Release releases (gives_back m.exponent block) own (and_parts _ _ (or_none _ h)).1
  head_meaning rule.M1 h = subst (λ message. NamesRival m before p.link head (named why.Rival (option_and_then (rival m.clients m.exponent trails p.link) (claim m.exponent message)))) (sym (same_message m.exponent own p o)) (rival_meaning (claim m.exponent head) refl (and_parts _ _ h).1)
  head_meaning rule.M2 h = subst (λ message. NamesAnyProbe m before head (named why.Probe (option_and_then (λ b. first_some (λ client. (trails client).probe b) m.clients) (granted_block m.exponent message)))) (sym (same_message m.exponent own p o)) (probe_meaning (granted_block m.exponent head) refl (and_parts _ _ h).1)
  head_meaning rule.M3 h = grant_meaning (and_parts _ _ h).1
  head_meaning _ h = refl
