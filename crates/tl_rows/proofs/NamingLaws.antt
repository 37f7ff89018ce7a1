-- What is found is named as it is meant.
use Rattle.std.proofs.Common.{◌≡◌, inl, inr, ℕ, ◌==◌, ◌&&◌, ◌||◌, Bool, true, false, cond, List, [], ◌∷◌, length, map, Option, Some, None, refl, sym, ap, ◌∙◌}
use Rattle.std.specs.Prelude.{not, is_some, is_none, nat_lt}
use Rattle.std.specs.List.{Contains, list_any}
use Rattle.std.specs.Option.{option_and_then, option_map, option_map_or}
use Rattle.tl_tables.specs.declared.Chan.{Chan}
use Rattle.tl_tables.specs.declared.Chan.TheVariants as chan
use Rattle.tl_tables.specs.declared.Op.{Op}
use Rattle.tl_tables.specs.declared.Op.TheVariants as op
use Rattle.tl_tables.specs.declared.Perm.{Perm}
use Rattle.tl_tables.specs.declared.Perm.TheVariants as perm
use Rattle.tl_tables.specs.Kinds.{conflicts, is_release_ack}
use Rattle.tl_tables.specs.Messages.{same_chan}
use Rattle.tl_beats.specs.declared.Beat.{Beat}
use Rattle.tl_beats.specs.declared.Placed.{Placed}
use Rattle.tl_beats.specs.declared.Request.{Request}
use Rattle.tl_definitions.specs.OpenTables.{Table, open_at, entry_at, open_keys}
use Rattle.tl_definitions.specs.Messages.{Message, as_request, sources, releases, request_of, message_at, bound_of}
use Rattle.tl_definitions.proofs.Lists.{contains_here, contains_there}
use Rattle.tl_client_rules.specs.Client.{can_carry}
use Rattle.tl_rows.specs.declared.origin.Origin.{Origin}
use Rattle.tl_rows.specs.declared.reason.Reason.{Reason}
use Rattle.tl_rows.specs.declared.reason.Reason.TheVariants as why
use Rattle.tl_rows.specs.Origins.{message, placed, least, first_open, last_setter}
use Rattle.tl_rows.specs.Reasons.{trail_of, named, first_some, bound_by, rival_at, head_message}
use Rattle.tl_rows.specs.Meanings.{NamesOpen, NamesNone, NamesFirst, NamesSetter, NamesOwnSetter}
use Rattle.tl_rows.proofs.OpenerLaws.{kept_of, request_law, bound_law}
use Rattle.tl_rows.proofs.MeaningLaws.{found_open, none_open, first_is, setter_found, no_setter}

pub and_parts : (a b : Bool) → (a && b) ≡ true → (a ≡ true) × (b ≡ true)
and_parts true b h = (refl, h)
and_parts false b h = cc

-- ---- open entries

some_map : {X Y : Type 0} (f : X → Y) (found : Option X) → is_some (option_map f found) ≡ is_some found
some_map f None = refl
some_map f (Some x) = refl

pub not_some : {X : Type 0} (found : Option X) → not (is_some found) ≡ true → is_none found ≡ true
not_some None h = refl
not_some (Some x) h = cc

not_both : {X : Type 0} (found : Option X) → is_none found ≡ not (is_some found)
not_both None = refl
not_both (Some x) = refl

-- Something is kept under a key where an opener is open on it.
pub kept_open : {V : Type 0} (kept : Message → V) (table : Table Message) (key : ℕ) (own : List Origin)
    → is_some (entry_at table kept (map message own) key) ≡ is_some (open_at (placed table) key own)
kept_open kept table key own = sym (ap is_some (kept_of kept table key own)) ∙ some_map (λ origin. kept (message origin)) (open_at (placed table) key own)

pub seen_open : (table : Table Message) (key : ℕ) (own : List Origin) → is_some (open_at table key (map message own)) ≡ is_some (open_at (placed table) key own)
seen_open table key own = sym (some_map (λ (m : Message). true) (open_at table key (map message own))) ∙ kept_open (λ (m : Message). true) table key own

pub names_open : (kind : Placed → Reason) (table : Table Message) (key : ℕ) (own : List Origin) → is_some (open_at (placed table) key own) ≡ true
    → NamesOpen kind table key own (named kind (open_at (placed table) key own))
names_open kind table key own h =
    elim (open_at (placed table) key own) as (λ found. open_at (placed table) key own ≡ found → is_some found ≡ true → NamesOpen kind table key own (named kind found)) [
      | None ↦ λ e g. cc
      | Some opener ↦ λ e g. (let entry = found_open (placed table) own key opener e in (opener, entry.0, entry.1, refl))
    ] refl h

pub names_none : (kind : Placed → Reason) (table : Table Message) (key : ℕ) (own : List Origin) → is_none (open_at (placed table) key own) ≡ true
    → NamesNone table key own (named kind (open_at (placed table) key own))
names_none kind table key own h =
    elim (open_at (placed table) key own) as (λ found. open_at (placed table) key own ≡ found → is_none found ≡ true → NamesNone table key own (named kind found)) [
      | None ↦ λ e g. (none_open (placed table) own key e, refl)
      | Some opener ↦ λ e g. cc
    ] refl h

pub nothing_open : {V : Type 0} (kept : Message → V) (table : Table Message) (key : ℕ) (own : List Origin) → is_none (entry_at table kept (map message own) key) ≡ true
    → is_none (open_at (placed table) key own) ≡ true
nothing_open kept table key own h =
    not_both (open_at (placed table) key own) ∙ ap not (sym (kept_open kept table key own)) ∙ sym (not_both (entry_at table kept (map message own) key)) ∙ h

-- ---- requests

some_passes : {X : Type 0} (test : X → Bool) (found : Option X) → option_map_or test found false ≡ true → is_some found ≡ true
some_passes test None h = cc
some_passes test (Some x) h = refl

pub passes_some : {X : Type 0} (test : X → Bool) (found : Option X) → option_map_or test found false ≡ true → is_some found ≡ true
passes_some = some_passes

pub reply_request : (ms : List Message) (o : Op) (head : Beat) → (same_chan head.chan chan.D && not (is_release_ack o)) ≡ true
    → request_of ms o head ≡ entry_at sources as_request ms head.source
reply_request ms o head h =
    let parts = and_parts (same_chan head.chan chan.D) (not (is_release_ack o)) h in
    let other : is_release_ack o ≡ false = elim (is_release_ack o) as (λ b. not b ≡ true → b ≡ false) [ true ↦ λ g. cc | false ↦ λ g. refl ] parts.1 in
    ap (λ b. cond b (cond (is_release_ack o) (entry_at releases as_request ms head.source) (entry_at sources as_request ms head.source)) None) parts.0
    ∙ ap (λ b. cond b (entry_at releases as_request ms head.source) (entry_at sources as_request ms head.source)) other

pub ack_request : (ms : List Message) (o : Op) (head : Beat) → is_release_ack o ≡ true → same_chan head.chan chan.D ≡ true
    → request_of ms o head ≡ entry_at releases as_request ms head.source
ack_request ms o head ack d =
    ap (λ b. cond b (cond (is_release_ack o) (entry_at releases as_request ms head.source) (entry_at sources as_request ms head.source)) None) d
    ∙ ap (λ b. cond b (entry_at releases as_request ms head.source) (entry_at sources as_request ms head.source)) ack

pub ack_on_d : (c : Chan) (o : Op) → is_release_ack o ≡ true → can_carry c o ≡ true → same_chan c chan.D ≡ true
ack_on_d chan.A op.ReleaseAck h g = cc
ack_on_d chan.B op.ReleaseAck h g = cc
ack_on_d chan.C op.ReleaseAck h g = cc
ack_on_d chan.D op.ReleaseAck h g = refl
ack_on_d chan.E op.ReleaseAck h g = cc
ack_on_d c _ h g = cc

pub same_message : (exponent : ℕ) (own : List Origin) (p : Placed) (o : Op) → head_message (trail_of exponent own) p o ≡ message_at (map message own) p.beat o
same_message exponent own p o = ap (λ (r : Option Request). record { op = o; beat = p.beat; request = r }) (request_law exponent own o p.beat)

-- ---- bounds

pub names_setter : (kind : Placed → Reason) (exponent block : ℕ) (own : List Origin) (setter : Origin) → last_setter exponent own block ≡ Some setter
    → NamesSetter kind exponent block own (kind setter.place)
names_setter kind exponent block own setter e = (let r = setter_found exponent block own setter e in (r.0, r.1, setter, r.2, r.3, r.4, refl))

pub names_own_setter : (exponent block : ℕ) (own : List Origin) → NamesOwnSetter exponent block own (named why.Setter (last_setter exponent own block))
names_own_setter exponent block own =
    elim (last_setter exponent own block) as (λ found. last_setter exponent own block ≡ found → NamesOwnSetter exponent block own (named why.Setter found)) [
      | None ↦ λ e. inr (no_setter exponent block own e, refl)
      | Some setter ↦ λ e. inl (names_setter why.Setter exponent block own setter e)
    ] refl

-- ---- the first of those on a block

some_least : (keys : List ℕ) → nat_lt 0 (length keys) ≡ true → (key : ℕ) × (least keys ≡ Some key)
some_least [] h = cc
some_least (key ∷ keys) h = (option_map_or (λ k. k) (least (key ∷ keys)) 0, refl)

pub first_there : (table : Table Message) (test : Message → Bool) (own : List Origin) → nat_lt 0 (length (open_keys table test (map message own))) ≡ true
    → is_some (first_open table test own) ≡ true
first_there table test own h = (let key = some_least (open_keys table test (map message own)) h in let r = first_is table test own key.0 key.1 in ap is_some r.1)

pub names_first : (kind : Placed → Reason) (table : Table Message) (test : Message → Bool) (own : List Origin) (origin : Origin) → first_open table test own ≡ Some origin
    → NamesFirst kind table test own (kind origin.place)
names_first kind table test own origin h =
    elim (least (open_keys table test (map message own))) as (λ found. least (open_keys table test (map message own)) ≡ found → NamesFirst kind table test own (kind origin.place)) [
      | None ↦ λ e. (let never : None ≡ Some origin = sym (ap (λ k. option_and_then (λ x. open_at (placed table) x own) k) e) ∙ h in cc)
      | Some key ↦ λ e. (let r = first_is table test own key e in
          let same : r.0 ≡ origin = ap (λ o. option_map_or (λ z. z) o origin) (sym r.1 ∙ h) in
          (r.0, r.2, r.3, r.4, ap (λ (o : Origin). kind o.place) (sym same)))
    ] refl

pub names_some_first : (kind : Placed → Reason) (table : Table Message) (test : Message → Bool) (own : List Origin) → nat_lt 0 (length (open_keys table test (map message own))) ≡ true
    → NamesFirst kind table test own (named kind (first_open table test own))
names_some_first kind table test own h =
    elim (first_open table test own) as (λ found. first_open table test own ≡ found → is_some found ≡ true → NamesFirst kind table test own (named kind found)) [
      | None ↦ λ e g. cc
      | Some origin ↦ λ e g. names_first kind table test own origin e
    ] refl (first_there table test own h)

-- ---- the first client

pub first_client : (found : ℕ → Option Origin) (test : ℕ → Bool) (clients : List ℕ) → ((client : ℕ) → test client ≡ true → is_some (found client) ≡ true) → list_any test clients ≡ true
    → (client : ℕ) × Contains clients client × (origin : Origin) × (found client ≡ Some origin) × (first_some found clients ≡ Some origin)
first_client found test [] has h = cc
first_client found test (client ∷ clients) has h =
    elim (found client) as (λ f. found client ≡ f → (c : ℕ) × Contains (client ∷ clients) c × (origin : Origin) × (found c ≡ Some origin) × (option_map_or Some f (first_some found clients) ≡ Some origin)) [
      | Some origin ↦ λ e. (client, contains_here client clients, origin, e, refl)
      | None ↦ λ e. (let lacks : test client ≡ false = elim (test client) as (λ b. test client ≡ b → b ≡ false) [
        | true ↦ λ t. (let never : false ≡ true = sym (ap is_some e) ∙ has client t in cc)
        | false ↦ λ t. refl
      ] refl in
          let r = first_client found test clients has (sym (ap (λ b. b || list_any test clients) lacks) ∙ h) in
          (r.0, contains_there client clients r.0 r.1, r.2, r.3, r.4))
    ] refl

-- ---- rivals

no_conflict : (set : Perm) → conflicts set perm.Nothing ≡ false
no_conflict perm.Nothing = refl
no_conflict perm.Branch = refl
no_conflict perm.Trunk = refl

module _ (exponent : ℕ) (before : ℕ → List Origin) (link block : ℕ) (set : Perm) where
  abbrev forbids : ℕ → Bool
  forbids client = not (client == link) && conflicts set (bound_of exponent (map message (before client)) block)

  abbrev found_at : ℕ → Option Origin
  found_at client = rival_at exponent (λ c. trail_of exponent (before c)) link block set client

  as_bound : (client : ℕ) → found_at client ≡ cond (forbids client) (last_setter exponent (before client) block) None
  as_bound client = ap (λ b. cond (not (client == link) && conflicts set b) (last_setter exponent (before client) block) None) (bound_law exponent (before client) block)

  setter_there : (client : ℕ) → conflicts set (bound_of exponent (map message (before client)) block) ≡ true → is_some (last_setter exponent (before client) block) ≡ true
  setter_there client h =
      elim (last_setter exponent (before client) block) as (λ found. conflicts set (bound_by exponent found) ≡ true → is_some found ≡ true) [
        | None ↦ λ g. (let never : true ≡ false = sym g ∙ no_conflict set in cc)
        | Some setter ↦ λ g. refl
      ] (ap (conflicts set) (bound_law exponent (before client) block) ∙ h)

  pub rival_there : (client : ℕ) → forbids client ≡ true → is_some (found_at client) ≡ true
  rival_there client h =
      ap is_some (as_bound client) ∙ ap (λ b. is_some (cond b (last_setter exponent (before client) block) None)) h
      ∙ setter_there client (and_parts (not (client == link)) (conflicts set (bound_of exponent (map message (before client)) block)) h).1

  pub rival_parts : (client : ℕ) (origin : Origin) → found_at client ≡ Some origin
      → ((client == link) ≡ false) × (conflicts set (bound_of exponent (map message (before client)) block) ≡ true) × (last_setter exponent (before client) block ≡ Some origin)
  rival_parts client origin h =
      elim (forbids client) as (λ b. forbids client ≡ b → cond b (last_setter exponent (before client) block) None ≡ Some origin
      → ((client == link) ≡ false) × (conflicts set (bound_of exponent (map message (before client)) block) ≡ true) × (last_setter exponent (before client) block ≡ Some origin)) [
        | true ↦ λ e g. (let parts = and_parts (not (client == link)) (conflicts set (bound_of exponent (map message (before client)) block)) e in
            (elim (client == link) as (λ b. not b ≡ true → b ≡ false) [ true ↦ λ n. cc | false ↦ λ n. refl ] parts.0, parts.1, g))
        | false ↦ λ e g. cc
      ] refl (sym (as_bound client) ∙ h)
