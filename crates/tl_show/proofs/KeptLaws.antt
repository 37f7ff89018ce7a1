-- What holds of all beats of a manager holds of those that are told and of those that reasons name.
use Rattle.std.proofs.Common.{◌≡◌, ℕ, zero, suc, ◌<◌, ◌==◌, ◌&&◌, Bool, true, false, cond, List, [], ◌∷◌, ◌++◌, length, get_or, map, Option, Some, None, subst, arith}
use Rattle.std.specs.Prelude.{find, filter, not}
use Rattle.std.specs.List.{All, AllByRecursion}
use Rattle.std.proofs.lemmas.Option.{same_Some}
use Rattle.std.specs.Option.{IfSome, option_and_then, option_map_or}
use Rattle.tl_tables.specs.declared.Chan.{Chan}
use Rattle.tl_tables.specs.declared.Op.{Op}
use Rattle.tl_tables.specs.declared.Perm.{Perm}
use Rattle.tl_tables.specs.declared.Rule.{Rule}
use Rattle.tl_tables.specs.declared.Rule.TheVariants as rule
use Rattle.tl_tables.specs.Kinds.{conflicts}
use Rattle.tl_tables.specs.Messages.{same_chan}
use Rattle.tl_beats.specs.declared.Placed.{Placed}
use Rattle.tl_beats.specs.declared.Row.{Row}
use Rattle.tl_definitions.specs.Heads.{message_of}
use Rattle.tl_definitions.specs.Messages.{Message, Links, sources, releases, sinks, probes, round_down, granted_block, claim, at_head}
use Rattle.tl_definitions.specs.OpenTables.{Table, touches, if_opens, open_at, open_keys}
use Rattle.tl_definitions.specs.Rules.{Manager}
use Rattle.tl_rows.specs.declared.origin.Origin.{Origin}
use Rattle.tl_rows.specs.declared.reason.Reason.{Reason}
use Rattle.tl_rows.specs.declared.reason.Reason.TheVariants as why
use Rattle.tl_rows.specs.declared.telling.Told.{Told}
use Rattle.tl_rows.specs.Origins.{message, origin_at, with_origin, origins_on, head_before, placed, least, first_open, last_setter}
use Rattle.tl_rows.specs.Reasons.{Trail, trail_of, trails_of, head_message, named, first_some, rival_at, rival, link_reason, head_reason, later_reason, reason_at, acquires, gives_back, grants, bound_by}
use Rattle.tl_rows.specs.Telling.{is_of, told_of, told_after}
use Rattle.tl_show.specs.Lines.{IsKept}

pub all_rec : {X : Type 0} (P : X → Type 0) (xs : List X) → All P xs → AllByRecursion P xs
all_rec P [] h = tt
all_rec P (x ∷ xs) h = (h 0 x (omega arith), all_rec P xs (λ k d below. h (suc k) d (omega arith)))

pub rec_all : {X : Type 0} (P : X → Type 0) (xs : List X) → AllByRecursion P xs → All P xs
rec_all P [] h k d below = absurd (omega arith)
rec_all P (x ∷ xs) h zero d below = h.0
rec_all P (x ∷ xs) h (suc k) d below = rec_all P xs h.1 k d (omega arith)

pub all_join : {X : Type 0} (P : X → Type 0) (xs ys : List X) → AllByRecursion P xs → AllByRecursion P ys → AllByRecursion P (xs ++ ys)
all_join P [] ys h g = g
all_join P (x ∷ xs) ys h g = (h.0, all_join P xs ys h.1 g)

module _ (P : Placed → Type 0) where
  abbrev Q : Origin → Type 0
  Q origin = P origin.place

  head_kept : (links : Links) (link : ℕ) (chan : Chan) (before : List Placed) → AllByRecursion P before → IfSome (head_before links link chan before) P
  head_kept links link chan [] all = tt
  head_kept links link chan (p ∷ before) all =
      elim (((p.link == link) && same_chan p.beat.chan chan) && at_head links before p) as (λ b. IfSome (cond b (Some p) (head_before links link chan before)) P) [
        | true ↦ all.0
        | false ↦ head_kept links link chan before all.1
      ]

  with_kept : (p : Placed) (found : Option Op) (before : List Origin) → P p → AllByRecursion Q before → AllByRecursion Q (with_origin p found before)
  with_kept p None before own all = all
  with_kept p (Some o) before own all = (own, all)

  origins_kept : (links : Links) (link : ℕ) (before : List Placed) → AllByRecursion P before → AllByRecursion Q (origins_on links link before)
  origins_kept links link [] all = tt
  origins_kept links link (p ∷ before) all =
      elim ((p.link == link) && at_head links before p) as (λ b. AllByRecursion Q (cond b (with_origin p (message_of (links link) p.beat) (origins_on links link before)) (origins_on links link before))) [
        | true ↦ with_kept p (message_of (links link) p.beat) (origins_on links link before) all.0 (origins_kept links link before all.1)
        | false ↦ origins_kept links link before all.1
      ]

  find_kept : (test : Origin → Bool) (xs : List Origin) → AllByRecursion Q xs → IfSome (find test xs) Q
  find_kept test [] all = tt
  find_kept test (x ∷ xs) all = elim (test x) as (λ b. IfSome (cond b (Some x) (find test xs)) Q) [ true ↦ all.0 | false ↦ find_kept test xs all.1 ]

  opens_kept : (table : Table Origin) (found : Option Origin) → IfSome found Q → IfSome (option_and_then (if_opens table) found) Q
  opens_kept table None h = tt
  opens_kept table (Some o) h = elim (table.opens o) as (λ b. IfSome (cond b (Some o) None) Q) [ true ↦ h | false ↦ tt ]

  open_kept : (table : Table Origin) (key : ℕ) (xs : List Origin) → AllByRecursion Q xs → IfSome (open_at table key xs) Q
  open_kept table key xs all = opens_kept table (find (touches table key) xs) (find_kept (touches table key) xs all)

  first_kept : (table : Table Message) (test : Message → Bool) (xs : List Origin) → AllByRecursion Q xs → IfSome (first_open table test xs) Q
  first_kept table test xs all =
      elim (least (open_keys table test (map message xs))) as (λ found. IfSome (option_and_then (λ key. open_at (placed table) key xs) found) Q) [
        | None ↦ tt
        | Some key ↦ open_kept (placed table) key xs all
      ]

  named_kept : (kind : Placed → Reason) → ((p : Placed) → P p → IsKept P (kind p)) → (found : Option Origin) → IfSome found Q → IsKept P (named kind found)
  named_kept kind is None h = tt
  named_kept kind is (Some o) h = is o.place h

  some_kept : (found : ℕ → Option Origin) → ((client : ℕ) → IfSome (found client) Q) → (clients : List ℕ) → IfSome (first_some found clients) Q
  some_kept found each [] = tt
  some_kept found each (client ∷ clients) =
      elim (found client) as (λ here. IfSome here Q → IfSome (option_map_or Some here (first_some found clients)) Q) [
        | None ↦ λ h. some_kept found each clients
        | Some o ↦ λ h. h
      ] (each client)

  module _ (exponent : ℕ) (before : List Origin) (all : AllByRecursion Q before) where
    link_kept : (p : Placed) (broken : Rule) → IsKept P (link_reason exponent (trail_of exponent before) p.beat broken)
    link_kept p rule.S1 = named_kept why.Request (λ q h. h) _ (open_kept (placed sources) p.beat.source before all)
    link_kept p rule.S2 = named_kept why.Request (λ q h. h) _ (open_kept (placed sources) p.beat.source before all)
    link_kept p rule.S3 = named_kept why.Request (λ q h. h) _ (open_kept (placed sources) p.beat.source before all)
    link_kept p rule.S4 = named_kept why.Request (λ q h. h) _ (open_kept (placed sources) p.beat.source before all)
    link_kept p rule.S5 = named_kept why.Release (λ q h. h) _ (open_kept (placed releases) p.beat.source before all)
    link_kept p rule.S6 = named_kept why.Release (λ q h. h) _ (open_kept (placed releases) p.beat.source before all)
    link_kept p rule.S7 = named_kept why.Release (λ q h. h) _ (open_kept (placed releases) p.beat.source before all)
    link_kept p rule.S8 = named_kept why.Grant (λ q h. h) _ (open_kept (placed sinks) p.beat.sink before all)
    link_kept p rule.S9 = named_kept why.Grant (λ q h. h) _ (open_kept (placed sinks) p.beat.sink before all)
    link_kept p rule.P1 = named_kept why.Setter (λ q h. h) _ (find_kept _ before all)
    link_kept p rule.P2 = named_kept why.Setter (λ q h. h) _ (find_kept _ before all)
    link_kept p rule.P3 = named_kept why.Probe (λ q h. h) _ (open_kept (placed (probes exponent)) (round_down exponent p.beat.address) before all)
    link_kept p rule.P4 = named_kept why.Probe (λ q h. h) _ (open_kept (placed (probes exponent)) (round_down exponent p.beat.address) before all)
    link_kept p rule.P5 = named_kept why.Probe (λ q h. h) _ (open_kept (placed (probes exponent)) (round_down exponent p.beat.address) before all)
    link_kept p rule.P6 = named_kept why.Request (λ q h. h) _ (first_kept sources (acquires exponent (round_down exponent p.beat.address)) before all)
    link_kept p rule.P7 = named_kept why.Request (λ q h. h) _ (first_kept sources (acquires exponent (round_down exponent p.beat.address)) before all)
    link_kept p rule.P8 = named_kept why.Release (λ q h. h) _ (first_kept releases (gives_back exponent (round_down exponent p.beat.address)) before all)
    link_kept p _ = tt

  module _ (m : Manager) (before : List Placed) (all : AllByRecursion P before) where
    own_kept : (link : ℕ) → AllByRecursion Q (origins_on m.links link before)
    own_kept link = origins_kept m.links link before all

    abbrev trails : ℕ → Trail
    trails = trails_of m.links m.exponent before

    rival_kept : (p : Placed) (found : Option (ℕ × Perm)) → IfSome (option_and_then (rival m.clients m.exponent trails p.link) found) Q
    rival_kept p None = tt
    rival_kept p (Some (block, set)) =
        some_kept (rival_at m.exponent trails p.link block set)
        (λ client. elim (not (client == p.link) && conflicts set (bound_by m.exponent ((trails client).setter block))) as (λ b. IfSome (cond b ((trails client).setter block) None) Q) [
          | true ↦ find_kept _ (origins_on m.links client before) (own_kept client)
          | false ↦ tt
        ]) m.clients

    probe_kept : (found : Option ℕ) → IfSome (option_and_then (λ block. first_some (λ client. (trails client).probe block) m.clients) found) Q
    probe_kept None = tt
    probe_kept (Some block) = some_kept (λ client. (trails client).probe block) (λ client. open_kept (placed (probes m.exponent)) block (origins_on m.links client before) (own_kept client)) m.clients

    grant_kept : (block : ℕ) → IfSome (first_some (λ client. (trails client).grant block) m.clients) Q
    grant_kept block = some_kept (λ client. (trails client).grant block) (λ client. first_kept sinks (grants m.exponent block) (origins_on m.links client before) (own_kept client)) m.clients

    head_reason_kept : (p : Placed) (o : Op) (broken : Rule) → IsKept P (head_reason m.clients m.exponent trails p o broken)
    head_reason_kept p o rule.M1 = named_kept why.Rival (λ q h. h) _ (rival_kept p (claim m.exponent (head_message (trails p.link) p o)))
    head_reason_kept p o rule.M2 = named_kept why.Probe (λ q h. h) _ (probe_kept (granted_block m.exponent (head_message (trails p.link) p o)))
    head_reason_kept p o rule.M3 = named_kept why.Grant (λ q h. h) _ (grant_kept (round_down m.exponent p.beat.address))
    head_reason_kept p o broken = link_kept m.exponent (origins_on m.links p.link before) (own_kept p.link) p broken

    later_kept : (found : Option Placed) (broken : Rule) → IfSome found P → IsKept P (later_reason found broken)
    later_kept found rule.X1 h = tt
    later_kept None _ h = tt
    later_kept (Some p) _ h = h

    pub reason_kept : (p : Placed) (broken : Rule) → IsKept P (reason_at m before p broken)
    reason_kept p broken =
        elim (at_head m.links before p) as (λ b. IsKept P (cond b (option_map_or (λ o. head_reason m.clients m.exponent trails p o broken) (message_of (m.links p.link) p.beat) why.ByItself)
        (later_reason (head_before m.links p.link p.beat.chan before) broken))) [
          | true ↦ elim (message_of (m.links p.link) p.beat) as (λ found. IsKept P (option_map_or (λ o. head_reason m.clients m.exponent trails p o broken) found why.ByItself)) [
            | None ↦ tt
            | Some o ↦ head_reason_kept p o broken
          ]
          | false ↦ later_kept (head_before m.links p.link p.beat.chan before) broken (head_kept m.links p.link p.beat.chan before all)
        ]

  abbrev pub IsToldKept : Told → Type 0
  IsToldKept told = P told.place × IsKept P told.reason

  rows_kept : (m : Manager) (before : List Placed) (p : Placed) (rows : List Row) → AllByRecursion P before → P p → AllByRecursion IsToldKept (map (told_of m before p) rows)
  rows_kept m before p [] all own = tt
  rows_kept m before p (row ∷ rows) all own = ((own, reason_kept m before all p row.rule), rows_kept m before p rows all own)

  pub told_kept : (m : Manager) (rows : List Row) (before beats : List Placed) → AllByRecursion P before → AllByRecursion P beats → AllByRecursion IsToldKept (told_after m rows before beats)
  told_kept m rows before [] all left = tt
  told_kept m rows before (p ∷ beats) all left =
      all_join IsToldKept (map (told_of m before p) (filter (is_of p) rows)) (told_after m rows (p ∷ before) beats) (rows_kept m before p (filter (is_of p) rows) all left.0)
      (told_kept m rows (p ∷ before) beats (left.0, all) left.1)

-- What is found is one of them.
pub found_kept : {X : Type 0} (R : X → Type 0) (test : X → Bool) (xs : List X) (x : X) → AllByRecursion R xs → find test xs ≡ Some x → R x
found_kept R test [] x all h = cc
found_kept R test (y ∷ xs) x all h =
    elim (test y) as (λ b. cond b (Some y) (find test xs) ≡ Some x → R x) [
      | true ↦ λ g. subst R (same_Some _ _ g) all.0
      | false ↦ λ g. found_kept R test xs x all.1 g
    ] h
