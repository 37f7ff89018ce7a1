-- What a state has open after a message.
use Rattle.std.proofs.Common.{◌≡◌, ℕ, ◌==◌, ◌&&◌, ◌||◌, Bool, true, false, cond, not, Option, Some, None, refl, sym, ap, ◌∙◌, arith}
use Rattle.std.specs.Option.{option_map}
use Rattle.std.proofs.lemmas.Bool.Decides.{nat_tests}
use Rattle.tl_tables.specs.declared.Chan.TheVariants as chan
use Rattle.tl_tables.specs.declared.Op.{Op}
use Rattle.tl_tables.specs.declared.Op.TheVariants as op
use Rattle.tl_tables.specs.declared.Perm.{Perm}
use Rattle.tl_tables.specs.Messages.{same_chan}
use Rattle.tl_tables.specs.Params.{cap_of}
use Rattle.tl_tables.specs.Kinds.{is_probe, is_probe_ack, is_release, is_grant, is_release_ack, is_grant_ack}
use Rattle.tl_beats.specs.declared.Beat.{Beat}
use Rattle.tl_beats.specs.declared.Request.{Request}
use Rattle.tl_definitions.specs.OpenTables.{Table}
use Rattle.tl_definitions.specs.Messages.{Message, as_request, sources, releases, sinks, probes, round_down, is_request, is_reply, granted_block}
use Rattle.tl_definitions.specs.Known.{Known, unknown, known, map_known, KnownPast, bare, answering, if_closed, if_shut, key_after, sink_after}
use Rattle.tl_definitions.proofs.Sure.{and_parts}
use Rattle.tl_client_rules.specs.Client.{can_carry}
use Rattle.tl_midway.specs.declared.known_link.KnownLink.{KnownLink}
use Rattle.tl_midway.specs.declared.counted.CountedTable.{CountedTable}
use Rattle.tl_midway.specs.declared.table.KnownTable.{KnownTable}
use Rattle.tl_midway.specs.declared.table.KnownBlocks.{KnownBlocks}
use Rattle.tl_midway.specs.Known.{opened, closed, shut}
use Rattle.tl_midway.specs.KnownTable.{known_at, known_on, IsSet, IsSetOn}
use Rattle.tl_midway.specs.CountedTable.{entry_known, IsSetTo}
use Rattle.tl_midway.specs.KnownLink.{first_entry, shown, granted_made, known_after, IsOpened}

same_number : (a b : ℕ) → (a == b) ≡ true → a ≡ b
same_number a b h = grind (arith, nat_tests)

-- ---- one key is set

pub set_at : {T : Type 0} (now old : ℕ → Known T) (key place : ℕ) (value to : Known T) → ((k : ℕ) → now k ≡ cond (key == k) value (old k)) → key ≡ place → value ≡ to
    → (k : ℕ) → now k ≡ cond (place == k) to (old k)
set_at now old key place value to set here is k =
    set k ∙ ap (λ j. cond (j == k) value (old k)) here ∙ ap (λ v. cond (place == k) v (old k)) is

-- ---- the entries of a table after a message

module _ {V : Type 0} (certain : Bool) (table : Table Message) (m : Message) (made : Bool → Known (Option V)) (old now : ℕ → Known (Option V)) where
  after_opening : table.opens m ≡ true → ((k : ℕ) → now k ≡ cond (table.key m == k) (opened certain (made true)) (old k))
      → (k : ℕ) → now k ≡ key_after certain table m (made (table.opens m)) old k
  after_opening opens set k =
      set k ∙ ap (λ b. cond ((b || table.closes m) && (table.key m == k)) (cond certain (made b) (cond b unknown (if_closed (old k)))) (old k)) (sym opens)

  after_closing : table.opens m ≡ false → table.closes m ≡ true → made false ≡ known None → ((k : ℕ) → now k ≡ cond (table.key m == k) (closed certain (old (table.key m))) (old k))
      → (k : ℕ) → now k ≡ key_after certain table m (made (table.opens m)) old k
  after_closing opens closes none set k =
      set k
      ∙ elim (table.key m == k) as (λ t. (table.key m == k) ≡ t → cond t (closed certain (old (table.key m))) (old k) ≡ cond t (closed certain (old k)) (old k)) [
        | true ↦ λ e. ap (λ j. closed certain (old j)) (same_number (table.key m) k e)
        | false ↦ λ e. refl
      ] refl
      ∙ ap (λ v. cond (table.key m == k) (cond certain v (if_closed (old k))) (old k)) (sym none)
      ∙ ap (λ b. cond (b && (table.key m == k)) (cond certain (made false) (if_closed (old k))) (old k)) (sym closes)
      ∙ ap (λ b. cond ((b || table.closes m) && (table.key m == k)) (cond certain (made b) (cond b unknown (if_closed (old k)))) (old k)) (sym opens)

  after_another : table.opens m ≡ false → table.closes m ≡ false → (k : ℕ) → old k ≡ key_after certain table m (made (table.opens m)) old k
  after_another opens closes k =
      ap (λ b. cond (b && (table.key m == k)) (cond certain (made false) (if_closed (old k))) (old k)) (sym closes)
      ∙ ap (λ b. cond ((b || table.closes m) && (table.key m == k)) (cond certain (made b) (cond b unknown (if_closed (old k)))) (old k)) (sym opens)

module _ (certain : Bool) (m : Message) (old now : ℕ → Known Bool) where
  sink_opened : is_grant m.op ≡ true → ((k : ℕ) → now k ≡ cond (m.beat.sink == k) (opened certain (known true)) (old k)) → (k : ℕ) → now k ≡ sink_after certain m old k
  sink_opened grant set k =
      set k ∙ ap (λ b. cond ((b || is_grant_ack m.op) && (m.beat.sink == k)) (cond certain (known b) (cond b unknown (if_shut (old k)))) (old k)) (sym grant)

  sink_shut : is_grant m.op ≡ false → is_grant_ack m.op ≡ true → ((k : ℕ) → now k ≡ cond (m.beat.sink == k) (shut certain (old m.beat.sink)) (old k)) → (k : ℕ) → now k ≡ sink_after certain m old k
  sink_shut grant ack set k =
      set k
      ∙ elim (m.beat.sink == k) as (λ t. (m.beat.sink == k) ≡ t → cond t (shut certain (old m.beat.sink)) (old k) ≡ cond t (shut certain (old k)) (old k)) [
        | true ↦ λ e. ap (λ j. shut certain (old j)) (same_number m.beat.sink k e)
        | false ↦ λ e. refl
      ] refl
      ∙ ap (λ b. cond (b && (m.beat.sink == k)) (cond certain (known false) (if_shut (old k))) (old k)) (sym ack)
      ∙ ap (λ b. cond ((b || is_grant_ack m.op) && (m.beat.sink == k)) (cond certain (known b) (cond b unknown (if_shut (old k)))) (old k)) (sym grant)

  sink_stays : is_grant m.op ≡ false → is_grant_ack m.op ≡ false → (k : ℕ) → old k ≡ sink_after certain m old k
  sink_stays grant ack k =
      ap (λ b. cond (b && (m.beat.sink == k)) (cond certain (known false) (if_shut (old k))) (old k)) (sym ack)
      ∙ ap (λ b. cond ((b || is_grant_ack m.op) && (m.beat.sink == k)) (cond certain (known b) (cond b unknown (if_shut (old k)))) (old k)) (sym grant)

-- ---- what a channel carries

none_of_6 : (a b c d e f : Bool) → not (a || b || c || d || e || f) ≡ true → (a ≡ false) × (b ≡ false) × (c ≡ false) × (d ≡ false) × (e ≡ false) × (f ≡ false)
none_of_6 true b c d e f h = absurd cc
none_of_6 false true c d e f h = absurd cc
none_of_6 false false true d e f h = absurd cc
none_of_6 false false false true e f h = absurd cc
none_of_6 false false false false true f h = absurd cc
none_of_6 false false false false false true h = absurd cc
none_of_6 false false false false false false h = (refl, refl, refl, refl, refl, refl)

none_of_5 : (a b c d e : Bool) → not (a || b || c || d || e) ≡ true → (a ≡ false) × (b ≡ false) × (c ≡ false) × (d ≡ false) × (e ≡ false)
none_of_5 true b c d e h = absurd cc
none_of_5 false true c d e h = absurd cc
none_of_5 false false true d e h = absurd cc
none_of_5 false false false true e h = absurd cc
none_of_5 false false false false true h = absurd cc
none_of_5 false false false false false h = (refl, refl, refl, refl, refl)

none_of_4 : (a b c d : Bool) → not (a || b || c || d) ≡ true → (a ≡ false) × (b ≡ false) × (c ≡ false) × (d ≡ false)
none_of_4 true b c d h = absurd cc
none_of_4 false true c d h = absurd cc
none_of_4 false false true d h = absurd cc
none_of_4 false false false true h = absurd cc
none_of_4 false false false false h = (refl, refl, refl, refl)

no_release : (o : Op) → is_probe_ack o ≡ true → is_release o ≡ false
no_release op.ProbeAck h = refl
no_release op.ProbeAckData h = refl
no_release _ h = cc

no_grant : (o : Op) → is_release_ack o ≡ true → is_grant o ≡ false
no_grant op.ReleaseAck h = refl
no_grant _ h = cc

module _ (certain : Bool) (request : Known (Option Request)) (old : KnownLink) (head : Beat) (o : Op) (can : can_carry head.chan o ≡ true) where
  abbrev pub m : Message
  m = bare o head

  abbrev pub next : KnownPast
  next = known_after old.exponent certain request (shown old) m

  source_stays : is_request m ≡ false → is_reply m ≡ false → (k : ℕ) → (shown old).flow.source k ≡ next.flow.source k
  source_stays = after_another certain sources m (λ b. known (option_map as_request (cond b (Some m) None))) (shown old).flow.source (shown old).flow.source

  release_stays : is_release o ≡ false → is_release_ack o ≡ false → (k : ℕ) → (shown old).flow.release k ≡ next.flow.release k
  release_stays = after_another certain releases m (λ b. known (option_map as_request (cond b (Some m) None))) (shown old).flow.release (shown old).flow.release

  sink_same : is_grant o ≡ false → is_grant_ack o ≡ false → (k : ℕ) → (shown old).flow.sink k ≡ next.flow.sink k
  sink_same = sink_stays certain m (shown old).flow.sink (shown old).flow.sink

  probe_stays : is_probe o ≡ false → is_probe_ack o ≡ false → (k : ℕ) → (shown old).client.probe k ≡ next.client.probe k
  probe_stays = after_another certain (probes old.exponent) m (λ b. known (option_map (λ (n : Message). cap_of n.op n.beat.param) (cond b (Some m) None))) (shown old).client.probe (shown old).client.probe

  granted_stays : is_grant o ≡ false → is_grant_ack o ≡ false → (k : ℕ) → (shown old).client.granted k ≡ next.client.granted k
  granted_stays = after_another certain sinks m (λ b. cond b (map_known (λ answered. Some (granted_block old.exponent (answering m answered))) request) (known None))
      (shown old).client.granted (shown old).client.granted

  pub on_a : (new : CountedTable Request) (made : Request) → head.chan ≡ chan.A → IsSetTo old.requests new head.source (opened certain (known (Some made))) → made ≡ as_request m
      → IsOpened (record old { requests = new }) next
  on_a new made on set is =
      let none = none_of_6 (is_probe o) (is_probe_ack o) (is_release o) (is_release_ack o) (is_grant o) (is_grant_ack o) (ap (λ c. can_carry c o) (sym on) ∙ can) in
      record {
        source = after_opening certain sources m (λ b. known (option_map as_request (cond b (Some m) None))) (shown old).flow.source (λ k. entry_known new (first_entry old.sources k) k)
            (ap (λ c. same_chan c chan.A) on)
            (λ k. set (first_entry old.sources k) k ∙ ap (λ r. cond (head.source == k) (opened certain (known (Some r))) ((shown old).flow.source k)) is);
        release = release_stays none.2 none.3;
        sink = sink_same none.4 none.5;
        probe = probe_stays none.0 none.1;
        granted = granted_stays none.4 none.5;
      }

  on_b_or_c : (table : KnownBlocks (Option (Option Perm))) → is_request m ≡ false → is_reply m ≡ false → is_release o ≡ false → is_release_ack o ≡ false → is_grant o ≡ false → is_grant_ack o ≡ false
      → ((k : ℕ) → known_on table unknown k ≡ next.client.probe k) → IsOpened (record old { probes = table }) next
  on_b_or_c table a d release ack grant done probe = record {
    source = source_stays a d;
    release = release_stays release ack;
    sink = sink_same grant done;
    probe = probe;
    granted = granted_stays grant done;
  }

  pub on_b : (table : KnownBlocks (Option (Option Perm))) (block : ℕ) (value : Known (Option (Option Perm))) (cap : Option Perm) → head.chan ≡ chan.B → is_probe o ≡ true
      → IsSetOn old.probes table block value → block ≡ round_down old.exponent head.address → value ≡ opened certain (known (Some cap)) → cap ≡ cap_of o head.param
      → IsOpened (record old { probes = table }) next
  on_b table block value cap on is set here made given =
      let none = none_of_5 (is_probe_ack o) (is_release o) (is_release_ack o) (is_grant o) (is_grant_ack o) (ap (λ c. can_carry c o) (sym on) ∙ can) in
      on_b_or_c table (ap (λ c. same_chan c chan.A) on) (ap (λ c. same_chan c chan.D && not (is_release_ack o)) on) none.1 none.2 none.3 none.4
      (after_opening certain (probes old.exponent) m (λ b. known (option_map (λ (n : Message). cap_of n.op n.beat.param) (cond b (Some m) None))) (shown old).client.probe (known_on table unknown)
      is
      (set_at (known_on table unknown) (shown old).client.probe block (round_down old.exponent head.address) value (opened certain (known (Some (cap_of o head.param))))
      (set unknown) here (made ∙ ap (λ c. opened certain (known (Some c))) given)))

  pub on_c_ack : (table : KnownBlocks (Option (Option Perm))) (block : ℕ) (value : Known (Option (Option Perm))) → head.chan ≡ chan.C → is_probe_ack o ≡ true
      → IsSetOn old.probes table block value → block ≡ round_down old.exponent head.address → value ≡ closed certain (known_on old.probes unknown block)
      → IsOpened (record old { probes = table }) next
  on_c_ack table block value on is set here made =
      let none = none_of_4 (is_probe o) (is_release_ack o) (is_grant o) (is_grant_ack o) (ap (λ c. can_carry c o) (sym on) ∙ can) in
      on_b_or_c table (ap (λ c. same_chan c chan.A) on) (ap (λ c. same_chan c chan.D && not (is_release_ack o)) on) (no_release o is) none.1 none.2 none.3
      (after_closing certain (probes old.exponent) m (λ b. known (option_map (λ (n : Message). cap_of n.op n.beat.param) (cond b (Some m) None))) (shown old).client.probe (known_on table unknown)
      none.0 is refl
      (set_at (known_on table unknown) (shown old).client.probe block (round_down old.exponent head.address) value (closed certain (known_on old.probes unknown (round_down old.exponent head.address)))
      (set unknown) here (made ∙ ap (λ b. closed certain (known_on old.probes unknown b)) here)))

  pub on_c_release : (new : CountedTable Request) (made : Request) → head.chan ≡ chan.C → is_probe_ack o ≡ false → is_release o ≡ true
      → IsSetTo old.releases new head.source (opened certain (known (Some made))) → made ≡ as_request m → IsOpened (record old { releases = new }) next
  on_c_release new made on ack is set given =
      let none = none_of_4 (is_probe o) (is_release_ack o) (is_grant o) (is_grant_ack o) (ap (λ c. can_carry c o) (sym on) ∙ can) in
      record {
        source = source_stays (ap (λ c. same_chan c chan.A) on) (ap (λ c. same_chan c chan.D && not (is_release_ack o)) on);
        release = after_opening certain releases m (λ b. known (option_map as_request (cond b (Some m) None))) (shown old).flow.release (λ k. entry_known new (first_entry old.sources k) k)
            is
            (λ k. set (first_entry old.sources k) k ∙ ap (λ r. cond (head.source == k) (opened certain (known (Some r))) ((shown old).flow.release k)) given);
        sink = sink_same none.2 none.3;
        probe = probe_stays none.0 ack;
        granted = granted_stays none.2 none.3;
      }

  pub on_d_ack : (new : CountedTable Request) (first : Known (Option Request)) → head.chan ≡ chan.D → is_release_ack o ≡ true
      → IsSetTo old.releases new head.source (closed certain (entry_known old.releases first head.source)) → first ≡ first_entry old.sources head.source → IsOpened (record old { releases = new }) next
  on_d_ack new first on is set at =
      let none = none_of_4 (is_probe o) (is_probe_ack o) (is_release o) (is_grant_ack o) (ap (λ c. can_carry c o) (sym on) ∙ can) in
      record {
        source = source_stays (ap (λ c. same_chan c chan.A) on) (ap (λ c. same_chan c chan.D && not (is_release_ack o)) on ∙ ap not is);
        release = after_closing certain releases m (λ b. known (option_map as_request (cond b (Some m) None))) (shown old).flow.release (λ k. entry_known new (first_entry old.sources k) k)
            none.2 is refl
            (λ k. set (first_entry old.sources k) k ∙ ap (λ f. cond (head.source == k) (closed certain (entry_known old.releases f head.source)) ((shown old).flow.release k)) at);
        sink = sink_same (no_grant o is) none.3;
        probe = probe_stays none.0 none.1;
        granted = granted_stays (no_grant o is) none.3;
      }

  -- a reply that is no ReleaseAck
  source_closed : (new : CountedTable Request) (first : Known (Option Request)) → head.chan ≡ chan.D → is_release_ack o ≡ false
      → IsSetTo old.requests new head.source (closed certain (entry_known old.requests first head.source)) → first ≡ first_entry old.sources head.source
      → (k : ℕ) → entry_known new (first_entry old.sources k) k ≡ next.flow.source k
  source_closed new first on other set at =
      after_closing certain sources m (λ b. known (option_map as_request (cond b (Some m) None))) (shown old).flow.source (λ k. entry_known new (first_entry old.sources k) k)
      (ap (λ c. same_chan c chan.A) on) (ap (λ c. same_chan c chan.D && not (is_release_ack o)) on ∙ ap not other) refl
      (λ k. set (first_entry old.sources k) k ∙ ap (λ f. cond (head.source == k) (closed certain (entry_known old.requests f head.source)) ((shown old).flow.source k)) at)

  pub on_d_other : (new : CountedTable Request) (first : Known (Option Request)) → head.chan ≡ chan.D → is_release_ack o ≡ false → is_grant o ≡ false
      → IsSetTo old.requests new head.source (closed certain (entry_known old.requests first head.source)) → first ≡ first_entry old.sources head.source → IsOpened (record old { requests = new }) next
  on_d_other new first on other grant set at =
      let none = none_of_4 (is_probe o) (is_probe_ack o) (is_release o) (is_grant_ack o) (ap (λ c. can_carry c o) (sym on) ∙ can) in
      record {
        source = source_closed new first on other set at;
        release = release_stays none.2 other;
        sink = sink_same grant none.3;
        probe = probe_stays none.0 none.1;
        granted = granted_stays grant none.3;
      }

  pub on_d_grant : (new : CountedTable Request) (table : KnownTable Bool) (granted : CountedTable (Option ℕ)) (first : Known (Option Request)) → head.chan ≡ chan.D → is_release_ack o ≡ false → is_grant o ≡ true
      → IsSetTo old.requests new head.source (closed certain (entry_known old.requests first head.source)) → first ≡ first_entry old.sources head.source
      → IsSet old.sinks table head.sink (opened certain (known true)) → IsSetTo old.granted granted head.sink (opened certain (granted_made old.exponent request))
      → IsOpened (record old { requests = new; sinks = table; granted = granted }) next
  on_d_grant new table granted first on other grant set at sink block =
      let none = none_of_4 (is_probe o) (is_probe_ack o) (is_release o) (is_grant_ack o) (ap (λ c. can_carry c o) (sym on) ∙ can) in
      record {
        source = source_closed new first on other set at;
        release = release_stays none.2 other;
        sink = sink_opened certain m (shown old).flow.sink (known_at table unknown) grant
            (set_at (known_at table unknown) (shown old).flow.sink head.sink head.sink (opened certain (known true)) (opened certain (known true)) (sink unknown) refl refl);
        probe = probe_stays none.0 none.1;
        granted = after_opening certain sinks m (λ b. cond b (map_known (λ answered. Some (granted_block old.exponent (answering m answered))) request) (known None))
            (shown old).client.granted (λ k. entry_known granted unknown k) grant (block unknown);
      }

  pub on_e : (table : KnownTable Bool) (granted : CountedTable (Option ℕ)) (value : Known Bool) → head.chan ≡ chan.E
      → IsSet old.sinks table head.sink value → value ≡ shut certain (known_at old.sinks unknown head.sink)
      → IsSetTo old.granted granted head.sink (closed certain (entry_known old.granted unknown head.sink)) → IsOpened (record old { sinks = table; granted = granted }) next
  on_e table granted value on sink made block =
      let parts = and_parts (is_grant_ack o) (not (is_probe o || is_probe_ack o || is_release o || is_release_ack o || is_grant o)) (ap (λ c. can_carry c o) (sym on) ∙ can) in
      let none = none_of_5 (is_probe o) (is_probe_ack o) (is_release o) (is_release_ack o) (is_grant o) parts.1 in
      record {
        source = source_stays (ap (λ c. same_chan c chan.A) on) (ap (λ c. same_chan c chan.D && not (is_release_ack o)) on);
        release = release_stays none.2 none.3;
        sink = sink_shut certain m (shown old).flow.sink (known_at table unknown) none.4 parts.0
            (set_at (known_at table unknown) (shown old).flow.sink head.sink head.sink value (shut certain (known_at old.sinks unknown head.sink)) (sink unknown) refl made);
        probe = probe_stays none.0 none.1;
        granted = after_closing certain sinks m (λ b. cond b (map_known (λ answered. Some (granted_block old.exponent (answering m answered))) request) (known None))
            (shown old).client.granted (λ k. entry_known granted unknown k) none.4 parts.0 refl (block unknown);
      }
