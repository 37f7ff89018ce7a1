-- A snapshot stands for all beats before.
use Rattle.std.proofs.Common.{◌≡◌, ℕ, ◌==◌, ◌&&◌, Bool, true, false, cond, List, [], ◌∷◌, ◌++◌, Option, Some, None, refl, sym, ◌∙◌, ap, subst, append_assoc, inl, inr}
use Rattle.std.specs.Prelude.{map, slice_index, length, ◌-◌}
use Rattle.std.specs.Option.{option_map, option_map_or}
use Rattle.std.specs.List.{Contains}
use Rattle.tl_tables.specs.declared.Chan.{Chan}
use Rattle.tl_tables.specs.declared.Op.{Op}
use Rattle.tl_tables.specs.Messages.{same_chan}
use Rattle.tl_tables.specs.Params.{cap_of}
use Rattle.tl_topology.specs.declared.LinkDecl.{LinkDecl}
use Rattle.tl_beats.specs.declared.Beat.{Beat}
use Rattle.tl_beats.specs.declared.Placed.{Placed}
use Rattle.tl_beats.specs.declared.Row.{Row}
use Rattle.tl_definitions.specs.OpenTables.{Table, open_at, entry_at, open_keys, count_after}
use Rattle.tl_definitions.specs.Heads.{message_of, before_on, is_head, last_head, ends, unfinished, after_beat}
use Rattle.tl_definitions.specs.Messages.{Message, as_request, message_at, messages_on, with_message, at_head, granted_block, claim, claimed_or, bound_of, sources, releases, sinks, probes}
use Rattle.tl_definitions.specs.Past.{flow_past, client_past, past_of, acquires_block, releases_block, grants_block}
use Rattle.tl_definitions.specs.Rules.{Manager}
use Rattle.tl_definitions.specs.Breaks.{head_rules, later_rules, rules_at, row_of, rows_after}
use Rattle.tl_definitions.specs.Judging.{Snapshot, snapshot, judged_head, judged_place, judged_rules, flow_after, client_after, past_after, past_with, judged_next, judging, JudgingIsExact, ChainsAreWhole}
use Rattle.tl_definitions.specs.Passes.{rows_judged, left_after, pass_beats}
use Rattle.tl_definitions.proofs.HeadLaws.{later_beats_have_a_head, next_law, none_law}
use Rattle.tl_definitions.proofs.TableLaws.{entry_next, open_next, count_next, kept_passes}
use Rattle.tl_definitions.proofs.Lists.{onto, onto_reverse}
use Rattle.tl_definitions.proofs.ChainLaws.{chain_has, chain_from, chain_ends}

-- A head is judged by the request that it answers.
heads : (m : Manager) (before : List Placed) (p : Placed) (found : Option Op) → judged_head m (snapshot m before) p found ≡ head_rules m before p found
heads m before p None = refl
heads m before p (Some o) = refl

-- A head's place is empty, a later beat's has its head.
places : (m : Manager) (before : List Placed) (p : Placed) (head : Bool) (missing : ℕ) (last : Option Beat) → (head ≡ false → (h : Beat) × (last ≡ Some h))
    → judged_place m (snapshot m before) p (cond head None (option_map (λ h. record { head = h; missing = missing }) last))
    ≡ cond head (head_rules m before p (message_of (m.links p.link) p.beat)) (option_map_or (later_rules (m.links p.link) p.beat) last [])
places m before p true missing last has = heads m before p (message_of (m.links p.link) p.beat)
places m before p false missing None has = let e = (has refl).1 in cc
places m before p false missing (Some h) has = refl

pub rules_law : (m : Manager) (before : List Placed) (p : Placed) → judged_rules m (snapshot m before) p ≡ rules_at m before p
rules_law m before p =
    let link : LinkDecl = m.links p.link in
    let own : List Beat = before_on p.link p.beat.chan before in
    places m before p (is_head link own) (slice_index (ends link own) 0 - length own) (last_head link own)
    (λ h. let last = later_beats_have_a_head link own h in (last.0, last.1))

burst_next : (m : Manager) (before : List Placed) (p : Placed) (link : ℕ) (chan : Chan) → (judged_next m (snapshot m before) p).burst link chan ≡ (snapshot m (p ∷ before)).burst link chan
burst_next m before p link chan =
    elim ((p.link == link) && same_chan p.beat.chan chan) as (λ b. cond b (after_beat (m.links link) p.beat (unfinished (m.links link) (before_on link chan before))) (unfinished (m.links link) (before_on link chan before))
    ≡ unfinished (m.links link) (cond b (p.beat ∷ before_on link chan before) (before_on link chan before))) [
      | true ↦ next_law (m.links link) p.beat (before_on link chan before)
      | false ↦ refl
    ]

-- One more message of a link.
pub flow_next : (before : List Message) (message : Message) → flow_after (flow_past before) message ≡ flow_past (message ∷ before)
flow_next before message = λ i. record {
  source = λ key. entry_next sources as_request before message key i;
  release = λ key. entry_next releases as_request before message key i;
  sink = λ key. open_next sinks before message key i;
}

-- A count after one more message, from what is kept under its key.
pub count_kept : {V : Type 0} (table : Table Message) (kept : Message → V) (test : V → Bool) (before : List Message) (message : Message)
    → count_after table (λ m. test (kept m)) message (option_map_or test (entry_at table kept before (table.key message)) false) (length (open_keys table (λ m. test (kept m)) before))
    ≡ length (open_keys table (λ m. test (kept m)) (message ∷ before))
count_kept table kept test before message =
    ap (λ old. count_after table (λ m. test (kept m)) message old (length (open_keys table (λ m. test (kept m)) before))) (kept_passes test kept (open_at table (table.key message) before))
    ∙ count_next table (λ m. test (kept m)) before message

pub client_next : (exponent : ℕ) (before : List Message) (message : Message) → client_after exponent (flow_past before) (client_past exponent before) message ≡ client_past exponent (message ∷ before)
client_next exponent before message = λ i. record {
  probe = λ key. entry_next (probes exponent) (λ m. cap_of m.op m.beat.param) before message key i;
  bound = λ block. claimed_or (claim exponent message) block (bound_of exponent before block);
  granted = λ key. entry_next sinks (granted_block exponent) before message key i;
  acquires = λ block. count_kept sources as_request (acquires_block exponent block) before message i;
  releases = λ block. count_kept releases as_request (releases_block exponent block) before message i;
  grants = λ block. count_kept sinks (granted_block exponent) (grants_block block) before message i;
}

pub message_next : (exponent : ℕ) (before : List Message) (message : Message) → past_after exponent (past_of exponent before) message ≡ past_of exponent (message ∷ before)
message_next exponent before message = λ i. record { flow = flow_next before message i; client = client_next exponent before message i }

with_next : (exponent : ℕ) (before : List Message) (beat : Beat) (found : Option Op) → past_with exponent (past_of exponent before) beat found ≡ past_of exponent (with_message beat found before)
with_next exponent before beat None = refl
with_next exponent before beat (Some o) = message_next exponent before (message_at before beat o)

past_next : (m : Manager) (before : List Placed) (p : Placed) (link : ℕ) → (judged_next m (snapshot m before) p).past link ≡ (snapshot m (p ∷ before)).past link
past_next m before p link =
    let old : List Message = messages_on m.links link before in
    ap (λ b. cond ((p.link == link) && b) (past_with m.exponent (past_of m.exponent old) p.beat (message_of (m.links link) p.beat)) (past_of m.exponent old)) (none_law (m.links p.link) (before_on p.link p.beat.chan before))
    ∙ elim ((p.link == link) && at_head m.links before p) as (λ b. cond b (past_with m.exponent (past_of m.exponent old) p.beat (message_of (m.links link) p.beat)) (past_of m.exponent old)
    ≡ past_of m.exponent (cond b (with_message p.beat (message_of (m.links link) p.beat) old) old)) [
      | true ↦ with_next m.exponent old p.beat (message_of (m.links link) p.beat)
      | false ↦ refl
    ]

pub next_snapshot : (m : Manager) (before : List Placed) (p : Placed) → judged_next m (snapshot m before) p ≡ snapshot m (p ∷ before)
next_snapshot m before p = λ i. record {
  burst = λ link chan. burst_next m before p link chan i;
  past = λ link. past_next m before p link i;
}

pub judging_is_exact : JudgingIsExact
judging_is_exact m before p = (rules_law m before p, next_snapshot m before p)

-- Beats judged one after the other.
pub all_exact : (m : Manager) (before beats : List Placed) → rows_judged (judging m) (snapshot m before) beats ≡ rows_after m before beats
all_exact m before [] = refl
all_exact m before (p ∷ beats) =
    ap (λ rules. map (row_of p) rules ++ rows_judged (judging m) (judged_next m (snapshot m before) p) beats) (rules_law m before p)
    ∙ ap (λ s. map (row_of p) (rules_at m before p) ++ rows_judged (judging m) s beats) (next_snapshot m before p)
    ∙ ap (λ rows. map (row_of p) (rules_at m before p) ++ rows) (all_exact m (p ∷ before) beats)

exits : (m : Manager) (before beats : List Placed) → left_after (judging m) (snapshot m before) beats ≡ snapshot m (onto before beats)
exits m before [] = refl
exits m before (p ∷ beats) = ap (λ s. left_after (judging m) s beats) (next_snapshot m before p) ∙ exits m (p ∷ before) beats

pub chains_are_whole : ChainsAreWhole
chains_are_whole m passes chain = (
  (λ row. (
    (λ has. subst (λ rows. Contains rows row) (all_exact m [] (pass_beats passes)) (chain_has (judging m) (snapshot m []) passes chain row has)),
    (λ has. chain_from (judging m) (snapshot m []) passes chain row (subst (λ rows. Contains rows row) (sym (all_exact m [] (pass_beats passes))) has)),
  )),
  chain_ends (judging m) (snapshot m []) passes chain ∙ exits m [] (pass_beats passes) ∙ ap (snapshot m) (onto_reverse [] (pass_beats passes)),
)
