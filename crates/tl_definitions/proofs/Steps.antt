-- One more beat: what is known after it allows what is then left.
use Rattle.std.proofs.Common.{◌≡◌, ℕ, ◌==◌, ◌&&◌, inl, inr, Bool, true, false, cond, List, ◌∷◌, Option, Some, None, refl, sym, subst, arith}
use Rattle.std.specs.Prelude.{is_none}
use Rattle.std.specs.List.{Contains}
use Rattle.std.proofs.lemmas.Bool.Decides.{nat_tests}
use Rattle.tl_tables.specs.declared.Chan.{Chan}
use Rattle.tl_tables.specs.declared.Chan.TheVariants as chan
use Rattle.tl_tables.specs.declared.Op.{Op}
use Rattle.tl_tables.specs.Messages.{same_chan, chan_number}
use Rattle.tl_tables.specs.Params.{cap_of}
use Rattle.tl_tables.specs.Kinds.{is_probe, is_release, is_grant, is_release_ack}
use Rattle.tl_topology.specs.declared.LinkDecl.{LinkDecl}
use Rattle.tl_beats.specs.declared.Beat.{Beat}
use Rattle.tl_beats.specs.declared.Placed.{Placed}
use Rattle.tl_beats.specs.declared.Request.{Request}
use Rattle.tl_definitions.specs.declared.Unfinished.{Unfinished}
use Rattle.tl_definitions.specs.OpenTables.{touches}
use Rattle.tl_definitions.specs.Heads.{message_of, before_on, after_beat}
use Rattle.tl_definitions.specs.Messages.{Message, as_request, sources, releases, sinks, probes, is_request, granted_block}
use Rattle.tl_definitions.specs.Past.{LinkPast}
use Rattle.tl_definitions.specs.Rules.{Manager}
use Rattle.tl_definitions.specs.Judging.{Snapshot, request_in, message_in, past_after, past_with, judged_next}
use Rattle.tl_definitions.proofs.OrderLaws.{one_chan}
use Rattle.tl_definitions.specs.Readings.{Reading, due, rest, is_due, may_begin, must_begin, readings_after, readings_at}
use Rattle.tl_definitions.specs.Known.{Known, map_known, Beginning, KnownPast, bare, answering, known_request, past_known, known_with, readings_of, known_pasts, known_snapshot}
use Rattle.tl_definitions.specs.Lawful.{Agrees, AllowsBurst, AllowsPast, Allows}
use Rattle.tl_definitions.proofs.Sure.{and_parts, mapped_agrees, key_moves, key_stays, granted_moves, sink_moves, sink_stays, request_agrees, bound_moves, bound_stays}
use Rattle.tl_definitions.proofs.Bursts.{all_pass, some_passes, burst_moves}

pub answered_agrees : (sure : KnownPast) (past : LinkPast) (beat : Beat) (o : Op) → AllowsPast sure past → Agrees (known_request sure.flow (bare o beat)) (request_in past.flow o beat)
answered_agrees sure past beat o a =
    request_agrees (same_chan beat.chan chan.D) (is_release_ack o) (sure.flow.release beat.source) (sure.flow.source beat.source) (past.flow.release beat.source) (past.flow.source beat.source)
    (a.flow.release beat.source) (a.flow.source beat.source)

-- A message that is a head.
pub past_moves : (exponent : ℕ) (certain : Bool) (sure : KnownPast) (past : LinkPast) (beat : Beat) (o : Op) → AllowsPast sure past
    → AllowsPast (past_known exponent certain sure (bare o beat)) (past_after exponent past (message_in past.flow beat o))
past_moves exponent certain sure past beat o a =
    let one : Message = bare o beat in
    let two : Message = message_in past.flow beat o in
    let request : Known (Option Request) = known_request sure.flow one in
    let answered : Agrees request (request_in past.flow o beat) = answered_agrees sure past beat o a in
    record {
      flow = record {
        source = λ key. key_moves as_request certain (touches sources key one) (is_request one) one two (sure.flow.source key) (past.flow.source key) refl (a.flow.source key);
        release = λ key. key_moves as_request certain (touches releases key one) (is_release o) one two (sure.flow.release key) (past.flow.release key) refl (a.flow.release key);
        sink = λ key. sink_moves certain (touches sinks key one) (is_grant o) (sure.flow.sink key) (past.flow.sink key) (a.flow.sink key);
      };
      client = record {
        probe = λ key. key_moves (λ m. cap_of m.op m.beat.param) certain (touches (probes exponent) key one) (is_probe o) one two (sure.client.probe key) (past.client.probe key) refl (a.client.probe key);
        bound = λ block. bound_moves exponent certain one request (request_in past.flow o beat) sure.client.bound block (past.client.bound block) answered (a.client.bound block);
        granted = λ key. granted_moves (granted_block exponent) certain (touches sinks key one) (is_grant o) (map_known (λ r. Some (granted_block exponent (answering one r))) request) two
            (sure.client.granted key) (past.client.granted key) (mapped_agrees (λ r. Some (granted_block exponent (answering one r))) request (request_in past.flow o beat) answered) (a.client.granted key);
      };
    }

-- A message that might have been one.
pub past_stays : (exponent : ℕ) (sure : KnownPast) (past : LinkPast) (beat : Beat) (o : Op) → AllowsPast sure past → AllowsPast (past_known exponent false sure (bare o beat)) past
past_stays exponent sure past beat o a =
    let one : Message = bare o beat in
    record {
      flow = record {
        source = λ key. key_stays (sure.flow.source key) (touches sources key one) (is_request one) (past.flow.source key) (a.flow.source key);
        release = λ key. key_stays (sure.flow.release key) (touches releases key one) (is_release o) (past.flow.release key) (a.flow.release key);
        sink = λ key. sink_stays (touches sinks key one) (is_grant o) (sure.flow.sink key) (past.flow.sink key) (a.flow.sink key);
      };
      client = record {
        probe = λ key. key_stays (sure.client.probe key) (touches (probes exponent) key one) (is_probe o) (past.client.probe key) (a.client.probe key);
        bound = λ block. bound_stays exponent one (known_request sure.flow one) sure.client.bound block (past.client.bound block) (a.client.bound block);
        granted = λ key. key_stays (sure.client.granted key) (touches sinks key one) (is_grant o) (past.client.granted key) (a.client.granted key);
      };
    }

with_moves : (exponent : ℕ) (certain : Bool) (sure : KnownPast) (past : LinkPast) (beat : Beat) (found : Option Op) → AllowsPast sure past
    → AllowsPast (known_with exponent certain sure beat found) (past_with exponent past beat found)
with_moves exponent certain sure past beat None a = a
with_moves exponent certain sure past beat (Some o) a = past_moves exponent certain sure past beat o a

with_stays : (exponent : ℕ) (sure : KnownPast) (past : LinkPast) (beat : Beat) (found : Option Op) → AllowsPast sure past → AllowsPast (known_with exponent false sure beat found) past
with_stays exponent sure past beat None a = a
with_stays exponent sure past beat (Some o) a = past_stays exponent sure past beat o a

not_all : (readings : List Reading) (missing : ℕ) (head : Option Beat) → Contains readings (rest missing head) → must_begin readings ≡ false
not_all readings missing head c =
    elim (must_begin readings) as (λ t. must_begin readings ≡ t → t ≡ false) [
      | true ↦ λ e. (let clash : false ≡ true = all_pass is_due readings (rest missing head) e c in sym clash)
      | false ↦ λ e. refl
    ] refl

-- A later beat.
later_stays : (exponent : ℕ) (readings : List Reading) (sure : KnownPast) (past : LinkPast) (beat : Beat) (found : Option Op) → must_begin readings ≡ false → AllowsPast sure past
    → AllowsPast (cond (may_begin readings) (known_with exponent (must_begin readings) sure beat found) sure) past
later_stays exponent readings sure past beat found not_must a =
    elim (may_begin readings) as (λ t. AllowsPast (cond t (known_with exponent (must_begin readings) sure beat found) sure) past) [
      | true ↦ subst (λ t. AllowsPast (known_with exponent t sure beat found) past) (sym not_must) (with_stays exponent sure past beat found a)
      | false ↦ a
    ]

by_burst : (here : Bool) (exponent : ℕ) (link : LinkDecl) (chan : Chan) (readings : List Reading) (burst : Option Unfinished) (sure : KnownPast) (past : LinkPast) (beat : Beat) (found : Option Op)
    → AllowsBurst link chan readings burst → AllowsPast sure past
    → AllowsPast (cond (here && may_begin readings) (known_with exponent (must_begin readings) sure beat found) sure) (cond (here && is_none burst) (past_with exponent past beat found) past)
by_burst false exponent link chan readings burst sure past beat found b a = a
by_burst true exponent link chan readings None sure past beat found b a =
    subst (λ t. AllowsPast (cond t (known_with exponent (must_begin readings) sure beat found) sure) (past_with exponent past beat found)) (sym (some_passes is_due readings due b refl))
    (with_moves exponent (must_begin readings) sure past beat found a)
by_burst true exponent link chan readings (Some burst) sure past beat found b a =
    later_stays exponent readings sure past beat found (elim (b.1) [
      | inl c ↦ not_all readings burst.missing (Some burst.head) c
      | inr c ↦ not_all readings burst.missing None c.0
    ]) a

burst_next : (m : Manager) (start : Beginning) (before : List Placed) (p : Placed) (s : Snapshot) (link : ℕ) (chan : Chan)
    → AllowsBurst (m.links p.link) p.beat.chan (readings_of m start before p) (s.burst p.link p.beat.chan)
    → AllowsBurst (m.links link) chan ((known_snapshot m start before).readings link chan) (s.burst link chan)
    → AllowsBurst (m.links link) chan ((known_snapshot m start (p ∷ before)).readings link chan) ((judged_next m s p).burst link chan)
burst_next m start before p s link chan read old =
    let own : List Beat = before_on link chan before in
    elim ((p.link == link) && same_chan p.beat.chan chan) as (λ t. ((p.link == link) && same_chan p.beat.chan chan) ≡ t
    → AllowsBurst (m.links link) chan (readings_after (m.links link) (start.most link chan) start.by_fields (cond t (p.beat ∷ own) own))
    (cond t (after_beat (m.links link) p.beat (s.burst link chan)) (s.burst link chan))) [
      | true ↦ λ e. (let parts = and_parts (p.link == link) (same_chan p.beat.chan chan) e in
          let on_link : (p.link == link) ≡ true = parts.0 in
          let on_chan : (chan_number p.beat.chan == chan_number chan) ≡ true = parts.1 in
          let link_is : p.link ≡ link = grind (arith, nat_tests) in
          let number_is : chan_number p.beat.chan ≡ chan_number chan = grind (arith, nat_tests) in
          let chan_is : p.beat.chan ≡ chan = one_chan p.beat.chan chan number_is in
          let by_link = subst (λ l. AllowsBurst (m.links l) p.beat.chan (readings_at (m.links l) (start.most l p.beat.chan) start.by_fields p.beat (before_on l p.beat.chan before)) (s.burst l p.beat.chan)) link_is read in
          let by_chan = subst (λ c. AllowsBurst (m.links link) c (readings_at (m.links link) (start.most link c) start.by_fields p.beat (before_on link c before)) (s.burst link c)) chan_is by_link in
          burst_moves (m.links link) chan p.beat (readings_at (m.links link) (start.most link chan) start.by_fields p.beat own) (s.burst link chan) by_chan)
      | false ↦ λ e. old
    ] refl

pub step_allows : (m : Manager) (start : Beginning) (before : List Placed) (p : Placed) (s : Snapshot)
    → AllowsBurst (m.links p.link) p.beat.chan (readings_of m start before p) (s.burst p.link p.beat.chan)
    → Allows m (known_snapshot m start before) s → Allows m (known_snapshot m start (p ∷ before)) (judged_next m s p)
step_allows m start before p s read a = record {
  burst = λ link chan. burst_next m start before p s link chan read (a.burst link chan);
  past = λ link. by_burst (p.link == link) m.exponent (m.links p.link) p.beat.chan (readings_of m start before p) (s.burst p.link p.beat.chan) (known_pasts m start before link) (s.past link) p.beat
      (message_of (m.links link) p.beat) read (a.past link);
}
