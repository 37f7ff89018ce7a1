-- What is opened stays open until it is closed, and a reply closes.
use Rattle.std.proofs.Common.{◌≡◌, ℕ, ◌==◌, ◌&&◌, ◌||◌, Bool, true, false, cond, List, [], ◌∷◌, ◌++◌, Some, None, refl, sym, ap, ◌∙◌, arith}
use Rattle.std.specs.Prelude.{find, not}
use Rattle.std.specs.List.{AllByRecursion}
use Rattle.std.specs.Option.{option_and_then, option_map}
use Rattle.std.proofs.lemmas.Bool.Decides.{nat_tests}
use Rattle.tl_tables.specs.declared.Chan.{Chan}
use Rattle.tl_tables.specs.declared.Chan.TheVariants as chan
use Rattle.tl_tables.specs.declared.Op.{Op}
use Rattle.tl_tables.specs.declared.Op.TheVariants as op
use Rattle.tl_tables.specs.Messages.{same_chan}
use Rattle.tl_beats.specs.declared.Beat.{Beat}
use Rattle.tl_beats.specs.declared.Request.{Request}
use Rattle.tl_tables.specs.Kinds.{is_release, is_release_ack}
use Rattle.tl_definitions.specs.OpenTables.{Table, touches, if_opens, open_at, entry_at}
use Rattle.tl_definitions.specs.Messages.{Message, is_request, is_reply, sources, releases, as_request, request_of, message_at}
use Rattle.tl_definitions.specs.Past.{flow_past}
use Rattle.tl_definitions.proofs.TableLaws.{entries_are_open, entry_next}
use Rattle.tl_link_rules.specs.Laws.{closes_key, OpenedStaysOpen, RepliesCloseTheirSource, RepliesLeaveNoRequest}

same_number : (k : ℕ) → (k == k) ≡ true
same_number k = grind (arith, nat_tests)

-- ---- what is open stays open

-- The newest message that opens or closes the key opens it.
found : (table : Table Message) (newer older : List Message) (opener : Message) → table.opens opener ≡ true
    → AllByRecursion (λ message. closes_key table (table.key opener) message ≡ false) newer
    → (last : Message) × (open_at table (table.key opener) (newer ++ opener ∷ older) ≡ Some last)
found table [] older opener opens all =
    let touched : touches table (table.key opener) opener ≡ true = ap (λ b. (b || table.closes opener) && (table.key opener == table.key opener)) opens ∙ same_number (table.key opener) in (
      opener,
      ap (λ b. option_and_then (if_opens table) (cond b (Some opener) (find (touches table (table.key opener)) older))) touched ∙ ap (λ b. cond b (Some opener) None) opens,
    )
found table (m ∷ newer) older opener opens all =
    let key : ℕ = table.key opener in
    let rest : List Message = newer ++ opener ∷ older in
    let known = found table newer older opener opens all.1 in
    elim (table.opens m) as (λ o. table.opens m ≡ o → (last : Message) × (option_and_then (if_opens table) (cond ((o || table.closes m) && (table.key m == key)) (Some m) (find (touches table key) rest)) ≡ Some last)) [
      | true ↦ λ e. elim (table.key m == key) as (λ t. (last : Message) × (option_and_then (if_opens table) (cond t (Some m) (find (touches table key) rest)) ≡ Some last)) [
        | true ↦ (m, ap (λ b. cond b (Some m) None) e)
        | false ↦ known
      ]
      | false ↦ λ e. (known.0, ap (λ b. option_and_then (if_opens table) (cond b (Some m) (find (touches table key) rest))) all.0 ∙ known.1)
    ] refl

pub opened_stays_open : OpenedStaysOpen
opened_stays_open table newer older opener opens all =
    let last = found table newer older opener opens all in
    let is = (entries_are_open table (newer ++ opener ∷ older) (table.key opener) last.0).0 last.1 in
    (last.0, is.0, is.1)

-- ---- replies close

reply_law : (before : List Message) (reply : Message) (opens : Bool) → is_request reply ≡ opens → opens ≡ false → is_reply reply ≡ true
    → (flow_past (reply ∷ before)).source reply.beat.source ≡ None
reply_law before reply opens is none closes =
    let touched : touches sources reply.beat.source reply ≡ true = ap (λ b. (b || is_reply reply) && (reply.beat.source == reply.beat.source)) (is ∙ none)
    ∙ ap (λ b. b && (reply.beat.source == reply.beat.source)) closes ∙ same_number reply.beat.source in
    sym (entry_next sources as_request before reply reply.beat.source)
    ∙ ap (λ b. cond b (option_map as_request (if_opens sources reply)) (entry_at sources as_request before reply.beat.source)) touched
    ∙ ap (λ b. option_map as_request (cond b (Some reply) None)) (is ∙ none)

-- What is on D is not on A.
not_on_a : (c : Chan) (b : Bool) → (same_chan c chan.D && b) ≡ true → same_chan c chan.A ≡ false
not_on_a chan.A b h = cc
not_on_a chan.B b h = refl
not_on_a chan.C b h = refl
not_on_a chan.D b h = refl
not_on_a chan.E b h = refl

pub replies_leave_no_request : RepliesLeaveNoRequest
replies_leave_no_request before reply closes =
    reply_law before reply (is_request reply) refl (not_on_a reply.beat.chan (not (is_release_ack reply.op)) closes) closes

-- A ReleaseAck is no Release.
no_release : (o : Op) → is_release_ack o ≡ true → is_release o ≡ false
no_release op.ReleaseAck h = refl
no_release _ h = cc

ack_law : (before : List Message) (ack : Message) → is_release_ack ack.op ≡ true → (flow_past (ack ∷ before)).release ack.beat.source ≡ None
ack_law before ack closes =
    let none : is_release ack.op ≡ false = no_release ack.op closes in
    let touched : touches releases ack.beat.source ack ≡ true = ap (λ b. (b || is_release_ack ack.op) && (ack.beat.source == ack.beat.source)) none
    ∙ ap (λ b. b && (ack.beat.source == ack.beat.source)) closes ∙ same_number ack.beat.source in
    sym (entry_next releases as_request before ack ack.beat.source)
    ∙ ap (λ b. cond b (option_map as_request (if_opens releases ack)) (entry_at releases as_request before ack.beat.source)) touched
    ∙ ap (λ b. option_map as_request (cond b (Some ack) None)) none

-- Only a head on D answers.
on_d : (before : List Message) (o : Op) (beat : Beat) (request : Request) → request_of before o beat ≡ Some request → same_chan beat.chan chan.D ≡ true
on_d before o beat request h =
    elim (same_chan beat.chan chan.D) as (λ b. cond b (cond (is_release_ack o) (entry_at releases as_request before beat.source) (entry_at sources as_request before beat.source)) None ≡ Some request → b ≡ true) [
      | true ↦ λ e. refl
      | false ↦ λ e. cc
    ] h

pub replies_close_their_source : RepliesCloseTheirSource
replies_close_their_source before o beat request h =
    let reply : Message = message_at before beat o in
    let d = on_d before o beat request h in
    elim (is_release_ack o) as (λ b. is_release_ack o ≡ b → cond b ((flow_past (reply ∷ before)).release beat.source) ((flow_past (reply ∷ before)).source beat.source) ≡ None) [
      | true ↦ λ e. ack_law before reply e
      | false ↦ λ e. replies_leave_no_request before reply (ap (λ b. b && not (is_release_ack o)) d ∙ ap not e)
    ] refl
