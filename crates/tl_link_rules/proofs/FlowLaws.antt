-- A state goes on standing for the messages of its link.
use Rattle.std.specs.Prelude.{OnOk}
use Rattle.std.proofs.Common.{Result, Ok, Err, ◌≡◌, ℕ, zero, suc, true, false, cond, List, [], ◌∷◌, Option, Some, None, refl, sym, ap, ◌∙◌}
use Rattle.std.specs.Option.{option_and_then, option_map_or}
use Rattle.std.specs.List.{AllByRecursion, slice_get}
use Rattle.tl_tables.specs.declared.Chan.{Chan}
use Rattle.tl_tables.specs.declared.Chan.TheVariants as chan
use Rattle.tl_tables.specs.declared.Level.{Level}
use Rattle.tl_tables.specs.declared.Op.{Op}
use Rattle.tl_tables.specs.Messages.{codes, least_level, level_le, op_at}
use Rattle.tl_beats.specs.declared.Beat.{Beat}
use Rattle.tl_definitions.specs.Messages.{Message, message_at, with_message}
use Rattle.tl_definitions.specs.Past.{flow_past}
use Rattle.tl_definitions.specs.Judging.{message_in, flow_after}
use Rattle.tl_definitions.proofs.JudgingLaws.{flow_next}
use Rattle.tl_link_rules.specs.declared.flow.FlowState.{FlowState}
use Rattle.tl_link_rules.specs.Flow.{source_at, release_at, has_sink, shown, StandsFor, flow_rules, answered, rules_in, answered_in, flow_with, can_carry}

-- ---- what a channel can carry

open_level : (l : Level) (c : Chan) (found : Option Op) (o : Op) → option_and_then (λ x. cond (level_le (least_level c x) l) (Some x) None) found ≡ Some o → found ≡ Some o
open_level l c None o h = cc
open_level l c (Some x) o h = elim (level_le (least_level c x) l) as (λ b. cond b (Some x) None ≡ Some o → Some x ≡ Some o) [ true ↦ λ e. e | false ↦ λ e. cc ] h

listed : (l : Level) (c : Chan) (found : Option (Option Op)) (o : Op)
    → option_and_then (λ x. option_and_then (λ y. cond (level_le (least_level c y) l) (Some y) None) x) found ≡ Some o → found ≡ Some (Some o)
listed l c None o h = cc
listed l c (Some x) o h = ap Some (open_level l c x o h)

abbrev CanCarry : Chan → Option Op → Type 0
CanCarry c found = option_map_or (can_carry c) found true ≡ true

one_of : (c : Chan) (xs : List (Option Op)) (code : ℕ) (o : Op) → AllByRecursion (CanCarry c) xs → slice_get xs code ≡ Some (Some o) → can_carry c o ≡ true
one_of c [] code o all h = cc
one_of c (x ∷ xs) zero o all h = let e : x ≡ Some o = cc in sym (ap (λ found. option_map_or (can_carry c) found true) e) ∙ all.0
one_of c (x ∷ xs) (suc code) o all h = one_of c xs code o all.1 h

all_carried : (c : Chan) → AllByRecursion (CanCarry c) (codes c)
all_carried chan.A = (refl, (refl, (refl, (refl, (refl, (refl, (refl, (refl, tt))))))))
all_carried chan.B = (refl, (refl, (refl, (refl, (refl, (refl, (refl, (refl, tt))))))))
all_carried chan.C = (refl, (refl, (refl, (refl, (refl, (refl, (refl, (refl, tt))))))))
all_carried chan.D = (refl, (refl, (refl, (refl, (refl, (refl, (refl, (refl, tt))))))))
all_carried chan.E = (refl, tt)

pub carried : (l : Level) (c : Chan) (code : ℕ) (o : Op) → op_at l c code ≡ Some o → can_carry c o ≡ true
unfolding op_at
carried l c code o h = one_of c (codes c) code o (all_carried c) (listed l c (slice_get (codes c) code) o h)

-- ---- what a state shows

pub shown_after : (old new : FlowState) (message : Message) → ((key : ℕ) → source_at new key ≡ (flow_after (shown old) message).source key)
    → ((key : ℕ) → release_at new key ≡ (flow_after (shown old) message).release key) → ((key : ℕ) → has_sink new key ≡ (flow_after (shown old) message).sink key)
    → shown new ≡ flow_after (shown old) message
shown_after old new message sources releases sinks = λ i. record {
  source = λ key. sources key i;
  release = λ key. releases key i;
  sink = λ key. sinks key i;
}

pub rules_law : (old : FlowState) (before : List Message) (head : Beat) (found : Option Op) → StandsFor old before → rules_in (shown old) head found ≡ flow_rules before head found
rules_law old before head found stands = ap (λ past. rules_in past head found) stands.shows

pub request_law : (old : FlowState) (before : List Message) (head : Beat) (found : Option Op) → StandsFor old before → answered_in (shown old) head found ≡ answered before head found
request_law old before head found stands = ap (λ past. answered_in past head found) stands.shows

with_law : (before : List Message) (head : Beat) (found : Option Op) → flow_with (flow_past before) head found ≡ flow_past (with_message head found before)
with_law before head None = refl
with_law before head (Some o) = flow_next before (message_at before head o)

pub stands_law : (old new : FlowState) (before : List Message) (head : Beat) (found : Option Op) → StandsFor old before → shown new ≡ flow_with (shown old) head found
    → StandsFor new (with_message head found before)
stands_law old new before head found stands next = record { shows = next ∙ ap (λ past. flow_with past head found) stands.shows ∙ with_law before head found }

pub stands_ok : {X E : Type 0} (made : Result X E) (old new : FlowState) (before : List Message) (head : Beat) (found : Option Op) → StandsFor old before
    → OnOk made (shown new ≡ flow_with (shown old) head found) → OnOk made (StandsFor new (with_message head found before))
stands_ok (Ok x) old new before head found stands next = stands_law old new before head found stands next
stands_ok (Err e) old new before head found stands next = tt

-- What a state shows after a head, where its three tables are what they are then.
pub passed : {X E : Type 0} (made : Result X E) (old new : FlowState) (head : Beat) (found : Option Op) (o : Op) → found ≡ Some o
    → OnOk made ((key : ℕ) → source_at new key ≡ (flow_after (shown old) (message_in (shown old) head o)).source key)
    → OnOk made ((key : ℕ) → release_at new key ≡ (flow_after (shown old) (message_in (shown old) head o)).release key)
    → OnOk made ((key : ℕ) → has_sink new key ≡ (flow_after (shown old) (message_in (shown old) head o)).sink key)
    → OnOk made (shown new ≡ flow_with (shown old) head found)
passed (Ok x) old new head found o is sources releases sinks =
    shown_after old new (message_in (shown old) head o) sources releases sinks ∙ ap (flow_with (shown old) head) (sym is)
passed (Err e) old new head found o is sources releases sinks = tt
