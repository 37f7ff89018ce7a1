-- What a link tells of its beats, one after the other.
use Rattle.std.proofs.Common.{◌≡◌, ℕ, inl, inr, Bool, true, false, cond, List, [], ◌∷◌, ◌++◌, append_assoc, append-nil, Option, Some, None, refl, sym, ap, subst, ◌∙◌}
use Rattle.std.specs.Prelude.{map}
use Rattle.std.specs.Option.{option_and_then}
use Rattle.std.specs.List.{Contains}
use Rattle.std.specs.List.Sorted.{IsStrictlySortedBy}
use Rattle.std.specs.Cmp.{IsTotalOrder}
use Rattle.std.specs.declared.cmp.Ordering.TheVariants.{Less}
use Rattle.std.proofs.lemmas.Cmp.{on_total}
use Rattle.tl_tables.specs.declared.Op.{Op}
use Rattle.tl_beats.specs.declared.Placed.{Placed}
use Rattle.tl_beats.specs.declared.Row.{Row}
use Rattle.tl_definitions.specs.declared.Unfinished.{Unfinished}
use Rattle.tl_definitions.specs.Events.{Event, event_by, tells, head_event, place_event, event_of, with_event, link_events, event_order, event_next, event_rows, left_by_events, Shown, event_rules}
use Rattle.tl_definitions.specs.Breaks.{row_of}
use Rattle.tl_definitions.specs.Heads.{message_of}
use Rattle.tl_definitions.specs.Judging.{message_in}
use Rattle.tl_definitions.specs.LinkPasses.{LinkSnapshot, link_next}
use Rattle.tl_definitions.specs.Messages.{Message}
use Rattle.tl_definitions.specs.Positions.{position_order}
use Rattle.tl_definitions.specs.Rules.{Manager}
use Rattle.tl_definitions.proofs.Lists.{contains_none, contains_here, contains_there, contains_cases, all_by, all_of}
use Rattle.tl_definitions.proofs.PositionLaws.{position_total}

pub event_total : IsTotalOrder event_order
event_total = on_total (λ (e : Event). e.place) position_total

-- ---- an event is of its beat

by_tells : (b : Bool) (f e : Event) (p : Placed) → f.place ≡ p → cond b (Some f) None ≡ Some e → e.place ≡ p
by_tells true f e p at h = let same : f ≡ e = cc in sym (ap (λ (x : Event). x.place) same) ∙ at
by_tells false f e p at h = absurd (cc)

by_message : (m : Manager) (s : LinkSnapshot) (p : Placed) (found : Option Op) (e : Event) → option_and_then (head_event m s p) found ≡ Some e → e.place ≡ p
by_message m s p None e h = absurd (cc)
by_message m s p (Some o) e h =
    let message : Message = message_in s.past.flow p.beat o in
    by_tells (tells m.exponent s.past message) (event_by m.exponent s.past p message) e p refl h

by_place : (m : Manager) (s : LinkSnapshot) (p : Placed) (burst : Option Unfinished) (e : Event) → place_event m s p burst ≡ Some e → e.place ≡ p
by_place m s p None e h = by_message m s p (message_of (m.links p.link) p.beat) e h
by_place m s p (Some burst) e h = absurd (cc)

of_beat : (m : Manager) (s : LinkSnapshot) (p : Placed) (e : Event) → event_of m s p ≡ Some e → e.place ≡ p
of_beat m s p e h = by_place m s p (s.burst p.beat.chan) e h

-- So events are of the beats.
pub of_beats : (m : Manager) (s : LinkSnapshot) (beats : List Placed) (e : Event) → Contains (link_events m s beats) e → Contains beats e.place
of_beats m s [] e h = absurd (contains_none e h)
of_beats m s (p ∷ beats) e h = elim (event_of m s p) as (λ found. event_of m s p ≡ found → Contains (with_event found (link_events m (link_next m s p) beats)) e → Contains (p ∷ beats) e.place) [
  | None ↦ λ is g. contains_there p beats e.place (of_beats m (link_next m s p) beats e g)
  | Some f ↦ λ is g. elim (contains_cases f (link_events m (link_next m s p) beats) e g) [
    | inl same ↦ (let at : f.place ≡ p = of_beat m s p f is in subst (Contains (p ∷ beats)) (sym at ∙ ap (λ (x : Event). x.place) same) (contains_here p beats))
    | inr there ↦ contains_there p beats e.place (of_beats m (link_next m s p) beats e there)
  ]
] refl h

-- They rise with the beats.
pub rise : (m : Manager) (s : LinkSnapshot) (beats : List Placed) → IsStrictlySortedBy position_order beats → IsStrictlySortedBy event_order (link_events m s beats)
unfolding IsStrictlySortedBy
rise m s [] up = tt
rise m s (p ∷ beats) up = elim (event_of m s p) as (λ found. event_of m s p ≡ found → IsStrictlySortedBy event_order (with_event found (link_events m (link_next m s p) beats))) [
  | None ↦ λ is. rise m (link_next m s p) beats up.1
  | Some e ↦ λ is. (let at : e.place ≡ p = of_beat m s p e is in (
    all_by (λ x. event_order e x ≡ Less) (link_events m (link_next m s p) beats) (λ x h. subst (λ q. position_order q x.place ≡ Less) (sym at) (all_of (λ q. position_order p q ≡ Less) beats up.0 x.place (of_beats m (link_next m s p) beats x h))),
    rise m (link_next m s p) beats up.1,
  ))
] refl

-- One event more.
pub event_rows_more : (clients : List ℕ) (shown : ℕ → Shown) (events : List Event) (e : Event)
    → event_rows clients shown (events ++ e ∷ []) ≡ event_rows clients shown events ++ map (row_of e.place) (event_rules clients (left_by_events shown events) e)
event_rows_more clients shown [] e = append-nil (map (row_of e.place) (event_rules clients shown e))
event_rows_more clients shown (f ∷ events) e =
    let own : List Row = map (row_of f.place) (event_rules clients shown f) in
    ap (λ rows. own ++ rows) (event_rows_more clients (event_next shown f) events e)
    ∙ sym (append_assoc own (event_rows clients (event_next shown f) events) (map (row_of e.place) (event_rules clients (left_by_events (event_next shown f) events) e)))

pub left_by_more : (shown : ℕ → Shown) (events : List Event) (e : Event) → left_by_events shown (events ++ e ∷ []) ≡ event_next (left_by_events shown events) e
left_by_more shown [] e = refl
left_by_more shown (f ∷ events) e = left_by_more (event_next shown f) events e
