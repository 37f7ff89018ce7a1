-- The beats of a fragment, judged one after the other.
use Rattle.std.proofs.Common.{◌≡◌, ℕ, ◌+◌, ◌<◌, ◌≤◌, List, [], ◌∷◌, ◌++◌, length, drop, append-nil, append_assoc, Option, Some, None, refl, sym, ap, subst, ◌∙◌, get_or}
use Rattle.std.specs.Prelude.{map}
use Rattle.std.proofs.lemmas.List.{at_drop_more, at_drop_all}
use Rattle.tl_beats.specs.declared.Beat.{Beat}
use Rattle.tl_beats.specs.declared.Placed.{Placed}
use Rattle.tl_beats.specs.declared.Row.{Row}
use Rattle.tl_definitions.specs.Breaks.{row_of}
use Rattle.tl_definitions.specs.Events.{Event, event_of, with_event, link_events}
use Rattle.tl_definitions.specs.LinkPasses.{LinkSnapshot, link_rules, link_next, link_judging}
use Rattle.tl_definitions.specs.Passes.{rows_judged, left_after}
use Rattle.tl_definitions.specs.Positions.{placed_from}
use Rattle.tl_definitions.specs.Rules.{Manager}
use Rattle.tl_apart.specs.Events.{said}
use Rattle.tl_apart.specs.LinkJudge.{Shows}
use Rattle.tl_apart.specs.declared.link_judge.Findings.{Findings}
use Rattle.tl_apart.specs.declared.link_judge.LinkJudge.{LinkJudge}

-- The judge shows something from which the beats that are left give what is left of the answer.
pub record GoesOn (m : Manager) (s : LinkSnapshot) (exponent : ℕ) (judge : LinkJudge) (entry found : Findings) (all rest : List Placed) : Type 0 where
  pub here : LinkSnapshot
  pub shows : Shows exponent judge here
  pub rows : found.rows.items ++ rows_judged (link_judging m) here rest ≡ entry.rows.items ++ rows_judged (link_judging m) s all
  pub left : left_after (link_judging m) here rest ≡ left_after (link_judging m) s all
  pub events : map said found.events.items ++ link_events m here rest ≡ map said entry.events.items ++ link_events m s all

pub begins : (m : Manager) (s : LinkSnapshot) (exponent : ℕ) (judge : LinkJudge) (found : Findings) (all rest : List Placed) → Shows exponent judge s → rest ≡ all
    → GoesOn m s exponent judge found found all rest
begins m s exponent judge found all rest shows is = record {
  here = s;
  shows = shows;
  rows = ap (λ ps. found.rows.items ++ rows_judged (link_judging m) s ps) is;
  left = ap (left_after (link_judging m) s) is;
  events = ap (λ ps. map said found.events.items ++ link_events m s ps) is;
}

in_front : (found : Option Event) (events : List Event) → with_event found [] ++ events ≡ with_event found events
in_front None events = refl
in_front (Some e) events = refl

-- One beat more.
pub goes_on : (m : Manager) (s : LinkSnapshot) (exponent : ℕ) (old new : LinkJudge) (entry found more : Findings) (all rest beats : List Placed) (p : Placed) (on : GoesOn m s exponent old entry found all rest)
    → rest ≡ p ∷ beats → more.rows.items ≡ found.rows.items ++ map (row_of p) (link_rules m on.here p) → Shows exponent new (link_next m on.here p)
    → map said more.events.items ≡ map said found.events.items ++ with_event (event_of m on.here p) [] → GoesOn m s exponent new entry more all beats
goes_on m s exponent old new entry found more all rest beats p on steps rows shows events =
    let here : LinkSnapshot = on.here in
    let next : LinkSnapshot = link_next m here p in
    record {
      here = next;
      shows = shows;
      rows = ap (λ (rs : List Row). rs ++ rows_judged (link_judging m) next beats) rows
          ∙ append_assoc found.rows.items (map (row_of p) (link_rules m here p)) (rows_judged (link_judging m) next beats)
          ∙ sym (ap (λ ps. found.rows.items ++ rows_judged (link_judging m) here ps) steps) ∙ on.rows;
      left = sym (ap (left_after (link_judging m) here) steps) ∙ on.left;
      events = ap (λ (es : List Event). es ++ link_events m next beats) events
          ∙ append_assoc (map said found.events.items) (with_event (event_of m here p) []) (link_events m next beats)
          ∙ ap (λ es. map said found.events.items ++ es) (in_front (event_of m here p) (link_events m next beats))
          ∙ sym (ap (λ ps. map said found.events.items ++ link_events m here ps) steps) ∙ on.events;
    }

module _ (m : Manager) (s : LinkSnapshot) (exponent : ℕ) (judge : LinkJudge) (entry found : Findings) (all rest : List Placed) (on : GoesOn m s exponent judge entry found all rest) (ends : rest ≡ []) where
  pub rows_end : found.rows.items ≡ entry.rows.items ++ rows_judged (link_judging m) s all
  rows_end = sym (append-nil found.rows.items) ∙ sym (ap (λ ps. found.rows.items ++ rows_judged (link_judging m) on.here ps) ends) ∙ on.rows

  pub shows_end : Shows exponent judge (left_after (link_judging m) s all)
  shows_end = subst (Shows exponent judge) (sym (ap (left_after (link_judging m) on.here) ends) ∙ on.left) on.shows

  pub events_end : map said found.events.items ≡ map said entry.events.items ++ link_events m s all
  events_end = sym (append-nil (map said found.events.items)) ∙ sym (ap (λ ps. map said found.events.items ++ link_events m on.here ps) ends) ∙ on.events

-- The beats of a fragment from one on.
pub one_more : (link number other line : ℕ) (beats : List Beat) (index : ℕ) (d : Beat) → index < length beats → other ≡ number
    → placed_from link number line (drop index beats) ≡ record { link = link; fragment = other; line = line; beat = get_or beats index d } ∷ placed_from link number (line + 1) (drop (index + 1) beats)
one_more link number other line beats index d within is =
    let after : List Placed = placed_from link number (line + 1) (drop (index + 1) beats) in
    let more : placed_from link number line (drop index beats) ≡ record { link = link; fragment = number; line = line; beat = get_or beats index d } ∷ after =
    at_drop_more (placed_from link number line) beats index d within in
    more ∙ ap (λ n. record { link = link; fragment = n; line = line; beat = get_or beats index d } ∷ after) (sym is)

pub no_more : (link number line : ℕ) (beats : List Beat) (index : ℕ) → length beats ≤ index → placed_from link number line (drop index beats) ≡ []
no_more link number line beats index past = let none : placed_from link number line (drop index beats) ≡ [] = at_drop_all (placed_from link number line) beats index past in none

-- The events of some beats, and then of others.
pub events_append : (m : Manager) (s : LinkSnapshot) (xs ys : List Placed) → link_events m s (xs ++ ys) ≡ link_events m s xs ++ link_events m (left_after (link_judging m) s xs) ys
events_append m s [] ys = refl
events_append m s (p ∷ xs) ys =
    ap (with_event (event_of m s p)) (events_append m (link_next m s p) xs ys)
    ∙ in_front_of (event_of m s p) (link_events m (link_next m s p) xs) (link_events m (left_after (link_judging m) (link_next m s p) xs) ys)
  where
    in_front_of : (found : Option Event) (one two : List Event) → with_event found (one ++ two) ≡ with_event found one ++ two
    in_front_of None one two = refl
    in_front_of (Some e) one two = refl
