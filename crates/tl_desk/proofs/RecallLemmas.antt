-- A ticket that is called back, and all others.
use Rattle.std.proofs.Common.{◌≡◌, ℕ, inl, inr, Bool, true, false, cond, List, Some, None, refl, sym, ap, subst, ◌∙◌}
use Rattle.std.specs.BTreeMap.{is_at}
use Rattle.std.specs.Option.{option_map}
use Rattle.tl_beats.specs.declared.Row.{Row}
use Rattle.tl_pieces.proofs.KeyLemmas.{key_exact}
use Rattle.tl_pieces.specs.declared.key.PieceKey.{PieceKey}
use Rattle.tl_pieces.specs.Keys.{key_cmp, change}
use Rattle.tl_pieces.specs.Pieces.{Board, piece_at, live_of, with_live, with_pieces}
use Rattle.tl_check.specs.declared.state.SpanState.{SpanState}
use Rattle.tl_board.proofs.CheckLemmas.{lookup_change}
use Rattle.tl_desk.specs.TicketData.{IsOutFor}
use Rattle.tl_board.specs.declared.tally.Tally.{Tally}
use Rattle.tl_desk.specs.Core.{Core, IsSound, log_of}
use Rattle.tl_desk.specs.Jobs.{IsLive, Recalls, RecallsWatch}
use Rattle.tl_desk.specs.Laws.{RecallsEndOne}
use Rattle.tl_desk.specs.Tickets.{window_of, watch_window_of}
use Rattle.tl_desk.proofs.TicketLemmas.{clash, one_value, live_found, one_window, one_watch, none_of_managers, none_of_monitors}

apart : (q key : PieceKey) → (q ≡ key → ⊥) → is_at (key_cmp q) key ≡ false
apart q key differ = go (is_at (key_cmp q) key) refl
  where
    go : (b : Bool) → is_at (key_cmp q) key ≡ b → b ≡ false
    go true at = absurd (differ (key_exact q key at))
    go false at = refl

module _ {S R : Type 0} (old new : Board S R) (key : PieceKey) (ticket : ℕ) (live : live_of (piece_at key old) ≡ Some ticket) (is : new ≡ with_pieces old (change key (with_live None) old.pieces)) where
  -- A live ticket is that of another window, and was live.
  was : (q : PieceKey) (t : ℕ) → live_of (piece_at q new) ≡ Some t → (q ≡ key → ⊥) × (live_of (piece_at q old) ≡ Some t)
  was q t has = elim (live_found old new key (with_live None) is None (λ p. refl) q t has) [
    | inl gone ↦ absurd (clash None t refl gone.1)
    | inr other ↦ other
  ]

  -- Another ticket stays live.
  still : (q : PieceKey) (t : ℕ) → (t ≡ ticket → ⊥) → live_of (piece_at q old) ≡ Some t → live_of (piece_at q new) ≡ Some t
  still q t differ has =
      ap live_of (ap (λ (b : Board S R). piece_at q b) is ∙ lookup_change key (with_live None) q old.pieces ∙ ap (λ b. cond b (option_map (with_live None) (piece_at q old)) (piece_at q old)) (apart q key other)) ∙ has
    where
      other : q ≡ key → ⊥
      other at = differ (one_value (live_of (piece_at q old)) t ticket has (subst (λ (k : PieceKey). live_of (piece_at k old) ≡ Some ticket) (sym at) live))

module _ (old new : Core) (ticket : ℕ) (sound : IsSound old) where
  module _ (step : Recalls old ticket new) where
    managers : new.windows.spans.board ≡ with_pieces old.windows.spans.board (change step.key (with_live None) old.windows.spans.board.pieces)
    managers = ap (λ (c : Core). c.windows.spans.board) step.rest

    monitors : new.windows.board ≡ old.windows.board
    monitors = ap (λ (c : Core). c.windows.board) step.rest

    out : IsOutFor ticket (window_of step.key) old.tickets.out
    out = let own = sound.tickets.live step.key ticket step.live in (own.taken, own.is, own.window)

    forward : (other : ℕ) → IsLive new other → IsLive old other × (other ≡ ticket → ⊥)
    forward other (q, inl has) =
        let before = was old.windows.spans.board new.windows.spans.board step.key ticket step.live managers q other has in (
          (q, inl before.1),
          λ same. before.0 (one_window (log_of old) old.windows.spans.board old.windows.board old.boxes old.tickets sound.tickets step.key q ticket out
              (subst (λ t. live_of (piece_at q old.windows.spans.board) ≡ Some t) same before.1)),
        )
    forward other (q, inr has) =
        let before : live_of (piece_at q old.windows.board) ≡ Some other = ap (λ (b : Board Tally (List Row)). live_of (piece_at q b)) (sym monitors) ∙ has in (
          (q, inr before),
          λ same. none_of_monitors (log_of old) old.windows.spans.board old.windows.board old.boxes old.tickets sound.tickets step.key q ticket out
              (subst (λ t. live_of (piece_at q old.windows.board) ≡ Some t) same before),
        )

    backward : (other : ℕ) → IsLive old other × (other ≡ ticket → ⊥) → IsLive new other
    backward other ((q, inl has), differ) = (q, inl (still old.windows.spans.board new.windows.spans.board step.key ticket step.live managers q other differ has))
    backward other ((q, inr has), differ) = (q, inr (ap (λ (b : Board Tally (List Row)). live_of (piece_at q b)) monitors ∙ has))

  module _ (step : RecallsWatch old ticket new) where
    managers_still : new.windows.spans.board ≡ old.windows.spans.board
    managers_still = ap (λ (c : Core). c.windows.spans.board) step.rest

    watched : new.windows.board ≡ with_pieces old.windows.board (change step.key (with_live None) old.windows.board.pieces)
    watched = ap (λ (c : Core). c.windows.board) step.rest

    watch_out : IsOutFor ticket (watch_window_of step.key) old.tickets.out
    watch_out = let own = sound.tickets.watched step.key ticket step.live in (own.taken, own.is, own.window)

    forward_watch : (other : ℕ) → IsLive new other → IsLive old other × (other ≡ ticket → ⊥)
    forward_watch other (q, inl has) =
        let before : live_of (piece_at q old.windows.spans.board) ≡ Some other = ap (λ (b : Board SpanState (List Row)). live_of (piece_at q b)) (sym managers_still) ∙ has in (
          (q, inl before),
          λ same. none_of_managers (log_of old) old.windows.spans.board old.windows.board old.boxes old.tickets sound.tickets step.key q ticket watch_out
              (subst (λ t. live_of (piece_at q old.windows.spans.board) ≡ Some t) same before),
        )
    forward_watch other (q, inr has) =
        let before = was old.windows.board new.windows.board step.key ticket step.live watched q other has in (
          (q, inr before.1),
          λ same. before.0 (one_watch (log_of old) old.windows.spans.board old.windows.board old.boxes old.tickets sound.tickets step.key q ticket watch_out
              (subst (λ t. live_of (piece_at q old.windows.board) ≡ Some t) same before.1)),
        )

    backward_watch : (other : ℕ) → IsLive old other × (other ≡ ticket → ⊥) → IsLive new other
    backward_watch other ((q, inl has), differ) = (q, inl (ap (λ (b : Board SpanState (List Row)). live_of (piece_at q b)) managers_still ∙ has))
    backward_watch other ((q, inr has), differ) = (q, inr (still old.windows.board new.windows.board step.key ticket step.live watched q other differ has))

pub recalls_end_one : RecallsEndOne
recalls_end_one old new ticket sound (inl step) other = (forward old new ticket sound step other, backward old new ticket sound step other)
recalls_end_one old new ticket sound (inr step) other = (forward_watch old new ticket sound step other, backward_watch old new ticket sound step other)
