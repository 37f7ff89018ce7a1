-- What each call makes of windows that are the same.
use Rattle.std.proofs.Common.{◌≡◌, ℕ, inl, inr, ◌==◌, true, false, cond, Bool, List, [], ◌∷◌, ◌++◌, Option, Some, None, length, refl, sym, ap, subst, ◌∙◌, arith, nat_lt}
use Rattle.std.specs.Prelude.{is_some, slice_index_or}
use Rattle.tl_beats.specs.declared.Row.{Row}
use Rattle.tl_definitions.specs.Captures.{manager_beats}
use Rattle.tl_definitions.specs.Managers.{manager_at}
use Rattle.tl_edits.specs.Edits.{AnEdit}
use Rattle.tl_edits.specs.Inputs.{InputData}
use Rattle.tl_edits.specs.Log.{LogData, inputs_after}
use Rattle.tl_pieces.specs.declared.key.PieceKey.{PieceKey}
use Rattle.tl_pieces.specs.Keys.{value_at, change}
use Rattle.tl_pieces.specs.Pieces.{Board, Piece, Pass, empty, IsBoard, IsAt, IsFirst, IsGood, Follows, IsWanted, IsWantedAt, ChainsFrom, opening_of, exit_before, left_by, piece_at, result_of, live_of, with_live}
use Rattle.tl_check.specs.Links.{SameLink}
use Rattle.tl_check.specs.States.{SameSpan, StandsFor}
use Rattle.tl_check.specs.declared.links.LinkState.{LinkState}
use Rattle.tl_check.specs.declared.state.SpanState.{SpanState}
use Rattle.tl_check.proofs.StateLaws.{shown_same}
use Rattle.tl_board.specs.Edits.{EditsTo}
use Rattle.tl_board.specs.Spans.{SpansData, standing, IsSound}
use Rattle.tl_board.specs.Tickets.{HandsIn}
use Rattle.tl_board.specs.Touch.{Touches}
use Rattle.tl_board.specs.Windows.{with_checked}
use Rattle.tl_board.proofs.CheckLemmas.{owner_of}
use Rattle.tl_board.specs.declared.tally.Tally.{Tally}
use Rattle.tl_board.specs.Accepting.{EditsBoth}
use Rattle.tl_board.specs.Outside.{HandsInWatch}
use Rattle.tl_board.specs.Tally.{SameTally}
use Rattle.tl_board.specs.TouchedWatches.{TouchesWatch}
use Rattle.tl_board.specs.Watches.{WatchesData, AreWatches}
use Rattle.tl_capture.specs.Windows.{HasBeat}
use Rattle.tl_desk.specs.Alike.{AreBoth}
use Rattle.tl_desk.specs.Jobs.{Unmarks, UnmarksWatch}
use Rattle.tl_desk.proofs.TicketLemmas.{clash, one_value}

-- ---- one window after an edit, which either touched it or not

abbrev made : {S R : Type 0} → Option (Pass S R) → Option ℕ → Piece S R
made result live = record { result = result; live = live }

-- Both are equal, or two that are.
pub equal_of : {X : Type 0} (o w : Option X) → AreBoth {X = X} (λ x y. x ≡ y) o w → o ≡ w
equal_of None None both = refl
equal_of None (Some y) both = absurd both
equal_of (Some x) None both = absurd both
equal_of (Some x) (Some y) both = ap Some both

pub both_of : {X : Type 0} (o w : Option X) → o ≡ w → AreBoth {X = X} (λ x y. x ≡ y) o w
both_of None None same = tt
both_of None (Some y) same = absurd (clash None y refl same)
both_of (Some x) None same = absurd (clash None x refl (sym same))
both_of (Some x) (Some y) same = one_value (Some x) x y refl same

pub moved : {X : Type 0} (same : X → X → Type 0) (o w x y : Option X) → o ≡ x → w ≡ y → AreBoth same o w → AreBoth same x y
moved same o w x y first second both = subst (λ z. AreBoth same z y) first (subst (λ z. AreBoth same o z) second both)

-- E is true of two windows after an edit, if it is so of two blank ones.
module _ {S R : Type 0} (E : Piece S R → Piece S R → Type 0) (blank : E empty empty) (T : Type 0) where
  parts : (r q : Option (Pass S R)) (l m : Option ℕ) → ((T → ⊥) → E (made r l) (made q m)) → (T → r ≡ None) → (T → l ≡ None) → (T → q ≡ None) → (T → m ≡ None) → E (made r l) (made q m)
  parts (Some x) q l m same a b c d = same (λ t. clash (Some x) x (a t) refl)
  parts None (Some x) l m same a b c d = same (λ t. clash (Some x) x (c t) refl)
  parts None None (Some x) m same a b c d = same (λ t. clash (Some x) x (b t) refl)
  parts None None None (Some x) same a b c d = same (λ t. clash (Some x) x (d t) refl)
  parts None None None None same a b c d = blank

  pub one_piece : (o w x y : Option (Piece S R)) → AreBoth E o w → ((T → ⊥) → x ≡ o) → ((T → ⊥) → y ≡ w) → (T → result_of x ≡ None) → (T → live_of x ≡ None) → (T → result_of y ≡ None) → (T → live_of y ≡ None)
      → is_some x ≡ is_some y → AreBoth E x y
  one_piece o w None None alike first second a b c d there = tt
  one_piece o w None (Some q) alike first second a b c d there = absurd (let never : false ≡ true = there in cc)
  one_piece o w (Some p) None alike first second a b c d there = absurd (let never : true ≡ false = there in cc)
  one_piece o w (Some p) (Some q) alike first second a b c d there =
      parts p.result q.result p.live q.live (λ not. moved E o w (Some p) (Some q) (sym (first not)) (sym (second not)) alike) a b c d

both_ways : (x y : Bool) → (x ≡ true → y ≡ true) → (y ≡ true → x ≡ true) → x ≡ y
both_ways true true there back = refl
both_ways true false there back = absurd (let never : false ≡ true = there refl in cc)
both_ways false true there back = absurd (let never : false ≡ true = back refl in cc)
both_ways false false there back = refl

-- ---- windows of managers after an edit

-- A window is there exactly where it has a beat.
span_there : (one other : SpansData) → IsSound one → IsSound other → IsBoard one.board → one.log ≡ other.log → (k : PieceKey) → is_some (piece_at k one.board) ≡ true → is_some (piece_at k other.board) ≡ true
span_there one other sound whole is same k there =
    let own : is_some (opening_of k.owner one.board.openings) ≡ true = owner_of one.board is k there in
    let its : is_some (opening_of k.owner other.board.openings) ≡ true =
    whole.managers.owners k.owner ∙ ap (λ (l : LogData). nat_lt k.owner (length l.topo.managers)) (sym same) ∙ sym (sound.managers.owners k.owner) ∙ own in
    let beat : HasBeat (manager_beats (standing one).topo (standing one).fragments k.owner) k.window = (sound.covered.windows k own).0 there in
    (whole.covered.windows k its).1 (subst (λ (l : LogData). HasBeat (manager_beats (inputs_after l.topo l.edits).topo (inputs_after l.topo l.edits).fragments k.owner) k.window) same beat)

pub edited_log : (e : AnEdit) (one one_after other other_after : SpansData) → one.log ≡ other.log → EditsTo one e one_after → EditsTo other e other_after → one_after.log ≡ other_after.log
edited_log e one one_after other other_after log first second = first.log ∙ ap (λ (l : LogData). record l { edits = l.edits ++ e ∷ [] }) log ∙ sym second.log

pub edited_spans : (E : Piece SpanState (List Row) → Piece SpanState (List Row) → Type 0) → E empty empty → (e : AnEdit) (one one_after other other_after : SpansData) → one.log ≡ other.log
    → ((k : PieceKey) → AreBoth E (piece_at k one.board) (piece_at k other.board)) → EditsTo one e one_after → EditsTo other e other_after → IsSound one_after → IsSound other_after
    → IsBoard one_after.board → IsBoard other_after.board → (k : PieceKey) → AreBoth E (piece_at k one_after.board) (piece_at k other_after.board)
edited_spans E blank e one one_after other other_after log pieces first second sound whole is has k =
    one_piece E blank (Touches (standing one) e k.owner k.window) (piece_at k one.board) (piece_at k other.board) (piece_at k one_after.board) (piece_at k other_after.board) (pieces k) (first.stays k)
    (λ not. second.stays k (λ touches. not (here touches))) (first.result k) (first.ticket k) (λ touches. second.result k (there touches)) (λ touches. second.ticket k (there touches))
    (both_ways (is_some (piece_at k one_after.board)) (is_some (piece_at k other_after.board)) (span_there one_after other_after sound whole is logs k) (span_there other_after one_after whole sound has (sym logs) k))
  where
    now : standing one ≡ standing other
    now = ap (λ (l : LogData). inputs_after l.topo l.edits) log

    logs : one_after.log ≡ other_after.log
    logs = edited_log e one one_after other other_after log first second

    here : Touches (standing other) e k.owner k.window → Touches (standing one) e k.owner k.window
    here = subst (λ (i : InputData). Touches i e k.owner k.window) (sym now)

    there : Touches (standing one) e k.owner k.window → Touches (standing other) e k.owner k.window
    there = subst (λ (i : InputData). Touches i e k.owner k.window) now

-- ---- windows of monitors after an edit

watch_there : (now : InputData) (one other : Board Tally (List Row)) → AreWatches now one → AreWatches now other → IsBoard one → (k : PieceKey) → is_some (piece_at k one) ≡ true → is_some (piece_at k other) ≡ true
watch_there now one other are same is k there =
    let own : is_some (opening_of k.owner one.openings) ≡ true = owner_of one is k there in
    let its : is_some (opening_of k.owner other.openings) ≡ true = same.owners k.owner ∙ sym (are.owners k.owner) ∙ own in
    (same.covered.windows k its).1 ((are.covered.windows k own).0 there)

pub edited_watches : (E : Piece Tally (List Row) → Piece Tally (List Row) → Type 0) → E empty empty → (e : AnEdit) (one one_after other other_after : WatchesData) → standing one.spans ≡ standing other.spans
    → ((k : PieceKey) → AreBoth E (piece_at k one.board) (piece_at k other.board)) → EditsBoth one e one_after → EditsBoth other e other_after → standing one_after.spans ≡ standing other_after.spans
    → AreWatches (standing one_after.spans) one_after.board → AreWatches (standing other_after.spans) other_after.board → IsBoard one_after.board → IsBoard other_after.board
    → (k : PieceKey) → AreBoth E (piece_at k one_after.board) (piece_at k other_after.board)
edited_watches E blank e one one_after other other_after now pieces first second later are same is has k =
    one_piece E blank (TouchesWatch (standing one.spans) e k.owner k.window) (piece_at k one.board) (piece_at k other.board) (piece_at k one_after.board) (piece_at k other_after.board) (pieces k) (first.stays k)
    (λ not. second.stays k (λ touches. not (here touches))) (first.result k) (first.ticket k) (λ touches. second.result k (there touches)) (λ touches. second.ticket k (there touches))
    (both_ways (is_some (piece_at k one_after.board)) (is_some (piece_at k other_after.board)) (watch_there (standing one_after.spans) one_after.board other_after.board are equal is k)
    (watch_there (standing one_after.spans) other_after.board one_after.board equal are has k))
  where
    equal : AreWatches (standing one_after.spans) other_after.board
    equal = subst (λ (i : InputData). AreWatches i other_after.board) (sym later) same

    here : TouchesWatch (standing other.spans) e k.owner k.window → TouchesWatch (standing one.spans) e k.owner k.window
    here = subst (λ (i : InputData). TouchesWatch i e k.owner k.window) (sym now)

    there : TouchesWatch (standing one.spans) e k.owner k.window → TouchesWatch (standing other.spans) e k.owner k.window
    there = subst (λ (i : InputData). TouchesWatch i e k.owner k.window) now

-- ---- opening states that are the same

-- Each owner opens with states that are the same.
abbrev pub OpenAlike : {S : Type 0} → (S → S → Type 0) → List (ℕ × S) → List (ℕ × S) → Type 0
OpenAlike same one other = (owner : ℕ) → AreBoth same (opening_of owner one) (opening_of owner other)

-- What stands before a piece is the same, where it is its owner's opening state too.
before_alike : {S : Type 0} (one other : List (ℕ × S)) (P : Option S → Type 0) → ((owner : ℕ) → P (opening_of owner one) → P (opening_of owner other)) → (l : Option (ℕ × Option S)) (o : ℕ) → P (exit_before one l o)
    → P (exit_before other l o)
before_alike one other P opens None o h = opens o h
before_alike one other P opens (Some l) o h = go (l.0 == o) h
  where
    go : (b : Bool) → P (cond b l.1 (opening_of o one)) → P (cond b l.1 (opening_of o other))
    go true g = g
    go false g = opens o g

module _ {S R : Type 0} (same : S → S → Type 0) (then : (x y z : S) → same x y → same y z → same x z) where
  good_alike : (x y : Option S) (r : Option (Pass S R)) → AreBoth same x y → IsGood same x r → IsGood same y r
  good_alike x y None alike good = absurd good
  good_alike None None (Some r) alike good = good
  good_alike None (Some t) (Some r) alike good = absurd alike
  good_alike (Some s) None (Some r) alike good = absurd alike
  good_alike (Some s) (Some t) (Some r) alike good = then r.entry s t good alike

  follows_alike : (x y : Option S) (r : Option (Pass S R)) → AreBoth same x y → Follows same x r → Follows same y r
  follows_alike None y r alike follows = absurd follows
  follows_alike (Some s) None r alike follows = absurd alike
  follows_alike (Some s) (Some t) r alike follows = good_alike (Some s) (Some t) r alike follows

  module _ (one other : List (ℕ × S)) (alike : OpenAlike same one other) where
    good_before : (l : Option (ℕ × Option S)) (o : ℕ) (r : Option (Pass S R)) → IsGood same (exit_before one l o) r → IsGood same (exit_before other l o) r
    good_before l o r = before_alike one other (λ s. IsGood same s r) (λ owner. good_alike (opening_of owner one) (opening_of owner other) r (alike owner)) l o

    pub chains_alike : (l : Option (ℕ × Option S)) (es : List (PieceKey × Piece S R)) → ChainsFrom same one l es → ChainsFrom same other l es
    chains_alike l [] chains = chains
    chains_alike l (e ∷ es) chains =
        (before_alike one other (λ s. Follows same s e.1.result) (λ owner. follows_alike (opening_of owner one) (opening_of owner other) e.1.result (alike owner)) l e.0.owner chains.0, chains_alike (left_by e.0 e.1) es chains.1)

  module _ (one other : List (ℕ × S)) (alike : OpenAlike same other one) where
    pub wanted_alike : (l : Option (ℕ × Option S)) (k : PieceKey) (p : Piece S R) → IsWanted same one l k p → IsWanted same other l k p
    wanted_alike l k p wanted good = wanted (good_before other one alike l k.owner p.result good)

    pub wanted_at : (l : Option (ℕ × Option S)) (es : List (PieceKey × Piece S R)) (k : PieceKey) → IsAt (IsWanted same one) l es k → IsAt (IsWanted same other) l es k
    wanted_at l [] k at = absurd at
    wanted_at l (e ∷ es) k (inl at) = inl (at.0, wanted_alike l e.0 e.1 at.1)
    wanted_at l (e ∷ es) k (inr at) = inr (at.0, wanted_at (left_by e.0 e.1) es k at.1)

-- The first piece of a kind is that of any kind that says the same.
pub first_alike : {S R : Type 0} (P Q : Option (ℕ × Option S) → PieceKey → Piece S R → Type 0) → ((l : Option (ℕ × Option S)) (k : PieceKey) (p : Piece S R) → P l k p → Q l k p)
    → ((l : Option (ℕ × Option S)) (k : PieceKey) (p : Piece S R) → Q l k p → P l k p) → (l : Option (ℕ × Option S)) (es : List (PieceKey × Piece S R)) (found : Option PieceKey) → IsFirst P l es found → IsFirst Q l es found
first_alike P Q there back l [] found first = first
first_alike P Q there back l (e ∷ es) found (inl first) = inl (there l e.0 e.1 first.0, first.1)
first_alike P Q there back l (e ∷ es) found (inr first) = inr ((λ h. first.0 (back l e.0 e.1 h)), first_alike P Q there back (left_by e.0 e.1) es found first.1)

-- There is one first piece, or none.
pub only_first : {S R : Type 0} (P : Option (ℕ × Option S) → PieceKey → Piece S R → Type 0) (l : Option (ℕ × Option S)) (es : List (PieceKey × Piece S R)) (found same : Option PieceKey) → IsFirst P l es found → IsFirst P l es same → found ≡ same
only_first P l [] found same first second = first ∙ sym second
only_first P l (e ∷ es) found same (inl first) (inl second) = first.1 ∙ sym second.1
only_first P l (e ∷ es) found same (inl first) (inr second) = absurd (second.0 first.0)
only_first P l (e ∷ es) found same (inr first) (inl second) = absurd (first.0 second.0)
only_first P l (e ∷ es) found same (inr first) (inr second) = only_first P (left_by e.0 e.1) es found same first.1 second.1

pub one_first : {S R : Type 0} (P : Option (ℕ × Option S) → PieceKey → Piece S R → Type 0) (l : Option (ℕ × Option S)) (es : List (PieceKey × Piece S R)) (k : PieceKey) → IsFirst P l es None → IsFirst P l es (Some k) → ⊥
one_first P l es k none some = clash None k refl (only_first P l es None (Some k) none some)

-- ---- states of managers, and tallies

link_then : (x y z : LinkState) → SameLink x y → SameLink y z → SameLink x z
link_then x y z a b = record { bursts = λ chan. a.bursts chan ∙ b.bursts chan; flow = a.flow ∙ b.flow }

pub span_then : (x y z : SpanState) → SameSpan x y → SameSpan y z → SameSpan x z
span_then x y z a b = record {
  links = record {
    count = a.links.count ∙ b.links.count;
    each = λ n d within. link_then (slice_index_or x.links.items n d) (slice_index_or y.links.items n d) (slice_index_or z.links.items n d) (a.links.each n d within)
        (b.links.each n d (let many : length x.links.items ≡ length y.links.items = a.links.count in omega (arith, within, many)));
  };
  clients = a.clients ∙ b.clients;
}

pub tally_then : (x y z : Tally) → SameTally x y → SameTally y z → SameTally x z
tally_then x y z a b = a ∙ b

-- Managers of one topology open with states that are the same.
pub spans_open : (one other : SpansData) → IsSound one → IsSound other → one.log ≡ other.log → OpenAlike SameSpan one.board.openings other.board.openings
spans_open one other sound whole same o = go (opening_of o one.board.openings) (opening_of o other.board.openings) refl refl
  where
    owners : is_some (opening_of o one.board.openings) ≡ is_some (opening_of o other.board.openings)
    owners = sound.managers.owners o ∙ ap (λ (l : LogData). nat_lt o (length l.topo.managers)) same ∙ sym (whole.managers.owners o)

    go : (x y : Option SpanState) → opening_of o one.board.openings ≡ x → opening_of o other.board.openings ≡ y → AreBoth SameSpan x y
    go None None at there = tt
    go None (Some t) at there = let never : false ≡ true = sym (ap is_some at) ∙ owners ∙ ap is_some there in absurd (cc)
    go (Some s) None at there = let never : false ≡ true = sym (ap is_some there) ∙ sym owners ∙ ap is_some at in absurd (cc)
    go (Some s) (Some t) at there =
        let first = sound.managers.openings o s at [] in
        let second = subst (λ (l : LogData). StandsFor (manager_at l.topo o []) t []) (sym same) (whole.managers.openings o t there []) in
        shown_same (manager_at one.log.topo o []) s t first.is_of second.is_of (first.shows ∙ sym second.shows)

-- Monitors open with no tally.
pub watches_open : (now : InputData) (one other : Board Tally (List Row)) → AreWatches now one → AreWatches now other → OpenAlike SameTally one.openings other.openings
watches_open now one other are same o = go (opening_of o one.openings) (opening_of o other.openings) refl refl
  where
    owners : is_some (opening_of o one.openings) ≡ is_some (opening_of o other.openings)
    owners = are.owners o ∙ sym (same.owners o)

    go : (x y : Option Tally) → opening_of o one.openings ≡ x → opening_of o other.openings ≡ y → AreBoth SameTally x y
    go None None at there = tt
    go None (Some t) at there = let never : false ≡ true = sym (ap is_some at) ∙ owners ∙ ap is_some there in absurd (cc)
    go (Some s) None at there = let never : false ≡ true = sym (ap is_some there) ∙ sym owners ∙ ap is_some at in absurd (cc)
    go (Some s) (Some t) at there = (are.covered.openings o s at).shows ∙ sym (same.covered.openings o t there).shows

-- ---- windows of managers that come back

pub unmarked_spans : (one one_after other other_after : SpansData) (key : PieceKey) (ticket : ℕ) → one.log ≡ other.log → one.board.pieces ≡ other.board.pieces → Unmarks one key ticket one_after → Unmarks other key ticket other_after
    → (one_after.log ≡ other_after.log) × (one_after.board.pieces ≡ other_after.board.pieces)
unmarked_spans one one_after other other_after key ticket log pieces (inl a) (inl b) =
    (ap (λ (s : SpansData). s.log) a.1 ∙ log ∙ sym (ap (λ (s : SpansData). s.log) b.1), ap (λ (s : SpansData). s.board.pieces) a.1 ∙ ap (change key (with_live None)) pieces ∙ sym (ap (λ (s : SpansData). s.board.pieces) b.1))
unmarked_spans one one_after other other_after key ticket log pieces (inl a) (inr b) = absurd (b.0 (sym (ap (λ es. live_of (value_at key es)) pieces) ∙ a.0))
unmarked_spans one one_after other other_after key ticket log pieces (inr a) (inl b) = absurd (a.0 (ap (λ es. live_of (value_at key es)) pieces ∙ b.0))
unmarked_spans one one_after other other_after key ticket log pieces (inr a) (inr b) =
    (ap (λ (s : SpansData). s.log) a.1 ∙ log ∙ sym (ap (λ (s : SpansData). s.log) b.1), ap (λ (s : SpansData). s.board.pieces) a.1 ∙ pieces ∙ sym (ap (λ (s : SpansData). s.board.pieces) b.1))

module _ (one one_after other other_after : SpansData) (key : PieceKey) (result : Pass SpanState (List Row)) (log : one.log ≡ other.log) (pieces : one.board.pieces ≡ other.board.pieces)
    (sound : IsSound one) (whole : IsSound other) where
  there : IsWantedAt SameSpan one.board key → IsWantedAt SameSpan other.board key
  there wanted = wanted_at SameSpan span_then one.board.openings other.board.openings (spans_open other one whole sound (sym log)) None other.board.pieces key
      (subst (λ es. IsAt (IsWanted SameSpan one.board.openings) None es key) pieces wanted)

  back : IsWantedAt SameSpan other.board key → IsWantedAt SameSpan one.board key
  back wanted = wanted_at SameSpan span_then other.board.openings one.board.openings (spans_open one other sound whole log) None one.board.pieces key
      (subst (λ es. IsAt (IsWanted SameSpan other.board.openings) None es key) (sym pieces) wanted)

  pub handed_spans : HandsIn one key result one_after → HandsIn other key result other_after → (one_after.log ≡ other_after.log) × (one_after.board.pieces ≡ other_after.board.pieces)
  handed_spans (inl a) (inl b) =
      (ap (λ (s : SpansData). s.log) a.1 ∙ log ∙ sym (ap (λ (s : SpansData). s.log) b.1), ap (λ (s : SpansData). s.board.pieces) a.1 ∙ ap (change key (with_checked result)) pieces ∙ sym (ap (λ (s : SpansData). s.board.pieces) b.1))
  handed_spans (inl a) (inr b) = absurd (b.0 (there a.0))
  handed_spans (inr a) (inl b) = absurd (a.0 (back b.0))
  handed_spans (inr a) (inr b) =
      (ap (λ (s : SpansData). s.log) a.1 ∙ log ∙ sym (ap (λ (s : SpansData). s.log) b.1), ap (λ (s : SpansData). s.board.pieces) a.1 ∙ ap (change key (with_live None)) pieces ∙ sym (ap (λ (s : SpansData). s.board.pieces) b.1))

-- ---- windows of monitors that come back

pub unmarked_watches : (one one_after other other_after : WatchesData) (key : PieceKey) (ticket : ℕ) → one.board.pieces ≡ other.board.pieces → UnmarksWatch one key ticket one_after → UnmarksWatch other key ticket other_after
    → one_after.board.pieces ≡ other_after.board.pieces
unmarked_watches one one_after other other_after key ticket pieces (inl a) (inl b) =
    ap (λ (s : WatchesData). s.board.pieces) a.1 ∙ ap (change key (with_live None)) pieces ∙ sym (ap (λ (s : WatchesData). s.board.pieces) b.1)
unmarked_watches one one_after other other_after key ticket pieces (inl a) (inr b) = absurd (b.0 (sym (ap (λ es. live_of (value_at key es)) pieces) ∙ a.0))
unmarked_watches one one_after other other_after key ticket pieces (inr a) (inl b) = absurd (a.0 (ap (λ es. live_of (value_at key es)) pieces ∙ b.0))
unmarked_watches one one_after other other_after key ticket pieces (inr a) (inr b) = ap (λ (s : WatchesData). s.board.pieces) a.1 ∙ pieces ∙ sym (ap (λ (s : WatchesData). s.board.pieces) b.1)

-- The windows of managers stay.
pub unmarked_rest : (old new : WatchesData) (key : PieceKey) (ticket : ℕ) → UnmarksWatch old key ticket new → new.spans ≡ old.spans
unmarked_rest old new key ticket (inl h) = ap (λ (s : WatchesData). s.spans) h.1
unmarked_rest old new key ticket (inr h) = ap (λ (s : WatchesData). s.spans) h.1

pub handed_rest : (old new : WatchesData) (key : PieceKey) (result : Pass Tally (List Row)) → HandsInWatch old key result new → new.spans ≡ old.spans
handed_rest old new key result (inl h) = ap (λ (s : WatchesData). s.spans) h.1
handed_rest old new key result (inr h) = ap (λ (s : WatchesData). s.spans) h.1

module _ (one one_after other other_after : WatchesData) (key : PieceKey) (result : Pass Tally (List Row)) (now : InputData) (pieces : one.board.pieces ≡ other.board.pieces)
    (are : AreWatches now one.board) (same : AreWatches now other.board) where
  watch_wanted : IsWantedAt SameTally one.board key → IsWantedAt SameTally other.board key
  watch_wanted wanted = wanted_at SameTally tally_then one.board.openings other.board.openings (watches_open now other.board one.board same are) None other.board.pieces key
      (subst (λ es. IsAt (IsWanted SameTally one.board.openings) None es key) pieces wanted)

  watch_back : IsWantedAt SameTally other.board key → IsWantedAt SameTally one.board key
  watch_back wanted = wanted_at SameTally tally_then other.board.openings one.board.openings (watches_open now one.board other.board are same) None one.board.pieces key
      (subst (λ es. IsAt (IsWanted SameTally other.board.openings) None es key) (sym pieces) wanted)

  pub handed_watches : HandsInWatch one key result one_after → HandsInWatch other key result other_after → one_after.board.pieces ≡ other_after.board.pieces
  handed_watches (inl a) (inl b) = ap (λ (s : WatchesData). s.board.pieces) a.1 ∙ ap (change key (with_checked result)) pieces ∙ sym (ap (λ (s : WatchesData). s.board.pieces) b.1)
  handed_watches (inl a) (inr b) = absurd (b.0 (watch_wanted a.0))
  handed_watches (inr a) (inl b) = absurd (a.0 (watch_back b.0))
  handed_watches (inr a) (inr b) = ap (λ (s : WatchesData). s.board.pieces) a.1 ∙ ap (change key (with_live None)) pieces ∙ sym (ap (λ (s : WatchesData). s.board.pieces) b.1)
