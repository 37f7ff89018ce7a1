use Rattle.std.proofs.Common.{◌≡◌, ℕ, List, None, length, ap, sym, subst, ◌∙◌}
use Rattle.std.specs.Prelude.{◌↔◌}
use Rattle.std.specs.Ordering.{nat_cmp}
use Rattle.std.specs.BTreeMap.{insert_entry}
use Rattle.std.specs.List.{Contains}
use Rattle.tl_beats.specs.declared.Row.{Row}
use Rattle.tl_beats.specs.declared.watch.Watch.{Watch}
use Rattle.tl_edits.specs.Edits.{AnEdit, attach}
use Rattle.tl_edits.specs.Inputs.{InputData, changed, refusal}
use Rattle.tl_edits.specs.Log.{LogData, inputs_after}
use Rattle.tl_pieces.specs.declared.key.PieceKey.{PieceKey}
use Rattle.tl_pieces.specs.Pieces.{Board, IsBoard, opening_of, with_openings}
use Rattle.tl_check.specs.Captured.{watched_beats}
use Rattle.tl_capture.specs.Present.{IsPresent}
use Rattle.tl_capture.specs.Windows.{HasBeat}
use Rattle.tl_board.specs.Spans.{SpansData, standing}
use Rattle.tl_board.proofs.EditLemmas.{on_ok}
use Rattle.tl_board.proofs.WindowLemmas.{grown_none}
use Rattle.tl_board.specs.declared.tally.Tally.{Tally}
use Rattle.tl_board.specs.Accepting.{EditsBoth}
use Rattle.tl_board.specs.Watches.{WatchesData, AreWatches}
use Rattle.tl_board.proofs.AfterLemmas.{both_edited, both_watched, told}
use Rattle.tl_board.proofs.OwnerLemmas.{none_yet, opened_keys, goes_again, attached_edited}
use Rattle.tl_board.proofs.watches.Watches.attach.Goals as goal

pub grow-requires : goal.grow-requires
grow-requires c =
    let old : WatchesData = record { spans = c.self.inside.spans; board = c.self.inside.pieces } in
    let now : InputData = standing old.spans in
    let monitor : ℕ = c.args.monitor in
    let w : Watch = c.args.watch in
    let keys : List PieceKey = c.as_slice-keys.result.now in
    let read : c.inputs-inputs.result.now ≡ now = c.inputs-inputs.ensures.exact ∙
    ap (λ (l : LogData). inputs_after l.topo l.edits) (c.log.ensures.exact ∙ ap (λ (s : SpansData). s.log) c.spans.ensures.exact ∙ ap (λ (d : WatchesData). d.spans.log) (sym c.self.view_is)) in
    let board : IsBoard old.board = subst (λ (d : WatchesData). IsBoard d.board) (sym c.self.view_is) c.spans.ensures.board in
    let none : opening_of monitor old.board.openings ≡ None = none_yet (length old.spans.log.edits) now monitor w
    (subst (λ (d : WatchesData). refusal (length d.spans.log.edits) (standing d.spans) (attach monitor w) ≡ None) (sym c.self.view_is) c.requires.none) old.board c.self.invariant in
    let opens : c.add_owner.new.self ≡ with_openings old.board (insert_entry nat_cmp old.board.openings monitor (record { count = 0 })) =
    c.in_ok-add_owner.ensures.ok ∙ ap (λ (t : Tally). with_openings old.board (insert_entry nat_cmp old.board.openings monitor t)) c.in_ok-opening.ensures.ok in
    let exact : (key : PieceKey) → Contains keys key ↔ ((key.owner ≡ monitor) × HasBeat (watched_beats now.topo now.fragments w) key.window) = λ key.
    subst (λ (ks : List PieceKey). Contains ks key ↔ ((key.owner ≡ monitor) × HasBeat (watched_beats now.topo now.fragments w) key.window)) (sym c.as_slice-keys.ensures.value)
    (subst (λ (i : InputData). Contains c.in_ok-keys.keys.items key ↔ ((key.owner ≡ monitor) × HasBeat (watched_beats i.topo i.fragments w) key.window)) read (c.in_ok-keys.ensures key)) in
    opened_keys now monitor w c.known.ensures old.board c.add_owner.new.self c.add_owner.new.self board none opens keys exact (grown_none keys c.add_owner.new.self)

pub invariant_of-self-then-is_err : goal.invariant_of-self-then-is_err
invariant_of-self-then-is_err c =
    let old : WatchesData = record { spans = c.self.inside.spans; board = c.self.inside.pieces } in
    let now : InputData = standing old.spans in
    let monitor : ℕ = c.args.monitor in
    let w : Watch = c.args.watch in
    let keys : List PieceKey = c.as_slice-keys.result.now in
    let read : c.inputs-inputs.result.now ≡ now = c.inputs-inputs.ensures.exact ∙
    ap (λ (l : LogData). inputs_after l.topo l.edits) (c.log.ensures.exact ∙ ap (λ (s : SpansData). s.log) c.spans.ensures.exact ∙ ap (λ (d : WatchesData). d.spans.log) (sym c.self.view_is)) in
    let board : IsBoard old.board = subst (λ (d : WatchesData). IsBoard d.board) (sym c.self.view_is) c.spans.ensures.board in
    let none : opening_of monitor old.board.openings ≡ None = none_yet (length old.spans.log.edits) now monitor w
    (subst (λ (d : WatchesData). refusal (length d.spans.log.edits) (standing d.spans) (attach monitor w) ≡ None) (sym c.self.view_is) c.requires.none) old.board c.self.invariant in
    let opens : c.add_owner.new.self ≡ with_openings old.board (insert_entry nat_cmp old.board.openings monitor (record { count = 0 })) =
    c.in_ok-add_owner.ensures.ok ∙ ap (λ (t : Tally). with_openings old.board (insert_entry nat_cmp old.board.openings monitor t)) c.in_ok-opening.ensures.ok in
    let exact : (key : PieceKey) → Contains keys key ↔ ((key.owner ≡ monitor) × HasBeat (watched_beats now.topo now.fragments w) key.window) = λ key.
    subst (λ (ks : List PieceKey). Contains ks key ↔ ((key.owner ≡ monitor) × HasBeat (watched_beats now.topo now.fragments w) key.window)) (sym c.as_slice-keys.ensures.value)
    (subst (λ (i : InputData). Contains c.in_ok-keys.keys.items key ↔ ((key.owner ≡ monitor) × HasBeat (watched_beats i.topo i.fragments w) key.window)) read (c.in_ok-keys.ensures key)) in
    let back : c.take_away.new.pieces ≡ old.board = goes_again now monitor w c.known.ensures old.board c.add_owner.new.self c.grow.new.pieces board none opens keys exact c.grow.ensures.grown c.take_away.new.pieces c.take_away.ensures.gone c.take_away.ensures.after.keys in
    subst (AreWatches now) (sym back) c.self.invariant

pub returns-then-is_err-clause-err : goal.returns-then-is_err-clause-err
returns-then-is_err-clause-err c =
    let old : WatchesData = record { spans = c.self.inside.spans; board = c.self.inside.pieces } in
    let now : InputData = standing old.spans in
    let monitor : ℕ = c.args.monitor in
    let w : Watch = c.args.watch in
    let keys : List PieceKey = c.as_slice-keys.result.now in
    let read : c.inputs-inputs.result.now ≡ now = c.inputs-inputs.ensures.exact ∙
    ap (λ (l : LogData). inputs_after l.topo l.edits) (c.log.ensures.exact ∙ ap (λ (s : SpansData). s.log) c.spans.ensures.exact ∙ ap (λ (d : WatchesData). d.spans.log) (sym c.self.view_is)) in
    let board : IsBoard old.board = subst (λ (d : WatchesData). IsBoard d.board) (sym c.self.view_is) c.spans.ensures.board in
    let none : opening_of monitor old.board.openings ≡ None = none_yet (length old.spans.log.edits) now monitor w
    (subst (λ (d : WatchesData). refusal (length d.spans.log.edits) (standing d.spans) (attach monitor w) ≡ None) (sym c.self.view_is) c.requires.none) old.board c.self.invariant in
    let opens : c.add_owner.new.self ≡ with_openings old.board (insert_entry nat_cmp old.board.openings monitor (record { count = 0 })) =
    c.in_ok-add_owner.ensures.ok ∙ ap (λ (t : Tally). with_openings old.board (insert_entry nat_cmp old.board.openings monitor t)) c.in_ok-opening.ensures.ok in
    let exact : (key : PieceKey) → Contains keys key ↔ ((key.owner ≡ monitor) × HasBeat (watched_beats now.topo now.fragments w) key.window) = λ key.
    subst (λ (ks : List PieceKey). Contains ks key ↔ ((key.owner ≡ monitor) × HasBeat (watched_beats now.topo now.fragments w) key.window)) (sym c.as_slice-keys.ensures.value)
    (subst (λ (i : InputData). Contains c.in_ok-keys.keys.items key ↔ ((key.owner ≡ monitor) × HasBeat (watched_beats i.topo i.fragments w) key.window)) read (c.in_ok-keys.ensures key)) in
    let back : c.take_away.new.pieces ≡ old.board = goes_again now monitor w c.known.ensures old.board c.add_owner.new.self c.grow.new.pieces board none opens keys exact c.grow.ensures.grown c.take_away.new.pieces c.take_away.ensures.gone c.take_away.ensures.after.keys in
    ap (λ (b : Board Tally (List Row)). record { spans = old.spans; board = b }) back ∙ c.self.view_is

pub invariant_of-self-in-Ok : goal.invariant_of-self-in-Ok
invariant_of-self-in-Ok c =
    let old : WatchesData = record { spans = c.self.inside.spans; board = c.self.inside.pieces } in
    let now : InputData = standing old.spans in
    let monitor : ℕ = c.args.monitor in
    let w : Watch = c.args.watch in
    let keys : List PieceKey = c.as_slice-keys.result.now in
    let read : c.inputs-inputs.result.now ≡ now = c.inputs-inputs.ensures.exact ∙
    ap (λ (l : LogData). inputs_after l.topo l.edits) (c.log.ensures.exact ∙ ap (λ (s : SpansData). s.log) c.spans.ensures.exact ∙ ap (λ (d : WatchesData). d.spans.log) (sym c.self.view_is)) in
    let board : IsBoard old.board = subst (λ (d : WatchesData). IsBoard d.board) (sym c.self.view_is) c.spans.ensures.board in
    let none : opening_of monitor old.board.openings ≡ None = none_yet (length old.spans.log.edits) now monitor w
    (subst (λ (d : WatchesData). refusal (length d.spans.log.edits) (standing d.spans) (attach monitor w) ≡ None) (sym c.self.view_is) c.requires.none) old.board c.self.invariant in
    let opens : c.add_owner.new.self ≡ with_openings old.board (insert_entry nat_cmp old.board.openings monitor (record { count = 0 })) =
    c.in_ok-add_owner.ensures.ok ∙ ap (λ (t : Tally). with_openings old.board (insert_entry nat_cmp old.board.openings monitor t)) c.in_ok-opening.ensures.ok in
    let exact : (key : PieceKey) → Contains keys key ↔ ((key.owner ≡ monitor) × HasBeat (watched_beats now.topo now.fragments w) key.window) = λ key.
    subst (λ (ks : List PieceKey). Contains ks key ↔ ((key.owner ≡ monitor) × HasBeat (watched_beats now.topo now.fragments w) key.window)) (sym c.as_slice-keys.ensures.value)
    (subst (λ (i : InputData). Contains c.in_ok-keys.keys.items key ↔ ((key.owner ≡ monitor) × HasBeat (watched_beats i.topo i.fragments w) key.window)) read (c.in_ok-keys.ensures key)) in
    let e : AnEdit = attach monitor w in
    let spans : SpansData = c.accept.new.self in
    let edits = c.in-Ok.ensures.ok in
    let before : IsPresent now.fragments = c.in-Ok.ensures.before in
    let after : IsPresent (changed now e).fragments = subst IsPresent (ap (λ (i : InputData). i.fragments) (told old.spans spans e edits)) c.in-Ok.ensures.after in
    let is = attached_edited now monitor w c.known.ensures old.board c.add_owner.new.self c.grow.new.pieces board none opens keys exact c.grow.ensures.grown
    (on_ok c.grow.result _ c.grow.ensures.all (sym c.is_err.ensures.value ∙ c.if-is_err.false)) before after in
    both_watched old e spans edits before after c.grow.new.pieces is c.self.invariant

pub returns-in-Ok-clause-ok : goal.returns-in-Ok-clause-ok
returns-in-Ok-clause-ok c =
    let old : WatchesData = record { spans = c.self.inside.spans; board = c.self.inside.pieces } in
    let now : InputData = standing old.spans in
    let monitor : ℕ = c.args.monitor in
    let w : Watch = c.args.watch in
    let keys : List PieceKey = c.as_slice-keys.result.now in
    let read : c.inputs-inputs.result.now ≡ now = c.inputs-inputs.ensures.exact ∙
    ap (λ (l : LogData). inputs_after l.topo l.edits) (c.log.ensures.exact ∙ ap (λ (s : SpansData). s.log) c.spans.ensures.exact ∙ ap (λ (d : WatchesData). d.spans.log) (sym c.self.view_is)) in
    let board : IsBoard old.board = subst (λ (d : WatchesData). IsBoard d.board) (sym c.self.view_is) c.spans.ensures.board in
    let none : opening_of monitor old.board.openings ≡ None = none_yet (length old.spans.log.edits) now monitor w
    (subst (λ (d : WatchesData). refusal (length d.spans.log.edits) (standing d.spans) (attach monitor w) ≡ None) (sym c.self.view_is) c.requires.none) old.board c.self.invariant in
    let opens : c.add_owner.new.self ≡ with_openings old.board (insert_entry nat_cmp old.board.openings monitor (record { count = 0 })) =
    c.in_ok-add_owner.ensures.ok ∙ ap (λ (t : Tally). with_openings old.board (insert_entry nat_cmp old.board.openings monitor t)) c.in_ok-opening.ensures.ok in
    let exact : (key : PieceKey) → Contains keys key ↔ ((key.owner ≡ monitor) × HasBeat (watched_beats now.topo now.fragments w) key.window) = λ key.
    subst (λ (ks : List PieceKey). Contains ks key ↔ ((key.owner ≡ monitor) × HasBeat (watched_beats now.topo now.fragments w) key.window)) (sym c.as_slice-keys.ensures.value)
    (subst (λ (i : InputData). Contains c.in_ok-keys.keys.items key ↔ ((key.owner ≡ monitor) × HasBeat (watched_beats i.topo i.fragments w) key.window)) read (c.in_ok-keys.ensures key)) in
    let e : AnEdit = attach monitor w in
    let spans : SpansData = c.accept.new.self in
    let edits = c.in-Ok.ensures.ok in
    let before : IsPresent now.fragments = c.in-Ok.ensures.before in
    let after : IsPresent (changed now e).fragments = subst IsPresent (ap (λ (i : InputData). i.fragments) (told old.spans spans e edits)) c.in-Ok.ensures.after in
    let is = attached_edited now monitor w c.known.ensures old.board c.add_owner.new.self c.grow.new.pieces board none opens keys exact c.grow.ensures.grown
    (on_ok c.grow.result _ c.grow.ensures.all (sym c.is_err.ensures.value ∙ c.if-is_err.false)) before after in
    subst (λ (d : WatchesData). EditsBoth d e (record { spans = spans; board = c.grow.new.pieces })) c.self.view_is (both_edited old e spans edits before after c.grow.new.pieces is)

pub invariant_of-self-in-Err : goal.invariant_of-self-in-Err
invariant_of-self-in-Err c =
    let old : WatchesData = record { spans = c.self.inside.spans; board = c.self.inside.pieces } in
    let now : InputData = standing old.spans in
    let monitor : ℕ = c.args.monitor in
    let w : Watch = c.args.watch in
    let keys : List PieceKey = c.as_slice-keys.result.now in
    let read : c.inputs-inputs.result.now ≡ now = c.inputs-inputs.ensures.exact ∙
    ap (λ (l : LogData). inputs_after l.topo l.edits) (c.log.ensures.exact ∙ ap (λ (s : SpansData). s.log) c.spans.ensures.exact ∙ ap (λ (d : WatchesData). d.spans.log) (sym c.self.view_is)) in
    let board : IsBoard old.board = subst (λ (d : WatchesData). IsBoard d.board) (sym c.self.view_is) c.spans.ensures.board in
    let none : opening_of monitor old.board.openings ≡ None = none_yet (length old.spans.log.edits) now monitor w
    (subst (λ (d : WatchesData). refusal (length d.spans.log.edits) (standing d.spans) (attach monitor w) ≡ None) (sym c.self.view_is) c.requires.none) old.board c.self.invariant in
    let opens : c.add_owner.new.self ≡ with_openings old.board (insert_entry nat_cmp old.board.openings monitor (record { count = 0 })) =
    c.in_ok-add_owner.ensures.ok ∙ ap (λ (t : Tally). with_openings old.board (insert_entry nat_cmp old.board.openings monitor t)) c.in_ok-opening.ensures.ok in
    let exact : (key : PieceKey) → Contains keys key ↔ ((key.owner ≡ monitor) × HasBeat (watched_beats now.topo now.fragments w) key.window) = λ key.
    subst (λ (ks : List PieceKey). Contains ks key ↔ ((key.owner ≡ monitor) × HasBeat (watched_beats now.topo now.fragments w) key.window)) (sym c.as_slice-keys.ensures.value)
    (subst (λ (i : InputData). Contains c.in_ok-keys.keys.items key ↔ ((key.owner ≡ monitor) × HasBeat (watched_beats i.topo i.fragments w) key.window)) read (c.in_ok-keys.ensures key)) in
    let back : c.take_away-in-Err.new.pieces ≡ old.board = goes_again now monitor w c.known.ensures old.board c.add_owner.new.self c.grow.new.pieces board none opens keys exact c.grow.ensures.grown c.take_away-in-Err.new.pieces c.take_away-in-Err.ensures.gone c.take_away-in-Err.ensures.after.keys in
    subst (λ (s : SpansData). AreWatches (standing s) c.take_away-in-Err.new.pieces) (sym c.in-Err.ensures.err) (subst (AreWatches now) (sym back) c.self.invariant)

pub returns-clause-err : goal.returns-clause-err
returns-clause-err c =
    let old : WatchesData = record { spans = c.self.inside.spans; board = c.self.inside.pieces } in
    let now : InputData = standing old.spans in
    let monitor : ℕ = c.args.monitor in
    let w : Watch = c.args.watch in
    let keys : List PieceKey = c.as_slice-keys.result.now in
    let read : c.inputs-inputs.result.now ≡ now = c.inputs-inputs.ensures.exact ∙
    ap (λ (l : LogData). inputs_after l.topo l.edits) (c.log.ensures.exact ∙ ap (λ (s : SpansData). s.log) c.spans.ensures.exact ∙ ap (λ (d : WatchesData). d.spans.log) (sym c.self.view_is)) in
    let board : IsBoard old.board = subst (λ (d : WatchesData). IsBoard d.board) (sym c.self.view_is) c.spans.ensures.board in
    let none : opening_of monitor old.board.openings ≡ None = none_yet (length old.spans.log.edits) now monitor w
    (subst (λ (d : WatchesData). refusal (length d.spans.log.edits) (standing d.spans) (attach monitor w) ≡ None) (sym c.self.view_is) c.requires.none) old.board c.self.invariant in
    let opens : c.add_owner.new.self ≡ with_openings old.board (insert_entry nat_cmp old.board.openings monitor (record { count = 0 })) =
    c.in_ok-add_owner.ensures.ok ∙ ap (λ (t : Tally). with_openings old.board (insert_entry nat_cmp old.board.openings monitor t)) c.in_ok-opening.ensures.ok in
    let exact : (key : PieceKey) → Contains keys key ↔ ((key.owner ≡ monitor) × HasBeat (watched_beats now.topo now.fragments w) key.window) = λ key.
    subst (λ (ks : List PieceKey). Contains ks key ↔ ((key.owner ≡ monitor) × HasBeat (watched_beats now.topo now.fragments w) key.window)) (sym c.as_slice-keys.ensures.value)
    (subst (λ (i : InputData). Contains c.in_ok-keys.keys.items key ↔ ((key.owner ≡ monitor) × HasBeat (watched_beats i.topo i.fragments w) key.window)) read (c.in_ok-keys.ensures key)) in
    let back : c.take_away-in-Err.new.pieces ≡ old.board = goes_again now monitor w c.known.ensures old.board c.add_owner.new.self c.grow.new.pieces board none opens keys exact c.grow.ensures.grown c.take_away-in-Err.new.pieces c.take_away-in-Err.ensures.gone c.take_away-in-Err.ensures.after.keys in
    ap (λ (b : Board Tally (List Row)). record { spans = c.accept.new.self; board = b }) back ∙ ap (λ (s : SpansData). record { spans = s; board = old.board }) c.in-Err.ensures.err ∙ c.self.view_is

pub returns-in-Ok-clause-before : goal.returns-in-Ok-clause-before
returns-in-Ok-clause-before c = subst (λ (d : WatchesData). IsPresent (standing d.spans).fragments) c.self.view_is c.in-Ok.ensures.before
