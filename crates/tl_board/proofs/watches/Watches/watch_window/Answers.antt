use Rattle.std.proofs.Common.{◌≡◌, ℕ, Some, sym, ap, subst, ◌∙◌, rules}
use Rattle.std.specs.Prelude.{is_some}
use Rattle.std.specs.Arc.{arc_value}
use Rattle.tl_beats.specs.declared.watch.Watch.{Watch}
use Rattle.tl_definitions.specs.Tallies.{kept_tally}
use Rattle.tl_edits.specs.Inputs.{InputData, watch_at}
use Rattle.tl_edits.specs.Log.{LogData, inputs_after}
use Rattle.tl_pieces.specs.Pieces.{IsBoard, entry_for}
use Rattle.tl_board.specs.Spans.{SpansData, standing}
use Rattle.tl_board.proofs.CheckLemmas.{owner_of, shown_entry}
use Rattle.tl_board.specs.declared.tally.Tally.{Tally}
use Rattle.tl_board.specs.Watches.{WatchesData, ShowsTally, judge_for, beats_for, no_tally}
use Rattle.tl_board.proofs.watches.Watches.watch_window.Goals as goal

pub unwrap-watch-requires : goal.unwrap-watch-requires
unwrap-watch-requires c =
    let now : InputData = standing c.args.self.now.spans in
    let read : c.inputs-inputs.result.now ≡ now = c.inputs-inputs.ensures.exact ∙ ap (λ (l : LogData). inputs_after l.topo l.edits) (c.log.ensures.exact ∙ ap (λ (s : SpansData). s.log) c.spans.ensures.exact) in
    ap is_some (c.watch.ensures ∙ ap (λ (i : InputData). watch_at c.args.key.owner i.monitors) read) ∙ sym (c.spans.ensures.kept.owners c.args.key.owner)
    ∙ owner_of c.args.self.now.board c.spans.ensures.board c.args.key c.requires

pub new-requires : goal.new-requires
new-requires c =
    let now : InputData = standing c.self.inside.spans in
    let w : Watch = c.unwrap-watch.result in
    let entry : Tally = arc_value c.unwrap-entry.result.now in
    let read : c.inputs-inputs.result.now ≡ now = c.inputs-inputs.ensures.exact ∙
    ap (λ (l : LogData). inputs_after l.topo l.edits) (c.log.ensures.exact ∙ ap (λ (s : SpansData). s.log) c.spans.ensures.exact ∙ ap (λ (d : WatchesData). d.spans.log) (sym c.self.view_is)) in
    let board : IsBoard c.self.inside.pieces = subst (λ (d : WatchesData). IsBoard d.board) (sym c.self.view_is) c.spans.ensures.board in
    let at : watch_at c.args.key.owner now.monitors ≡ Some w = sym (c.watch.ensures ∙ ap (λ (i : InputData). watch_at c.args.key.owner i.monitors) read) ∙ c.unwrap-watch.ensures in
    let found : entry_for c.args.key c.self.inside.pieces ≡ Some entry = search rules in
    let shown = shown_entry (ShowsTally now) (judge_for now) (beats_for now) no_tally c.self.inside.pieces c.self.invariant.covered board c.args.key entry found in
    subst (λ (n : ℕ). kept_tally w n ≡ n) (sym shown.1.shows) (shown.1.kept w at)
