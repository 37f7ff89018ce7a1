use Rattle.std.proofs.Common.{◌≡◌, ℕ, List, Some, ap, sym, subst, ◌∙◌}
use Rattle.std.specs.Prelude.{◌↔◌}
use Rattle.std.specs.List.{Contains}
use Rattle.tl_edits.specs.Edits.{AnEdit, plain}
use Rattle.tl_edits.specs.Inputs.{InputData, attached}
use Rattle.tl_edits.specs.Log.{LogData, inputs_after}
use Rattle.tl_board.specs.Spans.{SpansData, standing}
use Rattle.tl_board.specs.Touch.{TouchesLink}
use Rattle.tl_board.specs.Touched.{IsTouched}
use Rattle.tl_board.specs.Windows.{AreKeysOf}
use Rattle.tl_board.specs.TouchedWatches.{edited_link, OnWatch, watchers, AreTouched}
use Rattle.tl_board.specs.Watches.{WatchesData}
use Rattle.tl_board.proofs.MonitorLemmas.{monitors_rise}
use Rattle.tl_board.proofs.TouchedWatchLemmas.{watchers_are, touched_keys}
use Rattle.tl_board.proofs.watches.Watches.touched_keys.Goals as goal

pub returns : goal.returns
returns c =
    let spans : SpansData = c.self.inside.spans in
    let now : InputData = standing spans in
    let e : AnEdit = plain c.args.edit.now in
    let link : ℕ = c.in-Some.link in
    let read : c.inputs-inputs.result.now ≡ now = c.inputs-inputs.ensures.exact ∙ ap (λ (l : LogData). inputs_after l.topo l.edits) c.log.ensures.exact in
    let edited : edited_link now.topo e ≡ Some link = ap (λ (i : InputData). edited_link i.topo e) (sym read) ∙ ap (λ t. edited_link t e) (sym c.topo.ensures) ∙ sym c.edited_link.ensures ∙ c.in-Some.is in
    let watch : (number : ℕ) → Contains c.in_ok-owners.owners.items number ↔ OnWatch now number (λ l. l ≡ link) = λ number.
    subst (λ (os : List ℕ). Contains os number ↔ OnWatch now number (λ l. l ≡ link)) (sym (c.in_ok-owners.ensures ∙ ap (λ (i : InputData). watchers i.topo link (attached i.monitors)) read))
    (watchers_are now (monitors_rise spans.log.topo spans.log.edits) link number) in
    let is : IsTouched now e c.args.touched.now = subst (λ (d : WatchesData). IsTouched (standing d.spans) e c.args.touched.now) (sym c.self.view_is) c.requires in
    let on : (window : ℕ) → Contains c.windows_in.result.now window ↔ TouchesLink now e link window = λ window. c.windows_in.ensures now e link window is edited in
    let are : AreKeysOf c.in_ok-owners.owners.items c.windows_in.result.now c.in_ok-keys.keys.items =
    subst (λ os. AreKeysOf os c.windows_in.result.now c.in_ok-keys.keys.items) c.deref.ensures.value c.in_ok-keys.ensures in
    subst (λ (d : WatchesData). AreTouched (standing d.spans) e link c.in_ok-keys.keys.items) c.self.view_is
    (touched_keys now e link edited c.in_ok-owners.owners.items c.windows_in.result.now c.in_ok-keys.keys.items watch on are)
