-- Where no monitor is out, none is after a call that gives no job.
use Rattle.std.proofs.Common.{◌≡◌, ℕ, inl, inr, true, false, List, [], ◌∷◌, Option, Some, None, refl, sym, ap, subst, ◌∙◌}
use Rattle.std.specs.Prelude.{is_some}
use Rattle.std.specs.Option.{option_map, option_and_then}
use Rattle.tl_monitor.specs.Boxes.{BoxesData, IsBoxes, place_at, away_at, attached_at, first_out}
use Rattle.tl_monitor.specs.Places.{Place, Here, Out, away_of, place_tuned}
use Rattle.tl_monitor.specs.declared.away.Away.{Away}
use Rattle.tl_monitor.proofs.OutLemmas.{lowest}
use Rattle.tl_edits.specs.Edits.{plain_change}
use Rattle.tl_edits.specs.declared.edit.Change.{Change}
use Rattle.tl_edits.specs.declared.edit.Change.TheVariants as change
use Rattle.tl_monitor.specs.Held.{Held}
use Rattle.tl_pieces.specs.declared.key.PieceKey.{PieceKey}
use Rattle.tl_pieces.specs.Pieces.{Piece, IsFirst, left_by}
use Rattle.tl_topology.specs.Topology.{Topology}
use Rattle.tl_beats.specs.declared.watch.Watch.{Watch}
use Rattle.tl_desk.specs.declared.call.Call.TheVariants as call
use Rattle.tl_desk.specs.declared.fault.RecheckFault.TheVariants as refused
use Rattle.tl_desk.specs.Core.{Core, AllHere, IsNew}
use Rattle.tl_desk.specs.Steps.{IsOut, IsFirstOut, KeepsBoxes, RechecksSome, RefusesRecheck, Step, boxes_after}
use Rattle.tl_desk.proofs.AttachedLemmas.{still_out}
use Rattle.tl_desk.proofs.BoxLemmas.{IsPlaced, same_number, tuned_placed, place_detached, detached_placed, attached_placed}

placed_here : (m : ℕ) (p : Option Place) (old new : BoxesData) → IsPlaced m p old new → option_and_then away_of p ≡ None → AllHere old → AllHere new
placed_here m p old new is here all n = elim (same_number m n) [
  | inl same ↦ subst (λ k. away_at k new.slots ≡ None) same (ap (λ o. option_and_then away_of o) is.here ∙ here)
  | inr apart ↦ ap (λ o. option_and_then away_of o) (is.others n apart) ∙ all n
]

still_here : (limit : ℕ) (p : Option Place) → option_and_then away_of p ≡ None → option_and_then away_of (option_map (place_tuned limit) p) ≡ None
still_here limit None h = refl
still_here limit (Some (Here held)) h = refl
still_here limit (Some (Out away)) h = cc

ends_here : (edit : ℕ) (p : Option Place) → option_and_then away_of p ≡ None → option_and_then away_of (place_detached edit p) ≡ None
ends_here edit None h = refl
ends_here edit (Some (Here held)) h = refl
ends_here edit (Some (Out away)) h = cc

pub here_edited : (c : Change) (number : ℕ) (old new : BoxesData) → IsBoxes old → new ≡ boxes_after (plain_change c) number old → AllHere old → AllHere new
here_edited c number old new order is all = subst AllHere (sym is) (go c)
  where
    go : (c : Change) → AllHere (boxes_after (plain_change c) number old)
    go (change.Add f) = all
    go (change.Replace f) = all
    go (change.Withdraw name n) = all
    go (change.ClearLink name) = all
    go (change.SetRegion name n area) = all
    go (change.RemoveRegion name n) = all
    go (change.Retune m limit) =
        placed_here m (option_map (place_tuned limit) (place_at m old.slots)) old (boxes_after (plain_change (change.Retune m limit)) number old)
        (tuned_placed m limit old (boxes_after (plain_change (change.Retune m limit)) number old) refl) (still_here limit (place_at m old.slots) (all m)) all
    go (change.Detach m) =
        placed_here m (place_detached number (place_at m old.slots)) old (boxes_after (plain_change (change.Detach m)) number old)
        (detached_placed m number old (boxes_after (plain_change (change.Detach m)) number old) order.rises refl) (ends_here number (place_at m old.slots) (all m)) all

pub here_attached : (m : ℕ) (held : Held) (old new : BoxesData) → new ≡ attached_at m held old → AllHere old → AllHere new
here_attached m held old new is all = placed_here m (Some (Here held)) old new (attached_placed m held old new is) refl all

pub here_checked : (old new : BoxesData) → KeepsBoxes old new → AllHere old → AllHere new
here_checked old new keeps all n = go (away_at n new.slots) (still_out old new keeps n ∙ ap is_some (all n))
  where
    go : (o : Option Away) → is_some o ≡ false → o ≡ None
    go None h = refl
    go (Some a) h = cc

-- No window is then found that waits for a monitor.
found_out : {S R : Type 0} (H : ℕ → Type 0) (F : Option (ℕ × Option S) → PieceKey → Piece S R → Type 0) (l : Option (ℕ × Option S)) (es : List (PieceKey × Piece S R)) (k : PieceKey)
    → IsFirst (λ l k p. H k.owner × F l k p) l es (Some k) → H k.owner
found_out H F l [] k h = cc
found_out H F l (e ∷ es) k (inl h) = let is : e.0 ≡ k = (let both : Some k ≡ Some e.0 = h.1 in cc) in subst (λ (x : PieceKey). H x.owner) is h.0.0
found_out H F l (e ∷ es) k (inr h) = found_out H F (left_by e.0 e.1) es k h.1

pub here_found : (core : Core) (key : PieceKey) → AllHere core.boxes → IsFirstOut core (Some key) → ⊥
here_found core key all first =
    let out : IsOut core.boxes key.owner = found_out (IsOut core.boxes) _ None core.windows.board.pieces key first in
    let never : false ≡ true = sym (ap is_some (all key.owner)) ∙ out in cc

pub here_first : (boxes : BoxesData) (number : ℕ) → IsBoxes boxes → AllHere boxes → first_out boxes.slots ≡ Some number → ⊥
here_first boxes number order all first =
    let found = lowest number boxes.slots order.rises first in
    let never : None ≡ Some found.0.0 = sym (all number) ∙ found.0.1 in cc

-- ---- over calls

pub here_new : (topo : Topology) (core : Core) → IsNew topo core → AllHere core.boxes
here_new topo core is n = ap (λ (b : BoxesData). away_at n b.slots) is.boxes

pub here_after_edit : (old : Core) (c : Change) (number : ℕ) (new : Core) → IsBoxes old.boxes → Step old (call.Edit c number) new → AllHere old.boxes → AllHere new.boxes
here_after_edit old c number new order step all = here_edited c number old.boxes new.boxes order step.1 all

pub here_after_attach : (old : Core) (monitor : ℕ) (w : Watch) (number : ℕ) (new : Core) → Step old (call.Attach monitor w number) new → AllHere old.boxes → AllHere new.boxes
here_after_attach old monitor w number new step all = here_attached monitor step.1.0 old.boxes new.boxes step.1.2 all

pub here_after_recheck : (old : Core) (count : ℕ) (new : Core) → Step old (call.Recheck count) new → AllHere old.boxes → AllHere new.boxes
here_after_recheck old count new step all = here_checked old.boxes new.boxes step.boxes all

pub here_after_some : (old new : Core) → RechecksSome old new → AllHere old.boxes → AllHere new.boxes
here_after_some old new some all = here_checked old.boxes new.boxes some.boxes all

pub here_after_publish : (old : Core) (version : ℕ) (new : Core) → Step old (call.Publish version) new → AllHere old.boxes → AllHere new.boxes
here_after_publish old version new step all n = ap (λ (c : Core). away_at n c.boxes.slots) step.rest ∙ all n

pub here_refused : (old : Core) (number : ℕ) (new : Core) → RefusesRecheck old (refused.BoxOut number) new → AllHere old.boxes → ⊥
here_refused old number new h all = here_found old h.0.0 all h.0.2
