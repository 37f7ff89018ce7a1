-- Steps and replies lead desks that show the same to desks that show the same.
use Rattle.std.proofs.Common.{◌≡◌, ℕ, zero, suc, true, false, List, [], ◌∷◌, ◌++◌, Option, Some, None, refl, sym, subst, ◌∙◌}
use Rattle.std.specs.Prelude.{slice_get}
use Rattle.tl_beats.specs.declared.Row.{Row}
use Rattle.tl_beats.specs.declared.watch.Watch.{Watch}
use Rattle.tl_monitor.specs.Boxes.{BoxesData}
use Rattle.tl_edits.specs.Edits.{plain_change, attach}
use Rattle.tl_edits.specs.declared.edit.Change.{Change}
use Rattle.tl_desk.specs.Works as works
use Rattle.tl_desk.specs.declared.job.Done.{Done}
use Rattle.tl_desk.specs.declared.job.Done.TheVariants as a_done
use Rattle.tl_pieces.specs.Pieces.{Pass, Piece, piece_at}
use Rattle.tl_check.specs.States.{SameSpan}
use Rattle.tl_board.specs.Tally.{SameTally}
use Rattle.tl_desk.specs.Alike.{AreBoth, SamePass, SamePiece, HaveSameMonitors, ShowAlike, PlaysKeepDesksAlike, RepliesFixTheDesk}
use Rattle.tl_desk.specs.Core.{Core, IsDesk}
use Rattle.tl_desk.specs.Plays.{with_place, job_of, AnswersEdit, AnswersAttach, AnswersRecall, AnswersPublish, AnswersTake, AnswersWork, AnswersHandIn, AnswersAbandon, Answers, Runs, Leaves, LeavesOne}
use Rattle.tl_desk.specs.Steps.{boxes_after}
use Rattle.tl_desk.specs.declared.play.Reply.{Reply}
use Rattle.tl_desk.specs.declared.play.Reply.TheVariants as reply
use Rattle.tl_desk.specs.declared.play.Step.{Step as AStep}
use Rattle.tl_desk.specs.declared.play.Step.TheVariants as step
use Rattle.tl_desk.specs.declared.places.Place.{Place}
use Rattle.tl_desk.specs.declared.places.Place.TheVariants as place
use Rattle.tl_desk.proofs.AlikeBoards.{moved}
use Rattle.tl_desk.proofs.AlikeBoxes.{edit_alike, attach_alike}
use Rattle.tl_desk.proofs.PlayAlikeJobs.{JobsAlike, DonesAlike, came_back, were_checked, span_self}
use Rattle.tl_desk.proofs.PlayAlikeSteps.{shown_as, edits_shown, published_shown, recall_shown, gives_shown, taken_back_shown, handed_back_shown}

-- ---- places that show the same

module _ {M : Type 0} where
  abbrev pub PlaceAlike : Place M → Place M → Type 0
  PlaceAlike (place.Job job) (place.Job its) = JobsAlike job its
  PlaceAlike (place.Done done) (place.Done its) = DonesAlike done its
  PlaceAlike place.Empty place.Empty = Unit {0}
  PlaceAlike _ _ = ⊥

  abbrev pub PlacesAlike : List (Place M) → List (Place M) → Type 0
  PlacesAlike [] [] = Unit {0}
  PlacesAlike (p ∷ ps) (q ∷ qs) = PlaceAlike p q × PlacesAlike ps qs
  PlacesAlike _ _ = ⊥

  place_found : (ps qs : List (Place M)) (at : ℕ) → PlacesAlike ps qs → AreBoth PlaceAlike (slice_get ps at) (slice_get qs at)
  place_found [] [] at all = tt
  place_found [] (q ∷ qs) at all = absurd all
  place_found (p ∷ ps) [] at all = absurd all
  place_found (p ∷ ps) (q ∷ qs) zero all = all.0
  place_found (p ∷ ps) (q ∷ qs) (suc at) all = place_found ps qs at all.1

  found_there : (ps qs : List (Place M)) (at : ℕ) (p q : Place M) → PlacesAlike ps qs → slice_get ps at ≡ Some p → slice_get qs at ≡ Some q → PlaceAlike p q
  found_there ps qs at p q all first second = moved PlaceAlike (slice_get ps at) (slice_get qs at) (Some p) (Some q) first second (place_found ps qs at all)

  place_set : (ps qs : List (Place M)) (at : ℕ) (p q : Place M) → PlacesAlike ps qs → PlaceAlike p q → PlacesAlike (with_place at p ps) (with_place at q qs)
  place_set [] [] at p q all same = tt
  place_set [] (y ∷ qs) at p q all same = absurd all
  place_set (x ∷ ps) [] at p q all same = absurd all
  place_set (x ∷ ps) (y ∷ qs) zero p q all same = (same, all.1)
  place_set (x ∷ ps) (y ∷ qs) (suc at) p q all same = (all.0, place_set ps qs at p q all.1 same)

  place_more : (ps qs : List (Place M)) (p q : Place M) → PlacesAlike ps qs → PlaceAlike p q → PlacesAlike (ps ++ p ∷ []) (qs ++ q ∷ [])
  place_more [] [] p q all same = (same, tt)
  place_more [] (y ∷ qs) p q all same = absurd all
  place_more (x ∷ ps) [] p q all same = absurd all
  place_more (x ∷ ps) (y ∷ qs) p q all same = (all.0, place_more ps qs p q all.1 same)

  -- places that are these
  places_as : (left ps its_left qs : List (Place M)) → left ≡ ps → its_left ≡ qs → PlacesAlike ps qs → PlacesAlike left its_left
  places_as left ps its_left qs first second all = subst (λ xs. PlacesAlike xs its_left) (sym first) (subst (λ xs. PlacesAlike ps xs) (sym second) all)

  dones_jobs : (done its : Done M) → DonesAlike done its → JobsAlike (works.job_of done) (works.job_of its)
  dones_jobs (a_done.Manager d) (a_done.Manager b) dones = dones.0
  dones_jobs (a_done.Monitor d) (a_done.Monitor b) dones = dones.0
  dones_jobs (a_done.Manager d) (a_done.Monitor b) dones = absurd dones
  dones_jobs (a_done.Monitor d) (a_done.Manager b) dones = absurd dones

-- ---- one step, by what it answers

-- the boxes that a call leaves, if they are these
same_monitors : (one_after one other_after other : BoxesData) → one_after ≡ one → other_after ≡ other → HaveSameMonitors one other → HaveSameMonitors one_after other_after
same_monitors one_after one other_after other first second same = subst (λ (b : BoxesData). HaveSameMonitors b other_after) (sym first) (subst (λ (b : BoxesData). HaveSameMonitors one b) (sym second) same)

module _ (one one_after other other_after : Core) (alike : ShowAlike one other) (is : IsDesk one) (has : IsDesk other) where
  -- Neither has changed.
  neither : one_after ≡ one → other_after ≡ other → ShowAlike one_after other_after
  neither first second = shown_as one_after one other_after other first second alike

  edit_answers : (c : Change) (r : Reply) → IsDesk one_after → IsDesk other_after → AnswersEdit c one r one_after → AnswersEdit c other r other_after → ShowAlike one_after other_after
  edit_answers c (reply.Edited number) desk its_desk first second =
      edits_shown one one_after other other_after alike is has (plain_change c) number desk its_desk first.0 second.0
      (same_monitors one_after.boxes (boxes_after (plain_change c) number one.boxes) other_after.boxes (boxes_after (plain_change c) number other.boxes) first.1 second.1
      (edit_alike (plain_change c) number one.boxes other.boxes is.boxes has.boxes alike.boxes))
  edit_answers c (reply.EditRefused fault) desk its_desk first second = neither first.1 second.1
  edit_answers c r desk its_desk first second = absurd first

  attach_answers : (m : ℕ) (w : Watch) (r : Reply) → IsDesk one_after → IsDesk other_after → AnswersAttach m w one r one_after → AnswersAttach m w other r other_after → ShowAlike one_after other_after
  attach_answers m w (reply.Edited number) desk its_desk first second =
      edits_shown one one_after other other_after alike is has (attach m w) number desk its_desk first.0 second.0
      (attach_alike m w first.1.0 second.1.0 one.boxes one_after.boxes other.boxes other_after.boxes first.1.1 second.1.1 first.1.2 second.1.2 alike.boxes)
  attach_answers m w (reply.EditRefused fault) desk its_desk first second = neither first.1 second.1
  attach_answers m w r desk its_desk first second = absurd first

  recall_answers : (ticket : ℕ) (r : Reply) → AnswersRecall ticket one r one_after → AnswersRecall ticket other r other_after → ShowAlike one_after other_after
  recall_answers ticket (reply.Recalled true) first second = recall_shown one one_after other other_after alike is has ticket first.1 second.1
  recall_answers ticket (reply.Recalled false) first second = neither first.1 second.1
  recall_answers ticket r first second = absurd first

  publish_answers : (r : Reply) → AnswersPublish one r one_after → AnswersPublish other r other_after → ShowAlike one_after other_after
  publish_answers (reply.Published version) first second = published_shown one one_after other other_after alike is has version first second
  publish_answers (reply.PublishRefused fault) first second = neither first.1 second.1
  publish_answers r first second = absurd first

  module _ {M : Type 0} (places its left its_left : List (Place M)) (all : PlacesAlike places its) where
    take_answers : (r : Reply) → AnswersTake places one r left one_after → AnswersTake its other r its_left other_after → PlacesAlike left its_left × ShowAlike one_after other_after
    take_answers (reply.Took ticket) first second =
        let given = gives_shown one one_after other other_after alike is has first.0 second.0 (first.1 ∙ sym second.1) first.2 second.2 in
        (places_as left (places ++ place.Job first.0 ∷ []) its_left (its ++ place.Job second.0 ∷ []) first.3 second.3 (place_more places its (place.Job first.0) (place.Job second.0) all given.0), given.1)
    take_answers reply.TookNone first second = (places_as left places its_left its first.1 second.1 all, neither first.0.2 second.0.2)
    take_answers (reply.TakeRefused fault) first second = (places_as left places its_left its first.1 second.1 all, neither first.2 second.2)
    take_answers r first second = absurd first

    hand_in_answers : (at : ℕ) (r : Reply) → AnswersHandIn at places one r left one_after → AnswersHandIn at its other r its_left other_after → PlacesAlike left its_left × ShowAlike one_after other_after
    hand_in_answers at (reply.HandedIn taken) first second = (
      places_as left (with_place at place.Empty places) its_left (with_place at place.Empty its) first.4 second.4 (place_set places its at place.Empty place.Empty all tt),
      handed_back_shown one one_after other other_after alike is has taken first.0 second.0 (found_there places its at (place.Done first.0) (place.Done second.0) all first.1 second.1) first.2 second.2,
    )
    hand_in_answers at reply.Nothing first second = (places_as left places its_left its first.1 second.1 all, neither first.2 second.2)
    hand_in_answers at r first second = absurd first

    abandon_answers : (at : ℕ) (r : Reply) → AnswersAbandon at places one r left one_after → AnswersAbandon at its other r its_left other_after → PlacesAlike left its_left × ShowAlike one_after other_after
    abandon_answers at reply.Abandoned first second = (
      places_as left (with_place at place.Empty places) its_left (with_place at place.Empty its) first.3 second.3 (place_set places its at place.Empty place.Empty all tt),
      taken_back_shown one one_after other other_after alike is has first.0 second.0 (found_there places its at (place.Job first.0) (place.Job second.0) all first.1 second.1) first.2.1 second.2.1,
    )
    abandon_answers at reply.Nothing first second = (places_as left places its_left its first.1 second.1 all, neither first.2 second.2)
    abandon_answers at r first second = absurd first

    work_answers : (at : ℕ) (r : Reply) → AnswersWork at places r left → AnswersWork at its r its_left → PlacesAlike left its_left
    work_answers at reply.Worked first second =
        places_as left (with_place at (place.Done first.1) places) its_left (with_place at (place.Done second.1) its) first.5 second.5 (place_set places its at (place.Done first.1) (place.Done second.1) all
        (were_checked first.0 second.0 first.1 second.1 (found_there places its at (place.Job first.0) (place.Job second.0) all first.2 second.2) first.3 second.3 first.4 second.4))
    work_answers at reply.WorkRefused first second =
        places_as left (with_place at (place.Job first.1) places) its_left (with_place at (place.Job second.1) its) first.4 second.4 (place_set places its at (place.Job first.1) (place.Job second.1) all
        (came_back first.0 second.0 first.1 second.1 (found_there places its at (place.Job first.0) (place.Job second.0) all first.2 second.2) first.3 second.3))
    work_answers at reply.Nothing first second = places_as left places its_left its first.1 second.1 all
    work_answers at r first second = absurd first

    answers_shown : (watch_of : M → Watch) (s : AStep M) (r : Reply) → IsDesk one_after → IsDesk other_after → Answers watch_of s places one r left one_after → Answers watch_of s its other r its_left other_after
        → PlacesAlike left its_left × ShowAlike one_after other_after
    answers_shown watch_of (step.Edit change) r desk its_desk first second = (places_as left places its_left its first.1 second.1 all, edit_answers change r desk its_desk first.0 second.0)
    answers_shown watch_of (step.Attach number monitor) r desk its_desk first second = (places_as left places its_left its first.1 second.1 all, attach_answers number (watch_of monitor) r desk its_desk first.0 second.0)
    answers_shown watch_of step.Take r desk its_desk first second = take_answers r first second
    answers_shown watch_of (step.Work at) r desk its_desk first second = (work_answers at r first.0 second.0, neither first.1 second.1)
    answers_shown watch_of (step.HandIn at) r desk its_desk first second = hand_in_answers at r first second
    answers_shown watch_of (step.Abandon at) r desk its_desk first second = abandon_answers at r first second
    answers_shown watch_of (step.Recall ticket) r desk its_desk first second = (places_as left places its_left its first.1 second.1 all, recall_answers ticket r first.0 second.0)
    answers_shown watch_of step.Publish r desk its_desk first second = (places_as left places its_left its first.1 second.1 all, publish_answers r first.0 second.0)

-- ---- many

module _ {M : Type 0} where
  -- A run begins with what a desk has, and so does what is left.
  begins : (watch_of : M → Watch) (steps : List (AStep M)) (places : List (Place M)) (old : Core) (replies : List Reply) (left : List (Place M)) (new : Core) → Runs watch_of steps places old replies left new → IsDesk old
  begins watch_of [] places old [] left new runs = runs.0
  begins watch_of [] places old (r ∷ replies) left new runs = absurd runs
  begins watch_of (s ∷ steps) places old [] left new runs = absurd runs
  begins watch_of (s ∷ steps) places old (r ∷ replies) left new runs = runs.0

  runs_shown : (watch_of : M → Watch) (steps : List (AStep M)) (replies : List Reply) (places its left its_left : List (Place M)) (one one_after other other_after : Core) → PlacesAlike places its → ShowAlike one other
      → Runs watch_of steps places one replies left one_after → Runs watch_of steps its other replies its_left other_after → PlacesAlike left its_left × ShowAlike one_after other_after
  runs_shown watch_of [] [] places its left its_left one one_after other other_after all alike first second =
      (places_as left places its_left its first.1 second.1 all, shown_as one_after one other_after other first.2 second.2 alike)
  runs_shown watch_of [] (r ∷ replies) places its left its_left one one_after other other_after all alike first second = absurd first
  runs_shown watch_of (s ∷ steps) [] places its left its_left one one_after other other_after all alike first second = absurd first
  runs_shown watch_of (s ∷ steps) (r ∷ replies) places its left its_left one one_after other other_after all alike first second =
      let next = answers_shown one first.2 other second.2 alike first.0 second.0 places its first.1 second.1 all watch_of s r (begins watch_of steps first.1 first.2 replies left one_after first.4)
      (begins watch_of steps second.1 second.2 replies its_left other_after second.4) first.3 second.3 in
      runs_shown watch_of steps replies first.1 second.1 left its_left first.2 one_after second.2 other_after next.0 next.1 first.4 second.4

  leaves_one : (p q : Place M) (one one_after other other_after : Core) → PlaceAlike p q → ShowAlike one other → IsDesk one → IsDesk other → LeavesOne (job_of p) one one_after → LeavesOne (job_of q) other other_after
      → ShowAlike one_after other_after
  leaves_one (place.Job job) (place.Job its) one one_after other other_after same alike is has first second = taken_back_shown one one_after other other_after alike is has job its same first.1 second.1
  leaves_one (place.Done done) (place.Done its) one one_after other other_after same alike is has first second =
      taken_back_shown one one_after other other_after alike is has (works.job_of done) (works.job_of its) (dones_jobs done its same) first.1 second.1
  leaves_one place.Empty place.Empty one one_after other other_after same alike is has first second = shown_as one_after one other_after other first second alike
  leaves_one _ _ one one_after other other_after same alike is has first second = absurd same

  leaves_shown : (places its : List (Place M)) (one one_after other other_after : Core) → PlacesAlike places its → ShowAlike one other → Leaves places one one_after → Leaves its other other_after → ShowAlike one_after other_after
  leaves_shown [] [] one one_after other other_after all alike first second = shown_as one_after one other_after other first.1 second.1 alike
  leaves_shown [] (q ∷ its) one one_after other other_after all alike first second = absurd all
  leaves_shown (p ∷ places) [] one one_after other other_after all alike first second = absurd all
  leaves_shown (p ∷ places) (q ∷ its) one one_after other other_after all alike first second =
      leaves_shown places its first.1 one_after second.1 other_after all.1 (leaves_one p q one first.1 other second.1 all.0 alike first.0 second.0 first.2 second.2) first.3 second.3

pub plays_keep_desks_alike : (M : Type 0) → PlaysKeepDesksAlike M
plays_keep_desks_alike M watch_of steps replies one other one_after other_after alike first second =
    let ran = runs_shown watch_of steps replies [] [] first.0 second.0 one first.1 other second.1 tt alike first.2 second.2 in
    leaves_shown first.0 second.0 first.1 one_after second.1 other_after ran.0 ran.1 first.3 second.3

-- ---- from one desk

both_self : {X : Type 0} (same : X → X → Type 0) → ((x : X) → same x x) → (o : Option X) → AreBoth same o o
both_self same self None = tt
both_self same self (Some x) = self x

pass_self : {S : Type 0} (same : S → S → Type 0) → ((s : S) → same s s) → (r : Pass S (List Row)) → SamePass same r r
pass_self same self r = record { entry = self r.entry; exit = self r.exit; rows = refl }

piece_self : {S : Type 0} (same : S → S → Type 0) → ((s : S) → same s s) → (p : Piece S (List Row)) → SamePiece same p p
piece_self same self p = record { live = refl; result = both_self (SamePass same) (pass_self same self) p.result }

shows_itself : (core : Core) → ShowAlike core core
shows_itself core = record {
  log = refl;
  managers = λ k. both_self (SamePiece SameSpan) (piece_self SameSpan span_self) (piece_at k core.windows.spans.board);
  monitors = λ k. both_self (SamePiece SameTally) (piece_self SameTally (λ t. refl)) (piece_at k core.windows.board);
  boxes = record { ended = refl; places = λ n. refl };
  reports = refl;
  tickets = refl;
}

pub replies_fix_the_desk : (M : Type 0) → RepliesFixTheDesk M
replies_fix_the_desk M watch_of steps replies old one other first second = plays_keep_desks_alike M watch_of steps replies old old one other (shows_itself old) first second
