-- What a list of steps makes of a desk, and what it answers.
use Rattle.std.specs.Prelude.{ℕ, ◌≡◌, ◌<◌, Bool, true, false, List, [], ◌∷◌, ◌++◌, Option, None, Some, length, slice_get, slice_set}
use Rattle.std.specs.Option.{option_and_then}
use Rattle.tl_beats.specs.declared.watch.Watch.{Watch}
use Rattle.tl_edits.specs.Edits.{AnEdit, plain_change, attach}
use Rattle.tl_edits.specs.Inputs.{refusal}
use Rattle.tl_edits.specs.declared.edit.Change.{Change}
use Rattle.tl_edits.specs.declared.fault.EditFault.{EditFault}
use Rattle.tl_edits.specs.declared.fault.EditFault.TheVariants as edit_fault
use Rattle.tl_desk.specs.Works as works
use Rattle.tl_desk.specs.Works.{ticket_of, window_of, IsChecked, IsDoneFrom, ComesBack}
use Rattle.tl_desk.specs.declared.take_fault.TakeFault.{TakeFault}
use Rattle.tl_desk.specs.declared.take_fault.TakeFault.TheVariants as take_fault
use Rattle.tl_desk.specs.declared.job.Job.{Job}
use Rattle.tl_desk.specs.declared.job.Done.{Done}
use Rattle.tl_desk.specs.declared.job.HandIn.{HandIn}
use Rattle.tl_desk.specs.declared.job.HandIn.TheVariants as answer
use Rattle.tl_pieces.specs.Pieces.{IsFirstFree}
use Rattle.tl_check.specs.States.{SameSpan}
use Rattle.tl_desk.specs.TicketData.{most_tickets}
use Rattle.tl_desk.specs.Core.{Core, IsDesk, AllSettled, most_versions, log_of, standing}
use Rattle.tl_desk.specs.Jobs.{Gives, HasFree, HandsBack, TakesBack, IsFirstFreeWatch, IsOutHere, IsLive}
use Rattle.tl_desk.specs.Steps.{Step, HandInStep}
use Rattle.tl_desk.specs.declared.call.Call.TheVariants as call
use Rattle.tl_desk.specs.declared.fault.PublishFault.{PublishFault}
use Rattle.tl_desk.specs.declared.fault.PublishFault.TheVariants as publish_fault
use Rattle.tl_desk.specs.declared.places.Place.{Place}
use Rattle.tl_desk.specs.declared.places.Place.TheVariants as place
use Rattle.tl_desk.specs.declared.play.Reply.{Reply}
use Rattle.tl_desk.specs.declared.play.Reply.TheVariants as reply
use Rattle.tl_desk.specs.declared.play.Step.{Step as AStep}
use Rattle.tl_desk.specs.declared.play.Step.TheVariants as step

-- ---- places

module _ {M : Type 0} where
  -- the places with another thing at this one
  abbrev pub with_place : ℕ → Place M → List (Place M) → List (Place M)
  with_place at thing places = slice_set places at thing

  -- There is no job at the place that wasn't checked, or none that was.
  abbrev pub HasNoJob : ℕ → List (Place M) → Type 0
  HasNoJob at places = (job : Job M) → slice_get places at ≡ Some (place.Job job) → ⊥

  abbrev pub HasNoDone : ℕ → List (Place M) → Type 0
  HasNoDone at places = (done : Done M) → slice_get places at ≡ Some (place.Done done) → ⊥

  -- the job of a place, checked or not
  abbrev pub job_of : Place M → Option (Job M)
  job_of (place.Job job) = Some job
  job_of (place.Done done) = Some (works.job_of done)
  job_of place.Empty = None

  abbrev pub job_at : ℕ → List (Place M) → Option (Job M)
  job_at at places = option_and_then job_of (slice_get places at)

  -- Each job is one that the desk takes back, under a ticket of its own.
  pub record AreOut (places : List (Place M)) (core : Core) : Type 0 where
    pub each : (at : ℕ) (job : Job M) → job_at at places ≡ Some job → IsOutHere core job
    pub own : (at other : ℕ) (job same : Job M) → job_at at places ≡ Some job → job_at other places ≡ Some same → ticket_of job ≡ ticket_of same → at ≡ other

-- ---- one step

-- The fault is why the edit is refused: the first cause that stands, or Memory where none does.
abbrev pub IsEditRefusal : Core → AnEdit → EditFault → Type 0
IsEditRefusal old e fault = ((fault ≡ edit_fault.Memory → ⊥) → refusal (length (log_of old).edits) (standing old) e ≡ Some fault)
    × (fault ≡ edit_fault.Memory → refusal (length (log_of old).edits) (standing old) e ≡ None)

abbrev pub AnswersEdit : Change → Core → Reply → Core → Type 0
AnswersEdit change old (reply.Edited number) new = Step old (call.Edit change number) new
AnswersEdit change old (reply.EditRefused fault) new = IsEditRefusal old (plain_change change) fault × (new ≡ old)
AnswersEdit change old _ new = ⊥

abbrev pub AnswersAttach : ℕ → Watch → Core → Reply → Core → Type 0
AnswersAttach monitor w old (reply.Edited number) new = Step old (call.Attach monitor w number) new
AnswersAttach monitor w old (reply.EditRefused fault) new = IsEditRefusal old (attach monitor w) fault × (new ≡ old)
AnswersAttach monitor w old _ new = ⊥

abbrev pub AnswersRecall : ℕ → Core → Reply → Core → Type 0
AnswersRecall ticket old (reply.Recalled true) new = IsLive old ticket × Step old (call.Recall ticket) new
AnswersRecall ticket old (reply.Recalled false) new = (IsLive old ticket → ⊥) × (new ≡ old)
AnswersRecall ticket old _ new = ⊥

-- The fault is why nothing is published.
abbrev pub IsPublishRefusal : Core → PublishFault → Type 0
IsPublishRefusal old publish_fault.NotReady = AllSettled old → ⊥
IsPublishRefusal old publish_fault.VersionFull = AllSettled old × (length old.reports ≡ most_versions)
IsPublishRefusal old publish_fault.Memory = AllSettled old × (length old.reports < most_versions)

abbrev pub AnswersPublish : Core → Reply → Core → Type 0
AnswersPublish old (reply.Published version) new = Step old (call.Publish version) new
AnswersPublish old (reply.PublishRefused fault) new = IsPublishRefusal old fault × (new ≡ old)
AnswersPublish old _ new = ⊥

-- The fault is why no job is given though a window is wanted.
abbrev pub IsTakeRefusal : Core → TakeFault → Type 0
IsTakeRefusal old take_fault.TicketsSpent = HasFree old × (old.tickets.last ≡ most_tickets)
IsTakeRefusal old take_fault.Memory = HasFree old × (old.tickets.last < most_tickets)

-- No job is given: no window is wanted that has no live ticket, of a manager or of a monitor that is here.
abbrev pub GivesNothing : Core → Core → Type 0
GivesNothing old new = IsFirstFree SameSpan old.windows.spans.board None × IsFirstFreeWatch old None × (new ≡ old)

module _ {M : Type 0} where
  -- A job that is given stands in the place after the last one.
  abbrev pub AnswersTake : List (Place M) → Core → Reply → List (Place M) → Core → Type 0
  AnswersTake places old (reply.Took ticket) left new = (job : Job M) × (ticket_of job ≡ ticket) × Gives old (Some job) new × (left ≡ places ++ place.Job job ∷ [])
  AnswersTake places old reply.TookNone left new = GivesNothing old new × (left ≡ places)
  AnswersTake places old (reply.TakeRefused fault) left new = IsTakeRefusal old fault × (left ≡ places) × (new ≡ old)
  AnswersTake places old _ left new = ⊥

  -- A job that was checked stands where it stood, with its result; where memory was refused the same one stands there again.
  abbrev pub AnswersWork : ℕ → List (Place M) → Reply → List (Place M) → Type 0
  AnswersWork at places reply.Worked left = (job : Job M) × (done : Done M) × (slice_get places at ≡ Some (place.Job job)) × IsDoneFrom job done × IsChecked done × (left ≡ with_place at (place.Done done) places)
  AnswersWork at places reply.WorkRefused left = (job back : Job M) × (slice_get places at ≡ Some (place.Job job)) × ComesBack job back × (left ≡ with_place at (place.Job back) places)
  AnswersWork at places reply.Nothing left = HasNoJob at places × (left ≡ places)
  AnswersWork at places _ left = ⊥

  -- what a hand-in answers, whether its result is taken or not
  abbrev pub handed_in : Bool → HandIn M
  handed_in true = answer.Taken
  handed_in false = answer.Void

  abbrev pub AnswersHandIn : ℕ → List (Place M) → Core → Reply → List (Place M) → Core → Type 0
  AnswersHandIn at places old (reply.HandedIn taken) left new = (done : Done M) × (slice_get places at ≡ Some (place.Done done)) × HandsBack old done (handed_in taken) new × HandInStep old done (handed_in taken) new
      × (left ≡ with_place at place.Empty places)
  AnswersHandIn at places old reply.Nothing left new = HasNoDone at places × (left ≡ places) × (new ≡ old)
  AnswersHandIn at places old _ left new = ⊥

  -- This very job is abandoned.
  abbrev pub Abandons : Core → Job M → Core → Type 0
  Abandons old job new = Step old (call.Abandon (ticket_of job) (window_of job)) new × TakesBack old job new

  abbrev pub AnswersAbandon : ℕ → List (Place M) → Core → Reply → List (Place M) → Core → Type 0
  AnswersAbandon at places old reply.Abandoned left new = (job : Job M) × (slice_get places at ≡ Some (place.Job job)) × Abandons old job new × (left ≡ with_place at place.Empty places)
  AnswersAbandon at places old reply.Nothing left new = HasNoJob at places × (left ≡ places) × (new ≡ old)
  AnswersAbandon at places old _ left new = ⊥

  -- One step: what it answers, and what it leaves in the places and at the desk.
  abbrev pub Answers : (M → Watch) → AStep M → List (Place M) → Core → Reply → List (Place M) → Core → Type 0
  Answers watch_of (step.Edit change) places old reply left new = AnswersEdit change old reply new × (left ≡ places)
  Answers watch_of (step.Attach number monitor) places old reply left new = AnswersAttach number (watch_of monitor) old reply new × (left ≡ places)
  Answers watch_of step.Take places old reply left new = AnswersTake places old reply left new
  Answers watch_of (step.Work at) places old reply left new = AnswersWork at places reply left × (new ≡ old)
  Answers watch_of (step.HandIn at) places old reply left new = AnswersHandIn at places old reply left new
  Answers watch_of (step.Abandon at) places old reply left new = AnswersAbandon at places old reply left new
  Answers watch_of (step.Recall ticket) places old reply left new = AnswersRecall ticket old reply new × (left ≡ places)
  Answers watch_of step.Publish places old reply left new = AnswersPublish old reply new × (left ≡ places)

  -- ---- many

  -- Steps, one after the other, each with its reply: each core on the way is one that a desk has.
  abbrev pub Runs : (M → Watch) → List (AStep M) → List (Place M) → Core → List Reply → List (Place M) → Core → Type 0
  Runs watch_of [] places old [] left new = IsDesk old × (left ≡ places) × (new ≡ old)
  Runs watch_of (step ∷ steps) places old (reply ∷ replies) left new = IsDesk old × (between : List (Place M)) × (middle : Core) × Answers watch_of step places old reply between middle
      × Runs watch_of steps between middle replies left new
  Runs watch_of _ places old _ left new = ⊥

  -- The job of a place, if it has one, is abandoned.
  abbrev pub LeavesOne : Option (Job M) → Core → Core → Type 0
  LeavesOne None old new = new ≡ old
  LeavesOne (Some job) old new = Abandons old job new

  -- So are those of all places, one after the other, each by a desk.
  abbrev pub Leaves : List (Place M) → Core → Core → Type 0
  Leaves [] old new = IsDesk old × (new ≡ old)
  Leaves (thing ∷ places) old new = IsDesk old × (middle : Core) × LeavesOne (job_of thing) old middle × Leaves places middle new

  -- Steps run from no places on, and the jobs that they leave are abandoned.
  abbrev pub Plays : (M → Watch) → Core → List (AStep M) → List Reply → Core → Type 0
  Plays watch_of old steps replies new = (places : List (Place M)) × (middle : Core) × Runs watch_of steps [] old replies places middle × Leaves places middle new
