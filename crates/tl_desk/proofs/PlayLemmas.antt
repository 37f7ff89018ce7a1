-- Jobs in places stay out, each under a ticket of its own.
use Rattle.std.proofs.Common.{append_assoc, append-nil, Result, Ok, Err, ◌≡◌, ℕ, zero, suc, ◌+◌, ◌≤◌, ◌⊎◌, inl, inr, List, [], ◌∷◌, ◌++◌, Option, Some, None, Bool, true, false, length, refl, sym, ap, subst, ◌∙◌, arith}
use Rattle.std.specs.Prelude.{slice_get}
use Rattle.std.specs.Option.{IfSome, option_and_then, option_map}
use Rattle.std.specs.Result.{IsOk, OnErr}
use Rattle.tl_beats.specs.declared.watch.Watch.{Watch}
use Rattle.tl_monitor.specs.Boxes.{BoxesData, IsBoxes, place_at, away_at, departed, brought_back}
use Rattle.tl_monitor.specs.Places.{Place as ABox, Here, Out, away_of, departure}
use Rattle.tl_monitor.specs.declared.away.Away.{Away}
use Rattle.tl_monitor.proofs.DepartureLemmas.{attached_departures, retuned_departures, detached_departures}
use Rattle.tl_edits.specs.Edits.{plain_change}
use Rattle.tl_edits.specs.declared.edit.Change.{Change}
use Rattle.tl_edits.specs.declared.edit.Change.TheVariants as change
use Rattle.tl_desk.specs.JobData.{JobData, piece_of}
use Rattle.tl_desk.specs.MonitorJobs.{MonitorJobData, SameJob, monitor_piece}
use Rattle.tl_desk.specs.Works as works
use Rattle.tl_desk.specs.Works.{ticket_of, window_of, ComesBack}
use Rattle.tl_desk.specs.declared.job.Job.{Job}
use Rattle.tl_desk.specs.declared.job.Job.TheVariants as a_job
use Rattle.tl_desk.specs.declared.job.Done.{Done}
use Rattle.tl_desk.specs.declared.job.Done.TheVariants as a_done
use Rattle.tl_desk.specs.declared.job.HandIn.TheVariants as answer
use Rattle.tl_desk.specs.declared.piece.Piece.{Piece as APiece}
use Rattle.tl_desk.specs.declared.piece.Piece.TheVariants as piece
use Rattle.tl_desk.specs.declared.tickets.Taken.{Taken}
use Rattle.tl_desk.specs.TicketData.{TicketsData, AreTickets, IsOutFor, taken_at}
use Rattle.tl_board.specs.WatchTasks.{WatchTaskData}
use Rattle.tl_desk.specs.Core.{Core, IsSound, IsDesk, log_of, standing}
use Rattle.tl_desk.specs.Jobs.{IsOwn, IsOutHere, TakesBack, Takes, TakesWatch, Gives, HandsBack, ended, key_for, watch_key_for}
use Rattle.tl_desk.specs.Plays.{with_place, job_of, job_at, AreOut, Answers, Runs, Leaves, LeavesOne, handed_in}
use Rattle.tl_desk.specs.Steps.{Step, boxes_after}
use Rattle.tl_desk.specs.Tickets.{window_of as window_of_key, watch_window_of, ticket_away}
use Rattle.tl_desk.specs.declared.call.Call.TheVariants as call
use Rattle.tl_desk.specs.declared.play.Reply.{Reply}
use Rattle.tl_desk.specs.declared.play.Step.{Step as AStep}
use Rattle.tl_desk.specs.declared.places.Place.{Place}
use Rattle.tl_desk.specs.declared.places.Place.TheVariants as place
use Rattle.tl_desk.proofs.AttachedLemmas.{not_held}
use Rattle.tl_desk.proofs.BoxLemmas.{taken_placed, back_placed, place_here, same_number}
use Rattle.tl_desk.proofs.TicketLemmas.{clash, one_value, out_less, out_more}

-- ---- places that get another thing

module _ {M : Type 0} where
  -- A job that is found then is that thing's, or stood at another place before.
  pub found_set : (places : List (Place M)) (at : ℕ) (thing : Place M) (other : ℕ) (job : Job M) → job_at other (with_place at thing places) ≡ Some job
      → ((other ≡ at) × (job_of thing ≡ Some job)) ⊎ ((other ≡ at → ⊥) × (job_at other places ≡ Some job))
  found_set [] at thing other job is = absurd (let never : None ≡ Some job = is in cc)
  found_set (p ∷ ps) zero thing zero job is = inl (refl, is)
  found_set (p ∷ ps) zero thing (suc other) job is = inr ((λ e. omega (arith, e)), is)
  found_set (p ∷ ps) (suc at) thing zero job is = inr ((λ e. omega (arith, e)), is)
  found_set (p ∷ ps) (suc at) thing (suc other) job is = elim (found_set ps at thing other job is)
      as (λ _. ((suc other ≡ suc at) × (job_of thing ≡ Some job)) ⊎ ((suc other ≡ suc at → ⊥) × (job_at other ps ≡ Some job))) [
        | inl h ↦ inl (ap suc h.0, h.1)
        | inr h ↦ inr ((λ e. h.0 (omega (arith, e))), h.1)
      ]

  -- After one more place a job that is found is the last one's, or stood there before.
  pub found_more : (places : List (Place M)) (thing : Place M) (other : ℕ) (job : Job M) → job_at other (places ++ thing ∷ []) ≡ Some job
      → ((other ≡ length places) × (job_of thing ≡ Some job)) ⊎ (job_at other places ≡ Some job)
  found_more [] thing zero job is = inl (refl, is)
  found_more [] thing (suc other) job is = absurd (let never : None ≡ Some job = is in cc)
  found_more (p ∷ ps) thing zero job is = inr is
  found_more (p ∷ ps) thing (suc other) job is = elim (found_more ps thing other job is)
      as (λ _. ((suc other ≡ suc (length ps)) × (job_of thing ≡ Some job)) ⊎ (job_at other ps ≡ Some job)) [ inl h ↦ inl (ap suc h.0, h.1) | inr h ↦ inr h ]

  -- Of two things that one place gets the second stays.
  pub set_twice : (places : List (Place M)) (at : ℕ) (thing last : Place M) → with_place at last (with_place at thing places) ≡ with_place at last places
  set_twice [] at thing last = refl
  set_twice (p ∷ ps) zero thing last = refl
  set_twice (p ∷ ps) (suc at) thing last = ap (λ xs. p ∷ xs) (set_twice ps at thing last)

  pub set_there : (places : List (Place M)) (at : ℕ) (was thing : Place M) → slice_get places at ≡ Some was → slice_get (with_place at thing places) at ≡ Some thing
  set_there [] at was thing is = absurd (let never : None ≡ Some was = is in cc)
  set_there (p ∷ ps) zero was thing is = refl
  set_there (p ∷ ps) (suc at) was thing is = set_there ps at was thing is

-- ---- one job

-- One that comes back is out as it was.
own_back : (core : Core) (job back : MonitorJobData) → SameJob job back → IsOwn core job → IsOwn core back
own_back core job back same own = record {
  out =
      subst (λ (x : WatchTaskData). IsOutFor back.ticket (piece.Monitor x.number x.window) core.tickets.out) (sym same.task)
      (subst (λ n. IsOutFor n (monitor_piece job) core.tickets.out) (sym same.ticket) own.out);
  watch = subst (λ (x : WatchTaskData). option_map (λ (a : Away). a.taken) (away_at x.number core.boxes.slots) ≡ Some x.held.watch) (sym same.task) own.watch;
}

module _ {M : Type 0} where
  pub out_back : (core : Core) (job back : Job M) → ComesBack job back → IsOutHere core job → IsOutHere core back
  out_back core (a_job.Manager j) (a_job.Manager b) same out = subst (λ (x : JobData). IsOutFor x.ticket (piece_of x) core.tickets.out) (sym same) out
  out_back core (a_job.Monitor j) (a_job.Monitor b) same out = own_back core j b same out
  out_back core (a_job.Manager j) (a_job.Monitor b) same out = absurd same
  out_back core (a_job.Monitor j) (a_job.Manager b) same out = absurd same

  pub ticket_back : (job back : Job M) → ComesBack job back → ticket_of back ≡ ticket_of job
  ticket_back (a_job.Manager j) (a_job.Manager b) same = ap (λ (x : JobData). x.ticket) same
  ticket_back (a_job.Monitor j) (a_job.Monitor b) same = same.ticket
  ticket_back (a_job.Manager j) (a_job.Monitor b) same = absurd same
  ticket_back (a_job.Monitor j) (a_job.Manager b) same = absurd same

  pub back_same : (job : Job M) → ComesBack job job
  back_same (a_job.Manager j) = refl
  back_same (a_job.Monitor j) = record { ticket = refl; task = refl; left = inl refl }

  -- It is out under its ticket.
  pub out_ticket : (core : Core) (job : Job M) → IsOutHere core job → IsOutFor (ticket_of job) (window_of job) core.tickets.out
  out_ticket core (a_job.Manager j) out = out
  out_ticket core (a_job.Monitor j) out = out.out

-- What the monitor of a number left with, if it is out.
left_with : (n : ℕ) (boxes : BoxesData) → option_map (λ (a : Away). a.taken) (away_at n boxes.slots) ≡ option_map (λ (d : ℕ × Watch). d.1) (departed n boxes)
left_with n boxes = go (place_at n boxes.slots)
  where
    go : (p : Option ABox) → option_map (λ (a : Away). a.taken) (option_and_then away_of p) ≡ option_map (λ (d : ℕ × Watch). d.1) (option_and_then departure p)
    go None = refl
    go (Some (Here h)) = refl
    go (Some (Out a)) = refl

-- ---- jobs of places

module _ {M : Type 0} where
  -- Each of them stood in these places before, at the same place.
  pub out_fewer : (old new : List (Place M)) (core : Core) → ((at : ℕ) (job : Job M) → job_at at new ≡ Some job → (was : Job M) × (job_at at old ≡ Some was) × ComesBack was job) → AreOut old core → AreOut new core
  out_fewer old new core from are = record {
    each = λ at job is. (let h = from at job is in out_back core h.0 job h.2 (are.each at h.0 h.1));
    own = λ at other job same is has one. (
        let h = from at job is in
        let k = from other same has in
        are.own at other h.0 k.0 h.1 k.1 (sym (ticket_back h.0 job h.2) ∙ one ∙ ticket_back k.0 same k.2));
  }

  -- A place gets a job back, checked or not.
  pub out_worked : (places : List (Place M)) (at : ℕ) (job back : Job M) (thing : Place M) (core : Core) → slice_get places at ≡ Some (place.Job job) → ComesBack job back → job_of thing ≡ Some back → AreOut places core
      → AreOut (with_place at thing places) core
  out_worked places at job back thing core was comes has are = out_fewer places (with_place at thing places) core from are
    where
      from : (other : ℕ) (one : Job M) → job_at other (with_place at thing places) ≡ Some one → (w : Job M) × (job_at other places ≡ Some w) × ComesBack w one
      from other one is = elim (found_set places at thing other one is)
          as (λ _. (w : Job M) × (job_at other places ≡ Some w) × ComesBack w one) [
            | inl h ↦ (job, ap (λ n. job_at n places) h.0 ∙ ap (option_and_then job_of) was, subst (λ j. ComesBack job j) (one_value (job_of thing) back one has h.1) comes)
            | inr h ↦ (one, h.1, back_same one)
          ]

  pub out_rest : (thing : Place M) (places : List (Place M)) (core : Core) → AreOut (thing ∷ places) core → AreOut places core
  out_rest thing places core are = record {
    each = λ at job is. are.each (suc at) job is;
    own = λ at other job same is has one. (let next : suc at ≡ suc other = are.own (suc at) (suc other) job same is has one in omega (arith, next));
  }

  pub none_out : (core : Core) → AreOut (let none : List (Place M) = [] in none) core
  none_out core = record {
    each = λ at job is. absurd (let never : None ≡ Some job = is in cc);
    own = λ at other job same is has one. absurd (let never : None ≡ Some job = is in cc);
  }

  pub first_out : (thing : Place M) (places : List (Place M)) (core : Core) → AreOut (thing ∷ places) core → IfSome (job_of thing) (IsOutHere core)
  first_out (place.Job job) places core are = are.each 0 job refl
  first_out (place.Done (a_done.Manager done)) places core are = are.each 0 (a_job.Manager done.job) refl
  first_out (place.Done (a_done.Monitor done)) places core are = are.each 0 (a_job.Monitor done.job) refl
  first_out place.Empty places core are = tt

  -- After a call all jobs are still out, or all but one.
  pub out_kept : (places : List (Place M)) (old new : Core) → ((job : Job M) → IsOutHere old job → IsOutHere new job) → AreOut places old → AreOut places new
  out_kept places old new stays are = record {
    each = λ at job is. stays job (are.each at job is);
    own = are.own;
  }

  pub out_ended : (places : List (Place M)) (at : ℕ) (job : Job M) (old new : Core) → job_at at places ≡ Some job → ((one : Job M) → (ticket_of job ≡ ticket_of one → ⊥) → IsOutHere old one → IsOutHere new one)
      → AreOut places old → AreOut (with_place at place.Empty places) new
  out_ended places at job old new was stays are = record {
    each = λ other one is. (let h = from other one is in stays one (λ equal. h.0 (sym (are.own at other job one was h.1 equal))) (are.each other one h.1));
    own = λ other more one same is has equal. are.own other more one same (from other one is).1 (from more same has).1 equal;
  }
    where
      from : (other : ℕ) (one : Job M) → job_at other (with_place at place.Empty places) ≡ Some one → (other ≡ at → ⊥) × (job_at other places ≡ Some one)
      from other one is = elim (found_set places at place.Empty other one is)
          as (λ _. (other ≡ at → ⊥) × (job_at other places ≡ Some one)) [
            | inl h ↦ absurd (let never : None ≡ Some one = h.1 in cc)
            | inr h ↦ h
          ]

  -- A job that is given gets a place after the last one, under a ticket that none had.
  pub out_given : (places : List (Place M)) (job : Job M) (old new : Core) → ticket_of job ≡ old.tickets.last + 1 → AreTickets old.tickets → IsOutHere new job
      → ((one : Job M) → (ticket_of job ≡ ticket_of one → ⊥) → IsOutHere old one → IsOutHere new one) → AreOut places old → AreOut (places ++ place.Job job ∷ []) new
  out_given places job old new next are_tickets fresh stays are = record {
    each = λ at one is. each_of at one (found_more places (place.Job job) at one is);
    own = λ at other one same is has equal. own_of at other one same (found_more places (place.Job job) at one is) (found_more places (place.Job job) other same has) equal;
  }
    where
      apart : (one : Job M) → IsOutHere old one → ticket_of job ≡ ticket_of one → ⊥
      apart one out equal =
          let was : IsOutFor (ticket_of one) (window_of one) old.tickets.out = out_ticket old one out in
          let small : ticket_of one ≤ old.tickets.last = are_tickets.given (ticket_of one) was.0 was.1 in
          omega (arith, small, equal, next)

      each_of : (at : ℕ) (one : Job M) → ((at ≡ length places) × (Some job ≡ Some one)) ⊎ (job_at at places ≡ Some one) → IsOutHere new one
      each_of at one (inl h) = subst (IsOutHere new) (one_value (Some job) job one refl h.1) fresh
      each_of at one (inr h) = stays one (apart one (are.each at one h)) (are.each at one h)

      newer : (at : ℕ) (one other : Job M) → Some job ≡ Some one → job_at at places ≡ Some other → ticket_of one ≡ ticket_of other → ⊥
      newer at one other is has equal = apart other (are.each at other has) (ap ticket_of (one_value (Some job) job one refl is) ∙ equal)

      own_of : (at other : ℕ) (one same : Job M) → ((at ≡ length places) × (Some job ≡ Some one)) ⊎ (job_at at places ≡ Some one) → ((other ≡ length places) × (Some job ≡ Some same)) ⊎ (job_at other places ≡ Some same)
          → ticket_of one ≡ ticket_of same → at ≡ other
      own_of at other one same (inl h) (inl k) equal = h.0 ∙ sym k.0
      own_of at other one same (inl h) (inr k) equal = absurd (newer other one same h.1 k equal)
      own_of at other one same (inr h) (inl k) equal = absurd (newer at same one k.1 h (sym equal))
      own_of at other one same (inr h) (inr k) equal = are.own at other one same h k equal

-- ---- jobs after a call

-- What is out for a window is so still.
out_still : (t : ℕ) (p : APiece) (out after : List (ℕ × Taken)) → taken_at t after ≡ taken_at t out → IsOutFor t p out → IsOutFor t p after
out_still t p out after same for = (for.0, same ∙ for.1, for.2)

-- The monitors after one that came back.
others_out : (old new : Core) (j : MonitorJobData) → IsBoxes old.boxes → IsOwn old j → new.boxes ≡ brought_back j.task.number j.task.held old.boxes → (n : ℕ) → ((w : ℕ) → monitor_piece j ≡ piece.Monitor n w → ⊥)
    → option_map (λ (a : Away). a.taken) (away_at n new.boxes.slots) ≡ option_map (λ (a : Away). a.taken) (away_at n old.boxes.slots)
others_out old new j order own is n other = go (away_at j.task.number old.boxes.slots) refl own.watch
  where
    go : (o : Option Away) → away_at j.task.number old.boxes.slots ≡ o → option_map (λ (a : Away). a.taken) o ≡ Some j.task.held.watch
        → option_map (λ (a : Away). a.taken) (away_at n new.boxes.slots) ≡ option_map (λ (a : Away). a.taken) (away_at n old.boxes.slots)
    go None at h = cc
    go (Some away) at h =
        let placed = back_placed j.task.number away j.task.held old.boxes new.boxes order.rises at is in
        ap (λ p. option_map (λ (a : Away). a.taken) (option_and_then away_of p)) (placed.others n (λ same. other j.task.window (ap (λ k. piece.Monitor k j.task.window) same)))

module _ {M : Type 0} (old new : Core) where
  -- What is out here stays so where its ticket does, and where the monitors that are out left with what they had.
  stays_out : (job : Job M) → taken_at (ticket_of job) new.tickets.out ≡ taken_at (ticket_of job) old.tickets.out
      → ((n w : ℕ) → window_of job ≡ piece.Monitor n w → option_map (λ (a : Away). a.taken) (away_at n new.boxes.slots) ≡ option_map (λ (a : Away). a.taken) (away_at n old.boxes.slots)) → IsOutHere old job → IsOutHere new job
  stays_out (a_job.Manager j) tickets boxes out = out_still j.ticket (piece_of j) old.tickets.out new.tickets.out tickets out
  stays_out (a_job.Monitor j) tickets boxes own = record {
    out = out_still j.ticket (monitor_piece j) old.tickets.out new.tickets.out tickets own.out;
    watch = boxes j.task.number j.task.window refl ∙ own.watch;
  }

  -- All jobs stay out where tickets and departures do.
  pub all_stay : new.tickets ≡ old.tickets → ((n : ℕ) → departed n new.boxes ≡ departed n old.boxes) → (job : Job M) → IsOutHere old job → IsOutHere new job
  all_stay tickets boxes job out =
      stays_out job (ap (λ (t : TicketsData). taken_at (ticket_of job) t.out) tickets)
      (λ n w is. left_with n new.boxes ∙ ap (option_map (λ (d : ℕ × Watch). d.1)) (boxes n) ∙ sym (left_with n old.boxes)) out

  pub edited_stay : (c : Change) (number : ℕ) → IsBoxes old.boxes → Step old (call.Edit c number) new → (job : Job M) → IsOutHere old job → IsOutHere new job
  edited_stay c number order step = all_stay step.0.tickets (λ n. ap (departed n) step.1 ∙ go c n)
    where
      go : (c : Change) (n : ℕ) → departed n (boxes_after (plain_change c) number old.boxes) ≡ departed n old.boxes
      go (change.Add f) n = refl
      go (change.Replace f) n = refl
      go (change.Withdraw name k) n = refl
      go (change.ClearLink name) n = refl
      go (change.SetRegion name k area) n = refl
      go (change.RemoveRegion name k) n = refl
      go (change.Retune m limit) n = retuned_departures old.boxes m n limit
      go (change.Detach m) n = detached_departures old.boxes m n number order

  pub attached_stay : (m : ℕ) (w : Watch) (number : ℕ) → IsSound old → Step old (call.Attach m w number) new → (job : Job M) → IsOutHere old job → IsOutHere new job
  attached_stay m w number sound step =
      all_stay step.0.tickets (λ n. ap (departed n) step.1.2 ∙ attached_departures old.boxes m n step.1.0 (not_held (length (log_of old).edits) (standing old) old.boxes m w sound.known step.0.accepted))

  pub published_stay : (version : ℕ) → Step old (call.Publish version) new → (job : Job M) → IsOutHere old job → IsOutHere new job
  published_stay version step = all_stay (ap (λ (k : Core). k.tickets) step.rest) (λ n. ap (λ (k : Core). departed n k.boxes) step.rest)

  pub recalled_stay : (ticket : ℕ) → Step old (call.Recall ticket) new → (job : Job M) → IsOutHere old job → IsOutHere new job
  recalled_stay ticket (inl recalls) = all_stay (ap (λ (k : Core). k.tickets) recalls.rest) (λ n. ap (λ (k : Core). departed n k.boxes) recalls.rest)
  recalled_stay ticket (inr recalls) = all_stay (ap (λ (k : Core). k.tickets) recalls.rest) (λ n. ap (λ (k : Core). departed n k.boxes) recalls.rest)

  -- The ticket of a job has ended: all others stay.
  ended_stay : (job : Job M) → new.tickets ≡ ended (ticket_of job) old.tickets → AreTickets old.tickets
      → ((n : ℕ) → ((w : ℕ) → window_of job ≡ piece.Monitor n w → ⊥) → option_map (λ (a : Away). a.taken) (away_at n new.boxes.slots) ≡ option_map (λ (a : Away). a.taken) (away_at n old.boxes.slots))
      → IsSound old → IsOutHere old job → (one : Job M) → (ticket_of job ≡ ticket_of one → ⊥) → IsOutHere old one → IsOutHere new one
  ended_stay job tickets are boxes sound was one apart out =
      stays_out one ((out_less (ticket_of job) old.tickets new.tickets are tickets).others (ticket_of one) apart) (λ n w is. boxes n (λ v same. apart (one_ticket n v w same is))) out
    where
      one_ticket : (n v w : ℕ) → window_of job ≡ piece.Monitor n v → window_of one ≡ piece.Monitor n w → ticket_of job ≡ ticket_of one
      one_ticket n v w same is =
          let mine : ticket_away n old.boxes ≡ Some (ticket_of job) = sound.tickets.held n v (ticket_of job) (subst (λ p. IsOutFor (ticket_of job) p old.tickets.out) same (out_ticket old job was)) in
          let its : ticket_away n old.boxes ≡ Some (ticket_of one) = sound.tickets.held n w (ticket_of one) (subst (λ p. IsOutFor (ticket_of one) p old.tickets.out) is (out_ticket old one out)) in
          one_value (ticket_away n old.boxes) (ticket_of job) (ticket_of one) mine its

  pub taken_back_stay : (job : Job M) → IsSound old → IsBoxes old.boxes → TakesBack old job new → (one : Job M) → (ticket_of job ≡ ticket_of one → ⊥) → IsOutHere old one → IsOutHere new one
  taken_back_stay (a_job.Manager j) sound order ends =
      ended_stay (a_job.Manager j) (ap (λ (k : Core). k.tickets) ends.rest) sound.tickets.are (λ n other. ap (λ (k : Core). option_map (λ (a : Away). a.taken) (away_at n k.boxes.slots)) ends.rest) sound ends.out
  taken_back_stay (a_job.Monitor j) sound order ends =
      ended_stay (a_job.Monitor j) (ap (λ (k : Core). k.tickets) ends.rest) sound.tickets.are (others_out old new j order ends.own (ap (λ (k : Core). k.boxes) ends.rest)) sound ends.own

  pub handed_in_stay : (done : Done M) (job : Job M) (taken : Bool) → works.job_of done ≡ job → IsSound old → IsBoxes old.boxes → HandsBack old done (handed_in taken) new → (one : Job M) → (ticket_of job ≡ ticket_of one → ⊥)
      → IsOutHere old one → IsOutHere new one
  handed_in_stay (a_done.Manager d) job true same sound order accepts = subst (λ j. (one : Job M) → (ticket_of j ≡ ticket_of one → ⊥) → IsOutHere old one → IsOutHere new one) same
      (ended_stay (a_job.Manager d.job) (ap (λ (k : Core). k.tickets) accepts.rest) sound.tickets.are (λ n other. ap (λ (k : Core). option_map (λ (a : Away). a.taken) (away_at n k.boxes.slots)) accepts.rest) sound accepts.out)
  handed_in_stay (a_done.Monitor d) job true same sound order accepts = subst (λ j. (one : Job M) → (ticket_of j ≡ ticket_of one → ⊥) → IsOutHere old one → IsOutHere new one) same
      (ended_stay (a_job.Monitor d.job) (ap (λ (k : Core). k.tickets) accepts.rest) sound.tickets.are (others_out old new d.job order accepts.own (ap (λ (k : Core). k.boxes) accepts.rest)) sound accepts.own)
  handed_in_stay (a_done.Manager d) job false same sound order h = subst (λ j. (one : Job M) → (ticket_of j ≡ ticket_of one → ⊥) → IsOutHere old one → IsOutHere new one) same (taken_back_stay (a_job.Manager d.job) sound order h.1)
  handed_in_stay (a_done.Monitor d) job false same sound order h = subst (λ j. (one : Job M) → (ticket_of j ≡ ticket_of one → ⊥) → IsOutHere old one → IsOutHere new one) same (taken_back_stay (a_job.Monitor d.job) sound order h.1)

  -- A job has gone out under the next ticket: all others stay.
  pub given_stay : (job : Job M) → IsSound old → Gives old (Some job) new → (one : Job M) → (ticket_of job ≡ ticket_of one → ⊥) → IsOutHere old one → IsOutHere new one
  given_stay (a_job.Manager j) sound gives one apart out =
      let takes : Takes old j.ticket (key_for j) new = gives.0 in
      let more = out_more (record { piece = window_of_key (key_for j); edits = length (log_of old).edits }) old.tickets new.tickets sound.tickets.are (ap (λ (k : Core). k.tickets) takes.rest) in
      stays_out one (more.others (ticket_of one) (λ same. apart (takes.next ∙ same))) (λ n w is. ap (λ (k : Core). option_map (λ (a : Away). a.taken) (away_at n k.boxes.slots)) takes.rest) out
  given_stay (a_job.Monitor j) sound gives one apart out =
      let takes : TakesWatch old j.ticket (watch_key_for j) new = gives.0 in
      let more = out_more (record { piece = watch_window_of (watch_key_for j); edits = length (log_of old).edits }) old.tickets new.tickets sound.tickets.are (ap (λ (k : Core). k.tickets) takes.rest) in
      let placed = taken_placed j.task.number j.ticket j.task.held old.boxes new.boxes gives.2 (ap (λ (k : Core). k.boxes) takes.rest) in
      stays_out one (more.others (ticket_of one) (λ same. apart (takes.next ∙ same))) (λ n w is. others n w is (same_number j.task.number n)) out
    where
      others : (n w : ℕ) → window_of one ≡ piece.Monitor n w → (j.task.number ≡ n) ⊎ (j.task.number ≡ n → ⊥)
          → option_map (λ (a : Away). a.taken) (away_at n new.boxes.slots) ≡ option_map (λ (a : Away). a.taken) (away_at n old.boxes.slots)
      others n w is (inr other) = ap (λ p. option_map (λ (a : Away). a.taken) (option_and_then away_of p)) ((taken_placed j.task.number j.ticket j.task.held old.boxes new.boxes gives.2 (ap (λ (k : Core). k.boxes) gives.0.rest)).others n other)
      others n w is (inl same) =
          let none : ticket_away n old.boxes ≡ None = subst (λ k. ticket_away k old.boxes ≡ None) same (ap (λ p. option_map (λ (a : Away). a.ticket) (option_and_then away_of p)) (place_here (place_at j.task.number old.boxes.slots) j.task.held gives.2)) in
          let its : ticket_away n old.boxes ≡ Some (ticket_of one) = sound.tickets.held n w (ticket_of one) (subst (λ p. IsOutFor (ticket_of one) p old.tickets.out) is (out_ticket old one out)) in
          absurd (clash (ticket_away n old.boxes) (ticket_of one) none its)

  -- It is out itself, under that ticket.
  pub given_out : (job : Job M) → IsSound old → Gives old (Some job) new → IsOutHere new job
  given_out (a_job.Manager j) sound gives =
      let taken : Taken = record { piece = window_of_key (key_for j); edits = length (log_of old).edits } in
      let more = out_more taken old.tickets new.tickets sound.tickets.are (ap (λ (k : Core). k.tickets) gives.0.rest) in
      (taken, ap (λ t. taken_at t new.tickets.out) gives.0.next ∙ more.here, refl)
  given_out (a_job.Monitor j) sound gives =
      let taken : Taken = record { piece = watch_window_of (watch_key_for j); edits = length (log_of old).edits } in
      let more = out_more taken old.tickets new.tickets sound.tickets.are (ap (λ (k : Core). k.tickets) gives.0.rest) in
      let placed = taken_placed j.task.number j.ticket j.task.held old.boxes new.boxes gives.2 (ap (λ (k : Core). k.boxes) gives.0.rest) in
      record {
        out = (taken, ap (λ t. taken_at t new.tickets.out) gives.0.next ∙ more.here, refl);
        watch = ap (λ p. option_map (λ (a : Away). a.taken) (option_and_then away_of p)) placed.here;
      }

  pub given_next : (job : Job M) → Gives old (Some job) new → ticket_of job ≡ old.tickets.last + 1
  given_next (a_job.Manager j) gives = gives.0.next
  given_next (a_job.Monitor j) gives = gives.0.next

-- ---- places after a call

module _ {M : Type 0} where
  pub out_taken : (places : List (Place M)) (job : Job M) (old new : Core) → IsSound old → AreOut places old → Gives old (Some job) new → AreOut (places ++ place.Job job ∷ []) new
  out_taken places job old new sound are gives =
      out_given places job old new (given_next old new job gives) sound.tickets.are (given_out old new job sound gives) (given_stay old new job sound gives) are

  pub out_handed_in : (places : List (Place M)) (at : ℕ) (done : Done M) (taken : Bool) (old new : Core) → job_at at places ≡ Some (works.job_of done) → IsSound old → IsBoxes old.boxes → AreOut places old
      → HandsBack old done (handed_in taken) new → AreOut (with_place at place.Empty places) new
  out_handed_in places at done taken old new is sound order are back =
      out_ended places at (works.job_of done) old new is (handed_in_stay old new done (works.job_of done) taken refl sound order back) are

  -- What is out here is no stranger's.
  pub never_strange : (old new : Core) (done same : Done M) → IsOutHere old (works.job_of done) → HandsBack old done (answer.Stranger same) new → ⊥
  never_strange old new (a_done.Manager d) same out back = back.0 out
  never_strange old new (a_done.Monitor d) same out back = back.0 out

  pub out_abandoned : (places : List (Place M)) (at : ℕ) (job : Job M) (old new : Core) → job_at at places ≡ Some job → IsSound old → IsBoxes old.boxes → AreOut places old → TakesBack old job new
      → AreOut (with_place at place.Empty places) new
  out_abandoned places at job old new is sound order are back = out_ended places at job old new is (taken_back_stay old new job sound order back) are

  pub out_recalled : (places : List (Place M)) (ticket : ℕ) (old new : Core) (found : Bool) → (found ≡ true → Step old (call.Recall ticket) new) → (found ≡ false → new ≡ old) → AreOut places old → AreOut places new
  out_recalled places ticket old new true step rest are = out_kept places old new (recalled_stay old new ticket (step refl)) are
  out_recalled places ticket old new false step rest are = subst (AreOut places) (sym (rest refl)) are

  pub left_out : (thing : Place M) (places : List (Place M)) (job : Job M) (old new : Core) → job_of thing ≡ Some job → IsSound old → IsBoxes old.boxes → AreOut (thing ∷ places) old → TakesBack old job new → AreOut places new
  left_out thing places job old new is sound order are back = out_rest place.Empty places new (out_abandoned (thing ∷ places) 0 job old new is sound order are back)

  pub left_none : (thing : Place M) (old : Core) → job_of thing ≡ None → LeavesOne (job_of thing) old old
  left_none thing old none = subst (λ o. LeavesOne o old old) (sym none) refl

-- What is refused only to those that aren't out isn't refused to one that is.
pub not_refused : {A B : Type 0} (P : Type 0) (r : Result A B) → OnErr r (P → ⊥) → P → IsOk r
not_refused P (Ok a) refused out = refl
not_refused P (Err b) refused out = absurd (refused out)

-- ---- from one step to the next

module _ {M : Type 0} where
  -- A run of these steps from here gives a run of all.
  abbrev pub Ran : (M → Watch) → List (AStep M) → List (Place M) → Core → List (AStep M) → List Reply → List (Place M) → Core → Type 0
  Ran watch_of steps first old rest replies places now = (more : List Reply) (left : List (Place M)) (new : Core) → Runs watch_of rest places now more left new → Runs watch_of steps first old (replies ++ more) left new

  pub ran_none : (watch_of : M → Watch) (steps : List (AStep M)) (first : List (Place M)) (old : Core) (rest : List (AStep M)) (replies : List Reply) → rest ≡ steps → replies ≡ [] → Ran watch_of steps first old rest replies first old
  ran_none watch_of steps first old rest replies all none more left new runs =
      subst (λ rs. Runs watch_of steps first old (rs ++ more) left new) (sym none) (subst (λ ss. Runs watch_of ss first old more left new) all runs)

  pub ran_more : (watch_of : M → Watch) (steps : List (AStep M)) (first : List (Place M)) (old : Core) (rest : List (AStep M)) (replies : List Reply) (places : List (Place M)) (now : Core)
      (step : AStep M) (later : List (AStep M)) (reply : Reply) (after : List Reply) (between : List (Place M)) (middle : Core) → Ran watch_of steps first old rest replies places now → IsDesk now → rest ≡ step ∷ later
      → Answers watch_of step places now reply between middle → after ≡ replies ++ reply ∷ [] → Ran watch_of steps first old later after between middle
  ran_more watch_of steps first old rest replies places now step later reply after between middle ran desk is answers pushed more left new runs =
      subst (λ rs. Runs watch_of steps first old rs left new) (sym (ap (λ rs. rs ++ more) pushed ∙ append_assoc replies (reply ∷ []) more))
      (ran (reply ∷ more) left new (subst (λ ss. Runs watch_of ss places now (reply ∷ more) left new) (sym is) (desk, between, middle, answers, runs)))

  pub ran_all : (watch_of : M → Watch) (steps : List (AStep M)) (first : List (Place M)) (old : Core) (rest : List (AStep M)) (replies : List Reply) (places : List (Place M)) (now : Core)
      → Ran watch_of steps first old rest replies places now → IsDesk now → length rest ≡ 0 → Runs watch_of steps first old replies places now
  ran_all watch_of steps first old [] replies places now ran desk none = subst (λ rs. Runs watch_of steps first old rs places now) (append-nil replies) (ran [] places now (desk, refl, refl))
  ran_all watch_of steps first old (step ∷ rest) replies places now ran desk none = absurd (omega (arith, none))

  -- The jobs of these places, abandoned from here on, are all that are abandoned then.
  abbrev pub Left : List (Place M) → Core → List (Place M) → Core → Type 0
  Left places old rest now = (new : Core) → Leaves rest now new → Leaves places old new

  pub left_more : (places : List (Place M)) (old : Core) (rest : List (Place M)) (now : Core) (thing : Place M) (later : List (Place M)) (middle : Core) → Left places old rest now → IsDesk now → rest ≡ thing ∷ later
      → LeavesOne (job_of thing) now middle → Left places old later middle
  left_more places old rest now thing later middle left desk is one new leaves = left new (subst (λ ps. Leaves ps now new) (sym is) (desk, middle, one, leaves))

  pub left_all : (places : List (Place M)) (old : Core) (rest : List (Place M)) (now : Core) → Left places old rest now → IsDesk now → length rest ≡ 0 → Leaves places old now
  left_all places old [] now left desk none = left now (desk, refl)
  left_all places old (thing ∷ rest) now left desk none = absurd (omega (arith, none))
