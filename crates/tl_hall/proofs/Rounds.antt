-- Rounds of a worker, one after the other.
use Rattle.std.proofs.Common.{◌≡◌, ℕ, ◌+◌, ◌≤◌, true, false, List, [], ◌∷◌, ◌++◌, map, Option, Some, sym, refl, ap, ◌∙◌, subst, arith, append_assoc, append-nil}
use Rattle.std.specs.Option.{option_map_or}
use mathlib.Core.List.{IsPrefix}
use Rattle.tl_desk.specs.declared.piece.Piece.{Piece}
use Rattle.tl_desk.specs.declared.piece.Piece.TheVariants as piece
use Rattle.tl_board.specs.WatchTasks.{WatchTaskData}
use Rattle.tl_desk.specs.JobData.{JobData, piece_of}
use Rattle.tl_desk.specs.Works.{ticket_of, window_of, ComesBack}
use Rattle.tl_desk.specs.declared.take_fault.TakeFault.{TakeFault}
use Rattle.tl_desk.specs.declared.job.Job.{Job}
use Rattle.tl_desk.specs.declared.job.Job.TheVariants as job
use Rattle.tl_desk.specs.Core.{Core}
use Rattle.tl_desk.specs.declared.call.Call.{Call}
use Rattle.tl_desk.specs.declared.call.Call.TheVariants as call
use Rattle.tl_desk.specs.declared.call.Start.{Start}
use Rattle.tl_desk.specs.declared.call.Start.TheVariants as start
use Rattle.tl_desk.specs.declared.call.Outcome.{Outcome}
use Rattle.tl_desk.specs.declared.call.Outcome.TheVariants as outcome
use Rattle.tl_hall.specs.declared.entry.Entry.{Entry}
use Rattle.tl_hall.specs.declared.working.Round.{Round}
use Rattle.tl_hall.specs.declared.working.Round.TheVariants as round
use Rattle.tl_hall.specs.declared.working.WorkCount.{WorkCount}
use Rattle.tl_hall.specs.History.{entry, own, IsOfWorker, AreOfWorker, OnlyWork}
use Rattle.tl_hall.specs.Passes.{PassData, Made, Looked, HasNone, IsUntaken}
use Rattle.tl_hall.specs.Working.{one_take, one_taken, one_void, one_abandon, total, counted, nothing_done, Worked, window_in, back_in, calls_in, IsIdle, CameBack, WorkedOnce, counted_with}
use Rattle.tl_hall.proofs.Histories.{prefix_self, prefix_trans, prefix_push, both_work, only_self, only_trans, only_push}

seen_more : (p q : PassData) (k : Call) (Told : Core → Core → Type 0) → Made p k Told q → IsPrefix p.seen q.seen
seen_more p q k Told made = subst (IsPrefix p.seen) (sym made.now) (prefix_push p.seen made.before (entry p.number k ∷ []) made.saw)

only_more : (p q : PassData) (k : Call) (Told : Core → Core → Type 0) → IsOfWorker k → Made p k Told q → p.sole ≡ true → OnlyWork p.seen q.seen
only_more p q k Told work made is = subst (OnlyWork p.seen) (sym made.now) (only_push p.seen made.before (entry p.number k) (made.others is) work)

pub worked_start : (p : PassData) → Worked 0 p nothing_done p nothing_done
worked_start p = record {
  same = (refl, refl, refl, refl, refl);
  saw = prefix_self p.seen;
  added = [];
  own_is = sym (append-nil (own p.number p.seen));
  only = tt;
  lost = 0;
  jobs = refl;
  among = omega arith;
  taken = refl;
  void = refl;
  abandoned = refl;
  others = λ _. only_self p.seen;
}

both_total : (one : Call → ℕ) (xs ys : List Entry) → total one (xs ++ ys) ≡ total one xs + total one ys
both_total one [] ys = let e : total one ys ≡ 0 + total one ys = omega arith in e
both_total one (x ∷ xs) ys = let more : total one (xs ++ ys) ≡ total one xs + total one ys = both_total one xs ys in omega (arith, more)

counted_then : (n m k a b c : ℕ) → m ≡ counted n a → k ≡ counted m b → c ≡ a + b → k ≡ counted n c
counted_then n m k a b c first second sum = omega (arith, first, second, sum)

-- One round, and then another.
pub worked_then : (p q r : PassData) (n m k : WorkCount) → Worked 0 p n q m → Worked 0 q m r k → Worked 0 p n r k
worked_then p q r n m k a b =
    let took : total one_take (a.added ++ b.added) ≡ total one_take a.added + total one_take b.added = both_total one_take a.added b.added in
    let taken : total one_taken (a.added ++ b.added) ≡ total one_taken a.added + total one_taken b.added = both_total one_taken a.added b.added in
    let void : total one_void (a.added ++ b.added) ≡ total one_void a.added + total one_void b.added = both_total one_void a.added b.added in
    let abandoned : total one_abandon (a.added ++ b.added) ≡ total one_abandon a.added + total one_abandon b.added = both_total one_abandon a.added b.added in
    let a_jobs : 0 + total one_take a.added ≡ total one_taken a.added + total one_void a.added + a.lost = a.jobs in
    let b_jobs : 0 + total one_take b.added ≡ total one_taken b.added + total one_void b.added + b.lost = b.jobs in
    let a_among : total one_abandon a.added ≤ a.lost = a.among in
    let b_among : total one_abandon b.added ≤ b.lost = b.among in
    record {
      same = (b.same.0 ∙ a.same.0, b.same.1 ∙ a.same.1, b.same.2 ∙ a.same.2, b.same.3 ∙ a.same.3, b.same.4 ∙ a.same.4);
      saw = prefix_trans p.seen q.seen r.seen a.saw b.saw;
      added = a.added ++ b.added;
      own_is = ap (λ (i : ℕ). own i r.seen) (sym a.same.2) ∙ b.own_is ∙ ap (λ (i : ℕ). own i q.seen ++ b.added) a.same.2 ∙ ap (λ (l : List Entry). l ++ b.added) a.own_is
          ∙ append_assoc (own p.number p.seen) a.added b.added;
      only = both_work a.added b.added a.only b.only;
      lost = a.lost + b.lost;
      jobs = omega (arith, took, taken, void, a_jobs, b_jobs);
      among = omega (arith, abandoned, a_among, b_among);
      taken = counted_then n.taken m.taken k.taken (total one_taken a.added) (total one_taken b.added) (total one_taken (a.added ++ b.added)) a.taken b.taken taken;
      void = counted_then n.void m.void k.void (total one_void a.added) (total one_void b.added) (total one_void (a.added ++ b.added)) a.void b.void void;
      abandoned = counted_then n.abandoned m.abandoned k.abandoned a.lost b.lost (a.lost + b.lost) a.abandoned b.abandoned refl;
      others = λ is. only_trans p.seen q.seen r.seen (a.others is) (b.others (a.same.4 ∙ is));
    }

-- ---- what becomes of a job

-- where nothing went out, or nothing came back checked
abbrev no_start : Start
no_start = start.Monitor (record { count = 0 })

abbrev no_outcome : Outcome
no_outcome = outcome.Monitor (record { count = 0 }) (record { count = 0 }) []

module _ (ticket : ℕ) (window piece : Piece) (p q : PassData) (is : piece ≡ window) where
  back_by : (came : Round) (found : Outcome) (call : Piece → Call) (Told : Core → Core → Type 0) → window_in came ≡ Some piece → map (entry p.number) (back_in ticket found came) ≡ entry p.number (call piece) ∷ [] → IsOfWorker (call window) → Made p (call window) Told q
      → CameBack ticket window p came q
  back_by came found call Told some calls work made = record {
    same = made.same;
    saw = seen_more p q (call window) Told made;
    is = some ∙ ap (λ (w : Piece). Some w) is;
    found = found;
    own_is = made.own_is ∙ ap (λ (w : Piece). own p.number p.seen ++ entry p.number (call w) ∷ []) (sym is) ∙ ap (λ (l : List Entry). own p.number p.seen ++ l) (sym calls);
    others = only_more p q (call window) Told work made;
  }

  forfeited : (came : Round) (Answer : Core → Type 0) → window_in came ≡ Some piece → map (entry p.number) (back_in ticket no_outcome came) ≡ [] → Looked p Answer q → CameBack ticket window p came q
  forfeited came Answer some calls look = record {
    same = look.same;
    saw = look.saw;
    is = some ∙ ap (λ (w : Piece). Some w) is;
    found = no_outcome;
    own_is = look.own_is ∙ sym (append-nil (own p.number p.seen)) ∙ ap (λ (l : List Entry). own p.number p.seen ++ l) (sym calls);
    others = look.others;
  }

  pub came_taken : (found : Outcome) (Told : Core → Core → Type 0) → Made p (call.HandIn ticket window found true) Told q → CameBack ticket window p (round.Taken piece) q
  came_taken found Told made = back_by (round.Taken piece) found (λ w. call.HandIn ticket w found true) Told refl refl tt made

  pub came_void : (found : Outcome) (Told : Core → Core → Type 0) → Made p (call.HandIn ticket window found false) Told q → CameBack ticket window p (round.Void piece) q
  came_void found Told made = back_by (round.Void piece) found (λ w. call.HandIn ticket w found false) Told refl refl tt made

  pub came_strange : (Answer : Core → Type 0) → Looked p Answer q → CameBack ticket window p (round.Strange piece) q
  came_strange Answer look = forfeited (round.Strange piece) Answer refl refl look

  pub came_abandoned : (Told : Core → Core → Type 0) → Made p (call.Abandon ticket window) Told q → CameBack ticket window p (round.Abandoned piece) q
  came_abandoned Told made = back_by (round.Abandoned piece) no_outcome (λ w. call.Abandon ticket w) Told refl refl tt made

  pub came_lost : (Answer : Core → Type 0) → Looked p Answer q → CameBack ticket window p (round.Lost piece) q
  came_lost Answer look = forfeited (round.Lost piece) Answer refl refl look

-- A job that comes back is of the same ticket and window.
same_job : {M : Type 0} (old new : Job M) → ComesBack old new → (ticket_of new ≡ ticket_of old) × (window_of new ≡ window_of old)
same_job (job.Manager old) (job.Manager new) e = (ap (λ (j : JobData). j.ticket) e, ap (λ (j : JobData). piece_of j) e)
same_job (job.Monitor old) (job.Monitor new) e = (e.ticket, ap (λ (t : WatchTaskData). piece.Monitor t.number t.window) e.task)
same_job (job.Manager old) (job.Monitor new) e = absurd e
same_job (job.Monitor old) (job.Manager new) e = absurd e

pub came_as : {M : Type 0} (old new : Job M) (p q : PassData) (came : Round) → ComesBack old new → CameBack (ticket_of new) (window_of new) p came q → CameBack (ticket_of old) (window_of old) p came q
came_as old new p q came back is =
    let same = same_job old new back in
    let there = subst (λ (t : ℕ). CameBack t (window_of new) p came q) same.0 is in
    subst (λ (w : Piece). CameBack (ticket_of old) w p came q) same.1 there

-- ---- one round

never_idle : (p q : PassData) (window : Piece) (came : Round) → window_in came ≡ Some window → IsIdle p came q
never_idle p q window round.NoWindow e = absurd (cc e)
never_idle p q window (round.Refused fault) e = absurd (cc e)
never_idle p q window (round.Taken w) e = tt
never_idle p q window (round.Void w) e = tt
never_idle p q window (round.Strange w) e = tt
never_idle p q window (round.Abandoned w) e = tt
never_idle p q window (round.Lost w) e = tt

-- A job is taken, and comes back.
pub once_behind : (p q r : PassData) (ticket : ℕ) (window : Piece) (from : Start) (came : Round) (Told : Core → Core → Type 0) → Made p (call.Take ticket window from) Told q → CameBack ticket window q came r → WorkedOnce p came r
once_behind p q r ticket window from came Told made b =
    let back : List Entry = map (entry p.number) (back_in ticket b.found came) in
    let number : q.number ≡ p.number = made.same.2 in
    let behind : own p.number r.seen ≡ own p.number q.seen ++ back = subst (λ (n : ℕ). own n r.seen ≡ own n q.seen ++ map (entry n) (back_in ticket b.found came)) number b.own_is in
    let calls : map (entry p.number) (calls_in ticket from b.found came) ≡ entry p.number (call.Take ticket window from) ∷ back =
    ap (λ (o : Option Piece). map (entry p.number) (option_map_or (λ w. call.Take ticket w from ∷ back_in ticket b.found came) o [])) b.is in
    record {
      same = (b.same.0 ∙ made.same.0, b.same.1 ∙ made.same.1, b.same.2 ∙ made.same.2, b.same.3 ∙ made.same.3, b.same.4 ∙ made.same.4);
      saw = prefix_trans p.seen q.seen r.seen (seen_more p q (call.Take ticket window from) Told made) b.saw;
      ticket = ticket;
      from = from;
      found = b.found;
      own_is = behind ∙ ap (λ (l : List Entry). l ++ back) made.own_is ∙ append_assoc (own p.number p.seen) (entry p.number (call.Take ticket window from) ∷ []) back
          ∙ ap (λ (l : List Entry). own p.number p.seen ++ l) (sym calls);
      others = λ is. only_trans p.seen q.seen r.seen (only_more p q (call.Take ticket window from) Told tt made is) (b.others (made.same.4 ∙ is));
      idle = never_idle p r window came b.is;
    }

pub once_none : (p q : PassData) → Looked p HasNone q → WorkedOnce p round.NoWindow q
once_none p q look = record { same = look.same; saw = look.saw; ticket = 0; from = no_start; found = no_outcome; own_is = look.own_is ∙ sym (append-nil (own p.number p.seen)); others = look.others; idle = look }

pub once_refused : (p q : PassData) (fault : TakeFault) → Looked p (IsUntaken fault) q → WorkedOnce p (round.Refused fault) q
once_refused p q fault look = record { same = look.same; saw = look.saw; ticket = 0; from = no_start; found = no_outcome; own_is = look.own_is ∙ sym (append-nil (own p.number p.seen)); others = look.others; idle = look }

-- Each number has 64 bits.
abbrev pub Fits : WorkCount → Type 0
Fits n = (n.taken ≤ 18446744073709551615) × (n.void ≤ 18446744073709551615) × (n.abandoned ≤ 18446744073709551615)

same_count : (n : ℕ) → n ≤ 18446744073709551615 → n ≡ counted n 0
same_count n fits = omega (arith, fits)

-- A round as it is counted: these are its entries, all of them a worker's, and so many jobs were lost.
module _ (p q : PassData) (n : WorkCount) (fits : Fits n) where
  counted_as : (came : Round) (w : WorkedOnce p came q) (lost : ℕ) → AreOfWorker (map (entry p.number) (calls_in w.ticket w.from w.found came))
      → (let added = map (entry p.number) (calls_in w.ticket w.from w.found came) in (0 + total one_take added ≡ total one_taken added + total one_void added + lost) × (total one_abandon added ≤ lost)
      × ((counted_with came n).taken ≡ counted n.taken (total one_taken added)) × ((counted_with came n).void ≡ counted n.void (total one_void added)) × ((counted_with came n).abandoned ≡ counted n.abandoned lost))
      → Worked 0 p n q (counted_with came n)
  counted_as came w lost only counts = record {
    same = w.same;
    saw = w.saw;
    added = map (entry p.number) (calls_in w.ticket w.from w.found came);
    own_is = w.own_is;
    only = only;
    lost = lost;
    jobs = counts.0;
    among = counts.1;
    taken = counts.2;
    void = counts.3;
    abandoned = counts.4;
    others = w.others;
  }

  abbrev none_taken : n.taken ≡ counted n.taken 0
  none_taken = same_count n.taken fits.0

  abbrev none_void : n.void ≡ counted n.void 0
  none_void = same_count n.void fits.1

  abbrev none_lost : n.abandoned ≡ counted n.abandoned 0
  none_lost = same_count n.abandoned fits.2

  pub worked_round : (came : Round) → WorkedOnce p came q → Worked 0 p n q (counted_with came n)
  worked_round round.NoWindow w = counted_as round.NoWindow w 0 tt (refl, omega arith, none_taken, none_void, none_lost)
  worked_round (round.Refused fault) w = counted_as (round.Refused fault) w 0 tt (refl, omega arith, none_taken, none_void, none_lost)
  worked_round (round.Taken window) w = counted_as (round.Taken window) w 0 (tt, (tt, tt)) (refl, omega arith, refl, none_void, none_lost)
  worked_round (round.Void window) w = counted_as (round.Void window) w 0 (tt, (tt, tt)) (refl, omega arith, none_taken, refl, none_lost)
  worked_round (round.Strange window) w = counted_as (round.Strange window) w 1 (tt, tt) (refl, omega arith, none_taken, none_void, refl)
  worked_round (round.Abandoned window) w = counted_as (round.Abandoned window) w 1 (tt, (tt, tt)) (refl, omega arith, none_taken, none_void, refl)
  worked_round (round.Lost window) w = counted_as (round.Lost window) w 1 (tt, tt) (refl, omega arith, none_taken, none_void, refl)
