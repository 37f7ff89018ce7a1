-- Runs of calls, and how long one can be.
use Rattle.std.proofs.Common.{◌≡◌, ℕ, zero, suc, ◌+◌, ◌^◌, ◌<◌, ◌≤◌, ⊎_elim, eqb, true, false, cond, Bool, List, [], ◌∷◌, ◌++◌, Some, length, map, refl, sym, ap, subst, ◌∙◌, arith, length-append, eq-eqb, ne_eqb}
use mathlib.Core.List.{map-append}
use mathlib.Core.Logic.{dite}
use native.Mathlib.Decide.{ℕ_discrete}
use lib.ListN.{length-map}
use Rattle.std.specs.Prelude.{leb}
use Rattle.std.proofs.Common.{true≢false}
use Rattle.std.proofs.lemmas.Bool.Decides.{leb_tells}
use Rattle.std.specs.Ordering.{nat_cmp}
use Rattle.std.specs.BTreeMap.{insert_entry, is_at}
use Rattle.std.specs.Map.{remove_entry}
use Rattle.tl_topology.specs.Topology.{Topology}
use Rattle.tl_edits.specs.Edits.{AnEdit, plain_change, attach}
use Rattle.tl_edits.specs.Inputs.{most_edits}
use Rattle.tl_edits.proofs.LogLaws.{few_more}
use Rattle.tl_edits.specs.Log.{LogData}
use Rattle.tl_desk.specs.declared.tickets.Taken.{Taken}
use Rattle.tl_desk.specs.TicketData.{TicketsData, most_tickets}
use Rattle.tl_desk.specs.Core.{Core, IsNew, IsDesk, log_of, standing, most_versions}
use Rattle.tl_desk.specs.Steps.{Step, Edits, Publishes}
use Rattle.tl_desk.specs.declared.call.Call.{Call}
use Rattle.tl_desk.specs.declared.call.Call.TheVariants as call
use Rattle.tl_hall.specs.declared.entry.Entry.{Entry}
use Rattle.tl_hall.specs.History.{entry, call_of, IsOfHall, Runs, Leads}
use Rattle.tl_hall.proofs.Tickets.{Window, live_at, IsQuiet, same_quiet, edited_quiet, none_live, GivesOne, take_gives, EndsOne, hand_in_ends, abandon_ends, CallsBack, recall_calls, one_less, one_more}

pub runs_then : (ks : List Call) (c d e : Core) (k : Call) → Runs c ks d → IsOfHall k → Step d k e → IsDesk e → Runs c (ks ++ k ∷ []) e
runs_then [] c d e k r of_hall s is = (r.0, of_hall, e, subst (λ (x : Core). Step x k e) (sym r.1) s, (is, refl))
runs_then (j ∷ ks) c d e k r of_hall s is = (r.0, r.1, r.2, r.3, runs_then ks r.2 d e k r.4 of_hall s is)

-- They end with a desk.
pub runs_desk : (ks : List Call) (c d : Core) → Runs c ks d → IsDesk d
runs_desk [] c d r = subst IsDesk r.1 r.0
runs_desk (k ∷ ks) c d r = runs_desk ks r.2 d r.4

pub leads_desk : (topo : Topology) (log : List Entry) (core : Core) → Leads topo log core → IsDesk core
leads_desk topo log core leads = runs_desk (map call_of log) leads.0 core leads.2

-- a history and one call more
pub leads_more : (topo : Topology) (log : List Entry) (by : ℕ) (c : Core) (k : Call) (d : Core) → Leads topo log c → IsOfHall k → Step c k d → IsDesk d → Leads topo (log ++ entry by k ∷ []) d
leads_more topo log by c k d leads of_hall s is =
    (leads.0, leads.1, subst (λ (ks : List Call). Runs leads.0 ks d) (sym (map-append call_of log (entry by k ∷ []))) (runs_then (map call_of log) leads.0 c d k leads.2 of_hall s is))

off : false ≡ true → ⊥
off e = true≢false (sym e)

-- ---- marked numbers

abbrev bit : Bool → ℕ
bit true = 1
bit false = 0

-- how many numbers up to this one are marked
abbrev marks : (ℕ → Bool) → ℕ → ℕ
marks f zero = bit (f zero)
marks f (suc n) = bit (f (suc n)) + marks f n

-- the same marks, and one at this number
abbrev with_mark : ℕ → (ℕ → Bool) → ℕ → Bool
with_mark t f n = cond (eqb n t) true (f n)

bit_low : (b : Bool) → bit b ≤ 1
bit_low true = omega arith
bit_low false = omega arith

marks_low : (f : ℕ → Bool) (n : ℕ) → marks f n ≤ n + 1
marks_low f zero = let low : bit (f zero) ≤ 1 = bit_low (f zero) in omega (arith, low)
marks_low f (suc n) = let low : bit (f (suc n)) ≤ 1 = bit_low (f (suc n)) in let rest : marks f n ≤ n + 1 = marks_low f n in omega (arith, low, rest)

marks_grow : (f : ℕ → Bool) (n m : ℕ) → m ≡ n + 1 → marks f n ≤ marks f m
marks_grow f n m is =
    let next : suc n ≡ m = omega (arith, is) in
    let low : marks f n ≤ bit (f (suc n)) + marks f n = omega arith in
    subst (λ (k : ℕ). marks f n ≤ marks f k) next low

marks_kept : (t n : ℕ) (f : ℕ → Bool) → n < t → marks (with_mark t f) n ≡ marks f n
marks_kept t zero f low = ap (λ b. bit (cond b true (f zero))) (ne_eqb zero t (λ e. absurd (omega (arith, e, low))))
marks_kept t (suc n) f low =
    ap (λ b. bit (cond b true (f (suc n))) + marks (with_mark t f) n) (ne_eqb (suc n) t (λ e. absurd (omega (arith, e, low))))
    ∙ ap (λ m. bit (f (suc n)) + m) (marks_kept t n f (omega (arith, low)))

-- A number that was not marked makes one more.
marks_new : (t n : ℕ) (f : ℕ → Bool) → t ≤ n → f t ≡ false → marks (with_mark t f) n ≡ marks f n + 1
marks_new t zero f low not =
    let same : zero ≡ t = omega (arith, low) in
    let off : f zero ≡ false = subst (λ k. f k ≡ false) (sym same) not in
    ap (λ b. bit (cond b true (f zero))) (eq-eqb zero t same) ∙ (let none : bit (f zero) ≡ 0 = ap bit off in omega (arith, none))
marks_new t (suc n) f low not = ⊎_elim (λ (h : (leb t n ≡ true) × (t ≤ n)). later (marks_new t n f h.1 not) h.1) (λ (h : (leb t n ≡ false) × (n < t)). here h.1) (leb_tells t n)
  where
    later : marks (with_mark t f) n ≡ marks f n + 1 → t ≤ n → marks (with_mark t f) (suc n) ≡ marks f (suc n) + 1
    later rest le =
        ap (λ b. bit (cond b true (f (suc n))) + marks (with_mark t f) n) (ne_eqb (suc n) t (λ e. absurd (omega (arith, e, le))))
        ∙ omega (arith, rest)

    here : n < t → marks (with_mark t f) (suc n) ≡ marks f (suc n) + 1
    here more =
        let same : suc n ≡ t = omega (arith, low, more) in
        let none : bit (f (suc n)) ≡ 0 = ap bit (subst (λ k. f k ≡ false) (sym same) not) in
        ap (λ b. bit (cond b true (f (suc n))) + marks (with_mark t f) n) (eq-eqb (suc n) t same)
        ∙ (let rest : marks (with_mark t f) n ≡ marks f n = marks_kept t n f more in omega (arith, rest, none))

-- ---- how many calls there were

-- What holds of each desk that so many calls lead to: the tickets that ended aren't out, and those that were recalled are marked, and live no
-- more.
record Counts (core : Core) (count : ℕ) : Type 0 where
  edits : length (log_of core).edits ≤ most_edits
  reports : length core.reports ≤ most_versions
  last : core.tickets.last ≤ most_tickets
  ends : ℕ
  out : ends + length core.tickets.out ≤ core.tickets.last
  recalled : ℕ → Bool
  recalls : ℕ
  fit : recalls ≤ marks recalled core.tickets.last
  sum : count ≡ length (log_of core).edits + length core.reports + core.tickets.last + ends + recalls
  low : (window : Window) (t : ℕ) → live_at window core.windows ≡ Some t → t ≤ core.tickets.last
  one : (window other : Window) (t : ℕ) → live_at window core.windows ≡ Some t → live_at other core.windows ≡ Some t → window ≡ other
  past : (t : ℕ) → recalled t ≡ true → t ≤ core.tickets.last
  dead : (t : ℕ) (window : Window) → recalled t ≡ true → live_at window core.windows ≡ Some t → ⊥

at_first : (topo : Topology) (core : Core) → IsNew topo core → Counts core 0
at_first topo core fresh =
    let edits : length (log_of core).edits ≡ 0 = ap (λ (l : LogData). length l.edits) fresh.log in
    let reports : length core.reports ≡ 0 = ap length fresh.reports in
    let last : core.tickets.last ≡ 0 = ap (λ (t : TicketsData). t.last) fresh.tickets in
    let out : length core.tickets.out ≡ 0 = ap (λ (t : TicketsData). length t.out) fresh.tickets in
    record {
      edits = omega (arith, edits);
      reports = omega (arith, reports);
      last = omega (arith, last);
      ends = 0;
      out = omega (arith, out);
      recalled = λ n. false;
      recalls = 0;
      fit = omega arith;
      sum = omega (arith, edits, reports, last);
      low = λ key t live. absurd (none_live topo core fresh key t live);
      one = λ key other t a b. absurd (none_live topo core fresh key t a);
      past = λ t is. absurd (off is);
      dead = λ t key is live. off is;
    }

-- A call that leaves the tickets as they are.
still : (c d : Core) (n m : ℕ) → Counts c n → IsQuiet c.windows d.windows → d.tickets ≡ c.tickets → length (log_of d).edits ≤ most_edits → length d.reports ≤ most_versions
    → m + length (log_of c).edits + length c.reports ≡ n + length (log_of d).edits + length d.reports → Counts d m
still c d n m h quiet same edits reports more =
    let last : d.tickets.last ≡ c.tickets.last = ap (λ (t : TicketsData). t.last) same in
    let sum : n ≡ length (log_of c).edits + length c.reports + c.tickets.last + h.ends + h.recalls = h.sum in
    record {
      edits = edits;
      reports = reports;
      last = subst (λ (t : TicketsData). t.last ≤ most_tickets) (sym same) h.last;
      ends = h.ends;
      out = subst (λ (t : TicketsData). h.ends + length t.out ≤ t.last) (sym same) h.out;
      recalled = h.recalled;
      recalls = h.recalls;
      fit = subst (λ (t : TicketsData). h.recalls ≤ marks h.recalled t.last) (sym same) h.fit;
      sum = omega (arith, sum, last, more);
      low = λ key t live. subst (λ (x : TicketsData). t ≤ x.last) (sym same) (h.low key t (quiet key t live));
      one = λ key other t a b. h.one key other t (quiet key t a) (quiet other t b);
      past = λ t is. subst (λ (x : TicketsData). t ≤ x.last) (sym same) (h.past t is);
      dead = λ t key is live. h.dead t key is (quiet key t live);
    }

edited : (c : Core) (e : AnEdit) (number : ℕ) (d : Core) (n : ℕ) → Edits c e number d → Counts c n → Counts d (n + 1)
edited c e number d n edits h =
    let more : length (log_of c).edits + 1 ≤ most_edits = few_more (length (log_of c).edits) (standing c) e edits.accepted in
    let long : length (log_of d).edits ≡ length (log_of c).edits + 1 = ap (λ (l : LogData). length l.edits) edits.windows.spans.log ∙ length-append (log_of c).edits (e ∷ []) in
    let reports : length d.reports ≡ length c.reports = ap length edits.reports in
    let few : length c.reports ≤ most_versions = h.reports in
    still c d n (n + 1) h (edited_quiet c e number d edits) edits.tickets (omega (arith, more, long)) (omega (arith, reports, few)) (omega (arith, long, reports))

published : (c : Core) (version : ℕ) (d : Core) (n : ℕ) → Publishes c version d → Counts c n → Counts d (n + 1)
published c version d n publishes h =
    let long : length d.reports ≡ length c.reports + 1 = ap (λ (x : Core). length x.reports) publishes.rest ∙ length-append c.reports (publishes.report ∷ []) in
    let edits : length (log_of d).edits ≡ length (log_of c).edits = ap (λ (x : Core). length (log_of x).edits) publishes.rest in
    let room : length c.reports < most_versions = publishes.room in
    let few : length (log_of c).edits ≤ most_edits = h.edits in
    still c d n (n + 1) h (same_quiet c.windows d.windows (ap (λ (x : Core). x.windows) publishes.rest)) (ap (λ (x : Core). x.tickets) publishes.rest) (omega (arith, edits, few)) (omega (arith, long, room))
    (omega (arith, long, edits))

took : (c : Core) (ticket : ℕ) (d : Core) (n : ℕ) → GivesOne c ticket d → Counts c n → Counts d (n + 1)
took c ticket d n gives h =
    let edits : length (log_of d).edits ≡ length (log_of c).edits = ap (λ (l : LogData). length l.edits) gives.log in
    let reports : length d.reports ≡ length c.reports = ap length gives.reports in
    let last : d.tickets.last ≡ c.tickets.last + 1 = ap (λ (t : TicketsData). t.last) gives.tickets in
    let taken : Taken = record { piece = gives.window_is; edits = length (log_of c).edits } in
    let out : length d.tickets.out ≡ length (insert_entry nat_cmp c.tickets.out (c.tickets.last + 1) taken) = ap (λ (t : TicketsData). length t.out) gives.tickets in
    let most : length (insert_entry nat_cmp c.tickets.out (c.tickets.last + 1) taken) ≤ length c.tickets.out + 1 = one_more nat_cmp c.tickets.out (c.tickets.last + 1) taken in
    let room : c.tickets.last < most_tickets = gives.few in
    let next : ticket ≡ c.tickets.last + 1 = gives.next in
    let few : length (log_of c).edits ≤ most_edits = h.edits in
    let fewer : length c.reports ≤ most_versions = h.reports in
    let rest : h.ends + length c.tickets.out ≤ c.tickets.last = h.out in
    let fit : h.recalls ≤ marks h.recalled c.tickets.last = h.fit in
    let grow : marks h.recalled c.tickets.last ≤ marks h.recalled d.tickets.last = marks_grow h.recalled c.tickets.last d.tickets.last last in
    let sum : n ≡ length (log_of c).edits + length c.reports + c.tickets.last + h.ends + h.recalls = h.sum in
    record {
      edits = omega (arith, edits, few);
      reports = omega (arith, reports, fewer);
      last = omega (arith, last, room);
      ends = h.ends;
      out = omega (arith, out, most, rest, last);
      recalled = h.recalled;
      recalls = h.recalls;
      fit = omega (arith, fit, grow);
      sum = omega (arith, sum, edits, reports, last);
      low = λ key t live. ⊎_elim
          (λ (x : (key ≡ gives.window) × (t ≡ ticket)). let is : t ≡ ticket = x.1 in let le : t ≤ d.tickets.last = omega (arith, is, next, last) in le)
          (λ (x : live_at key c.windows ≡ Some t). let old : t ≤ c.tickets.last = h.low key t x in let le : t ≤ d.tickets.last = omega (arith, old, last) in le)
          (gives.live key t live);
      one = λ key other t a b. ⊎_elim
          (λ (x : (key ≡ gives.window) × (t ≡ ticket)). ⊎_elim
          (λ (y : (other ≡ gives.window) × (t ≡ ticket)). x.0 ∙ sym y.0)
          (λ (y : live_at other c.windows ≡ Some t). absurd (newer t x.1 (h.low other t y)))
          (gives.live other t b))
          (λ (x : live_at key c.windows ≡ Some t). ⊎_elim
          (λ (y : (other ≡ gives.window) × (t ≡ ticket)). absurd (newer t y.1 (h.low key t x)))
          (λ (y : live_at other c.windows ≡ Some t). h.one key other t x y)
          (gives.live other t b))
          (gives.live key t a);
      past = λ t is. let old : t ≤ c.tickets.last = h.past t is in omega (arith, old, last);
      dead = λ t key is live. ⊎_elim
          (λ (x : (key ≡ gives.window) × (t ≡ ticket)). newer t x.1 (h.past t is))
          (λ (x : live_at key c.windows ≡ Some t). h.dead t key is x)
          (gives.live key t live);
    }
  where
    newer : (t : ℕ) → t ≡ ticket → t ≤ c.tickets.last → ⊥
    newer t is old = let next : ticket ≡ c.tickets.last + 1 = gives.next in absurd (omega (arith, is, old, next))

-- A ticket ends.
ends_one : (c d : Core) (n : ℕ) → EndsOne c d → Counts c n → Counts d (n + 1)
ends_one c d n ends h =
    let edits : length (log_of d).edits ≡ length (log_of c).edits = ap (λ (l : LogData). length l.edits) ends.log in
    let reports : length d.reports ≡ length c.reports = ap length ends.reports in
    let last : d.tickets.last ≡ c.tickets.last = ap (λ (t : TicketsData). t.last) ends.tickets in
    let out : length d.tickets.out ≡ length (remove_entry (is_at (nat_cmp ends.ticket)) c.tickets.out) = ap (λ (t : TicketsData). length t.out) ends.tickets in
    let less : length (remove_entry (is_at (nat_cmp ends.ticket)) c.tickets.out) + 1 ≡ length c.tickets.out = one_less (is_at (nat_cmp ends.ticket)) c.tickets.out ends.taken ends.out in
    let few : length (log_of c).edits ≤ most_edits = h.edits in
    let fewer : length c.reports ≤ most_versions = h.reports in
    let most : c.tickets.last ≤ most_tickets = h.last in
    let rest : h.ends + length c.tickets.out ≤ c.tickets.last = h.out in
    let sum : n ≡ length (log_of c).edits + length c.reports + c.tickets.last + h.ends + h.recalls = h.sum in
    record {
      edits = omega (arith, edits, few);
      reports = omega (arith, reports, fewer);
      last = omega (arith, last, most);
      ends = h.ends + 1;
      out = omega (arith, out, less, rest, last);
      recalled = h.recalled;
      recalls = h.recalls;
      fit = subst (λ (x : ℕ). h.recalls ≤ marks h.recalled x) (sym last) h.fit;
      sum = omega (arith, sum, edits, reports, last);
      low = λ key t live. let old : t ≤ c.tickets.last = h.low key t (ends.quiet key t live) in omega (arith, old, last);
      one = λ key other t a b. h.one key other t (ends.quiet key t a) (ends.quiet other t b);
      past = λ t is. let old : t ≤ c.tickets.last = h.past t is in omega (arith, old, last);
      dead = λ t key is live. h.dead t key is (ends.quiet key t live);
    }

called_back : (c : Core) (ticket : ℕ) (d : Core) (n : ℕ) → CallsBack c ticket d → Counts c n → Counts d (n + 1)
called_back c ticket d n recalls h =
    let edits : length (log_of d).edits ≡ length (log_of c).edits = ap (λ (l : LogData). length l.edits) recalls.log in
    let reports : length d.reports ≡ length c.reports = ap length recalls.reports in
    let last : d.tickets.last ≡ c.tickets.last = ap (λ (t : TicketsData). t.last) recalls.tickets in
    let out : length d.tickets.out ≡ length c.tickets.out = ap (λ (t : TicketsData). length t.out) recalls.tickets in
    let quiet : IsQuiet c.windows d.windows = recalls.quiet in
    let few : length (log_of c).edits ≤ most_edits = h.edits in
    let fewer : length c.reports ≤ most_versions = h.reports in
    let most : c.tickets.last ≤ most_tickets = h.last in
    let rest : h.ends + length c.tickets.out ≤ c.tickets.last = h.out in
    let fit : h.recalls ≤ marks h.recalled c.tickets.last = h.fit in
    let new : marks (with_mark ticket h.recalled) c.tickets.last ≡ marks h.recalled c.tickets.last + 1 = marks_new ticket c.tickets.last h.recalled (h.low recalls.window ticket recalls.live) (unmarked (h.recalled ticket) refl) in
    let more : h.recalls + 1 ≤ marks (with_mark ticket h.recalled) c.tickets.last = omega (arith, fit, new) in
    let sum : n ≡ length (log_of c).edits + length c.reports + c.tickets.last + h.ends + h.recalls = h.sum in
    record {
      edits = omega (arith, edits, few);
      reports = omega (arith, reports, fewer);
      last = omega (arith, last, most);
      ends = h.ends;
      out = omega (arith, out, rest, last);
      recalled = with_mark ticket h.recalled;
      recalls = h.recalls + 1;
      fit = subst (λ (x : ℕ). h.recalls + 1 ≤ marks (with_mark ticket h.recalled) x) (sym last) more;
      sum = omega (arith, sum, edits, reports, last);
      low = λ key t live. let old : t ≤ c.tickets.last = h.low key t (quiet key t live) in omega (arith, old, last);
      one = λ key other t a b. h.one key other t (quiet key t a) (quiet other t b);
      past = λ t is. dite (ℕ_discrete t ticket)
          (λ (same : t ≡ ticket). let old : ticket ≤ c.tickets.last = h.low recalls.window ticket recalls.live in let le : t ≤ d.tickets.last = omega (arith, same, old, last) in le)
          (λ (apart : t ≡ ticket → ⊥). let old : t ≤ c.tickets.last = h.past t (older t apart is) in let le : t ≤ d.tickets.last = omega (arith, old, last) in le);
      dead = λ t key is live. dite (ℕ_discrete t ticket)
          (λ (same : t ≡ ticket). recalls.gone t (subst (λ (w : Window). live_at w d.windows ≡ Some t) (h.one key recalls.window t (quiet key t live) (recalls.live ∙ ap Some (sym same))) live))
          (λ (apart : t ≡ ticket → ⊥). h.dead t key (older t apart is) (quiet key t live));
    }
  where
    unmarked : (b : Bool) → h.recalled ticket ≡ b → h.recalled ticket ≡ false
    unmarked true is = absurd (h.dead ticket recalls.window is recalls.live)
    unmarked false is = is

    older : (t : ℕ) → (t ≡ ticket → ⊥) → with_mark ticket h.recalled t ≡ true → h.recalled t ≡ true
    older t apart is = ap (λ b. cond b true (h.recalled t)) (sym (ne_eqb t ticket apart)) ∙ is

step_counts : (c : Core) (k : Call) (d : Core) (n : ℕ) → IsOfHall k → Step c k d → Counts c n → Counts d (n + 1)
step_counts c (call.Edit change number) d n of_hall s h = edited c (plain_change change) number d n s.0 h
step_counts c (call.Attach monitor w number) d n of_hall s h = edited c (attach monitor w) number d n s.0 h
step_counts c (call.Recheck count) d n of_hall s h = absurd of_hall
step_counts c (call.Publish version) d n of_hall s h = published c version d n s h
step_counts c (call.Take ticket piece from) d n of_hall s h = took c ticket d n (take_gives c ticket piece from d s) h
step_counts c (call.HandIn ticket piece found taken) d n of_hall s h = ends_one c d n (hand_in_ends c ticket piece found taken d s) h
step_counts c (call.Abandon ticket piece) d n of_hall s h = ends_one c d n (abandon_ends c ticket piece d s) h
step_counts c (call.Recall ticket) d n of_hall s h = called_back c ticket d n (recall_calls c ticket d s) h

runs_count : (ks : List Call) (c d : Core) (n : ℕ) → Runs c ks d → Counts c n → Counts d (n + length ks)
runs_count [] c d n r h = subst (λ (x : Core). Counts x (n + 0)) r.1 (subst (λ (m : ℕ). Counts c m) (let e : n ≡ n + 0 = omega arith in e) h)
runs_count (k ∷ ks) c d n r h =
    subst (λ (m : ℕ). Counts d m) (let e : n + 1 + length ks ≡ n + suc (length ks) = omega arith in e) (runs_count ks r.2 d (n + 1) r.4 (step_counts c k r.2 n r.1 r.3 h))

-- A history has fewer than 2^64 entries.
pub leads_short : (topo : Topology) (log : List Entry) (core : Core) → Leads topo log core → length log < 2 ^ 64
leads_short topo log core leads =
    let h : Counts core (0 + length (map call_of log)) = runs_count (map call_of log) leads.0 core 0 leads.2 (at_first topo leads.0 leads.1) in
    let edits : length (log_of core).edits ≤ 65536 = h.edits in
    let reports : length core.reports ≤ 65536 = h.reports in
    let last : core.tickets.last ≤ 4611686018427387904 = h.last in
    let out : h.ends + length core.tickets.out ≤ core.tickets.last = h.out in
    let fit : h.recalls ≤ marks h.recalled core.tickets.last = h.fit in
    let low : marks h.recalled core.tickets.last ≤ core.tickets.last + 1 = marks_low h.recalled core.tickets.last in
    let sum : 0 + length (map call_of log) ≡ length (log_of core).edits + length core.reports + core.tickets.last + h.ends + h.recalls = h.sum in
    let same : length (map call_of log) ≡ length log = length-map log call_of in
    omega (arith, edits, reports, last, out, fit, low, sum, same)
