-- One history leads to one desk.
use Rattle.std.proofs.Common.{List, [], ◌∷◌, None, inl, inr, map, subst}
use Rattle.tl_desk.specs.Alike.{AreAlike, ChecksNothing}
use Rattle.tl_desk.specs.Core.{Core, IsDesk}
use Rattle.tl_desk.specs.Jobs.{HasFree, IsHere}
use Rattle.tl_desk.specs.declared.call.Call.{Call}
use Rattle.tl_desk.specs.declared.call.Call.TheVariants as call
use Rattle.tl_desk.proofs.AlikeBoards.{one_first}
use Rattle.tl_desk.proofs.AlikeSteps.{calls_keep_desks_alike, new_alike, first_free_alike, first_watch_alike, settled_alike}
use Rattle.tl_pieces.specs.Pieces.{IsFree}
use Rattle.tl_check.specs.States.{SameSpan}
use Rattle.tl_board.specs.Tally.{SameTally}
use Rattle.tl_hall.specs.History.{call_of, IsOfHall, Runs}
use Rattle.tl_hall.specs.Desks.{OneHistoryLeadsToOneDesk, FreeWindowsAreGiven, CheckedDesksAreReady}
use Rattle.tl_hall.proofs.Running.{leads_desk}

-- No call of a hall checks windows.
checks_nothing : (k : Call) → IsOfHall k → ChecksNothing k
checks_nothing (call.Edit change number) of_hall = tt
checks_nothing (call.Attach monitor w number) of_hall = tt
checks_nothing (call.Recheck count) of_hall = of_hall
checks_nothing (call.Publish version) of_hall = tt
checks_nothing (call.Take ticket piece from) of_hall = tt
checks_nothing (call.HandIn ticket piece found taken) of_hall = tt
checks_nothing (call.Abandon ticket piece) of_hall = tt
checks_nothing (call.Recall ticket) of_hall = tt

first_desk : (ks : List Call) (c d : Core) → Runs c ks d → IsDesk c
first_desk [] c d r = r.0
first_desk (k ∷ ks) c d r = r.0

runs_alike : (ks : List Call) (a b c d : Core) → AreAlike a b → Runs a ks c → Runs b ks d → AreAlike c d
runs_alike [] a b c d alike r s = subst (λ (x : Core). AreAlike x d) r.1 (subst (AreAlike a) s.1 alike)
runs_alike (k ∷ ks) a b c d alike r s =
    runs_alike ks r.2 s.2 c d (calls_keep_desks_alike k a b r.2 s.2 (checks_nothing k r.1) alike r.0 s.0 (first_desk ks r.2 c r.4) (first_desk ks s.2 d s.4) r.3 s.3) r.4 s.4

pub one_history_leads_to_one_desk : OneHistoryLeadsToOneDesk
one_history_leads_to_one_desk topo log one other leads same = runs_alike (map call_of log) leads.0 same.0 one other (new_alike topo leads.0 same.0 leads.1 same.1) leads.2 same.2

pub free_windows_are_given : FreeWindowsAreGiven
free_windows_are_given p q core look leads free = go free
  where
    alike : AreAlike look.core core
    alike = one_history_leads_to_one_desk p.topo q.seen look.core core look.leads leads

    is : IsDesk look.core
    is = leads_desk p.topo q.seen look.core look.leads

    has : IsDesk core
    has = leads_desk p.topo q.seen core leads

    go : HasFree core → ⊥
    go (inl first) =
        one_first (IsFree SameSpan core.windows.spans.board.openings) None core.windows.spans.board.pieces first.0 (first_free_alike look.core core alike is has None look.answer.0) first.1
    go (inr first) =
        one_first (λ l k piece. IsHere core.boxes k.owner × IsFree SameTally core.windows.board.openings l k piece) None core.windows.board.pieces first.0
        (first_watch_alike look.core core alike is has None look.answer.1) first.1

pub checked_desks_are_ready : CheckedDesksAreReady
checked_desks_are_ready p q core look leads settled =
    look.answer (settled_alike look.core core (one_history_leads_to_one_desk p.topo q.seen look.core core look.leads leads) (leads_desk p.topo q.seen look.core look.leads) (leads_desk p.topo q.seen core leads) settled)
