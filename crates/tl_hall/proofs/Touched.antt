-- What the last entries of a history leave.
use Rattle.std.proofs.Common.{◌≡◌, ◌<◌, List, [], ◌∷◌, ◌++◌, Option, Some, None, length, map, refl, sym, ap, subst, ◌∙◌}
use mathlib.Core.List.{map-append}
use Rattle.tl_definitions.specs.Captures.{manager_beats}
use Rattle.tl_edits.specs.Edits.{AnEdit, plain_change, attach}
use Rattle.tl_edits.specs.Inputs.{InputData}
use Rattle.tl_edits.specs.Log.{inputs_after}
use Rattle.tl_pieces.specs.declared.key.PieceKey.{PieceKey}
use Rattle.tl_pieces.specs.Pieces.{piece_at, result_of, live_of}
use Rattle.tl_board.specs.Edits.{EditsTo}
use Rattle.tl_board.specs.Spans.{SpansData, standing}
use Rattle.tl_board.specs.Touch.{Touches}
use Rattle.tl_board.specs.Windows.{key_of}
use Rattle.tl_topology.specs.Topology.{Topology}
use Rattle.tl_capture.specs.Windows.{HasBeat}
use Rattle.tl_desk.specs.Core.{Core, AllSettled, IsDesk, log_of}
use Rattle.tl_desk.specs.Laws.{IsBlank}
use Rattle.tl_desk.specs.Steps.{Step}
use Rattle.tl_desk.specs.declared.call.Call.{Call}
use Rattle.tl_desk.specs.declared.call.Call.TheVariants as call
use Rattle.tl_desk.proofs.BlankLemmas.{blank_windows_are_given}
use Rattle.tl_desk.proofs.SettledLemmas.{only_edits_unsettle}
use Rattle.tl_hall.specs.declared.entry.Entry.{Entry}
use Rattle.tl_hall.specs.Desks.{IsEdit, AreEdits, AreNoEdits, left_behind, TouchedWindowsAreGiven, ReportsStayReady}
use Rattle.tl_hall.specs.History.{entry, call_of, Runs, Leads}
use Rattle.tl_hall.specs.Telling.{Told}
use Rattle.tl_hall.proofs.Running.{leads_desk}
use Rattle.tl_hall.proofs.Tellings.{histories_tell}
use Rattle.tl_hall.proofs.Tickets.{clash}

-- A run of two parts, and the desk between them.
record IsParted (c : Core) (ks js : List Call) (d : Core) : Type 0 where
  mid : Core
  first : Runs c ks mid
  second : Runs mid js d

first_desk : (ks : List Call) (c d : Core) → Runs c ks d → IsDesk c
first_desk [] c d r = r.0
first_desk (k ∷ ks) c d r = r.0

parted : (ks js : List Call) (c d : Core) → Runs c (ks ++ js) d → IsParted c ks js d
parted [] js c d r = record { mid = c; first = (first_desk js c d r, refl); second = r }
parted (k ∷ ks) js c d r = let later = parted ks js r.2 d r.4 in record { mid = later.mid; first = (r.0, r.1, r.2, r.3, later.first); second = later.second }

-- A history of two parts: the desk that the first leads to, and the run of the second.
record IsLed (topo : Topology) (log later : List Entry) (core : Core) : Type 0 where
  mid : Core
  led : Leads topo log mid
  runs : Runs mid (map call_of later) core

led_by : (topo : Topology) (log later : List Entry) (core : Core) → Leads topo (log ++ later) core → IsLed topo log later core
led_by topo log later core leads =
    let both = parted (map call_of log) (map call_of later) leads.0 core (subst (λ (ks : List Call). Runs leads.0 ks core) (map-append call_of log later) leads.2) in
    record { mid = both.mid; led = (leads.0, leads.1, both.first); runs = both.second }

-- What stands at the desk that a history leads to.
stands_behind : (topo : Topology) (log : List Entry) (core : Core) → Leads topo log core → standing core.windows.spans ≡ left_behind topo log
stands_behind topo log core leads =
    let tells = histories_tell topo log core leads in
    ap (λ (t : Topology). inputs_after t (log_of core).edits) tells.0 ∙ ap (λ (t : Told). inputs_after topo t.edits) tells.1

-- ---- a window without result and ticket

record HasNeither (spans : SpansData) (key : PieceKey) : Type 0 where
  result : result_of (piece_at key spans.board) ≡ None
  live : live_of (piece_at key spans.board) ≡ None

none_stays : {X : Type 0} (T : Type 0) (o : Option X) → (T → o ≡ None) → ((T → ⊥) → o ≡ None) → o ≡ None
none_stays T None here there = refl
none_stays T (Some x) here there = there (λ t. clash (Some x) x (here t) refl)

neither_stays : (e : AnEdit) (old new : SpansData) (key : PieceKey) → EditsTo old e new → HasNeither old key → HasNeither new key
neither_stays e old new key edits blank = record {
  result = none_stays (Touches (standing old) e key.owner key.window) (result_of (piece_at key new.board)) (edits.result key) (λ not. ap result_of (edits.stays key not) ∙ blank.result);
  live = none_stays (Touches (standing old) e key.owner key.window) (live_of (piece_at key new.board)) (edits.ticket key) (λ not. ap live_of (edits.stays key not) ∙ blank.live);
}

neither_after : (k : Call) (c d : Core) (key : PieceKey) → IsEdit k → Step c k d → HasNeither c.windows.spans key → HasNeither d.windows.spans key
neither_after (call.Edit change number) c d key edit s blank = neither_stays (plain_change change) c.windows.spans d.windows.spans key s.0.windows.spans blank
neither_after (call.Attach monitor w number) c d key edit s blank = neither_stays (attach monitor w) c.windows.spans d.windows.spans key s.0.windows.spans blank
neither_after (call.Recheck count) c d key edit s blank = absurd (edit tt)
neither_after (call.Publish version) c d key edit s blank = absurd (edit tt)
neither_after (call.Take ticket piece from) c d key edit s blank = absurd (edit tt)
neither_after (call.HandIn ticket piece found taken) c d key edit s blank = absurd (edit tt)
neither_after (call.Abandon ticket piece) c d key edit s blank = absurd (edit tt)
neither_after (call.Recall ticket) c d key edit s blank = absurd (edit tt)

neither_last : (later : List Entry) (c d : Core) (key : PieceKey) → AreEdits later → Runs c (map call_of later) d → HasNeither c.windows.spans key → HasNeither d.windows.spans key
neither_last [] c d key edits r blank = subst (λ (x : Core). HasNeither x.windows.spans key) r.1 blank
neither_last (e ∷ es) c d key edits r blank = neither_last es r.2 d key edits.1 r.4 (neither_after e.call c r.2 key edits.0 r.3 blank)

-- ---- such a window is to be taken

pub touched_windows_are_given : TouchedWindowsAreGiven
touched_windows_are_given topo log later by number manager window change core leads edits low touches beat none = blank_windows_are_given core core manager window desk blank (none.0, none.1, refl)
  where
    last : Entry
    last = entry by (call.Edit change number)

    key : PieceKey
    key = key_of manager window

    desk : IsDesk core
    desk = leads_desk topo (log ++ last ∷ later) core leads

    led : IsLed topo log (last ∷ later) core
    led = led_by topo log (last ∷ later) core leads

    neither : HasNeither core.windows.spans key
    neither =
        let touched = subst (λ (i : InputData). Touches i (plain_change change) manager window) (sym (stands_behind topo log led.mid led.led)) touches in
        neither_last later led.runs.2 core key edits led.runs.4 (record { result = led.runs.3.0.windows.spans.result key touched; live = led.runs.3.0.windows.spans.ticket key touched })

    blank : IsBlank core manager window
    blank = record {
      manages = subst (λ (t : Topology). manager < length t.managers) (sym (histories_tell topo (log ++ last ∷ later) core leads).0) low;
      beat = subst (λ (i : InputData). HasBeat (manager_beats i.topo i.fragments manager) window) (sym (stands_behind topo (log ++ last ∷ later) core leads)) beat;
      result = neither.result;
      live = neither.live;
    }

-- ---- where no edit came

settled_last : (later : List Entry) (c d : Core) → AreNoEdits later → Runs c (map call_of later) d → AllSettled c → AllSettled d
settled_last [] c d none r settled = subst AllSettled r.1 settled
settled_last (e ∷ es) c d none r settled = settled_last es r.2 d none.1 r.4 (only_edits_unsettle c r.2 e.call r.3 none.0 settled)

pub reports_stay_ready : ReportsStayReady
reports_stay_ready topo log later by version core leads none unready = unready (settled_last later led.runs.2 core none led.runs.4 (subst AllSettled (sym led.runs.3.rest) led.runs.3.settled))
  where
    led : IsLed topo log (entry by (call.Publish version) ∷ later) core
    led = led_by topo log (entry by (call.Publish version) ∷ later) core leads
