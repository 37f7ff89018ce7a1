-- Reports after one edit more, and one report more.
use Rattle.std.proofs.Common.{◌≡◌, ℕ, zero, suc, ◌+◌, ◌-◌, ◌<◌, ◌≤◌, true, List, [], ◌∷◌, ◌++◌, Option, Some, None, Bor, length, take, get_or, nat_lt, sym, ap, subst, ◌∙◌, arith}
use Rattle.std.specs.Prelude.{slice_get, is_some}
use Rattle.std.specs.Option.{IfSome}
use Rattle.std.proofs.lemmas.Bool.Decides.{nat_tests}
use Rattle.std.proofs.lemmas.Option.{slice_get-get_or}
use Rattle.std.specs.List.{AllByRecursion}
use Rattle.std.proofs.Math.Seq.{take-length}
use Rattle.std.proofs.lemmas.List.{take-append-le, length-append}
use Rattle.tl_definitions.specs.Report.{IsReport}
use Rattle.tl_edits.specs.Edits.{AnEdit}
use Rattle.tl_edits.specs.Inputs.{InputData, changed}
use Rattle.tl_edits.specs.Log.{LogData, inputs_after}
use Rattle.tl_check.specs.Captured.{captures_after}
use Rattle.tl_check.specs.States.{SameSpan}
use Rattle.tl_board.specs.Recheck.{ChecksSome}
use Rattle.tl_board.specs.Spans as spans
use Rattle.tl_board.proofs.EditLemmas.{stands}
use Rattle.tl_board.specs.Accepting.{EditsBoth}
use Rattle.tl_board.specs.Tally.{SameTally}
use Rattle.tl_board.specs.Watches.{WatchesData}
use Rattle.tl_capture.specs.Present.{IsPresent}
use Rattle.tl_monitor.specs.Boxes.{BoxesData}
use Rattle.tl_desk.specs.Steps.{KeepsBoxes}
use Rattle.tl_desk.specs.Ends.{HaveEnded}
use Rattle.tl_desk.proofs.AttachedLemmas.{Keeps, still_attached}
use Rattle.tl_desk.proofs.EndLemmas.{ends_still}
use Rattle.tl_desk.proofs.TicketLemmas.{tickets_checked, tickets_edited}
use Rattle.tl_check.specs.Output.{ReportData}
use Rattle.tl_desk.specs.Core.{Core, AreLinked, IsOf, IsSound, AreAttached, AreKnown, AreVersions, log_of, standing, most_versions}

still_of : (log : LogData) (e : AnEdit) (report : ReportData) → IsOf log report → IsOf (record log { edits = log.edits ++ e ∷ [] }) report
still_of log e report is =
    let within : report.edit ≤ length log.edits = is.0 in
    let more : length (log.edits ++ e ∷ []) ≡ length log.edits + 1 = length-append log.edits (e ∷ []) in (
      omega (arith, within, more),
      subst (λ edits. IsReport (captures_after (inputs_after log.topo edits)) report.rows) (sym (take-append-le report.edit log.edits (e ∷ []) within)) is.1,
      is.2,
    )

-- What a report says of its edits stays true when others come.
pub reports_stay : (log new : LogData) (e : AnEdit) (reports : List ReportData) → new ≡ record log { edits = log.edits ++ e ∷ [] } → AllByRecursion (IsOf log) reports → AllByRecursion (IsOf new) reports
reports_stay log new e reports is all = subst (λ l. AllByRecursion (IsOf l) reports) (sym is) (go reports all)
  where
    go : (rs : List ReportData) → AllByRecursion (IsOf log) rs → AllByRecursion (IsOf (record log { edits = log.edits ++ e ∷ [] })) rs
    go [] a = tt
    go (r ∷ rs) a = (still_of log e r a.0, go rs a.1)

pub one_more : {X : Type 0} (P : X → Type 0) (xs : List X) (x : X) → AllByRecursion P xs → P x → AllByRecursion P (xs ++ x ∷ [])
one_more P [] x a h = (h, tt)
one_more P (y ∷ xs) x a h = (a.0, one_more P xs x a.1 h)

pub next_version : (from : ℕ) (reports : List ReportData) (report : ReportData) → AreVersions from reports → report.version ≡ from + length reports → AreVersions from (reports ++ report ∷ [])
next_version from [] report are is = (let at : report.version ≡ from + 0 = is in let same : report.version ≡ from = omega arith in same, tt)
next_version from (r ∷ reports) report are is = (are.0, next_version (suc from) reports report are.1 (let at : report.version ≡ from + suc (length reports) = is in omega arith))

-- The report at a place has the version after it.
pub version_at : (from : ℕ) (reports : List ReportData) (place : ℕ) (report : ReportData) → AreVersions from reports → slice_get reports place ≡ Some report → report.version ≡ from + place
version_at from [] place report are found = cc
version_at from (r ∷ reports) zero report are found = let same : r ≡ report = (let both : Some r ≡ Some report = found in cc) in let at : report.version ≡ from = ap (λ (x : ReportData). x.version) (sym same) ∙ are.0 in omega arith
version_at from (r ∷ reports) (suc place) report are found = let later : report.version ≡ suc from + place = version_at (suc from) reports place report are.1 found in omega arith

pub version_found : (result : Option (Bor ReportData)) (reports : List ReportData) (place version : ℕ) → AreVersions 1 reports → is_some result ≡ nat_lt place (length reports)
    → IfSome result (λ x. x.now ≡ get_or reports place x.now) → 1 ≤ version → place ≡ version - 1 → IfSome result (λ x. x.now.version ≡ version)
version_found None reports place version are there at low is = tt
version_found (Some x) reports place version are there at low is =
    let test : nat_lt place (length reports) ≡ true = sym there in
    let below : place < length reports = grind (arith, nat_tests) in
    let found : slice_get reports place ≡ Some x.now = slice_get-get_or reports place x.now below ∙ ap Some (sym at) in
    let same : x.now.version ≡ 1 + place = version_at 1 reports place x.now are found in
    omega (arith, same, low, is)

-- A desk with one report more.
pub published : (old : Core) (report : ReportData) → IsSound old → report.version ≡ length old.reports + 1 → report.edit ≡ length (log_of old).edits
    → IsReport (captures_after (standing old)) report.rows → AreLinked (log_of old).topo report.rows → length old.reports < most_versions → IsSound (record old { reports = old.reports ++ report ∷ [] })
published old report sound version edit rows linked few =
    let whole : take report.edit (log_of old).edits ≡ (log_of old).edits = ap (λ n. take n (log_of old).edits) edit ∙ take-length (log_of old).edits in
    let longer : length (old.reports ++ report ∷ []) ≡ length old.reports + 1 = length-append old.reports (report ∷ []) in
    record {
      attached = sound.attached;
      known = sound.known;
      reports = one_more (IsOf (log_of old)) old.reports report sound.reports
          (omega (arith, edit), subst (λ edits. IsReport (captures_after (inputs_after (log_of old).topo edits)) report.rows) (sym whole) rows, linked);
      versions = next_version 1 old.reports report sound.versions (omega (arith, version));
      few = omega (arith, few, longer);
      tickets = sound.tickets;
      ends = sound.ends;
    }

-- A desk whose log and reports are as they were, whose monitors are the same but for their tallies, and of whose windows some were checked.
pub sound_still : (old : Core) (windows : WatchesData) (boxes : BoxesData) → IsSound old → windows.spans.log ≡ log_of old → KeepsBoxes old.boxes boxes
    → ChecksSome SameSpan old.windows.spans.board windows.spans.board → ChecksSome SameTally old.windows.board windows.board
    → IsSound (record { windows = windows; boxes = boxes; reports = old.reports; tickets = old.tickets })
sound_still old windows boxes sound log keeps managers monitors =
    let kept : Keeps (standing old) old.boxes boxes = still_attached (standing old) old.boxes boxes keeps sound.attached sound.known in
    record {
      attached = subst (λ (l : LogData). AreAttached (inputs_after l.topo l.edits) boxes) (sym log) kept.attached;
      known = subst (λ (l : LogData). AreKnown (inputs_after l.topo l.edits) boxes) (sym log) kept.known;
      reports = subst (λ (l : LogData). AllByRecursion (IsOf l) old.reports) (sym log) sound.reports;
      versions = sound.versions;
      few = sound.few;
      tickets = tickets_checked old.windows windows old.boxes boxes old.tickets log managers monitors kept.tickets sound.tickets;
      ends = ends_still (log_of old) windows.spans.log old.boxes boxes log keeps sound.ends;
    }

-- A desk with one edit more.
pub sound_edited : (old : Core) (e : AnEdit) (windows : WatchesData) (boxes : BoxesData) → IsSound old → EditsBoth old.windows e windows → IsPresent (standing old).fragments → IsPresent (spans.standing windows.spans).fragments
    → Keeps (changed (standing old) e) old.boxes boxes → HaveEnded windows.spans.log boxes → IsSound (record { windows = windows; boxes = boxes; reports = old.reports; tickets = old.tickets })
sound_edited old e windows boxes sound edits before after kept ends =
    let now : spans.standing windows.spans ≡ changed (standing old) e = stands old.windows.spans e windows.spans.log windows.spans.board edits.spans.log in
    record {
      attached = subst (λ (i : InputData). AreAttached i boxes) (sym now) kept.attached;
      known = subst (λ (i : InputData). AreKnown i boxes) (sym now) kept.known;
      reports = reports_stay (log_of old) windows.spans.log e old.reports edits.spans.log sound.reports;
      versions = sound.versions;
      few = sound.few;
      tickets = tickets_edited old.windows e windows old.boxes boxes old.tickets edits before after kept.tickets sound.tickets;
      ends = ends;
    }
