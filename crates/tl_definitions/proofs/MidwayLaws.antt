-- The laws of captures that begin in the middle of a run.
use Rattle.std.proofs.Common.{◌≡◌, ℕ, ◌≤◌, inl, inr, Bool, true, false, List, [], ◌∷◌, ◌++◌, map, refl, sym, ap, subst, ◌∙◌, arith}
use Rattle.std.specs.Prelude.{reverse}
use Rattle.std.specs.List.{Contains}
use Rattle.std.proofs.lemmas.List.{reverse-append}
use Rattle.std.proofs.lemmas.List.Elements.{Contains-append_left, Contains-append_right, Contains-append_cases}
use Rattle.tl_tables.specs.declared.Chan.{Chan}
use Rattle.tl_tables.specs.declared.Rule.{Rule}
use Rattle.tl_topology.specs.declared.LinkDecl.{LinkDecl}
use Rattle.tl_beats.specs.declared.Beat.{Beat}
use Rattle.tl_beats.specs.declared.Placed.{Placed}
use Rattle.tl_beats.specs.declared.Row.{Row}
use Rattle.tl_definitions.specs.Heads.{before_on, unfinished}
use Rattle.tl_definitions.specs.Rules.{Manager}
use Rattle.tl_definitions.specs.Breaks.{rules_at, row_of, rows_after}
use Rattle.tl_definitions.specs.Judging.{snapshot}
use Rattle.tl_definitions.proofs.JudgingLaws.{rules_law, next_snapshot}
use Rattle.tl_definitions.proofs.ReportLaws.{rows_are_breaks}
use Rattle.tl_definitions.proofs.Lists.{contains_none, contains_mapped, mapped_from, onto, onto_reverse}
use Rattle.tl_definitions.specs.Readings.{Reading, told, readings_after}
use Rattle.tl_definitions.specs.Known.{Beginning, readings_of, known_snapshot}
use Rattle.tl_definitions.specs.Printed.{front, printed_rules, printed_after}
use Rattle.tl_definitions.specs.Lawful.{missing_in, AllowsBurst, Allows, any_past, at_heads}
use Rattle.tl_definitions.specs.MidwayLaws.{KnownSnapshotsAllow, PrintedRowsAreCertain, AnyPastHasPrintedRows, PastsOfWholeMessagesHavePrintedRows, PrintedRowsAreOfThePlainReport}
use Rattle.tl_definitions.proofs.Steps.{step_allows}
use Rattle.tl_definitions.proofs.Firsts.{IsClean, clean_onto, first_allows}
use Rattle.tl_definitions.proofs.Judged.{printed_sound}
use Rattle.tl_definitions.proofs.Lengths.{lawful_pasts_leave_at_most}

told_none : (by_fields : Bool) (link : LinkDecl) (beat : Beat) (before : List Beat) (readings : List Reading) → by_fields ≡ false → told by_fields link beat before readings ≡ readings
told_none true link beat before readings e = cc
told_none false link beat before readings e = refl

-- Where no reading is dropped, the beat's readings allow what is unfinished.
read : (m : Manager) (start : Beginning) (newer before : List Placed) (p : Placed) → start.by_fields ≡ false → Allows m (known_snapshot m start newer) (snapshot m before)
    → AllowsBurst (m.links p.link) p.beat.chan (readings_of m start newer p) ((snapshot m before).burst p.link p.beat.chan)
read m start newer before p e a =
    subst (λ readings. AllowsBurst (m.links p.link) p.beat.chan readings ((snapshot m before).burst p.link p.beat.chan))
    (sym (told_none start.by_fields (m.links p.link) p.beat (before_on p.link p.beat.chan newer)
    (readings_after (m.links p.link) (start.most p.link p.beat.chan) start.by_fields (before_on p.link p.beat.chan newer)) e)) (a.burst p.link p.beat.chan)

-- What is known after a front of the capture allows what a lawful past followed by that front leaves.
pub known_allows : (m : Manager) (start : Beginning) (past newer : List Placed) → start.by_fields ≡ false → IsClean m past
    → ((link : ℕ) (chan : Chan) → missing_in (unfinished (m.links link) (before_on link chan past)) ≤ start.most link chan)
    → Allows m (known_snapshot m start newer) (snapshot m (newer ++ past))
known_allows m start past [] e c most = first_allows m start past c most
known_allows m start past (p ∷ newer) e c most =
    let known = known_allows m start past newer e c most in
    subst (Allows m (known_snapshot m start (p ∷ newer))) (next_snapshot m (newer ++ past) p)
    (step_allows m start newer p (snapshot m (newer ++ past)) (read m start newer (newer ++ past) p e known) known)

rule_there : (m : Manager) (start : Beginning) (past newer : List Placed) (p : Placed) (r : Rule) → start.by_fields ≡ false → IsClean m past
    → ((link : ℕ) (chan : Chan) → missing_in (unfinished (m.links link) (before_on link chan past)) ≤ start.most link chan)
    → Contains (printed_rules m start newer p) r → Contains (rules_at m (newer ++ past) p) r
rule_there m start past newer p r e c most h =
    let known = known_allows m start past newer e c most in
    subst (λ rules. Contains rules r) (rules_law m (newer ++ past) p)
    (printed_sound m (front m start newer) (readings_of m start newer p) (newer ++ past) p r known.past ((snapshot m (newer ++ past)).burst p.link p.beat.chan)
    (read m start newer (newer ++ past) p e known) h)

row_there : (m : Manager) (start : Beginning) (past newer beats : List Placed) (row : Row) → start.by_fields ≡ false → IsClean m past
    → ((link : ℕ) (chan : Chan) → missing_in (unfinished (m.links link) (before_on link chan past)) ≤ start.most link chan)
    → Contains (printed_after m start newer beats) row → Contains (rows_after m (newer ++ past) beats) row
row_there m start past newer [] row e c most h = absurd (contains_none row h)
row_there m start past newer (p ∷ beats) row e c most h = elim (Contains-append_cases (map (row_of p) (printed_rules m start newer p)) (printed_after m start (p ∷ newer) beats) row h) [
  | inl here ↦ (let found = mapped_from (row_of p) (printed_rules m start newer p) row here in
      Contains-append_left (map (row_of p) (rules_at m (newer ++ past) p)) (rows_after m (p ∷ newer ++ past) beats) row
      (subst (Contains (map (row_of p) (rules_at m (newer ++ past) p))) found.2
      (contains_mapped (row_of p) (rules_at m (newer ++ past) p) found.0 (rule_there m start past newer p found.0 e c most found.1))))
  | inr later ↦ Contains-append_right (map (row_of p) (rules_at m (newer ++ past) p)) (rows_after m (p ∷ newer ++ past) beats) row (row_there m start past (p ∷ newer) beats row e c most later)
]

-- Rows of beats that come after a past are among those of both.
pub after_past : (m : Manager) (before past beats : List Placed) (row : Row) → Contains (rows_after m (onto before past) beats) row → Contains (rows_after m before (past ++ beats)) row
after_past m before [] beats row h = h
after_past m before (p ∷ past) beats row h =
    Contains-append_right (map (row_of p) (rules_at m before p)) (rows_after m (p ∷ before) (past ++ beats)) row (after_past m (p ∷ before) past beats row h)

pub printed_rows_are_certain : PrintedRowsAreCertain
printed_rows_are_certain m start past beats e lawful most row h =
    (rows_are_breaks m (past ++ beats) row).0 (after_past m [] past beats row (row_there m start (onto [] past) [] beats row e (clean_onto m [] past lawful tt)
    (λ link chan. subst (λ before. missing_in (unfinished (m.links link) (before_on link chan before)) ≤ start.most link chan) (sym (onto_reverse [] past)) (most link chan)) h))

pub printed_rows_are_of_the_plain_report : PrintedRowsAreOfThePlainReport
printed_rows_are_of_the_plain_report m start beats e row h = row_there m start [] [] beats row e tt (λ link chan. let none : 0 ≤ start.most link chan = omega arith in none) h

pub any_past_has_printed_rows : AnyPastHasPrintedRows
any_past_has_printed_rows m past beats lawful row h = printed_rows_are_certain m (any_past m) past beats refl lawful (lawful_pasts_leave_at_most m past lawful) row h

pub pasts_of_whole_messages_have_printed_rows : PastsOfWholeMessagesHavePrintedRows
pasts_of_whole_messages_have_printed_rows m past beats lawful most row h = printed_rows_are_certain m at_heads past beats refl lawful most row h

pub known_snapshots_allow : KnownSnapshotsAllow
known_snapshots_allow m start past newer e lawful most =
    let before : List Placed = onto [] past in
    let known = known_allows m start before (reverse newer) e (clean_onto m [] past lawful tt)
    (λ link chan. subst (λ ps. missing_in (unfinished (m.links link) (before_on link chan ps)) ≤ start.most link chan) (sym (onto_reverse [] past)) (most link chan)) in
    subst (λ ps. Allows m (known_snapshot m start (reverse newer)) (snapshot m ps)) (ap (λ ps. reverse newer ++ ps) (onto_reverse [] past) ∙ sym (reverse-append past newer)) known
