-- One beat of a manager judged: its rows, and what is known after it.
use Rattle.std.proofs.Common.{◌≡◌, Bool, true, false, Result, List, ◌∷◌, ◌++◌, map, sym, ap, ◌∙◌}
use Rattle.std.specs.Prelude.{OnOk}
use Rattle.tl_topology.specs.Regions.{Area}
use Rattle.tl_topology.specs.declared.LinkDecl.{LinkDecl}
use Rattle.tl_beats.specs.declared.Placed.{Placed}
use Rattle.tl_beats.specs.declared.Row.{Row}
use Rattle.tl_tables.specs.declared.Rule.{Rule}
use Rattle.tl_definitions.specs.Breaks.{row_of}
use Rattle.tl_definitions.specs.Readings.{may_begin, must_begin}
use Rattle.tl_definitions.specs.Rules.{Manager}
use Rattle.tl_definitions.specs.Known.{Beginning, readings_of}
use Rattle.tl_definitions.specs.Printed.{front, printed_rules}
use Rattle.tl_midway.specs.Standing.{later_broken}
use Rattle.tl_midway.specs.ManagerReadings as manager_readings
use Rattle.tl_midway.specs.KnownPasts as known_pasts
use Rattle.tl_midway.specs.KnownPasts.{MayBegin}
use Rattle.tl_midway.specs.State.{StandsFor, Serves}
use Rattle.tl_midway.specs.declared.known_pasts.KnownPasts.{KnownPasts}
use Rattle.tl_midway.specs.declared.manager_readings.ManagerReadings.{ManagerReadings}
use Rattle.tl_midway.proofs.KnownPastLaws.{later_stands}
use Rattle.tl_midway.proofs.PrintedLaws.{later_printed}
use Rattle.tl_midway.proofs.Results.{on_ok, whatever}

module _ (m : Manager) (start : Beginning) (before : List Placed) (p : Placed) (link : LinkDecl) (areas : List Area) (serves : Serves m p.link link areas) where
  pub begins : (certain : Bool) → must_begin (readings_of m start before p) ≡ certain → may_begin (readings_of m start before p) ≡ true → MayBegin m start before p certain link
  begins certain must may = record { declared = serves.declared; must = must; may = may }

  -- The rows of a beat that may be a later one.
  pub later_rows : (rules : List Rule) (r0 r1 : List Row) → must_begin (readings_of m start before p) ≡ false → rules ≡ later_broken link p.beat (readings_of m start before p)
      → r1 ≡ r0 ++ map (row_of p) rules → r1 ≡ r0 ++ map (row_of p) (printed_rules m start before p)
  later_rows rules r0 r1 must are put =
      put ∙ ap (λ rs. r0 ++ map (row_of p) rs)
      (are ∙ ap (λ d. later_broken d p.beat (readings_of m start before p)) (sym serves.declared) ∙ sym (later_printed m (front m start before) p (readings_of m start before p) must))

  pub both_stand : {X E : Type 0} (made : Result X E) (readings : ManagerReadings) (pasts : KnownPasts) → manager_readings.StandsFor m start readings (p ∷ before)
      → OnOk made (known_pasts.StandsFor m start pasts (p ∷ before)) → OnOk made (StandsFor m start (record { readings = readings; pasts = pasts }) (p ∷ before))
  both_stand made readings pasts one two = on_ok made (λ stands. record { readings = one; pasts = stands }) two

  pub later_both : {X E : Type 0} (made : Result X E) (readings : ManagerReadings) (pasts : KnownPasts) → manager_readings.StandsFor m start readings (p ∷ before)
      → may_begin (readings_of m start before p) ≡ false → known_pasts.StandsFor m start pasts before
      → OnOk made (StandsFor m start (record { readings = readings; pasts = pasts }) (p ∷ before))
  later_both made readings pasts one later two = whatever made (record { readings = one; pasts = later_stands m start before p pasts later two })
