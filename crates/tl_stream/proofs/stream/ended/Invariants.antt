use Rattle.std.proofs.Common.{◌≡◌, ◌≤◌, length}
use Rattle.std.specs.Prelude.{ℕ, List, Option, Some, slice_get}
use Rattle.std.specs.Io.Iter.{u64_saturate}
use Rattle.tl_definitions.specs.Positions.{Recorded}
use Rattle.tl_check.specs.Captured.{areas_at}
use Rattle.tl_midway.specs.Counts.{managers_counted}
use Rattle.tl_midway.specs.LeadIns.{leads_in}
use Rattle.tl_midway.specs.declared.midway.Midway.{Midway}
use Rattle.tl_stream.specs.Courses.{HasEnded}
use Rattle.tl_stream.specs.Told.{untold_of}
use Rattle.tl_stream.proofs.stream.ended.Given as goal

-- the courses that are left, and the rows and lead-ins of the others
abbrev pub invariant-loop-manager : goal.invariant-loop-manager
invariant-loop-manager l = record {
  many : length l.courses ≡ length l.fn.courses;
  rest : (k : ℕ) → l.manager ≤ k → slice_get l.courses k ≡ slice_get l.fn.courses k;
  told : (midway : Option Midway) (fs : List Recorded) → HasEnded midway l.topo (areas_at l.regions) fs l.waiting l.fn.courses
      → l.rows.items ≡ untold_of midway l.topo (areas_at l.regions) fs l.manager;
  lead_ins : (law : Midway) (fs : List Recorded) → HasEnded (Some law) l.topo (areas_at l.regions) fs l.waiting l.fn.courses
      → l.lead_ins ≡ u64_saturate (managers_counted leads_in law l.topo (areas_at l.regions) fs l.manager);
}
