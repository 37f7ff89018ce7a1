use Rattle.std.proofs.Common.{◌≡◌, length}
use Rattle.std.specs.Prelude.{ℕ, Some, slice_get}
use Rattle.tl_stream.specs.Courses.{IsNewCourse}
use Rattle.tl_stream.specs.declared.course.Course.{Course}
use Rattle.tl_stream.proofs.stream.new_courses.Given as goal

-- the first courses
abbrev pub invariant-loop-manager : goal.invariant-loop-manager
invariant-loop-manager l = record {
  count : length l.courses.items ≡ l.manager;
  each : (manager : ℕ) (course : Course) → slice_get l.courses.items manager ≡ Some course → IsNewCourse l.midway l.topo manager course;
}
