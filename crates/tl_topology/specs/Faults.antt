-- The refusals of a topology text and of a map of regions, by number.
use Rattle.std.specs.Prelude.{ℕ, Bool, true, false, Option, Some, None}
use Rattle.tl_topology.specs.declared.fault.TopoFault.{TopoFault}
use Rattle.tl_topology.specs.declared.fault.TopoFault.TheVariants as fault
use Rattle.tl_topology.specs.declared.region.RegionFault.{RegionFault}
use Rattle.tl_topology.specs.declared.region.RegionFault.TheVariants as region

abbrev pub code_of : TopoFault → ℕ
code_of (fault.BadLine line) = 1
code_of (fault.NameTwice line) = 2
code_of (fault.BadWidth line) = 3
code_of (fault.BadBlock line) = 4
code_of (fault.NoManager line) = 5
code_of (fault.TooManyLinks line) = 6
code_of (fault.TooManyManagers line) = 9
code_of (fault.BadSize line) = 10
code_of (fault.StrictLevel line) = 37
code_of fault.Memory = 20

-- the line that is printed with it
abbrev pub number_of : TopoFault → Option ℕ
number_of (fault.BadLine line) = Some line
number_of (fault.NameTwice line) = Some line
number_of (fault.BadWidth line) = Some line
number_of (fault.BadBlock line) = Some line
number_of (fault.NoManager line) = Some line
number_of (fault.TooManyLinks line) = Some line
number_of (fault.TooManyManagers line) = Some line
number_of (fault.BadSize line) = Some line
number_of (fault.StrictLevel line) = Some line
number_of fault.Memory = None

abbrev pub is_memory : TopoFault → Bool
is_memory fault.Memory = true
is_memory _ = false

abbrev pub region_code_of : RegionFault → ℕ
region_code_of (region.RegionOverlap number) = 7
region_code_of region.NoRegion = 8
region_code_of region.Memory = 20

-- the region that is printed with it
abbrev pub region_number_of : RegionFault → Option ℕ
region_number_of (region.RegionOverlap number) = Some number
region_number_of region.NoRegion = None
region_number_of region.Memory = None
