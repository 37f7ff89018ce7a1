-- An edit as plain data, and the refusals of edits by number.
use Rattle.std.specs.Prelude.{ℕ, List, Option, Some, None}
use Rattle.std.specs.Arc.{arc_value}
use Rattle.tl_topology.specs.Regions.{Area}
use Rattle.tl_beats.specs.Fragments.{Frag}
use Rattle.tl_beats.specs.declared.watch.Watch.{Watch}
use Rattle.tl_edits.specs.declared.edit.Change.{Change}
use Rattle.tl_edits.specs.declared.edit.Change.TheVariants as change
use Rattle.tl_edits.specs.declared.edit.Edit.{Edit}
use Rattle.tl_edits.specs.declared.edit.Edit.TheVariants as edit
use Rattle.tl_edits.specs.declared.fault.EditFault.{EditFault}
use Rattle.tl_edits.specs.declared.fault.EditFault.TheVariants as fault
use Rattle.tl_edits.specs.declared.fault.PastFault.{PastFault}
use Rattle.tl_edits.specs.declared.fault.PastFault.TheVariants as past

-- links and managers by name, fragments, regions and monitors by number
pub data AnEdit : Type 0 where
  add : Frag → AnEdit
  replace : Frag → AnEdit
  withdraw : List ℕ → ℕ → AnEdit
  clear_link : List ℕ → AnEdit
  set_region : List ℕ → ℕ → Area → AnEdit
  remove_region : List ℕ → ℕ → AnEdit
  attach : ℕ → Watch → AnEdit
  retune : ℕ → ℕ → AnEdit
  detach : ℕ → AnEdit

abbrev pub plain_change : Change → AnEdit
plain_change (change.Add fragment) = add (arc_value fragment)
plain_change (change.Replace fragment) = replace (arc_value fragment)
plain_change (change.Withdraw link number) = withdraw link number
plain_change (change.ClearLink link) = clear_link link
plain_change (change.SetRegion manager number region) = set_region manager number region
plain_change (change.RemoveRegion manager number) = remove_region manager number
plain_change (change.Retune monitor limit) = retune monitor limit
plain_change (change.Detach monitor) = detach monitor

abbrev pub plain : Edit → AnEdit
plain (edit.Change c) = plain_change c
plain (edit.Attach monitor w) = attach monitor w

abbrev pub code_of : EditFault → ℕ
code_of fault.UnknownLink = 21
code_of fault.FragmentExists = 22
code_of fault.NoFragment = 23
code_of (fault.RangeOverlap number) = 24
code_of (fault.RegionOverlap number) = 25
code_of fault.NoRegion = 26
code_of fault.MonitorExists = 27
code_of fault.NoMonitor = 28
code_of fault.WrongKind = 29
code_of fault.LogFull = 30
code_of fault.UnknownManager = 35
code_of fault.Memory = 20

-- the fragment or region that is printed with it
abbrev pub number_of : EditFault → Option ℕ
number_of (fault.RangeOverlap number) = Some number
number_of (fault.RegionOverlap number) = Some number
number_of _ = None

abbrev pub past_code_of : PastFault → ℕ
past_code_of (past.NoSuchEdit edit) = 43
past_code_of past.Memory = 20

-- the edit that was asked for
abbrev pub past_number_of : PastFault → Option ℕ
past_number_of (past.NoSuchEdit edit) = Some edit
past_number_of past.Memory = None
