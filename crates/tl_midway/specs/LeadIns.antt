-- Lead-ins of a capture: which beats are in them, and where they end. By what the capture has before a beat of a lead-in, two
-- readings of its channel differ in how many beats are missing. So it isn't certain where the channel's next message begins.
use Rattle.std.specs.Prelude.{ℕ, zero, suc, ◌+◌, ◌&&◌, not, Bool, true, false, List, [], ◌∷◌, ◌++◌, length, map, Option, Some, None, if◌then◌else◌}
use Rattle.std.specs.Io.Iter.{u64_saturate}
use Rattle.tl_tables.specs.declared.Chan.{Chan}
use Rattle.tl_tables.specs.declared.Chan.TheVariants as chan
use Rattle.tl_tables.specs.Messages.{same_chan}
use Rattle.tl_beats.specs.declared.Placed.{Placed}
use Rattle.tl_definitions.specs.Heads.{before_on}
use Rattle.tl_definitions.specs.Known.{Beginning}
use Rattle.tl_definitions.specs.Managers.{declared_links, manager_at}
use Rattle.tl_definitions.specs.OpenTables.{one_if}
use Rattle.tl_definitions.specs.Positions.{beats_of_all, links_of}
use Rattle.tl_definitions.specs.Readings.{in_lead_in, readings_after}
use Rattle.tl_definitions.specs.Rules.{Manager}
use Rattle.tl_edits.specs.Inputs.{InputData}
use Rattle.tl_check.specs.Captured.{areas_at}
use Rattle.tl_midway.specs.Midway.{beginning_of}
use Rattle.tl_midway.specs.declared.lead_ins.HeadsKnown.{HeadsKnown}
use Rattle.tl_midway.specs.declared.midway.Midway.{Midway}

-- A beat of a manager that stands after these is in its channel's lead-in.
abbrev pub leads_in : Manager → Beginning → List Placed → Placed → Bool
leads_in m start before p =
    in_lead_in (readings_after (m.links p.link) (start.most p.link p.beat.chan) start.by_fields (before_on p.link p.beat.chan before))

-- A count with one beat more, if that is in a lead-in.
abbrev pub with_beat : Bool → ℕ → ℕ
with_beat true count = u64_saturate (count + 1)
with_beat false count = count

-- How many of these beats are, the newest first.
abbrev pub lead_ins_of : Manager → Beginning → List Placed → ℕ
lead_ins_of m start [] = 0
lead_ins_of m start (p ∷ before) = lead_ins_of m start before + one_if (leads_in m start before p)

-- The cycle of the first of these beats that is on a channel and in no lead-in, where others of the capture come before them.
abbrev pub first_sure : Manager → Beginning → Chan → List Placed → List Placed → Option ℕ
first_sure m start chan before [] = None
first_sure m start chan before (p ∷ beats) = if same_chan p.beat.chan chan && not (leads_in m start before p) then Some p.beat.cycle
    else first_sure m start chan (p ∷ before) beats

-- The manager of a link.
abbrev pub manager_of : InputData → ℕ → Manager
manager_of now link =
    let number : ℕ = (links_of (declared_links now.topo) link).manager in
    manager_at now.topo number (areas_at now.regions number)

-- The cycle from which on the heads of a link's channel are known, of what edits leave; None where they aren't at any beat.
abbrev pub known_from : Midway → InputData → ℕ → Chan → Option ℕ
known_from law now link chan = first_sure (manager_of now link) (beginning_of law (manager_of now link)) chan [] (beats_of_all (link ∷ []) now.fragments)

-- With its link and its channel.
abbrev pub channel_heads : Midway → InputData → ℕ → Chan → HeadsKnown
channel_heads law now link chan = record { link = link; chan = chan; cycle = known_from law now link chan }

-- Of each channel of the first so many links, from A to E.
abbrev pub links_heads : Midway → InputData → ℕ → List HeadsKnown
links_heads law now zero = []
links_heads law now (suc count) = links_heads law now count ++ map (channel_heads law now count) (chan.A ∷ chan.B ∷ chan.C ∷ chan.D ∷ chan.E ∷ [])

-- Of all links.
abbrev pub all_heads : Midway → InputData → List HeadsKnown
all_heads law now = links_heads law now (length now.topo.links)
