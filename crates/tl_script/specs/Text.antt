-- The one spelling of a command, and of a script.
use Rattle.std.specs.Prelude.{◌≡◌, ℕ, ◌<◌, ◌≤◌, ◌^◌, Bool, true, if◌then◌else◌, List, [], ◌∷◌, ◌++◌, length, codes}
use Rattle.std.specs.List.{flat_map}
use Rattle.tl_text.specs.Numbers.{numeral}
use Rattle.tl_text.specs.Names.{is_name}
use Rattle.tl_text.specs.Words.{◌␣◌, ended}
use Rattle.tl_topology.specs.Regions.{Area}
use Rattle.tl_topology.specs.declared.region.Permits.{Permits}
use Rattle.tl_beats.specs.Text.{chan_text}
use Rattle.tl_beats.specs.declared.watch.Watch.{Watch}
use Rattle.tl_beats.specs.declared.watch.Watch.TheVariants as watch
use Rattle.tl_script.specs.declared.command.Command.{Command}
use Rattle.tl_script.specs.declared.command.Command.TheVariants as command
use Rattle.tl_script.specs.Commands.{bytes_of}

-- a letter, or '-'
abbrev pub permit_text : ℕ → Bool → ℕ
permit_text letter permitted = if permitted then letter else 45

-- the places of gpahc
unfoldable pub permits_text : Permits → List ℕ
permits_text p = permit_text 103 p.get ∷ permit_text 112 p.put ∷ permit_text 97 p.atomic ∷ permit_text 104 p.hint ∷ permit_text 99 p.cache ∷ []

-- the link, a class and a limit, or two classes
unfoldable pub watch_text : Watch → List ℕ
watch_text (watch.Budget link class limit) = codes "budget" ␣ link ␣ chan_text class.chan ␣ numeral 10 class.opcode ␣ numeral 10 limit
watch_text (watch.After link first second) = codes "after" ␣ link ␣ chan_text first.chan ␣ numeral 10 first.opcode ␣ chan_text second.chan ␣ numeral 10 second.opcode

-- its line
unfoldable pub line_of : Command → List ℕ
line_of (command.Add text) = codes "add" ␣ numeral 10 (length text)
line_of (command.Replace text) = codes "replace" ␣ numeral 10 (length text)
line_of (command.Withdraw link number) = codes "withdraw" ␣ link ␣ numeral 10 number
line_of (command.Clear link) = codes "clear" ␣ link
line_of (command.SetRegion manager number area) = codes "region" ␣ manager ␣ numeral 10 number ␣ numeral 16 area.first ␣ numeral 16 area.last ␣ permits_text area.permits
line_of (command.RemoveRegion manager number) = codes "unregion" ␣ manager ␣ numeral 10 number
line_of (command.Attach number watch) = codes "attach" ␣ numeral 10 number ␣ watch_text watch
line_of (command.Retune number limit) = codes "retune" ␣ numeral 10 number ␣ numeral 10 limit
line_of (command.Detach number) = codes "detach" ␣ numeral 10 number
line_of command.Publish = codes "publish"

-- its line, and the bytes that follow that
abbrev pub command_text : Command → List ℕ
command_text c = ended (line_of c) ++ bytes_of c

-- one command after the other
abbrev pub script_text : List Command → List ℕ
script_text commands = flat_map command_text commands

-- ---- what has a spelling

abbrev pub IsWatch : Watch → Type 0
IsWatch (watch.Budget link class limit) = (is_name link ≡ true) × (class.opcode ≤ 7) × (limit < 2 ^ 32)
IsWatch (watch.After link first second) = (is_name link ≡ true) × (first.opcode ≤ 7) × (second.opcode ≤ 7)

pub record IsArea (area : Area) : Type 0 where
  pub order : area.first ≤ area.last
  pub last : area.last < 2 ^ 64

-- Names are names, a text has at most 8,388,608 bytes, regions are numbered below 256, and no other number is 2^32 or more.
unfoldable pub IsCommand : Command → Type 0
IsCommand (command.Add text) = length text ≤ 8388608
IsCommand (command.Replace text) = length text ≤ 8388608
IsCommand (command.Withdraw link number) = (is_name link ≡ true) × (number < 2 ^ 32)
IsCommand (command.Clear link) = is_name link ≡ true
IsCommand (command.SetRegion manager number area) = (is_name manager ≡ true) × (number < 256) × IsArea area
IsCommand (command.RemoveRegion manager number) = (is_name manager ≡ true) × (number < 256)
IsCommand (command.Attach number watch) = (number < 2 ^ 32) × IsWatch watch
IsCommand (command.Retune number limit) = (number < 2 ^ 32) × (limit < 2 ^ 32)
IsCommand (command.Detach number) = number < 2 ^ 32
IsCommand command.Publish = Unit {0}
