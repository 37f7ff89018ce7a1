-- What each command of a script asks for.
use Rattle.std.specs.Prelude.{List, [], ◌∷◌, Result, Ok, Err}
use Rattle.std.specs.List.{flat_map}
use Rattle.tl_text.specs.Words.{lines_of}
use Rattle.tl_beats.specs.Fragments.{Frag}
use Rattle.tl_beats.specs.Reading.{whole_fragment_in}
use Rattle.tl_beats.specs.declared.fault.FragmentFault.{FragmentFault}
use Rattle.tl_beats.specs.declared.watch.Watch.{Watch}
use Rattle.tl_edits.specs.Edits.{AnEdit, plain_change, add, replace, withdraw, clear_link, set_region, remove_region, attach, retune, detach}
use Rattle.tl_script.specs.declared.command.Command.{Command}
use Rattle.tl_script.specs.declared.command.Command.TheVariants as command
use Rattle.tl_script.specs.declared.asked.Asked.{Asked}
use Rattle.tl_script.specs.declared.asked.Asked.TheVariants as asks

-- an edit; nothing, since its bytes are the text of no fragment; or a report
pub data Asking : Type 0 where
  an_edit : AnEdit → Asking
  no_fragment : FragmentFault → Asking
  a_report : Asking

-- an edit with the fragment that a text is
abbrev pub with_fragment : (Frag → AnEdit) → Result Frag FragmentFault → Asking
with_fragment edit (Ok fragment) = an_edit (edit fragment)
with_fragment edit (Err fault) = no_fragment fault

-- a fragment wherever it lies in memory
abbrev pub read_as : {X : Type 0} → (X → Frag) → Result X FragmentFault → Result Frag FragmentFault
read_as value (Ok shared) = Ok (value shared)
read_as value (Err fault) = Err fault

unfoldable pub asked : Command → Asking
asked (command.Add text) = with_fragment add (whole_fragment_in (lines_of text))
asked (command.Replace text) = with_fragment replace (whole_fragment_in (lines_of text))
asked (command.Withdraw link number) = an_edit (withdraw link number)
asked (command.Clear link) = an_edit (clear_link link)
asked (command.SetRegion manager number area) = an_edit (set_region manager number area)
asked (command.RemoveRegion manager number) = an_edit (remove_region manager number)
asked (command.Attach number watch) = an_edit (attach number watch)
asked (command.Retune number limit) = an_edit (retune number limit)
asked (command.Detach number) = an_edit (detach number)
asked command.Publish = a_report

abbrev pub asking : Asked → Asking
asking (asks.Change change) = an_edit (plain_change change)
asking (asks.Attach number watch) = an_edit (attach number watch)
asking (asks.NoFragment fault) = no_fragment fault
asking asks.Report = a_report

-- ---- the monitors that commands attach

-- the watch of the monitor that comes with an edit, if one does
abbrev pub attached_in : AnEdit → List Watch
attached_in (attach number watch) = watch ∷ []
attached_in _ = []

-- the same of what is asked for
abbrev pub attached_by : Asking → List Watch
attached_by (an_edit e) = attached_in e
attached_by (no_fragment fault) = []
attached_by a_report = []

-- The watches of the monitors that commands attach, in their order.
abbrev pub watches_of : List Command → List Watch
watches_of commands = flat_map (λ c. attached_by (asked c)) commands
