-- The monitor that a command attaches, made ready.
use Rattle.std.proofs.Common.{◌≡◌, ℕ, List, [], ◌∷◌, ◌++◌, append-nil, Option, Some, None, Result, Ok, Err, refl, sym, ap, ◌∙◌}
use Rattle.std.specs.Prelude.{true}
use Rattle.std.specs.Option.{option_map_or}
use Rattle.tl_text.specs.Words.{lines_of}
use Rattle.tl_beats.specs.Fragments.{Frag}
use Rattle.tl_beats.specs.Reading.{whole_fragment_in}
use Rattle.tl_beats.specs.declared.fault.FragmentFault.{FragmentFault}
use Rattle.tl_beats.specs.declared.watch.Watch.{Watch}
use Rattle.tl_edits.specs.Edits.{add, replace}
use Rattle.tl_script.specs.Commands.{monitor_of}
use Rattle.tl_script.specs.declared.command.Command.{Command}
use Rattle.tl_script.specs.declared.command.Command.TheVariants as command
use Rattle.tl_script.specs.Asked.{asked, attached_by, with_fragment}
use Rattle.tl_run.specs.Output.{RunData, supplied}

none_added : (read : Result Frag FragmentFault) → attached_by (with_fragment add read) ≡ []
none_added (Ok fragment) = refl
none_added (Err why) = refl

none_replaced : (read : Result Frag FragmentFault) → attached_by (with_fragment replace read) ≡ []
none_replaced (Ok fragment) = refl
none_replaced (Err why) = refl

abbrev watch_in : Option (ℕ × Watch) → List Watch
watch_in monitor = option_map_or (λ (m : ℕ × Watch). m.1 ∷ []) monitor []

attached_is : (c : Command) → attached_by (asked c) ≡ watch_in (monitor_of c)
unfolding asked
attached_is (command.Add text) = none_added (whole_fragment_in (lines_of text))
attached_is (command.Replace text) = none_replaced (whole_fragment_in (lines_of text))
attached_is (command.Withdraw link number) = refl
attached_is (command.Clear link) = refl
attached_is (command.SetRegion manager number area) = refl
attached_is (command.RemoveRegion manager number) = refl
attached_is (command.Attach number watch) = refl
attached_is (command.Retune number limit) = refl
attached_is (command.Detach number) = refl
attached_is command.Publish = refl

pub none_made : (run : RunData) (c : Command) → monitor_of c ≡ None → run ≡ supplied true (asked c) run
none_made run c e = ap (λ bs. record { setting = run.setting; now = run.now; boxes = bs }) (sym (append-nil run.boxes) ∙ ap (λ ws. run.boxes ++ ws) (sym (attached_is c ∙ ap watch_in e)))

pub one_made : (old new : RunData) (c : Command) (number : ℕ) (watch held : Watch) → monitor_of c ≡ Some (number, watch) → held ≡ watch → new.setting ≡ old.setting → new.now ≡ old.now → new.boxes ≡ old.boxes ++ held ∷ []
    → new ≡ supplied true (asked c) old
one_made old new c number watch held e same setting now boxes =
    ap (λ t. record { setting = t; now = new.now; boxes = new.boxes }) setting
    ∙ ap (λ n. record { setting = old.setting; now = n; boxes = new.boxes }) now
    ∙ ap (λ bs. record { setting = old.setting; now = old.now; boxes = bs }) (boxes ∙ ap (λ w. old.boxes ++ w ∷ []) same ∙ ap (λ ws. old.boxes ++ ws) (sym (attached_is c ∙ ap watch_in e)))
