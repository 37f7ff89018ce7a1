-- What the head that a link's bursts tell says of the next beat of its channel.
use Rattle.std.proofs.Common.{◌≡◌, Bor, Option, None, Some, refl, sym, ap, ◌∙◌}
use Rattle.std.specs.Option.{option_map}
use Rattle.std.proofs.lemmas.Option.{none-some, same_Some}
use Rattle.tl_beats.specs.declared.Beat.{Beat}
use Rattle.tl_definitions.specs.declared.Unfinished.{Unfinished}

pub head_is_free : (found : Option (Bor Beat)) (slot : Option Unfinished) → option_map (λ (head : Bor Beat). head.now) found ≡ option_map (λ (burst : Unfinished). burst.head) slot
    → found ≡ None → slot ≡ None
head_is_free found None is none = refl
head_is_free found (Some burst) is none = absurd (none-some burst.head (sym (ap (option_map (λ (head : Bor Beat). head.now)) none) ∙ is))

pub later_is_taken : (found : Option (Bor Beat)) (head : Bor Beat) (slot : Option Unfinished) → option_map (λ (head : Bor Beat). head.now) found ≡ option_map (λ (burst : Unfinished). burst.head) slot
    → found ≡ Some head → (burst : Unfinished) × (slot ≡ Some burst) × (burst.head ≡ head.now)
later_is_taken found head None is some = absurd (none-some head.now (sym is ∙ ap (option_map (λ (head : Bor Beat). head.now)) some))
later_is_taken found head (Some burst) is some = (burst, refl, same_Some burst.head head.now (sym is ∙ ap (option_map (λ (head : Bor Beat). head.now)) some))
