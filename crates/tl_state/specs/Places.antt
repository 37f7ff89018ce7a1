-- Places of a map by block.
use Rattle.std.specs.Prelude.{ℕ, ◌≡◌, Option, Some, None, option_map, refl}
use Rattle.std.specs.Option.{option_map_or}
use Rattle.std.proofs.Common.{sym}
use Rattle.tl_state.specs.declared.place.Place.TheInside.{Inside}

-- What stands at a place: a block with its value, if one does.
abbrev pub held : {V : Type 0} → Inside V → Option (ℕ × V)
held place = option_map (λ value. (place.block, value)) place.value

-- A free place has block 0, so that what stands at a place tells all of it.
abbrev pub IsPlain : {V : Type 0} → Inside V → Type 0
IsPlain place = place.value ≡ None → place.block ≡ 0

abbrev pub place_of : {V : Type 0} → Option (ℕ × V) → Inside V
place_of held = record { block = option_map_or (λ h. h.0) held 0; value = option_map (λ h. h.1) held }

same_block : {V : Type 0} (block : ℕ) (value : Option V) → (value ≡ None → block ≡ 0) → option_map_or {T = ℕ × V} (λ h. h.0) (option_map (λ v. (block, v)) value) 0 ≡ block
same_block block (Some v) plain = refl
same_block block None plain = sym (plain refl)

same_value : {V : Type 0} (block : ℕ) (value : Option V) → option_map {T = ℕ × V} (λ h. h.1) (option_map (λ v. (block, v)) value) ≡ value
same_value block (Some v) = refl
same_value block None = refl

pub gives_back : {V : Type 0} (place : Inside V) → IsPlain place → place_of (held place) ≡ place
gives_back place plain i = record { block = same_block place.block place.value plain i; value = same_value place.block place.value i }
