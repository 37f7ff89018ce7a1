-- Which messages a channel can carry.

use Rattle.std.proofs.Common.{◌≡◌, ℕ, zero, suc, true, false, cond, List, [], ◌∷◌, Option, Some, None, refl, sym, ap, ◌∙◌}
use Rattle.std.specs.Option.{option_and_then, option_map_or}
use Rattle.std.specs.List.{AllByRecursion, slice_get}
use Rattle.tl_tables.specs.declared.Chan.{Chan}
use Rattle.tl_tables.specs.declared.Chan.TheVariants as chan
use Rattle.tl_tables.specs.declared.Level.{Level}
use Rattle.tl_tables.specs.declared.Op.{Op}
use Rattle.tl_tables.specs.Messages.{codes, least_level, level_le, op_at}
use Rattle.tl_client_rules.specs.Client.{can_carry}

-- ---- what a channel can carry

open_level : (l : Level) (c : Chan) (found : Option Op) (o : Op) → option_and_then (λ x. cond (level_le (least_level c x) l) (Some x) None) found ≡ Some o → found ≡ Some o
open_level l c None o h = cc
open_level l c (Some x) o h = elim (level_le (least_level c x) l) as (λ b. cond b (Some x) None ≡ Some o → Some x ≡ Some o) [ true ↦ λ e. e | false ↦ λ e. cc ] h

listed : (l : Level) (c : Chan) (found : Option (Option Op)) (o : Op)
    → option_and_then (λ x. option_and_then (λ y. cond (level_le (least_level c y) l) (Some y) None) x) found ≡ Some o → found ≡ Some (Some o)
listed l c None o h = cc
listed l c (Some x) o h = ap Some (open_level l c x o h)

abbrev CanCarry : Chan → Option Op → Type 0
CanCarry c found = option_map_or (can_carry c) found true ≡ true

one_of : (c : Chan) (xs : List (Option Op)) (code : ℕ) (o : Op) → AllByRecursion (CanCarry c) xs → slice_get xs code ≡ Some (Some o) → can_carry c o ≡ true
one_of c [] code o all h = cc
one_of c (x ∷ xs) zero o all h = let e : x ≡ Some o = cc in sym (ap (λ found. option_map_or (can_carry c) found true) e) ∙ all.0
one_of c (x ∷ xs) (suc code) o all h = one_of c xs code o all.1 h

all_carried : (c : Chan) → AllByRecursion (CanCarry c) (codes c)
all_carried chan.A = (refl, (refl, (refl, (refl, (refl, (refl, (refl, (refl, tt))))))))
all_carried chan.B = (refl, (refl, (refl, (refl, (refl, (refl, (refl, (refl, tt))))))))
all_carried chan.C = (refl, (refl, (refl, (refl, (refl, (refl, (refl, (refl, tt))))))))
all_carried chan.D = (refl, (refl, (refl, (refl, (refl, (refl, (refl, (refl, tt))))))))
all_carried chan.E = (refl, tt)

pub carried : (l : Level) (c : Chan) (code : ℕ) (o : Op) → op_at l c code ≡ Some o → can_carry c o ≡ true
unfolding op_at
carried l c code o h = one_of c (codes c) code o (all_carried c) (listed l c (slice_get (codes c) code) o h)
