-- Orders that compare one thing first and then another, and channels by their numbers.
use Rattle.std.proofs.Common.{◌≡◌, ℕ, ◌<◌, List, [], ◌∷◌, Some, refl, sym, ap, ◌∙◌}
use Rattle.std.specs.Prelude.{slice_get}
use Rattle.std.specs.declared.cmp.Ordering.{Ordering}
use Rattle.std.specs.declared.cmp.Ordering.TheVariants.{Less, Equal, Greater}
use Rattle.std.specs.Ordering.{nat_cmp, ordering_then}
use Rattle.std.specs.Cmp.{nat_cmp_is}
use Rattle.std.proofs.lemmas.Cmp.{nat_cmp_total, tied_itself}
use Rattle.tl_tables.specs.declared.Chan.{Chan}
use Rattle.tl_tables.specs.declared.Chan.TheVariants as chan
use Rattle.tl_tables.specs.Messages.{chan_number}

-- Where the whole ties, both parts do.
pub tie_first : (o p : Ordering) → ordering_then o p ≡ Equal → o ≡ Equal
tie_first Less p h = cc
tie_first Equal p h = refl
tie_first Greater p h = cc

pub tie_rest : (o p : Ordering) → ordering_then o p ≡ Equal → p ≡ Equal
tie_rest Less p h = cc
tie_rest Equal p h = h
tie_rest Greater p h = cc

pub both_tie : (o p : Ordering) → o ≡ Equal → p ≡ Equal → ordering_then o p ≡ Equal
both_tie Less p h g = cc
both_tie Equal p h g = g
both_tie Greater p h g = cc

-- The first part decides, and the second where the first ties.
pub then_less : (o p : Ordering) → o ≡ Less → ordering_then o p ≡ Less
then_less Less p h = refl
then_less Equal p h = cc
then_less Greater p h = cc

pub tie_then_less : (o p : Ordering) → o ≡ Equal → p ≡ Less → ordering_then o p ≡ Less
tie_then_less Less p h g = cc
tie_then_less Equal p h g = g
tie_then_less Greater p h g = cc

-- Numbers.
pub tied : (m n : ℕ) → m ≡ n → nat_cmp m n ≡ Equal
tied m n e = ap (nat_cmp m) (sym e) ∙ tied_itself nat_cmp_total m

pub below : (m n : ℕ) → m < n → nat_cmp m n ≡ Less
below m n h = sym (nat_cmp_is m n Less h)

-- Channels with one number are one.
abbrev all_chans : List Chan
all_chans = chan.A ∷ chan.B ∷ chan.C ∷ chan.D ∷ chan.E ∷ []

chan_at : (c : Chan) → slice_get all_chans (chan_number c) ≡ Some c
chan_at chan.A = refl
chan_at chan.B = refl
chan_at chan.C = refl
chan_at chan.D = refl
chan_at chan.E = refl

pub one_chan : (x y : Chan) → chan_number x ≡ chan_number y → x ≡ y
one_chan x y e = let same : Some x ≡ Some y = sym (chan_at x) ∙ ap (slice_get all_chans) e ∙ chan_at y in cc
