-- Channels and rules are equal exactly where their numbers are.
use Rattle.std.specs.Prelude.{ℕ, ◌≡◌, ◌==◌, ◌+◌}
use Rattle.std.proofs.Common.{refl, ap, sym, ◌∙◌, arith}
use Rattle.std.proofs.lemmas.Bool.Decides.{nat_tests}
use Rattle.std.specs.Ordering.{nat_cmp, eq_by_cmp, on}
use Rattle.std.specs.Cmp.{unsigned_ties}
use denote.Enum.Bare.{sameb}
use denote.Enum.Declared.{tag_of}
use Rattle.tl_tables.specs.contracts.Chan as chans
use Rattle.tl_tables.specs.contracts.Rule.{the_type}
use Rattle.tl_tables.specs.declared.Chan.{Chan}
use Rattle.tl_tables.specs.declared.Chan.TheVariants as chan
use Rattle.tl_tables.specs.declared.Rule.{Rule}
use Rattle.tl_tables.specs.Messages.{chan_number}
use Rattle.tl_tables.specs.Rules.{rule_number}

next_ties : (m n : ℕ) → (m == n) ≡ ((m + 1) == (n + 1))
next_ties m n = grind (arith, nat_tests)

pub rules_tie : (x y : Rule) → sameb the_type x y ≡ eq_by_cmp (on rule_number nat_cmp) x y
rules_tie x y = next_ties (tag_of the_type x) (tag_of the_type y) ∙ unsigned_ties (rule_number x) (rule_number y)

tag_is : (c : Chan) → tag_of chans.the_type c ≡ chan_number c
tag_is chan.A = refl
tag_is _ = refl

pub chans_tie : (x y : Chan) → sameb chans.the_type x y ≡ eq_by_cmp (on chan_number nat_cmp) x y
chans_tie x y = ap (λ t. t == tag_of chans.the_type y) (tag_is x) ∙ ap (λ t. chan_number x == t) (tag_is y) ∙ unsigned_ties (chan_number x) (chan_number y)
