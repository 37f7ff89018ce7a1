-- Equal states show the same on each channel, and no others.
use Rattle.std.proofs.Common.{◌≡◌, ℕ, zero, suc, ◌<◌, length, get_or, None, refl, sym, ap, subst, ◌∙◌, arith, Bool}
use Rattle.std.specs.Prelude.{◌==◌, ◌&&◌}
use Rattle.std.specs.Bool.{Decides}
use Rattle.std.specs.Option.{option_eq}
use Rattle.std.specs.Cmp.Lexicographic.{pointwise}
use Rattle.std.proofs.lemmas.Bool.Decides.{Decides-eqb, Decides-and, Decides-like}
use Rattle.std.proofs.lemmas.List.{ext_get_or}
use Rattle.std.proofs.lemmas.Slice.Eq.{slice_eq-Decides}
use Rattle.tl_tables.specs.declared.Chan.{Chan}
use Rattle.tl_tables.specs.declared.Chan.TheVariants as chan
use Rattle.tl_tables.specs.Messages.{chan_number}
use Rattle.tl_beats.specs.declared.Beat.{Beat}
use Rattle.tl_definitions.specs.declared.Unfinished.{Unfinished}
use Rattle.tl_same.specs.Exact.{options_exact}
use Rattle.tl_link_rules.specs.declared.bursts.BurstState.{BurstState}
use Rattle.tl_link_rules.specs.Bursts.{SameBursts}

-- the equality of bursts, from that of their heads
pub bursts_exact : {E : Beat → Beat → Bool} → ((x y : Beat) → Decides (E x y) (x ≡ y)) → (x y : Unfinished)
    → Decides (E x.head y.head && (x.missing == y.missing)) (x ≡ y)
bursts_exact heads x y =
    Decides-like _ (λ h. λ i. record { head = h.0 i; missing = h.1 i }) (λ e. (ap (λ (u : Unfinished). u.head) e, ap (λ (u : Unfinished). u.missing) e))
    (Decides-and _ _ (heads x.head y.head) (Decides-eqb x.missing y.missing))

-- each slot is a channel's
chan_at : (n : ℕ) → n < 5 → (c : Chan) × (chan_number c ≡ n)
chan_at zero h = (chan.A, refl)
chan_at (suc zero) h = (chan.B, refl)
chan_at (suc (suc zero)) h = (chan.C, refl)
chan_at (suc (suc (suc zero))) h = (chan.D, refl)
chan_at (suc (suc (suc (suc zero)))) h = (chan.E, refl)
chan_at (suc (suc (suc (suc (suc n))))) h = absurd (omega arith)

slots_same : (one two : BurstState) → length one.slots ≡ 5 → length two.slots ≡ 5 → SameBursts one two → one.slots ≡ two.slots
slots_same one two five fifth same =
    ext_get_or None one.slots two.slots (five ∙ sym fifth)
    (λ n below. let at = chan_at n (omega arith) in subst (λ k. get_or one.slots k None ≡ get_or two.slots k None) at.1 (same at.0))

-- what `==` says of states, where it tells heads apart
pub same_law : {E : Unfinished → Unfinished → Bool} → ((x y : Unfinished) → Decides (E x y) (x ≡ y)) → (one two : BurstState) (equal : Bool)
    → length one.slots ≡ 5 → length two.slots ≡ 5 → equal ≡ pointwise (option_eq E) one.slots two.slots → Decides equal (SameBursts one two)
same_law exact one two equal five fifth is =
    Decides-like _ (λ e c. ap (λ slots. get_or slots (chan_number c) None) e) (slots_same one two five fifth)
    (slice_eq-Decides (options_exact exact) one.slots two.slots equal is)
