-- Equalities that tell all values apart.
use Rattle.std.specs.Prelude.{ℕ, ◌≡◌, ◌&&◌, nat_eq, Bool, true, Option, Some, None}
use Rattle.std.proofs.Common.{refl, ap}
use Rattle.std.specs.Bool.{Decides}
use Rattle.std.specs.Option.{option_eq}
use Rattle.std.proofs.lemmas.Bool.Decides.{Decides-eqb, Decides-and, Decides-like}

pub units_exact : (x y : Unit {0}) → Decides true (x ≡ y)
units_exact x y = (λ h. refl, λ e. refl)

pub nats_exact : (x y : ℕ) → Decides (nat_eq x y) (x ≡ y)
nats_exact = Decides-eqb

pub pairs_exact : {A B : Type 0} {E : A → A → Bool} {F : B → B → Bool} → ((x y : A) → Decides (E x y) (x ≡ y)) → ((x y : B) → Decides (F x y) (x ≡ y))
    → (p q : A × B) → Decides (E p.0 q.0 && F p.1 q.1) (p ≡ q)
pairs_exact {A} {B} first second p q =
    Decides-like _ (λ h. λ i. (h.0 i, h.1 i)) (λ e. (ap (λ (x : A × B). x.0) e, ap (λ (x : A × B). x.1) e)) (Decides-and _ _ (first p.0 q.0) (second p.1 q.1))

pub options_exact : {A : Type 0} {E : A → A → Bool} → ((x y : A) → Decides (E x y) (x ≡ y)) → (p q : Option A) → Decides (option_eq E p q) (p ≡ q)
options_exact inner None None = (λ h. refl, λ e. refl)
options_exact inner None (Some y) = (λ h. cc, λ e. cc)
options_exact inner (Some x) None = (λ h. cc, λ e. cc)
options_exact inner (Some x) (Some y) = (λ h. ap Some ((inner x y).0 h), λ e. (inner x y).1 cc)
