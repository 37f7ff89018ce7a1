-- Clones that are their sources.
use Rattle.std.specs.Prelude.{◌≡◌}

pub pairs_faithful : {A B : Type 0} {C : A → A → Type 0} {D : B → B → Type 0} → ((x y : A) → C x y → y ≡ x) → ((x y : B) → D x y → y ≡ x)
    → (p q : A × B) → C p.0 q.0 × D p.1 q.1 → q ≡ p
pairs_faithful first second p q h = λ i. (first p.0 q.0 h.0 i, second p.1 q.1 h.1 i)
