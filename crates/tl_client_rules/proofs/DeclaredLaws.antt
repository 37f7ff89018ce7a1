-- The links that are declared for a manager are its own.
use Rattle.std.proofs.Common.{◌≡◌, ℕ, zero, suc, ◌+◌, inl, inr, true, false, cond, List, [], ◌∷◌, Some, refl, sym, ap, subst, ◌∙◌, arith}
use Rattle.std.specs.Prelude.{slice_get, ◌==◌}
use Rattle.std.specs.List.{Contains}
use Rattle.std.proofs.lemmas.Bool.Decides.{nat_tests}
use Rattle.tl_topology.specs.declared.LinkDecl.{LinkDecl}
use Rattle.tl_definitions.specs.Positions.{clients_from, clients_of}
use Rattle.tl_definitions.proofs.Lists.{contains_none, contains_here, contains_there, contains_cases}

client_from : (manager number : ℕ) (decls : List LinkDecl) (k : ℕ) (decl : LinkDecl) → slice_get decls k ≡ Some decl → decl.manager ≡ manager → Contains (clients_from manager number decls) (number + k)
client_from manager number [] k decl at of = absurd (cc)
client_from manager number (link ∷ decls) zero decl at of =
    let here : link ≡ decl = (let same : Some link ≡ Some decl = at in cc) in
    let test : (link.manager == manager) ≡ true = (let same : link.manager ≡ manager = ap (λ (d : LinkDecl). d.manager) here ∙ of in grind (arith, nat_tests)) in
    let sum : number ≡ number + 0 = omega arith in
    subst (λ t. Contains (cond t (number ∷ clients_from manager (number + 1) decls) (clients_from manager (number + 1) decls)) (number + 0)) (sym test)
    (subst (Contains (number ∷ clients_from manager (number + 1) decls)) sum (contains_here number (clients_from manager (number + 1) decls)))
client_from manager number (link ∷ decls) (suc k) decl at of =
    let rest : Contains (clients_from manager (number + 1) decls) ((number + 1) + k) = client_from manager (number + 1) decls k decl at of in
    let sum : (number + 1) + k ≡ number + suc k = omega arith in
    let moved : Contains (clients_from manager (number + 1) decls) (number + suc k) = subst (Contains (clients_from manager (number + 1) decls)) sum rest in
    elim (link.manager == manager) as (λ t. Contains (cond t (number ∷ clients_from manager (number + 1) decls) (clients_from manager (number + 1) decls)) (number + suc k)) [
      | true ↦ contains_there number (clients_from manager (number + 1) decls) (number + suc k) moved
      | false ↦ moved
    ]

-- A link that is declared for a manager is one of the manager's.
pub declared_is_client : (manager link : ℕ) (decls : List LinkDecl) (decl : LinkDecl) → slice_get decls link ≡ Some decl → decl.manager ≡ manager → Contains (clients_of manager decls) link
declared_is_client manager link decls decl at of = let sum : 0 + link ≡ link = omega arith in subst (Contains (clients_of manager decls)) sum (client_from manager 0 decls link decl at of)

declared_from : (manager number : ℕ) (decls : List LinkDecl) (link : ℕ) → Contains (clients_from manager number decls) link
    → (k : ℕ) × (decl : LinkDecl) × (link ≡ number + k) × (slice_get decls k ≡ Some decl) × (decl.manager ≡ manager)
declared_from manager number [] link h = absurd (contains_none link h)
declared_from manager number (d ∷ decls) link h =
    let later : Contains (clients_from manager (number + 1) decls) link → (k : ℕ) × (decl : LinkDecl) × (link ≡ number + k) × (slice_get (d ∷ decls) k ≡ Some decl) × (decl.manager ≡ manager) =
    λ g. (let found = declared_from manager (number + 1) decls link g in
    let at : link ≡ (number + 1) + found.0 = found.2 in
    let sum : link ≡ number + suc found.0 = omega arith in (suc found.0, found.1, sum, found.3, found.4)) in
    elim (d.manager == manager) as (λ t. (d.manager == manager) ≡ t → Contains (cond t (number ∷ clients_from manager (number + 1) decls) (clients_from manager (number + 1) decls)) link
    → (k : ℕ) × (decl : LinkDecl) × (link ≡ number + k) × (slice_get (d ∷ decls) k ≡ Some decl) × (decl.manager ≡ manager)) [
      | true ↦ λ e g. elim (contains_cases number (clients_from manager (number + 1) decls) link g) [
        | inl is ↦ (let sum : link ≡ number + 0 = omega arith in let of : d.manager ≡ manager = grind (arith, nat_tests) in (0, d, sum, refl, of))
        | inr there ↦ later there
      ]
      | false ↦ λ e g. later g
    ] refl h

-- A manager's link is declared for it.
pub client_is_declared : (manager link : ℕ) (decls : List LinkDecl) → Contains (clients_of manager decls) link → (decl : LinkDecl) × (slice_get decls link ≡ Some decl) × (decl.manager ≡ manager)
client_is_declared manager link decls h =
    let found = declared_from manager 0 decls link h in
    let at : link ≡ 0 + found.0 = found.2 in
    let same : found.0 ≡ link = omega arith in
    (found.1, subst (λ k. slice_get decls k ≡ Some found.1) same found.3, found.4)
