-- The rows of one capture more, in any order.
use Rattle.std.proofs.Common.{◌≡◌, ◌⊎◌, inl, inr, List, [], ◌∷◌, ◌++◌, sym, subst}
use Rattle.std.specs.Prelude.{◌↔◌}
use Rattle.std.specs.List.{Contains}
use Rattle.std.proofs.lemmas.List.Elements.{Contains-append_left, Contains-append_right, Contains-append_cases}
use Rattle.tl_beats.specs.declared.Row.{Row}
use Rattle.tl_definitions.specs.Report.{Capture, Finds, FindsIn}
use Rattle.tl_definitions.proofs.Lists.{contains_here, contains_there, contains_cases}
use Rattle.tl_check.specs.Found.{AreFound}
use Rattle.tl_check.proofs.ScratchLaws.{finds_alone}

either : (c : Capture) (cs : List Capture) (row : Row) → FindsIn (c ∷ cs) row → Finds c row ⊎ FindsIn cs row
either c cs row found = elim (contains_cases c cs found.0 found.1) [
  | inl is ↦ inl (subst (λ x. Finds x row) (sym is) found.2)
  | inr there ↦ inr (found.0, there, found.2)
]

module _ (c : Capture) (cs : List Capture) (old found new : List Row) (put : new ≡ old ++ found) (is : AreFound (c ∷ []) found) (row : Row) where
  still : (All : Type 0) → (Contains old row ⊎ FindsIn (c ∷ cs) row → All) → Contains new row ⊎ FindsIn cs row → All
  still All known h = elim h [
    | inl a ↦ elim (Contains-append_cases old found row (subst (λ rows. Contains rows row) put a)) [
      | inl before ↦ known (inl before)
      | inr here ↦ known (inr (c, contains_here c cs, finds_alone c row ((is row).0 here)))
    ]
    | inr rest ↦ known (inr (rest.0, contains_there c cs rest.0 rest.1, rest.2))
  ]

  also : Contains old row ⊎ FindsIn (c ∷ cs) row → Contains new row ⊎ FindsIn cs row
  also h = elim h [
    | inl before ↦ inl (subst (λ rows. Contains rows row) (sym put) (Contains-append_left old found row before))
    | inr a ↦ elim (either c cs row a) [
      | inl here ↦ inl (subst (λ rows. Contains rows row) (sym put) (Contains-append_right old found row ((is row).1 (c, contains_here c [], here))))
      | inr rest ↦ inr rest
    ]
  ]

  pub next_found : (All : Type 0) → ((Contains old row ⊎ FindsIn (c ∷ cs) row) ↔ All) → ((Contains new row ⊎ FindsIn cs row) ↔ All)
  next_found All known = (still All known.0, λ a. also (known.1 a))
