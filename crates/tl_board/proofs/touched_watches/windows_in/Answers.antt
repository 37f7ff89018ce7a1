use Rattle.std.proofs.Common.{sym, subst, refl}
use Rattle.std.specs.List.{Contains}
use Rattle.tl_definitions.proofs.Lists.{contains_none}
use Rattle.tl_board.specs.Touched.{IsTouched}
use Rattle.tl_board.specs.declared.touched.Touched.TheVariants as touched
use Rattle.tl_board.proofs.TouchedWatchLemmas.{named_windows}
use Rattle.tl_board.proofs.touched_watches.windows_in.Goals as goal

pub returns-in-Nothing : goal.returns-in-Nothing
returns-in-Nothing c now e link window is edited =
    let none : IsTouched now e touched.Nothing = subst (IsTouched now e) c.in-Nothing.is is in (
      (λ h. absurd (contains_none window h)),
      (λ touches. absurd ((named_windows now e touched.Nothing none link window edited).0 touches).1),
    )

pub returns-in-Windows : goal.returns-in-Windows
returns-in-Windows c now e link window is edited =
    let both = named_windows now e _ (subst (IsTouched now e) c.in-Windows.is is) link window edited in (
      (λ h. both.1 c.in-Windows.field-0 (refl, subst (λ ws. Contains ws window) c.as_slice.ensures.value h)),
      (λ touches. subst (λ ws. Contains ws window) (sym c.as_slice.ensures.value) (both.0 touches).1.1),
    )
