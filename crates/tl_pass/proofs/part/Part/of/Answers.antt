use Rattle.std.proofs.Common.{◌≡◌, List, [], Option, None, subst, ◌∙◌}
use Rattle.std.specs.Prelude.{IfOk}
use Rattle.std.proofs.lemmas.Result.{IfOk-weaker}
use Rattle.tl_beats.specs.Fragments.{Frag}
use Rattle.tl_apart.specs.Apart.{HasApart}
use Rattle.tl_midway.specs.declared.midway.Midway.{Midway}
use Rattle.tl_pass.specs.ManagerPass.{HasTold}
use Rattle.tl_pass.specs.Parts.{IsPart}
use Rattle.tl_pass.specs.declared.part.Part.{Part}
use Rattle.tl_pass.proofs.part.Part.of.Goals as goal

pub returns-in_ok-pass-in-None : goal.returns-in_ok-pass-in-None
returns-in_ok-pass-in-None g c =
    let topo = c.args.topo.now in
    let pass = c.in_ok-pass-in-None.pass in
    let none : HasApart topo [] pass = subst (λ t. HasApart t [] pass) (c.in_ok-own.ensures.ok ∙ c.in_ok-copy.ensures) c.in_ok-pass-in-None.ensures in
    IfOk-weaker c.all_taken-in-None.result
    (λ (part : Part). (fs : List Frag) × g.S.Supply.has_given c.args.supply.now c.all_taken-in-None.new.supply fs
    × ((midway : Option Midway) → (midway ≡ None) × HasApart topo [] pass → IsPart midway topo fs part))
    (λ (part : Part). (fs : List Frag) × g.S.Supply.has_given c.args.supply.now c.all_taken-in-None.new.supply fs × IsPart c.args.midway topo fs part)
    (λ part found. (found.0, found.1, found.2 c.args.midway (c.in-None.is, none))) c.all_taken-in-None.ensures

pub returns-then-have_caches : goal.returns-then-have_caches
returns-then-have_caches g c =
    let topo = c.args.topo.now in
    let pass = c.in_ok-pass.pass in
    let none = c.in_ok-pass.ensures in
    IfOk-weaker c.all_taken.result
    (λ (part : Part). (fs : List Frag) × g.S.Supply.has_given c.args.supply.now c.all_taken.new.supply fs
    × ((midway : Option Midway) → (pass.stream.midway ≡ midway) × (pass.stream.topo ≡ topo) × HasTold [] pass.stream pass.rows.items → IsPart midway topo fs part))
    (λ (part : Part). (fs : List Frag) × g.S.Supply.has_given c.args.supply.now c.all_taken.new.supply fs × IsPart c.args.midway topo fs part)
    (λ part found. (found.0, found.1, found.2 c.args.midway (none.midway, none.topo ∙ c.in_ok-own.ensures.ok ∙ c.in_ok-copy.ensures, none.none))) c.all_taken.ensures
