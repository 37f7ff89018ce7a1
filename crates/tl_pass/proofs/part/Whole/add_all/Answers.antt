use Rattle.std.proofs.Common.{◌≡◌, ℕ, zero, suc, refl, ◌+◌, ◌≤◌, ◌++◌, [], ◌∷◌, List, Some, Ok, length, take, sym, ap, subst, ◌∙◌, append_assoc, append-nil}
use Rattle.std.specs.Prelude.{slice_get, IfOk, Result}
use Rattle.std.specs.List.{flat_map, AllZip}
use Rattle.std.proofs.lemmas.Grind.{flat_map-append}
use Rattle.std.proofs.lemmas.List.{take_all}
use Rattle.std.proofs.lemmas.Option.{slice_get-get_or}
use Rattle.std.proofs.lemmas.Slice.Zip.{AllZip-long}
use Rattle.tl_beats.specs.Fragments.{Frag}
use Rattle.tl_check.proofs.ListLaws.{take_more}
use Rattle.tl_pass.specs.Parts.{IsPart, IsWhole}
use Rattle.tl_pass.specs.declared.part.Part.{Part}
use Rattle.tl_pass.specs.declared.pass.Hitch.{Hitch}
use Rattle.tl_pass.proofs.part.Whole.add_all.Goals as goal

-- What stands beside an element.
beside : {X Y : Type 0} (R : X → Y → Type 0) (xs : List X) (ys : List Y) (i : ℕ) (x : X) → AllZip R xs ys → slice_get xs i ≡ Some x → (y : Y) × (slice_get ys i ≡ Some y) × R x y
beside R [] ys i x all at = absurd (cc)
beside R (x' ∷ xs) [] i x all at = absurd all
beside R (x' ∷ xs) (y ∷ ys) zero x all at = (let same : x' ≡ x = cc in (y, refl, subst (λ z. R z y) same all.0))
beside R (x' ∷ xs) (y ∷ ys) (suc i) x all at = beside R xs ys i x all.1 at

pub loop-part-preserved : goal.loop-part-preserved
loop-part-preserved c midway fs each had are =
    let parts = c.args.parts.now in
    let i : ℕ = c.loop-part.part-index in
    let at : slice_get parts i ≡ Some (Ok c.in-Ok.part) = slice_get-get_or parts i c.part-item.result c.loop-part-test.true ∙ ap Some (sym c.part-item.is ∙ c.in-Ok.is) in
    let found = beside (λ (r : Result Part Hitch) (gs : List Frag). IfOk r (IsPart midway c.args.topo.now gs)) parts each i (Ok c.in-Ok.part) are at in
    let whole = c.in_ok-add-in-Ok.ensures midway (fs ++ flat_map (λ gs. gs) (take i each)) found.0 (c.loop-part.invariant midway fs each had are) found.2 in
    let more : flat_map (λ gs. gs) (take (i + 1) each) ≡ flat_map (λ gs. gs) (take i each) ++ found.0 =
    ap (flat_map (λ gs. gs)) (take_more each i found.0 found.1) ∙ flat_map-append (λ gs. gs) (take i each) (found.0 ∷ []) ∙ ap (λ gs. flat_map (λ hs. hs) (take i each) ++ gs) (append-nil found.0) in
    subst (λ gs. IsWhole midway c.args.topo.now gs c.add.new.self) (append_assoc fs (flat_map (λ gs. gs) (take i each)) found.0 ∙ ap (λ gs. fs ++ gs) (sym more)) whole

pub returns : goal.returns
returns c midway fs each had are =
    let i : ℕ = c.loop-part.part-index in
    let long : length each ≡ length c.args.parts.now = AllZip-long (λ (r : Result Part Hitch) (gs : List Frag). IfOk r (IsPart midway c.args.topo.now gs)) c.args.parts.now each are in
    let all : take i each ≡ each = take_all i each (subst (λ n. n ≤ i) (sym long) c.loop-part-test.false) in
    subst (λ gs. IsWhole midway c.args.topo.now (fs ++ flat_map (λ hs. hs) gs) c.loop-part.self) all (c.loop-part.invariant midway fs each had are)
