-- States that show the same have the same parts.
use Rattle.std.proofs.Common.{◌≡◌, ℕ, ◌<◌, ◌+◌, ◌++◌, ◌∷◌, [], List, length, slice_index_or, sym, ap, ◌∙◌, refl, subst, arith, true, false}
use Rattle.std.specs.Prelude.{nat_lt}
use Rattle.std.proofs.Math.Seq.{get_or-append_seam}
use Rattle.std.proofs.lemmas.Bool.Decides.{nat_tests}
use Rattle.std.proofs.lemmas.List.{get_or_append_left, get_or_default}
use Rattle.tl_state.specs.BlockMap.{SameValues}
use Rattle.tl_client_rules.specs.OpenBlocks.{SameBlocks}
use Rattle.tl_client_rules.specs.Bounds.{SameBounds}
use Rattle.tl_client_rules.specs.declared.client.ClientState.{ClientState}
use Rattle.tl_client_rules.specs.Client.{ClientView, shown}

pub same_parts : (one two : ClientState) → one.exponent ≡ two.exponent → SameValues one.probes two.probes → SameBounds one.bounds two.bounds
    → SameBlocks one.acquires two.acquires → SameBlocks one.releases two.releases → SameBlocks one.grants two.grants → shown one ≡ shown two
same_parts one two exponent probes bounds acquires releases grants = λ i. record {
  exponent = exponent i;
  past = record {
    probe = λ block. probes block i;
    bound = λ block. bounds block i;
    granted = λ sink. grants.0 sink i;
    acquires = λ block. acquires.1 block i;
    releases = λ block. releases.1 block i;
    grants = λ block. grants.1 block i;
  };
  acquired = λ source. acquires.0 source i;
  released = λ source. releases.0 source i;
}

pub parts_of_same : (one two : ClientState) → shown one ≡ shown two
    → (one.exponent ≡ two.exponent) × SameValues one.probes two.probes × SameBounds one.bounds two.bounds
    × SameBlocks one.acquires two.acquires × SameBlocks one.releases two.releases × SameBlocks one.grants two.grants
parts_of_same one two h = (
  ap (λ (view : ClientView). view.exponent) h,
  (λ block. ap (λ (view : ClientView). view.past.probe block) h),
  (λ block. ap (λ (view : ClientView). view.past.bound block) h),
  ((λ source. ap (λ (view : ClientView). view.acquired source) h), (λ block. ap (λ (view : ClientView). view.past.acquires block) h)),
  ((λ source. ap (λ (view : ClientView). view.released source) h), (λ block. ap (λ (view : ClientView). view.past.releases block) h)),
  ((λ sink. ap (λ (view : ClientView). view.past.granted sink) h), (λ block. ap (λ (view : ClientView). view.past.grants block) h)),
)

-- One more copy behind others.
pub pushed_same : {X : Type 0} (Same : X → X → Type 0) (here copies more : List X) (n : ℕ) (state copy : X) → more ≡ copies ++ copy ∷ [] → length copies ≡ n → n < length here → state ≡ slice_index_or here n state → Same state copy
    → ((k : ℕ) (d : X) → k < n → Same (slice_index_or here k d) (slice_index_or copies k d))
    → (k : ℕ) (d : X) → k < n + 1 → Same (slice_index_or here k d) (slice_index_or more k d)
pushed_same Same here copies more n state copy is count within at same each k d lt = elim (nat_lt k n) as (λ b. nat_lt k n ≡ b → Same (slice_index_or here k d) (slice_index_or more k d)) [
  | true ↦ λ t.
      let lt_n : k < n = grind (arith, nat_tests) in
      let lt_copies : k < length copies = omega arith in
      let before : slice_index_or more k d ≡ slice_index_or copies k d = ap (λ l. slice_index_or l k d) is ∙ get_or_append_left copies (copy ∷ []) d k lt_copies in
      subst (λ y. Same (slice_index_or here k d) y) (sym before) (each k d lt_n)
  | false ↦ λ t.
      let last : k ≡ length copies = grind (arith, nat_tests) in
      let place : n ≡ k = omega arith in
      let first : state ≡ slice_index_or here k d = at ∙ get_or_default here n state d within ∙ ap (λ i. slice_index_or here i d) place in
      let second : copy ≡ slice_index_or more k d = sym (ap (λ l. slice_index_or l k d) is ∙ ap (λ i. slice_index_or (copies ++ copy ∷ []) i d) last ∙ get_or-append_seam copies copy [] d) in
      subst (λ x. Same x (slice_index_or more k d)) first (subst (λ y. Same state y) second same)
] refl
