-- The blocks that may have a value.
use Rattle.std.proofs.Common.{◌≡◌, ℕ, length, true, false, ◌∷◌, [], ◌++◌, Option, Some, None, List, refl, sym, ap, ◌∙◌, arith, subst, zero, suc}
use Rattle.std.specs.Prelude.{map, ◌==◌, ◌||◌, if◌then◌else◌}
use Rattle.std.specs.List.{AllByRecursion}
use Rattle.std.specs.Ordering.{nat_cmp}
use Rattle.std.specs.BTreeMap.{is_at}
use Rattle.std.specs.Cmp.{Equal-is}
use Rattle.std.specs.FinMap.{nat_cmp-IsAntisymmetric}
use Rattle.std.specs.Map.{lookup}
use Rattle.std.proofs.lemmas.Bool.Decides.{nat_tests}
use Rattle.tl_state.specs.BlockMap.{BlockData, value_at, own_or, held_at, home_of, near_blocks, blocks_of, is_among, AgreeOn, SameValues}

pub left_some : {V : Type 0} (near others : List (Option (ℕ × V))) (held : ℕ × V) → near ≡ Some held ∷ others → near_blocks near ≡ held.0 ∷ near_blocks others
left_some near others held is = rw is refl

pub left_none : {V : Type 0} (near others : List (Option (ℕ × V))) → near ≡ None ∷ others → near_blocks near ≡ near_blocks others
left_none near others is = rw is refl

among_front : (block : ℕ) (one two : List ℕ) → is_among block (one ++ two) ≡ false → is_among block one ≡ false
among_front block [] two h = refl
among_front block (b ∷ one) two h = elim (b == block) as (λ t. b == block ≡ t → (t || is_among block (one ++ two)) ≡ false → (t || is_among block one) ≡ false) [
  | true ↦ λ is h. cc
  | false ↦ λ is h. among_front block one two h
] refl h

among_rest : (block : ℕ) (one two : List ℕ) → is_among block (one ++ two) ≡ false → is_among block two ≡ false
among_rest block [] two h = h
among_rest block (b ∷ one) two h = elim (b == block) as (λ t. b == block ≡ t → (t || is_among block (one ++ two)) ≡ false → is_among block two ≡ false) [
  | true ↦ λ is h. cc
  | false ↦ λ is h. among_rest block one two h
] refl h

-- A block that is not among those of some places stands at none.
not_held : {V : Type 0} (places : List (Option (ℕ × V))) (block place : ℕ) (elsewhere : Option V) → is_among block (near_blocks places) ≡ false → own_or block (held_at places place) elsewhere ≡ elsewhere
not_held [] block place elsewhere h = refl
not_held (None ∷ places) block zero elsewhere h = refl
not_held (None ∷ places) block (suc place) elsewhere h = not_held places block place elsewhere h
not_held (Some held ∷ places) block zero elsewhere h = elim (held.0 == block) as (λ t. held.0 == block ≡ t → (t || is_among block (near_blocks places)) ≡ false → (if t then Some held.1 else elsewhere) ≡ elsewhere) [
  | true ↦ λ is h. cc
  | false ↦ λ is h. refl
] refl h
not_held {V} (Some held ∷ places) block (suc place) elsewhere h = elim (held.0 == block) as (λ t. held.0 == block ≡ t → (t || is_among block (near_blocks places)) ≡ false → own_or block (held_at places place) elsewhere ≡ elsewhere) [
  | true ↦ λ is h. cc
  | false ↦ λ is h. not_held places block place elsewhere h
] refl h

not_kept : {V : Type 0} (entries : List (ℕ × V)) (block : ℕ) → is_among block (map (λ e. e.0) entries) ≡ false → lookup (is_at (nat_cmp block)) entries ≡ None
not_kept [] block h = refl
not_kept {V} (e ∷ entries) block h = elim (is_at (nat_cmp block) e.0) as (λ t. is_at (nat_cmp block) e.0 ≡ t → lookup (is_at (nat_cmp block)) (e ∷ entries) ≡ None) [
  | true ↦ λ here. (let same : block ≡ e.0 = nat_cmp-IsAntisymmetric block e.0 ((Equal-is (nat_cmp block e.0)).0 here) in let test : e.0 == block ≡ true = grind (arith, nat_tests) in
      let never : true ≡ false = sym (ap (λ t. t || is_among block (map (λ e. e.0) entries)) test) ∙ h in cc)
  | false ↦ λ here. rw here (not_kept entries block (among_rest block (e.0 ∷ []) (map (λ e. e.0) entries) h))
] refl

-- A block that is not among those that may have a value has none.
pub has_none : {V : Type 0} (blocks : BlockData V) (block : ℕ) → is_among block (blocks_of blocks) ≡ false → value_at blocks block ≡ None
unfolding value_at
has_none blocks block h =
    not_held blocks.near block (home_of (length blocks.near) block) (lookup (is_at (nat_cmp block)) blocks.far) (among_front block (near_blocks blocks.near) (map (λ e. e.0) blocks.far) h)
    ∙ not_kept blocks.far block (among_rest block (near_blocks blocks.near) (map (λ e. e.0) blocks.far) h)

pub no_blocks : {V : Type 0} (blocks : BlockData V) (block : ℕ) → blocks_of blocks ≡ [] → value_at blocks block ≡ None
no_blocks blocks block none = has_none blocks block (rw none refl)

all_at : (P : ℕ → Type 0) (blocks : List ℕ) (block : ℕ) → AllByRecursion P blocks → is_among block blocks ≡ true → P block
all_at P [] block all is = cc
all_at P (b ∷ blocks) block all is = elim (b == block) as (λ t. b == block ≡ t → (t || is_among block blocks) ≡ true → P block) [
  | true ↦ λ test _. (let same : b ≡ block = grind (arith, nat_tests) in subst P same all.0)
  | false ↦ λ test rest. all_at P blocks block all.1 rest
] refl is

pub all_agree : (P : ℕ → Type 0) (blocks : List ℕ) → ((block : ℕ) → P block) → AllByRecursion P blocks
all_agree P [] all = tt
all_agree P (b ∷ blocks) all = (all b, all_agree P blocks all)

-- Two functions of blocks that agree on those of two lists, and elsewhere.
pub same_on : {X : Type 0} (f g : ℕ → X) (one two : List ℕ) → AllByRecursion (λ b. f b ≡ g b) one → AllByRecursion (λ b. g b ≡ f b) two
    → ((block : ℕ) → is_among block one ≡ false → is_among block two ≡ false → f block ≡ g block) → (block : ℕ) → f block ≡ g block
same_on f g one two here there past block = elim (is_among block one) as (λ t. is_among block one ≡ t → f block ≡ g block) [
  | true ↦ λ is. all_at (λ b. f b ≡ g b) one block here is
  | false ↦ λ not_one. elim (is_among block two) as (λ t. is_among block two ≡ t → f block ≡ g block) [
    | true ↦ λ is. sym (all_at (λ b. g b ≡ f b) two block there is)
    | false ↦ λ not_two. past block not_one not_two
  ] refl
] refl

pub same_by_blocks : {V : Type 0} (one two : BlockData V) → AgreeOn one two (blocks_of one) → AgreeOn two one (blocks_of two) → SameValues one two
same_by_blocks one two here there = same_on (value_at one) (value_at two) (blocks_of one) (blocks_of two) here there (λ block not_one not_two. has_none one block not_one ∙ sym (has_none two block not_two))

pub none_are_same : {V : Type 0} (one two : BlockData V) → ((block : ℕ) → value_at one block ≡ None) → ((block : ℕ) → value_at two block ≡ None) → SameValues one two
none_are_same one two here there block = here block ∙ sym (there block)

-- A map that had the values of another but of the blocks that were left has that of the first of these once it is given that.
pub goes_on : {V : Type 0} (one two next : BlockData V) (left more : List ℕ) (b : ℕ) (value : Option V) → left ≡ b ∷ more → value ≡ value_at one b
    → ((block : ℕ) → value_at next block ≡ (if b == block then value else value_at two block))
    → ((block : ℕ) → is_among block left ≡ false → value_at one block ≡ value_at two block)
    → (block : ℕ) → is_among block more ≡ false → value_at one block ≡ value_at next block
goes_on one two next left more b value is has given before block past = elim (b == block) as (λ t. b == block ≡ t → value_at one block ≡ value_at next block) [
  | true ↦ λ test. (let same : b ≡ block = grind (arith, nat_tests) in
      ap (value_at one) (sym same) ∙ sym has ∙ sym (given block ∙ ap (λ t. if t then value else value_at two block) test))
  | false ↦ λ test. before block (ap (is_among block) is ∙ ap (λ t. t || is_among block more) test ∙ past) ∙ sym (given block ∙ ap (λ t. if t then value else value_at two block) test)
] refl
