use Rattle.std.proofs.Common.{rules}
use Rattle.std.proofs.lemmas.Cmp.{nat_cmp_total}
use Rattle.std.proofs.lemmas.List.Filters.{dedup_is}
use Rattle.std.proofs.lemmas.List.Kept.{Contains-dedup, Contains-from_dedup, IsStrictlySortedBy-dedup}
use Rattle.std.proofs.lemmas.List.Sorted.{Contains-permutation, IsPermutation-sym}
use Rattle.std.specs.Cmp.{nat_eq_equiv, unsigned_Decides}
use Rattle.tl_capture.proofs.order.sort_once.Goals as goal

pub returns : goal.returns
returns c =
    let is = dedup_is _ _ _ c.dedup.ensures.filtered in
    let moved = c.sort_unstable.ensures.permutation in
    record {
      rises = rw is (IsStrictlySortedBy-dedup nat_cmp_total (λ x y. search rules) _ c.sort_unstable.ensures.sorted);
      members = λ x. (
        (λ h. Contains-permutation _ _ x (IsPermutation-sym _ _ moved) (Contains-from_dedup _ _ x (rw is at h))),
        (λ h. rw is (Contains-dedup nat_eq_equiv (λ a b. (unsigned_Decides a b).0) _ x (Contains-permutation _ _ x moved h))),
      );
    }
