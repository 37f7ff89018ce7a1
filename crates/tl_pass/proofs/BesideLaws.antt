-- What stands once links took fragments beside each other.
use Rattle.std.proofs.Common.{◌≡◌, ℕ, suc, ◌+◌, ◌<◌, List, [], ◌∷◌, ◌++◌, append-nil, append_assoc, None, length, refl, sym, ap, subst, ◌∙◌, arith}
use Rattle.std.specs.Prelude.{slice_index_or}
use Rattle.std.specs.List.{flat_map, Contains}
use Rattle.std.proofs.lemmas.List.{length-append}
use Rattle.tl_topology.specs.Topology.{Topology}
use Rattle.tl_beats.specs.Fragments.{Frag}
use Rattle.tl_definitions.proofs.Lists.{contains_here, contains_there}
use Rattle.tl_capture.specs.Present.{recorded, put_in}
use Rattle.tl_apart.specs.Beside.{puts, puts_from, Follows, EachFollows}
use Rattle.tl_apart.specs.FeedData.{FeedData}
use Rattle.tl_apart.proofs.ApartLaws.{put_length}
use Rattle.tl_pass.specs.Beside.{AreGiven, Filled}
use Rattle.tl_pass.specs.Reports.{standing}
use Rattle.tl_pass.proofs.StandingLaws.{one_added}

-- What stands is as long as what was added.
abbrev pub IsLong : Topology → List Frag → Type 0
IsLong topo fs = length (standing topo fs) ≡ length fs

module _ (topo : Topology) where
  one_stands : (link : ℕ) (hs fs : List Frag) (old new : FeedData) → Follows topo link hs old new → IsLong topo fs
      → (puts link hs (standing topo fs) ≡ standing topo (fs ++ hs)) × IsLong topo (fs ++ hs)
  one_stands link [] fs old new follows long = (ap (standing topo) (sym (append-nil fs)), subst (IsLong topo) (sym (append-nil fs)) long)
  one_stands link (h ∷ hs) fs old new follows long =
      let put : standing topo (fs ++ h ∷ []) ≡ put_in (recorded link h) (standing topo fs) = one_added topo fs h link follows.1.named in
      let longer : IsLong topo (fs ++ h ∷ []) = (let one = ap length put in let more = put_length (recorded link h) (standing topo fs) in let sum = length-append fs (h ∷ []) in omega (arith, one, more, sum, long)) in
      let rest = one_stands link hs (fs ++ h ∷ []) follows.0 new follows.2 longer in (
        ap (puts link hs) (sym put) ∙ rest.0 ∙ ap (standing topo) (append_assoc fs (h ∷ []) hs),
        subst (IsLong topo) (append_assoc fs (h ∷ []) hs) rest.1,
      )

  pub each_stand : (link : ℕ) (each : List (List Frag)) (olds news : List FeedData) (fs : List Frag) → EachFollows topo link each olds news → IsLong topo fs
      → (puts_from link each (standing topo fs) ≡ standing topo (fs ++ flat_map (λ own. own) each)) × IsLong topo (fs ++ flat_map (λ own. own) each)
  each_stand link [] olds news fs follows long = (ap (standing topo) (sym (append-nil fs)), subst (IsLong topo) (sym (append-nil fs)) long)
  each_stand link (hs ∷ each) (old ∷ olds) (new ∷ news) fs follows long =
      let one = one_stands link hs fs old new follows.0 long in
      let rest = each_stand (suc link) each olds news (fs ++ hs) follows.1 one.1 in (
        ap (puts_from (suc link) each) one.0 ∙ rest.0 ∙ ap (standing topo) (append_assoc fs hs (flat_map (λ own. own) each)),
        subst (IsLong topo) (append_assoc fs hs (flat_map (λ own. own) each)) rest.1,
      )
  each_stand link (hs ∷ each) [] news fs follows long = absurd follows
  each_stand link (hs ∷ each) (old ∷ olds) [] fs follows long = absurd follows

  module _ (Gives : ℕ → List Frag → Type 0) where
    -- What all feeds took that are well.
    pub all_filled : (link : ℕ) (olds news : List FeedData) → length news ≡ length olds → ((i : ℕ) (d : FeedData) → i < length olds → Filled Gives topo (link + i) (slice_index_or olds i d) (slice_index_or news i d))
        → ((feed : FeedData) → Contains news feed → feed.fault ≡ None) → (each : List (List Frag)) × (length each ≡ length olds) × AreGiven Gives link each × EachFollows topo link each olds news
    all_filled link [] [] long filled well = ([], refl, tt, tt)
    all_filled link (old ∷ olds) (new ∷ news) long filled well =
        let here : link + 0 ≡ link = omega arith in
        let own = subst (λ n. Filled Gives topo n old new) here (filled 0 old (omega arith)) (well new (contains_here new news)) in
        let rest = all_filled (suc link) olds news (omega (arith, long))
        (λ i d low. let next : link + suc i ≡ suc link + i = omega arith in subst (λ n. Filled Gives topo n (slice_index_or olds i d) (slice_index_or news i d)) next (filled (suc i) d (omega (arith, low))))
        (λ feed h. well feed (contains_there new news feed h)) in
        (own.0 ∷ rest.0, (let more = rest.1 in omega (arith, more)), (own.1, rest.2), (own.2, rest.3))
    all_filled link [] (new ∷ news) long filled well = absurd (omega (arith, long))
    all_filled link (old ∷ olds) [] long filled well = absurd (omega (arith, long))
