-- Links that take fragments beside each other.
use Rattle.std.proofs.Common.{◌≡◌, ℕ, suc, ◌<◌, List, [], ◌∷◌, ◌++◌, append_assoc, Some, length, set, refl, sym, ap, subst, ◌∙◌, arith}
use Rattle.std.specs.Prelude.{slice_get}
use Rattle.std.proofs.lemmas.List.{length-append}
use Rattle.std.proofs.lemmas.Option.{slice_get_within}
use Rattle.tl_topology.specs.Topology.{Topology}
use Rattle.tl_beats.specs.Fragments.{Frag}
use Rattle.tl_beats.specs.declared.Row.{Row}
use Rattle.tl_definitions.specs.Events.{Event}
use Rattle.tl_definitions.specs.Positions.{Recorded}
use Rattle.tl_capture.specs.Present.{recorded, put_in}
use Rattle.tl_apart.specs.Apart.{AreApart, HasApart}
use Rattle.tl_apart.specs.Beside.{puts, puts_from, Takes, Follows, EachFollows}
use Rattle.tl_apart.specs.FeedData.{FeedData}
use Rattle.tl_apart.specs.Told.{ArePassed}
use Rattle.tl_apart.specs.declared.apart.Apart.{Apart}
use Rattle.tl_apart.specs.declared.listener.Listener.{Listener}
use Rattle.tl_apart.proofs.ApartLaws.{one_comes}
use Rattle.tl_apart.proofs.ListLaws.{get_set, get_between, set_between, set_same, set_twice}

-- One fragment more.
pub follows_more : (topo : Topology) (link : ℕ) (fs : List Frag) (f : Frag) (old mid new : FeedData) → Follows topo link fs old mid → Takes topo link f mid new → Follows topo link (fs ++ f ∷ []) old new
follows_more topo link [] f old mid new same takes = (new, subst (λ (x : FeedData). Takes topo link f x new) same takes, refl)
follows_more topo link (g ∷ fs) f old mid new follows takes = (follows.0, follows.1, follows_more topo link fs f follows.0 mid new follows.2 takes)

module _ (topo : Topology) (judged : ℕ → List Event) (listeners : List Listener) (rows : List Row) where
  abbrev Are : List Recorded → List FeedData → Type 0
  Are stood feeds = AreApart topo stood judged feeds listeners rows × ((j : ℕ) → j < length topo.managers → ArePassed topo stood j (judged j))

  -- One link takes its fragments.
  one_follows : (fs : List Frag) (stood : List Recorded) (feeds : List FeedData) (link : ℕ) (feed next : FeedData) → slice_get feeds link ≡ Some feed → Follows topo link fs feed next → Are stood feeds
      → Are (puts link fs stood) (set feeds link next)
  one_follows [] stood feeds link feed next was same had = subst (Are stood) (sym (ap (set feeds link) same ∙ set_same feeds link feed was)) had
  one_follows (f ∷ fs) stood feeds link feed next was follows had =
      let mid : FeedData = follows.0 in
      let one = one_comes topo stood judged feeds listeners rows had.0 link feed mid was f follows.1 had.1 in
      subst (Are (puts link (f ∷ fs) stood)) (set_twice feeds link mid next)
      (one_follows fs (put_in (recorded link f) stood) (set feeds link mid) link mid next (get_set feeds link mid (slice_get_within feeds link feed was)) follows.2 one)

  -- So do those that come after it.
  each_follows : (each : List (List Frag)) (olds news done : List FeedData) (link : ℕ) (stood : List Recorded) → length done ≡ link → EachFollows topo link each olds news → Are stood (done ++ olds)
      → Are (puts_from link each stood) (done ++ news)
  each_follows [] [] [] done link stood long follows had = had
  each_follows (fs ∷ each) (old ∷ olds) (new ∷ news) done link stood long follows had =
      let was : slice_get (done ++ old ∷ olds) link ≡ Some old = subst (λ n. slice_get (done ++ old ∷ olds) n ≡ Some old) long (get_between done olds old) in
      let one : Are (puts link fs stood) (set (done ++ old ∷ olds) link new) = one_follows fs stood (done ++ old ∷ olds) link old new was follows.0 had in
      let between : set (done ++ old ∷ olds) link new ≡ done ++ new ∷ olds = subst (λ n. set (done ++ old ∷ olds) n new ≡ done ++ new ∷ olds) long (set_between done olds old new) in
      let longer : length (done ++ new ∷ []) ≡ suc link = (let sum = length-append done (new ∷ []) in omega (arith, sum, long)) in
      subst (Are (puts_from link (fs ∷ each) stood)) (append_assoc done (new ∷ []) news)
      (each_follows each olds news (done ++ new ∷ []) (suc link) (puts link fs stood) longer follows.1
      (subst (Are (puts link fs stood)) (between ∙ sym (append_assoc done (new ∷ []) olds)) one))
  each_follows [] [] (new ∷ news) done link stood long follows had = absurd follows
  each_follows [] (old ∷ olds) news done link stood long follows had = absurd follows
  each_follows (fs ∷ each) [] news done link stood long follows had = absurd follows
  each_follows (fs ∷ each) (old ∷ olds) [] done link stood long follows had = absurd follows

-- All links take theirs.
pub all_follow : (topo : Topology) (each : List (List Frag)) (stood : List Recorded) (old new : Apart) → new ≡ record old { feeds = new.feeds } → EachFollows topo 0 each old.feeds.items new.feeds.items
    → HasApart topo stood old → HasApart topo (puts_from 0 each stood) new
all_follow topo each stood old new rest follows had =
    let found = each_follows topo had.judged old.listeners.items old.rows.items each old.feeds.items new.feeds.items [] 0 stood refl follows (had.is.are, had.passed) in
    subst (HasApart topo (puts_from 0 each stood)) (sym rest) (record { judged = had.judged; is = record { on = had.is.on; are = found.0 }; passed = found.1 })
