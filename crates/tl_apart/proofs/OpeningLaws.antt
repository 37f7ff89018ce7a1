-- Links and managers before the first fragment.
use Rattle.std.proofs.Common.{◌≡◌, ℕ, zero, suc, ◌+◌, List, [], ◌∷◌, ◌++◌, Option, Some, None, length, refl, sym, ap, subst, ◌∙◌, arith}
use Rattle.std.specs.Prelude.{slice_get}
use Rattle.std.specs.Arc.{arc_value}
use Rattle.std.specs.Option.{option_map_or}
use Rattle.tl_topology.specs.Topology.{Topology}
use Rattle.tl_definitions.proofs.Lists.{contains_none}
use Rattle.tl_capture.specs.Present.{IsPresent}
use Rattle.tl_capture.proofs.PresentLemmas.{no_ranges}
use Rattle.tl_apart.specs.Apart.{count_in, manager_of, rows_in, IsNewest, HasLeft, Knows, AreOpened, AreListening, HasApart}
use Rattle.tl_apart.specs.FeedData.{FeedData}
use Rattle.tl_apart.specs.Feeds.{waiting, waiting_of, IsNew}
use Rattle.tl_apart.specs.LinkJudge.{Shows}
use Rattle.tl_apart.specs.Told.{bare, left_on, AreFoundApart}
use Rattle.tl_apart.specs.declared.apart.Apart.{Apart}
use Rattle.tl_apart.specs.declared.listener.Listener.{Listener}
use Rattle.tl_apart.proofs.FoundLaws.{none_apart}
use Rattle.tl_apart.proofs.ToldLaws.{none_told, none_passed, told_alike}

each_more : {X : Type 0} (P : ℕ → X → Type 0) (xs : List X) (x : X) → ((k : ℕ) (y : X) → slice_get xs k ≡ Some y → P k y) → P (length xs) x
    → (k : ℕ) (y : X) → slice_get (xs ++ x ∷ []) k ≡ Some y → P k y
each_more P [] x had own zero y at = (let same : x ≡ y = cc in subst (P zero) same own)
each_more P [] x had own (suc k) y at = absurd (cc)
each_more P (z ∷ xs) x had own zero y at = had zero y at
each_more P (z ∷ xs) x had own (suc k) y at = each_more (λ n. P (suc n)) xs x (λ n v here. had (suc n) v here) own k y at

length_more : {X : Type 0} (xs : List X) (x : X) → length (xs ++ x ∷ []) ≡ length xs + 1
length_more [] x = refl
length_more (y ∷ xs) x = let rest = length_more xs x in omega (arith, rest)

pub opened_more : (topo : Topology) (link : ℕ) (feeds items : List FeedData) (feed : FeedData) → AreOpened topo link feeds → items ≡ feeds ++ feed ∷ []
    → Shows (bare topo (manager_of topo link)).exponent feed.judge (left_on topo [] (manager_of topo link) link) → IsNew feed → AreOpened topo (link + 1) items
opened_more topo link feeds items feed had put shows new = record {
  long = ap length put ∙ length_more feeds feed ∙ ap (λ n. n + 1) had.long;
  each = subst (λ xs. (n : ℕ) (one : FeedData) → slice_get xs n ≡ Some one → HasLeft topo [] n one × IsNew one) (sym put)
      (each_more (λ n one. HasLeft topo [] n one × IsNew one) feeds feed had.each
      (subst (λ n. HasLeft topo [] n feed × IsNew feed) (sym had.long)
      (record { shows = shows; newest = subst (λ o. IsNewest [] link o) (sym new.newest) (λ f h same. contains_none f h) }, new)));
}

pub listening_more : (topo : Topology) (k : ℕ) (listeners items : List Listener) (listener : Listener) → AreListening topo k listeners → items ≡ listeners ++ listener ∷ []
    → Knows topo k [] listener → AreListening topo (k + 1) items
listening_more topo k listeners items listener had put knows = record {
  long = ap length put ∙ length_more listeners listener ∙ ap (λ n. n + 1) had.long;
  each = subst (λ xs. (n : ℕ) (one : Listener) → slice_get xs n ≡ Some one → Knows topo n [] one) (sym put)
      (each_more (λ n one. Knows topo n [] one) listeners listener had.each (subst (λ n. Knows topo n [] listener) (sym had.long) knows));
}

nothing : IsPresent []
nothing = record { each = no_ranges.each; apart = no_ranges.apart; numbers = tt }

silent : (topo : Topology) (count : ℕ) (feeds : List FeedData) (link : ℕ) → AreOpened topo count feeds → waiting_of feeds link ≡ []
silent topo count feeds link had = go (slice_get feeds link) refl
  where
    go : (o : Option FeedData) → slice_get feeds link ≡ o → option_map_or waiting o [] ≡ []
    go None at = refl
    go (Some feed) at = (had.each link feed at).1.waiting

-- None has rows, and none counts a fragment.
no_rows : (feeds : List FeedData) → ((n : ℕ) (feed : FeedData) → slice_get feeds n ≡ Some feed → IsNew feed) → (rows_in feeds ≡ []) × (count_in feeds ≡ 0)
no_rows [] new = (refl, refl)
no_rows (feed ∷ feeds) new =
    let own = new zero feed refl in
    let rest = no_rows feeds (λ n one at. new (suc n) one at) in
    let none : feed.count ≡ 0 = own.count in
    (ap (λ rs. rs ++ rows_in feeds) own.rows ∙ rest.0, (let others = rest.1 in omega (arith, none, others)))

pub opening : (topo : Topology) (apart : Apart) → arc_value apart.topo ≡ topo → AreOpened topo (length topo.links) apart.feeds.items
    → AreListening topo (length topo.managers) apart.listeners.items → apart.rows.items ≡ [] → HasApart topo [] apart
opening topo apart on feeds listeners rows =
    let none = no_rows apart.feeds.items (λ n feed at. (feeds.each n feed at).1) in
    record {
      judged = λ k. [];
      is = record {
        on = on;
        are = record {
          present = nothing;
          links = feeds.long;
          left = λ link feed at. (feeds.each link feed at).0;
          managers = listeners.long;
          known = listeners.each;
          told = λ k below. told_alike topo [] k (λ link. []) (waiting_of apart.feeds.items) [] nothing (none_told topo k) (λ link has. silent topo (length topo.links) apart.feeds.items link feeds);
          found = subst (AreFoundApart topo [] (λ k. [])) (sym (ap (λ rs. rs ++ apart.rows.items) none.0 ∙ rows)) (none_apart topo);
          counted = none.1;
        };
      };
      passed = λ k below. none_passed topo [] k;
    }
