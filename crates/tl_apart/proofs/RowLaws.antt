-- The rows of all links' own rules, where one link has more.
use Rattle.std.proofs.Common.{◌≡◌, ℕ, zero, suc, ◌⊎◌, inl, inr, List, [], ◌∷◌, ◌++◌, Some, refl, sym, ap, subst, ◌∙◌, set}
use Rattle.std.specs.Prelude.{slice_get}
use Rattle.std.specs.List.{Contains}
use Rattle.std.proofs.lemmas.List.Elements.{Contains-append_left, Contains-append_right, Contains-append_cases}
use Rattle.std.proofs.lemmas.Option.{same_Some, slice_get_within}
use Rattle.tl_topology.specs.Topology.{Topology}
use Rattle.tl_beats.specs.declared.Row.{Row}
use Rattle.tl_definitions.specs.Events.{Event}
use Rattle.tl_definitions.specs.Positions.{Recorded}
use Rattle.tl_definitions.proofs.Lists.{contains_none}
use Rattle.tl_apart.specs.Apart.{rows_in}
use Rattle.tl_apart.specs.FeedData.{FeedData}
use Rattle.tl_apart.specs.Told.{AreFoundApart}
use Rattle.tl_apart.proofs.ListLaws.{get_set, get_other}
use Rattle.tl_apart.proofs.NumberLaws.{same_or_not}

rows_at : (feeds : List FeedData) (n : ℕ) (one : FeedData) (row : Row) → slice_get feeds n ≡ Some one → Contains one.rows row → Contains (rows_in feeds) row
rows_at [] n one row at h = absurd (cc)
rows_at (feed ∷ feeds) zero one row at h =
    let same : feed ≡ one = cc in
    Contains-append_left feed.rows (rows_in feeds) row (subst (λ (x : FeedData). Contains x.rows row) (sym same) h)
rows_at (feed ∷ feeds) (suc n) one row at h = Contains-append_right feed.rows (rows_in feeds) row (rows_at feeds n one row at h)

rows_from : (feeds : List FeedData) (row : Row) → Contains (rows_in feeds) row → (n : ℕ) × (one : FeedData) × (slice_get feeds n ≡ Some one) × Contains one.rows row
rows_from [] row h = absurd (contains_none row h)
rows_from (feed ∷ feeds) row h = elim (Contains-append_cases feed.rows (rows_in feeds) row h) [
  | inl here ↦ (zero, feed, refl, here)
  | inr later ↦ (let at = rows_from feeds row later in (suc at.0, at.1, at.2, at.3))
]

module _ (feeds : List FeedData) (link : ℕ) (feed next : FeedData) (was : slice_get feeds link ≡ Some feed) (more : List Row) (put : next.rows ≡ feed.rows ++ more) where
  abbrev new : List FeedData
  new = set feeds link next

  now : slice_get new link ≡ Some next
  now = get_set feeds link next (slice_get_within feeds link feed was)

  from : (row : Row) → Contains (rows_in new) row → Contains (rows_in feeds) row ⊎ Contains more row
  from row h =
      let at = rows_from new row h in
      same_or_not at.0 link (Contains (rows_in feeds) row ⊎ Contains more row)
      (λ same. let this : at.1 ≡ next = same_Some at.1 next (sym at.2 ∙ ap (slice_get new) same ∙ now) in
      elim (Contains-append_cases feed.rows more row (subst (λ rs. Contains rs row) put (subst (λ (x : FeedData). Contains x.rows row) this at.3))) [
        | inl old ↦ inl (rows_at feeds link feed row was old)
        | inr fresh ↦ inr fresh
      ])
      (λ other. inl (rows_at feeds at.0 at.1 row (sym (get_other feeds link at.0 next other) ∙ at.2) at.3))

  stays : (row : Row) → Contains (rows_in feeds) row → Contains (rows_in new) row
  stays row h =
      let at = rows_from feeds row h in
      same_or_not at.0 link (Contains (rows_in new) row)
      (λ same. let this : at.1 ≡ feed = same_Some at.1 feed (sym at.2 ∙ ap (slice_get feeds) same ∙ was) in
      rows_at new link next row now (subst (λ rs. Contains rs row) (sym put) (Contains-append_left feed.rows more row (subst (λ (x : FeedData). Contains x.rows row) this at.3))))
      (λ other. rows_at new at.0 at.1 row (get_other feeds link at.0 next other ∙ at.2) at.3)

  comes : (row : Row) → Contains more row → Contains (rows_in new) row
  comes row h = rows_at new link next row now (subst (λ rs. Contains rs row) (sym put) (Contains-append_right feed.rows more row h))

  module _ (topo : Topology) (fs : List Recorded) (judged : ℕ → List Event) (rows later : List Row) where
    to : (row : Row) → Contains (rows_in new ++ (rows ++ later)) row → Contains (((rows_in feeds ++ rows) ++ more) ++ later) row
    to row h = elim (Contains-append_cases (rows_in new) (rows ++ later) row h) [
      | inl own ↦ Contains-append_left ((rows_in feeds ++ rows) ++ more) later row (elim (from row own) [
        | inl old ↦ Contains-append_left (rows_in feeds ++ rows) more row (Contains-append_left (rows_in feeds) rows row old)
        | inr fresh ↦ Contains-append_right (rows_in feeds ++ rows) more row fresh
      ])
      | inr others ↦ elim (Contains-append_cases rows later row others) [
        | inl old ↦ Contains-append_left ((rows_in feeds ++ rows) ++ more) later row (Contains-append_left (rows_in feeds ++ rows) more row (Contains-append_right (rows_in feeds) rows row old))
        | inr fresh ↦ Contains-append_right ((rows_in feeds ++ rows) ++ more) later row fresh
      ]
    ]

    back : (row : Row) → Contains (((rows_in feeds ++ rows) ++ more) ++ later) row → Contains (rows_in new ++ (rows ++ later)) row
    back row h = elim (Contains-append_cases ((rows_in feeds ++ rows) ++ more) later row h) [
      | inl early ↦ elim (Contains-append_cases (rows_in feeds ++ rows) more row early) [
        | inl old ↦ elim (Contains-append_cases (rows_in feeds) rows row old) [
          | inl own ↦ Contains-append_left (rows_in new) (rows ++ later) row (stays row own)
          | inr others ↦ Contains-append_right (rows_in new) (rows ++ later) row (Contains-append_left rows later row others)
        ]
        | inr fresh ↦ Contains-append_left (rows_in new) (rows ++ later) row (comes row fresh)
      ]
      | inr fresh ↦ Contains-append_right (rows_in new) (rows ++ later) row (Contains-append_right rows later row fresh)
    ]

    -- What is found stays what is found.
    pub found_with : AreFoundApart topo fs judged (((rows_in feeds ++ rows) ++ more) ++ later) → AreFoundApart topo fs judged (rows_in new ++ (rows ++ later))
    found_with had row = ((λ h. (had row).0 (to row h)), (λ found. back row ((had row).1 found)))
