-- What the steps leave of a seat.
use Rattle.std.proofs.Common.{◌≡◌, ℕ, true, List, [], ◌∷◌, ◌++◌, sym, refl, ap, ◌∙◌, subst, Option, Some, None}
use Rattle.tl_desk.specs.Core.{Core}
use Rattle.tl_hall.specs.History.{entry, Leads}
use mathlib.Core.Option.{none}
use Rattle.atomic_table.specs.Table.{rest, step}
use Rattle.tl_desk.specs.declared.call.Call.{Call}
use Rattle.tl_hall.specs.Rule.{Sat, Entered, recorded}
use Rattle.tl_hall.specs.Passes.{IsResting, IsInside, Saw}

-- the seat that holds the turn and the empty slot
now_inside : (m m' m'' : Sat) → (e : Entered m m') → m'' ≡ (m'.0, (0, None) ∷ []) → m'' ≡ (record m.0 { seen = e.log; turn = true }, (0, None) ∷ [])
now_inside m m' m'' e out = out ∙ ap (λ (x : Sat). let y : Sat = (x.0, (0, None) ∷ []) in y) e.now

pub is_inside : (m m' m'' : Sat) → IsResting m → Entered m m' → m'' ≡ (m'.0, (0, None) ∷ []) → IsInside m''
is_inside m m' m'' calm e out = subst IsInside (sym (now_inside m m' m'' e out))
    record { bare = refl; holds = refl; lives = calm.lives; strides = calm.strides; alone = calm.alone; unmade = e.unmade }

pub is_seen : (m m' m'' : Sat) → Entered m m' → m'' ≡ (m'.0, (0, None) ∷ []) → Saw m.0 m''.0
is_seen m m' m'' e out = subst (λ (x : Sat). Saw m.0 x.0) (sym (now_inside m m' m'' e out))
    record { topo_is = refl; number_is = refl; stride_is = refl; helps_is = refl; sole_is = refl; saw = e.saw; own_is = e.own_is; others = e.others }

pub carries : (m m' : Sat) → IsResting m → (e : Entered m m') → m'.1 ≡ (0, Some e.core) ∷ []
carries m m' calm e = ap (λ (x : Sat). x.1) e.now ∙ ap (λ (cs : List (ℕ × Option Core)). (0, Some e.core) ∷ cs) calm.bare

head_or : Core → List (ℕ × Option Core) → Core
head_or d [] = d
head_or d ((k, None) ∷ cs) = d
head_or d ((k, Some c) ∷ cs) = c

one_desk : (cs : List (ℕ × Option Core)) (c d : Core) → cs ≡ (0, Some c) ∷ [] → cs ≡ (0, Some d) ∷ [] → c ≡ d
unfolding head_or
one_desk cs c d a b = ap (head_or c) (sym a ∙ b)

pub leads_there : (m m' m'' : Sat) (d : Core) → IsResting m → Entered m m' → m'.1 ≡ (0, Some d) ∷ [] → m'' ≡ (m'.0, (0, None) ∷ []) → Leads m.0.topo m''.0.seen d
leads_there m m' m'' d calm e has out =
    subst (λ (x : Sat). Leads m.0.topo x.0.seen d) (sym (now_inside m m' m'' e out)) (subst (Leads m.0.topo e.log) (one_desk m'.1 e.core d (carries m m' calm e) has) e.leads)

pub loaded : (m m' : Sat) (d : Core) → IsInside m → m' ≡ (m.0, (0, Some d) ∷ rest m.1) → m' ≡ (m.0, (0, Some d) ∷ [])
loaded m m' d inside e = e ∙ ap (λ (cs : List (ℕ × Option Core)). let y : Sat = (m.0, (0, Some d) ∷ rest cs) in y) inside.bare

pub noted : (m m' m'' : Sat) (d : Core) (call : Call) → m' ≡ (m.0, (0, Some d) ∷ []) → recorded call (step 1 0 1 0 none) m' 0 m''
    → m'' ≡ (record m.0 { seen = m.0.seen ++ entry m.0.number call ∷ [] }, (0, Some d) ∷ [])
noted m m' m'' d call has rec = rec ∙ ap (λ (x : Sat). let y : Sat = (record x.0 { seen = x.0.seen ++ entry x.0.number call ∷ [] }, x.1) in y) has
