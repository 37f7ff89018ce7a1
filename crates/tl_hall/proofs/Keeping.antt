-- Each step keeps the rule of the table.
use Rattle.std.proofs.Common.{◌≡◌, ◌≢◌, ℕ, zero, suc, ◌+◌, ◌*◌, ◌%◌, ◌^◌, ◌<◌, ◌≤◌, eqb, Bool, true, false, List, [], ◌∷◌, ◌++◌, length, get_or, set, sym, refl, ap, ◌∙◌, subst, ⊎_elim, arith, Option, Some, length-append, eq-eqb, ne_eqb, true≢false, mul-le-mul_right, le_of_mul-le-mul_right, mul_assoc, suc-mul, one-mul}
use mathlib.Core.Logic.{dite}
use mathlib.Core.Option.{none, some, some-injective, some-ne-none}
use mathlib.Core.List.{IsPrefix}
use native.Mathlib.Decide.{ℕ_discrete}
use lib.ListN.{get_elem?}
use lib.Seq.{set-get_or}
use prog.Atomic.{either}
use Rattle.atomic_table.specs.Table.{State, step, keeps, takes, gives, stepped, put_back, rest, Allows, Splits, Joins, opening}
use Rattle.atomic_table.proofs.Lists.{at_set, set_here, set_else, set_again}
use Rattle.tl_desk.specs.Core.{Core, IsNew, IsDesk}
use Rattle.tl_desk.specs.declared.call.Call.{Call}
use Rattle.tl_topology.specs.Topology.{Topology}
use Rattle.tl_hall.proofs.Running.{leads_short}
use Rattle.tl_hall.specs.declared.entry.Entry.{Entry}
use Rattle.tl_hall.specs.declared.entry.View.{View}
use Rattle.tl_hall.specs.History.{entry, own, IsOfWorker, OnlyWork, Leads}
use Rattle.tl_hall.specs.Rule.{newcomer, nobody, Owns, Fits, Kept, Sat, entered, recorded, stayed, left, elder, younger, helped, helper, both, longer, learned}
use Rattle.tl_hall.specs.Passes.{IsResting}
use Rattle.tl_hall.proofs.Histories.{prefix_self, prefix_push, own-other, own_within, own_between, at_snoc_where, below_length, longer_begins, only_self, only_push, only_between}

abbrev St : Type 0
St = State (Option Core) View

off : false ≡ true → ⊥
off e = true≢false (sym e)

-- numbers that are given: each second one goes to the new pass
pub even : (k s : ℕ) → k * (2 * s) ≡ k * 2 * s
even k s = sym (mul_assoc k 2 s)

pub odd : (k s : ℕ) → s + k * (2 * s) ≡ (k * 2 + 1) * s
odd k s = omega (arith, even k s, suc-mul (k * 2) s, ap (λ (n : ℕ). n * s) (let e : suc (k * 2) ≡ k * 2 + 1 = omega arith in e))

no_meeting : (k m s : ℕ) → 0 < s → k * 2 * s ≡ (m * 2 + 1) * s → ⊥
no_meeting k m s more is =
    let a : k * 2 ≤ m * 2 + 1 = le_of_mul-le-mul_right (omega (arith, is)) more in
    let b : m * 2 + 1 ≤ k * 2 = le_of_mul-le-mul_right (omega (arith, is)) more in
    absurd (omega (arith, a, b))

-- a number of its own is none that it gives
pub above : (a b k : ℕ) → 0 < b → a ≢ a + (k + 1) * b
above a b k more is = let p : 1 * b ≤ (k + 1) * b = mul-le-mul_right b (omega arith) in absurd (omega (arith, is, p))

module _ (topo : Topology) where
  -- the seat's own view has changed, and the others fit as they did
  each_set : (views : List View) (id : ℕ) (w : View) (log : List Entry) (turn holder : ℕ) → Fits topo log turn holder id w
      → ((j : ℕ) (u : View) → j ≢ id → get_elem? views j ≡ some u → u.spent ≡ false → Fits topo log turn holder j u)
      → (j : ℕ) (u : View) → get_elem? (set views id w) j ≡ some u → u.spent ≡ false → Fits topo log turn holder j u
  each_set views id w log turn holder mine others j u e lives =
      ⊎_elim
      (λ (x : (j ≡ id) × (w ≡ u)). subst (λ (y : ℕ × View). Fits topo log turn holder y.0 y.1) (λ i. (sym x.0 i, x.1 i)) mine)
      (λ (x : (j ≢ id) × (get_elem? views j ≡ some u)). others j u x.0 x.1 lives)
      (at_set views id j w u e)

  abbrev AreApart : List View → Type 0
  AreApart views = (i j : ℕ) (v w : View) → get_elem? views i ≡ some v → get_elem? views j ≡ some w → v.spent ≡ false → w.spent ≡ false → i ≢ j → (n : ℕ) → Owns v n → Owns w n → ⊥

  -- a view that owns no more
  apart_set : (views : List View) (id : ℕ) (v w : View) → AreApart views → get_elem? views id ≡ some v → v.spent ≡ false → ((n : ℕ) → Owns w n → Owns v n) → AreApart (set views id w)
  apart_set views id v w apart at lives fewer i j a b ea eb la lb ne n oa ob =
      ⊎_elim
      (λ (x : (i ≡ id) × (w ≡ a)). ⊎_elim
      (λ (y : (j ≡ id) × (w ≡ b)). ne (x.0 ∙ sym y.0))
      (λ (y : (j ≢ id) × (get_elem? views j ≡ some b)). apart id j v b at y.1 lives lb (λ e. y.0 (sym e)) n (fewer n (subst (λ (z : View). Owns z n) (sym x.1) oa)) ob)
      (at_set views id j w b eb))
      (λ (x : (i ≢ id) × (get_elem? views i ≡ some a)). ⊎_elim
      (λ (y : (j ≡ id) × (w ≡ b)). apart i id a v x.1 at la lives x.0 n oa (fewer n (subst (λ (z : View). Owns z n) (sym y.1) ob)))
      (λ (y : (j ≢ id) × (get_elem? views j ≡ some b)). apart i j a b x.1 y.1 la lb ne n oa ob)
      (at_set views id j w b eb))
      (at_set views id i w a ea)

  abbrev AreLone : List View → Type 0
  AreLone views = (i j : ℕ) (v w : View) → get_elem? views i ≡ some v → get_elem? views j ≡ some w → v.spent ≡ false → w.spent ≡ false → i ≢ j → v.sole ≡ true → w.helps ≡ true

  -- a view that may do no more, and is sole only where it was
  lone_set : (views : List View) (id : ℕ) (v w : View) → AreLone views → get_elem? views id ≡ some v → v.spent ≡ false → (w.sole ≡ true → v.sole ≡ true) → w.helps ≡ v.helps → AreLone (set views id w)
  lone_set views id v w lone at lives fewer helps i j a b ea eb la lb ne is =
      ⊎_elim
      (λ (x : (i ≡ id) × (w ≡ a)). ⊎_elim
      (λ (y : (j ≡ id) × (w ≡ b)). absurd (ne (x.0 ∙ sym y.0)))
      (λ (y : (j ≢ id) × (get_elem? views j ≡ some b)). lone id j v b at y.1 lives lb (λ e. y.0 (sym e)) (fewer (ap (λ (z : View). z.sole) x.1 ∙ is)))
      (at_set views id j w b eb))
      (λ (x : (i ≢ id) × (get_elem? views i ≡ some a)). ⊎_elim
      (λ (y : (j ≡ id) × (w ≡ b)). sym (ap (λ (z : View). z.helps) y.1) ∙ (helps ∙ lone i id a v x.1 at la lives x.0 is))
      (λ (y : (j ≢ id) × (get_elem? views j ≡ some b)). lone i j a b x.1 y.1 la lb ne is)
      (at_set views id j w b eb))
      (at_set views id i w a ea)

  -- nothing has changed
  unmoved : (s : St) (i id : ℕ) (v : View) (cs : List (ℕ × Option Core)) → get_elem? s.views id ≡ some v → Kept topo s → Kept topo (stepped s i (get_or s.words i 0) id cs v keeps)
  unmoved s i id v cs at h =
      subst (λ (ws : List ℕ). Kept topo record { words = ws; homes = s.homes; views = set s.views id v }) (sym (set-get_or s.words i 0))
      (subst (λ (vs : List View). Kept topo record { words = s.words; homes = s.homes; views = vs }) (sym (set_again s.views id v at)) h)

  turn_of : (s : St) (h : Kept topo s) → get_or s.words 1 0 ≡ h.turn
  turn_of s h = ap (λ (ws : List ℕ). get_or ws 1 0) h.words

  count_of : (s : St) (h : Kept topo s) → get_or s.words 0 0 ≡ length h.log
  count_of s h = ap (λ (ws : List ℕ). get_or ws 0 0) h.words

  -- The turn is taken where it was free
  pub enters : (slots id : ℕ) (me : Sat) → IsResting me → Allows (Kept topo) slots id me 1 (λ n. either (eqb n 0) 1 n) (entered (step slots 1 0 1 none) me)
  enters slots id me calm s h deep at lt =
      let n : ℕ = get_or s.words 1 0 in
      let mine = h.each id me.0 at calm.lives in
      dite (ℕ_discrete n 0)
      (λ hit. let free = h.free (sym (turn_of s h) ∙ hit) in
      let w : View = record me.0 { seen = h.log; turn = true } in (
        w,
        takes 0 (Some free.0),
        free.1,
        subst (λ b. Kept topo (stepped s 1 (either b 1 n) id me.1 w (takes 0 (Some free.0)))) (sym (eq-eqb n 0 hit)) record {
          log = h.log;
          turn = 1;
          holder = id;
          words = ap (λ (ws : List ℕ). set ws 1 1) h.words;
          free = λ z. absurd (omega arith);
          each = each_set s.views id w h.log 1 id
              record { topo_is = mine.topo_is; strides = mine.strides; saw = prefix_self h.log; heard = mine.heard; own_is = refl; unmade = mine.unmade; turn_is = λ _. (refl, refl, refl); others = λ _. only_self h.log }
              (λ j u other e lives. let fits = h.each j u e lives in
              record { topo_is = fits.topo_is; strides = fits.strides; saw = fits.saw; heard = fits.heard; own_is = fits.own_is; unmade = fits.unmade; turn_is = λ t. let was = fits.turn_is t in let free : h.turn ≡ 0 = sym (turn_of s h) ∙ hit in absurd (omega (arith, was.0, free)); others = fits.others });
          apart = apart_set s.views id me.0 w h.apart at calm.lives (λ m o. o);
          lone = lone_set s.views id me.0 w h.lone at calm.lives (λ is. is) refl;
        },
        ((λ _. record { log = h.log; core = free.0; now = refl; leads = subst (λ (r : Topology). Leads r h.log free.0) (sym mine.topo_is) free.2; saw = mine.saw; own_is = mine.own_is; unmade = mine.unmade; others = mine.others }), λ not. absurd (not hit)),
      ))
      (λ miss. (
        me.0,
        keeps,
        tt,
        subst (λ b. Kept topo (stepped s 1 (either b 1 n) id me.1 me.0 keeps)) (sym (ne_eqb n 0 miss)) (unmoved s 1 id me.0 me.1 at h),
        ((λ hit. absurd (miss hit)), λ _. refl),
      ))

  owns_own : (v : View) → Owns v v.number
  owns_own v = (0, omega arith)

  -- An entry is added to the history, which the holder of the turn has seen
  pub records : (slots id : ℕ) (me : Sat) (call : Call) (core : Core) → (me.0.helps ≡ true → IsOfWorker call) → me.0.turn ≡ true → me.0.spent ≡ false → Leads me.0.topo (me.0.seen ++ entry me.0.number call ∷ []) core
      → Allows (Kept topo) slots id me 0 (λ n. (n + 1) % 2 ^ 64) (recorded call (step slots 0 1 0 none) me)
  records slots id me call core may holds lives leads s h deep at lt =
      let mine = h.each id me.0 at lives in
      let known = mine.turn_is holds in
      let e : Entry = entry me.0.number call in
      let log : List Entry = h.log ++ e ∷ [] in
      let w : View = record me.0 { seen = me.0.seen ++ e ∷ [] } in
      let same : me.0.seen ++ e ∷ [] ≡ log = ap (λ (l : List Entry). l ++ e ∷ []) known.2 in
      let few : length (me.0.seen ++ e ∷ []) < 2 ^ 64 = leads_short me.0.topo (me.0.seen ++ e ∷ []) core leads in
      let long : length log ≡ length h.log + 1 = length-append h.log (e ∷ []) in
      let n : ℕ = get_or s.words 0 0 in
      let was : n ≡ length h.log = count_of s h in
      let fits : length log < 2 ^ 64 = subst (λ (l : List Entry). length l < 2 ^ 64) same few in
      let now : (n + 1) % 2 ^ 64 ≡ length log = omega (arith, was, long, fits) in (
        w,
        keeps,
        tt,
        record {
          log = log;
          turn = h.turn;
          holder = h.holder;
          words = ap (λ (ws : List ℕ). set ws 0 ((n + 1) % 2 ^ 64)) h.words ∙ ap (λ (k : ℕ). k ∷ h.turn ∷ []) now;
          free = λ z. absurd (omega (arith, known.0, z));
          each = each_set s.views id w log h.turn h.holder
              record {
                topo_is = mine.topo_is;
                strides = mine.strides;
                saw = subst (λ (l : List Entry). IsPrefix l log) (sym same) (prefix_self log);
                heard = prefix_push me.0.met h.log (e ∷ []) mine.heard;
                own_is = ap (own me.0.number) (sym same);
                unmade = λ k. own-other (me.0.number + (k + 1) * me.0.stride) h.log e (above me.0.number me.0.stride k mine.strides) ∙ mine.unmade k;
                turn_is = λ _. (known.0, known.1, same);
                others = λ _. subst (OnlyWork w.seen) same (only_self w.seen);
              }
              (λ j u other found alive. let fits = h.each j u found alive in
              let ne : (k : ℕ) → me.0.number ≢ u.number + k * u.stride = λ k is. h.apart id j me.0 u at found lives alive (λ x. other (sym x)) me.0.number (owns_own me.0) (k, is) in
              record {
                topo_is = fits.topo_is;
                strides = fits.strides;
                saw = prefix_push u.seen h.log (e ∷ []) fits.saw;
                heard = prefix_push u.met h.log (e ∷ []) fits.heard;
                own_is = own-other u.number h.log e (λ is. ne 0 (omega (arith, is))) ∙ fits.own_is;
                unmade = λ k. own-other (u.number + (k + 1) * u.stride) h.log e (ne (k + 1)) ∙ fits.unmade k;
                turn_is = λ t. absurd (other ((fits.turn_is t).1 ∙ sym known.1));
                others = λ is. only_push u.seen h.log e (fits.others is) (may (h.lone j id u me.0 found at alive lives other is));
              });
          apart = apart_set s.views id me.0 w h.apart at lives (λ m o. o);
          lone = lone_set s.views id me.0 w h.lone at lives (λ is. is) refl;
        },
        refl,
      )

  -- No entry is added
  pub stays : (slots id : ℕ) (me : Sat) → me.0.turn ≡ true → Allows (Kept topo) slots id me 0 (λ n. (n + 0) % 2 ^ 64) (stayed (step slots 0 0 0 none) me)
  stays slots id me holds s h deep at lt =
      let n : ℕ = get_or s.words 0 0 in
      let low : n < 18446744073709551616 = lt in
      let same : (n + 0) % 2 ^ 64 ≡ n = omega (arith, low) in
      (me.0, keeps, tt, subst (λ (k : ℕ). Kept topo (stepped s 0 k id me.1 me.0 keeps)) (sym same) (unmoved s 0 id me.0 me.1 at h), refl)

  -- The turn is given up, and the desk is back in the slot
  pub leaves : (slots id : ℕ) (me : Sat) (core : Core) → me.1 ≡ (0, Some core) ∷ [] → me.0.turn ≡ true → me.0.spent ≡ false → 0 < slots → Leads me.0.topo me.0.seen core
      → Allows (Kept topo) slots id me 1 (λ _. 0) (λ _. left (step slots 1 0 0 none) me 0)
  leaves slots id me core bare holds lives some_slot leads s h deep at lt =
      let mine = h.each id me.0 at lives in
      let known = mine.turn_is holds in
      let w : View = record me.0 { turn = false } in (
        w,
        gives,
        tt,
        record {
          log = h.log;
          turn = 0;
          holder = h.holder;
          words = ap (λ (ws : List ℕ). set ws 1 0) h.words;
          free = λ _. (
            core,
            subst (λ (cs : List (ℕ × Option Core)). get_elem? (put_back s.homes cs) 0 ≡ some (some (Some core))) (sym bare) (set_here s.homes 0 (some (Some core)) (omega (arith, deep, some_slot))),
            subst (λ (r : Topology). Leads r h.log core) mine.topo_is (subst (λ (l : List Entry). Leads me.0.topo l core) known.2 leads),
          );
          each = each_set s.views id w h.log 0 h.holder
              record { topo_is = mine.topo_is; strides = mine.strides; saw = mine.saw; heard = mine.heard; own_is = mine.own_is; unmade = mine.unmade; turn_is = λ t. absurd (off t); others = mine.others }
              (λ j u other found alive. let fits = h.each j u found alive in
              record { topo_is = fits.topo_is; strides = fits.strides; saw = fits.saw; heard = fits.heard; own_is = fits.own_is; unmade = fits.unmade; turn_is = λ t. absurd (other ((fits.turn_is t).1 ∙ sym known.1)); others = fits.others });
          apart = apart_set s.views id me.0 w h.apart at lives (λ m o. o);
          lone = lone_set s.views id me.0 w h.lone at lives (λ is. is) refl;
        },
        λ i. (w, after i),
      )
    where
      after : rest me.1 ≡ []
      after = ap rest bare

  pub begins : (core : Core) → IsNew topo core → IsDesk core → Kept topo (opening (0 ∷ 0 ∷ []) (Some core ∷ []) (newcomer topo))
  begins core is desk = record {
    log = [];
    turn = 0;
    holder = 0;
    words = refl;
    free = λ _. (core, refl, (core, is, (desk, refl)));
    each = one;
    apart = alone;
    lone = first;
  }
    where
      one : (by : ℕ) (v : View) → get_elem? (newcomer topo ∷ []) by ≡ some v → v.spent ≡ false → Fits topo [] 0 0 by v
      one zero v e lives = subst (Fits topo [] 0 0 0) (some-injective _ _ e)
          record { topo_is = refl; strides = omega arith; saw = ([], refl); heard = ([], refl); own_is = refl; unmade = λ _. refl; turn_is = λ t. absurd (off t); others = λ _. only_self [] }
      one (suc by) v e lives = absurd (some-ne-none v (sym e))

      alone : AreApart (newcomer topo ∷ [])
      alone zero zero v w ea eb la lb ne n oa ob = ne refl
      alone zero (suc j) v w ea eb la lb ne n oa ob = absurd (some-ne-none w (sym eb))
      alone (suc i) j v w ea eb la lb ne n oa ob = absurd (some-ne-none v (sym ea))

      first : AreLone (newcomer topo ∷ [])
      first zero zero v w ea eb la lb ne is = absurd (ne refl)
      first zero (suc j) v w ea eb la lb ne is = absurd (some-ne-none w (sym eb))
      first (suc i) j v w ea eb la lb ne is = absurd (some-ne-none v (sym ea))

  -- the same of a seat that is known to hold the desk
  abbrev holding : View → Core → Sat
  holding v core = (v, (0, Some core) ∷ [])

  pub records_as : (slots id : ℕ) (me : Sat) (v : View) (call : Call) (core : Core) → me ≡ holding v core → (v.helps ≡ true → IsOfWorker call) → v.turn ≡ true → v.spent ≡ false → Leads v.topo (v.seen ++ entry v.number call ∷ []) core
      → Allows (Kept topo) slots id me 0 (λ n. (n + 1) % 2 ^ 64) (recorded call (step slots 0 1 0 none) me)
  records_as slots id me v call core is may holds lives leads =
      subst (λ (m : Sat). Allows (Kept topo) slots id m 0 (λ n. (n + 1) % 2 ^ 64) (recorded call (step slots 0 1 0 none) m)) (sym is)
      (records slots id (holding v core) call core may holds lives leads)

  pub stays_as : (slots id : ℕ) (me : Sat) (v : View) (core : Core) → me ≡ holding v core → v.turn ≡ true → Allows (Kept topo) slots id me 0 (λ n. (n + 0) % 2 ^ 64) (stayed (step slots 0 0 0 none) me)
  stays_as slots id me v core is holds =
      subst (λ (m : Sat). Allows (Kept topo) slots id m 0 (λ n. (n + 0) % 2 ^ 64) (stayed (step slots 0 0 0 none) m)) (sym is) (stays slots id (holding v core) holds)

  pub leaves_as : (slots id : ℕ) (me : Sat) (v : View) (core : Core) → me ≡ holding v core → v.turn ≡ true → v.spent ≡ false → 0 < slots → Leads v.topo v.seen core
      → Allows (Kept topo) slots id me 1 (λ _. 0) (λ _. left (step slots 1 0 0 none) me 0)
  leaves_as slots id me v core is holds lives some_slot leads =
      subst (λ (m : Sat). Allows (Kept topo) slots id m 1 (λ _. 0) (λ _. left (step slots 1 0 0 none) m 0)) (sym is) (leaves slots id (holding v core) core refl holds lives some_slot leads)

  -- Each second number that the pass may give goes to the new one
  elder_owns : (v : View) (n : ℕ) → Owns (elder v) n → Owns v n
  elder_owns v n o = (o.0 * 2, o.1 ∙ ap (λ (k : ℕ). v.number + k) (even o.0 v.stride))

  younger_owns : (v : View) (n : ℕ) → Owns (younger v) n → Owns v n
  younger_owns v n o = (o.0 * 2 + 1, omega (arith, o.1, odd o.0 v.stride))

  twins_apart : (v : View) (n : ℕ) → 0 < v.stride → Owns (elder v) n → Owns (younger v) n → ⊥
  twins_apart v n more a b = no_meeting a.0 b.0 v.stride more (omega (arith, a.1, b.1, even a.0 v.stride, odd b.0 v.stride))

  -- A pass that only helps gives one that does, and so does one that stays sole
  splits_as : (id : ℕ) (v : View) (sole helps : Bool) → (sole ≡ true → v.sole ≡ true) → (sole ≡ true → helps ≡ true) → (v.helps ≡ true → helps ≡ true) → v.turn ≡ false → v.spent ≡ false
      → Splits (Kept topo) id v (record (elder v) { sole = sole }) (record (younger v) { helps = helps })
  splits_as id v sole helps fewer helped both waits lives s h at =
      let one : View = record (elder v) { sole = sole } in
      let two : View = record (younger v) { helps = helps } in
      let mine = h.each id v at lives in
      let views : List View = set s.views id one in
      let here : AreApart views = apart_set s.views id v one h.apart at lives (elder_owns v) in
      let lone : AreLone views = lone_set s.views id v one h.lone at lives fewer refl in
      let low : id < length s.views = below_length s.views v id at in
      let old : Fits topo h.log h.turn h.holder id one =
      record { topo_is = mine.topo_is; strides = omega (arith, mine.strides); saw = mine.saw; heard = mine.heard; own_is = mine.own_is; unmade = λ k. ap (λ (n : ℕ). own n h.log) (omega (arith, even (k + 1) v.stride)) ∙ mine.unmade (k * 2 + 1); turn_is = mine.turn_is; others = λ is. mine.others (fewer is) } in
      let none : own (v.number + v.stride) h.log ≡ [] = ap (λ (n : ℕ). own n h.log) (omega (arith, one-mul v.stride)) ∙ mine.unmade 0 in
      let new : (j : ℕ) → Fits topo h.log h.turn h.holder j two = λ j.
      record { topo_is = mine.topo_is; strides = omega (arith, mine.strides); saw = mine.saw; heard = (h.log, refl); own_is = none ∙ sym (own_within (v.number + v.stride) v.seen h.log mine.saw none); unmade = λ k. ap (λ (n : ℕ). own n h.log) (omega (arith, odd (k + 1) v.stride)) ∙ mine.unmade ((k + 1) * 2); turn_is = λ t. absurd (off t); others = λ is. absurd (off is) } in
      let meets : (i : ℕ) (u : View) → get_elem? views i ≡ some u → u.spent ≡ false → (n : ℕ) → Owns u n → Owns two n → ⊥ = λ i u found alive n a b.
      ⊎_elim
      (λ (x : (i ≡ id) × (one ≡ u)). twins_apart v n mine.strides (subst (λ (z : View). Owns z n) (sym x.1) a) b)
      (λ (x : (i ≢ id) × (get_elem? s.views i ≡ some u)). h.apart i id u v x.1 at alive lives x.0 n a (younger_owns v n b))
      (at_set s.views id i one u found) in
      let helps_it : (i : ℕ) (u : View) → get_elem? views i ≡ some u → u.spent ≡ false → u.sole ≡ true → helps ≡ true = λ i u found alive is.
      ⊎_elim
      (λ (x : (i ≡ id) × (one ≡ u)). helped (ap (λ (z : View). z.sole) x.1 ∙ is))
      (λ (x : (i ≢ id) × (get_elem? s.views i ≡ some u)). both (h.lone i id u v x.1 at alive lives x.0 is))
      (at_set s.views id i one u found) in
      record {
        log = h.log;
        turn = h.turn;
        holder = h.holder;
        words = h.words;
        free = h.free;
        each = λ j u found alive. ⊎_elim
            (λ (x : get_elem? views j ≡ some u). each_set s.views id one h.log h.turn h.holder old (λ i y other e l. h.each i y e l) j u x alive)
            (λ (x : (j ≡ length views) × (two ≡ u)). subst (Fits topo h.log h.turn h.holder j) x.1 (new j))
            (at_snoc_where views two u j found);
        apart = λ i j a b ea eb la lb ne n oa ob. ⊎_elim
            (λ (x : get_elem? views i ≡ some a). ⊎_elim
            (λ (y : get_elem? views j ≡ some b). here i j a b x y la lb ne n oa ob)
            (λ (y : (j ≡ length views) × (two ≡ b)). meets i a x la n oa (subst (λ (z : View). Owns z n) (sym y.1) ob))
            (at_snoc_where views two b j eb))
            (λ (x : (i ≡ length views) × (two ≡ a)). ⊎_elim
            (λ (y : get_elem? views j ≡ some b). meets j b y lb n ob (subst (λ (z : View). Owns z n) (sym x.1) oa))
            (λ (y : (j ≡ length views) × (two ≡ b)). ne (x.0 ∙ sym y.0))
            (at_snoc_where views two b j eb))
            (at_snoc_where views two a i ea);
        lone = λ i j a b ea eb la lb ne is. ⊎_elim
            (λ (x : get_elem? views i ≡ some a). ⊎_elim
            (λ (y : get_elem? views j ≡ some b). lone i j a b x y la lb ne is)
            (λ (y : (j ≡ length views) × (two ≡ b)). sym (ap (λ (z : View). z.helps) y.1) ∙ helps_it i a x la is)
            (at_snoc_where views two b j eb))
            (λ (x : (i ≡ length views) × (two ≡ a)). absurd (off (ap (λ (z : View). z.sole) x.1 ∙ is)))
            (at_snoc_where views two a i ea);
      }

  pub splits : (id : ℕ) (v : View) → v.turn ≡ false → v.spent ≡ false → Splits (Kept topo) id v (elder v) (younger v)
  splits id v waits lives = splits_as id v false v.helps (λ is. absurd (off is)) (λ is. absurd (off is)) (λ is. is) waits lives

  pub splits_off : (id : ℕ) (v : View) → v.turn ≡ false → v.spent ≡ false → Splits (Kept topo) id v (helped v) (helper v)
  splits_off id v waits lives = splits_as id v v.sole true (λ is. is) (λ _. refl) (λ _. refl) waits lives

  -- One pass keeps both lists, and the other is spent
  pub joins : (id other : ℕ) (v w : View) → v.spent ≡ false → w.spent ≡ false → Joins (Kept topo) id v other w (both v w) nobody
  joins id other v w lives alive s h at apart there =
      let x : View = both v w in
      let mine = h.each id v at lives in
      let found : get_elem? s.views other ≡ some w = sym (set_else s.views id other x apart) ∙ there in
      let theirs = h.each other w found alive in
      let views : List View = set s.views id x in
      let each : (j : ℕ) (u : View) → get_elem? views j ≡ some u → u.spent ≡ false → Fits topo h.log h.turn h.holder j u =
      each_set s.views id x h.log h.turn h.holder
      record { topo_is = mine.topo_is; strides = mine.strides; saw = mine.saw; heard = theirs.saw; own_is = mine.own_is; unmade = mine.unmade; turn_is = mine.turn_is; others = mine.others }
      (λ j u _ e l. h.each j u e l) in
      let keep : AreApart views = apart_set s.views id v x h.apart at lives (λ n o. o) in
      let lone : AreLone views = lone_set s.views id v x h.lone at lives (λ is. is) refl in
      record {
        log = h.log;
        turn = h.turn;
        holder = h.holder;
        words = h.words;
        free = h.free;
        each = λ j u e l. ⊎_elim
            (λ (y : (j ≡ other) × (nobody ≡ u)). absurd (off (sym l ∙ sym (ap (λ (z : View). z.spent) y.1))))
            (λ (y : (j ≢ other) × (get_elem? views j ≡ some u)). each j u y.1 l)
            (at_set views other j nobody u e);
        apart = λ i j a b ea eb la lb ne n oa ob. ⊎_elim
            (λ (y : (i ≡ other) × (nobody ≡ a)). absurd (off (sym la ∙ sym (ap (λ (z : View). z.spent) y.1))))
            (λ (y : (i ≢ other) × (get_elem? views i ≡ some a)). ⊎_elim
            (λ (z : (j ≡ other) × (nobody ≡ b)). absurd (off (sym lb ∙ sym (ap (λ (q : View). q.spent) z.1))))
            (λ (z : (j ≢ other) × (get_elem? views j ≡ some b)). keep i j a b y.1 z.1 la lb ne n oa ob)
            (at_set views other j nobody b eb))
            (at_set views other i nobody a ea);
        lone = λ i j a b ea eb la lb ne is. ⊎_elim
            (λ (y : (i ≡ other) × (nobody ≡ a)). absurd (off (sym la ∙ sym (ap (λ (z : View). z.spent) y.1))))
            (λ (y : (i ≢ other) × (get_elem? views i ≡ some a)). ⊎_elim
            (λ (z : (j ≡ other) × (nobody ≡ b)). absurd (off (sym lb ∙ sym (ap (λ (q : View). q.spent) z.1))))
            (λ (z : (j ≢ other) × (get_elem? views j ≡ some b)). lone i j a b y.1 z.1 la lb ne is)
            (at_set views other j nobody b eb))
            (at_set views other i nobody a ea);
      }

  -- Both lists are beginnings of the history, and the longer one is kept
  pub learns : (slots id : ℕ) (me : Sat) → me.0.spent ≡ false → me.0.turn ≡ false → Allows (Kept topo) slots id me 0 (λ n. n) (learned (step slots 0 0 0 none) me)
  learns slots id me lives waits s h deep at lt =
      let v : View = me.0 in
      let mine = h.each id v at lives in
      let all = longer_begins v.seen v.met h.log mine.saw mine.heard in
      let most : List Entry = longer v.seen v.met in
      let w : View = record v { seen = most; met = [] } in
      let own_is : own v.number most ≡ own v.number v.seen = own_between v.number v.seen most h.log all.0 all.2 mine.own_is in (
        w,
        keeps,
        tt,
        subst (λ (ws : List ℕ). Kept topo record { words = ws; homes = s.homes; views = set s.views id w }) (sym (set-get_or s.words 0 0)) record {
          log = h.log;
          turn = h.turn;
          holder = h.holder;
          words = h.words;
          free = h.free;
          each = each_set s.views id w h.log h.turn h.holder
              record { topo_is = mine.topo_is; strides = mine.strides; saw = all.2; heard = (h.log, refl); own_is = mine.own_is ∙ sym own_is; unmade = mine.unmade; turn_is = λ t. absurd (off (sym waits ∙ t)); others = λ is. (only_between v.seen most h.log (mine.others is) all.0 all.2).1 }
              (λ j u _ e l. h.each j u e l);
          apart = apart_set s.views id v w h.apart at lives (λ n o. o);
          lone = lone_set s.views id v w h.lone at lives (λ is. is) refl;
        },
        record { now = refl; one = all.0; other = all.1; own_is = own_is; unmade = λ k. own_within (v.number + (k + 1) * v.stride) most h.log all.2 (mine.unmade k); others = λ is. (only_between v.seen most h.log (mine.others is) all.0 all.2).0 },
      )
