-- What a call leaves of a pass.
use Rattle.std.proofs.Common.{◌≡◌, ℕ, ◌+◌, ◌*◌, Bool, true, false, List, [], ◌∷◌, ◌++◌, sym, refl, ap, ◌∙◌, subst, arith, one-mul}
use Rattle.std.specs.Prelude.{Result, Ok, Err, IfOk, OnErr}
use Rattle.atomic_table.specs.Seated.{TableId}
use Rattle.tl_desk.specs.Core.{Core, IsDesk}
use Rattle.tl_desk.specs.Steps.{Step}
use Rattle.tl_desk.specs.declared.call.Call.{Call}
use Rattle.tl_hall.proofs.Running.{leads_more}
use Rattle.tl_hall.specs.declared.entry.Entry.{Entry}
use Rattle.tl_hall.specs.declared.entry.View.{View}
use Rattle.tl_hall.specs.History.{entry, own, IsOfHall, Leads}
use Rattle.tl_hall.specs.Rule.{Sat, elder, younger, helped, helper}
use Rattle.tl_hall.specs.Passes.{passed, IsResting, IsAtRest, IsInside, Saw, Made, Looked, IsAnother}
use Rattle.tl_hall.proofs.Histories.{own-mine, own-other}
use Rattle.tl_hall.proofs.Keeping.{above, even, odd}

-- v before the call, w while the turn is held, m after it
pub made : (z z' : TableId) (v : View) (w m : Sat) (c d : Core) (call : Call) (Told : Core → Core → Type 0) → z' ≡ z → Saw v w.0 → Leads v.topo w.0.seen c → IsOfHall call → Step c call d → IsDesk d → Told c d
    → m ≡ (record w.0 { turn = false; seen = w.0.seen ++ entry w.0.number call ∷ [] }, []) → Made (passed z v) call Told (passed z' m.0)
made z z' v w m c d call Told same saw leads of_hall step desk told is =
    subst (λ (x : Sat). Made (passed z v) call Told (passed z' x.0)) (sym is) record {
      same = (same, saw.topo_is, saw.number_is, saw.stride_is, saw.sole_is);
      before = w.0.seen;
      saw = saw.saw;
      now = ap (λ (n : ℕ). w.0.seen ++ entry n call ∷ []) saw.number_is;
      own_is = ap (λ (n : ℕ). own v.number (w.0.seen ++ entry n call ∷ [])) saw.number_is ∙ own-mine v.number call w.0.seen ∙ ap (λ (l : List Entry). l ++ entry v.number call ∷ []) saw.own_is;
      others = saw.others;
      from = c;
      to = d;
      led = leads;
      step = step;
      told = told;
      leads = leads_more v.topo w.0.seen w.0.number c call d leads of_hall step desk;
    }

-- The history after a call, however its words are written.
pub recorded_as : (now : View) (c d : Core) (call same : Call) → call ≡ same → Leads now.topo now.seen c → IsOfHall call → Step c call d → IsDesk d → Leads now.topo (now.seen ++ entry now.number same ∷ []) d
recorded_as now c d call same is leads of_hall step desk = subst (λ (k : Call). Leads now.topo (now.seen ++ entry now.number k ∷ []) d) is (leads_more now.topo now.seen now.number c call d leads of_hall step desk)

pub written : (w m : Sat) (call same : Call) → call ≡ same → m ≡ (record w.0 { turn = false; seen = w.0.seen ++ entry w.0.number call ∷ [] }, []) → m ≡ (record w.0 { turn = false; seen = w.0.seen ++ entry w.0.number same ∷ [] }, [])
written w m call same is now = subst (λ (k : Call). m ≡ (record w.0 { turn = false; seen = w.0.seen ++ entry w.0.number k ∷ [] }, [])) is now

pub looked : (z z' : TableId) (v : View) (w m : Sat) (c : Core) (Answer : Core → Type 0) → z' ≡ z → Saw v w.0 → Leads v.topo w.0.seen c → Answer c
    → m ≡ (record w.0 { turn = false }, []) → Looked (passed z v) Answer (passed z' m.0)
looked z z' v w m c Answer same saw leads answer is =
    subst (λ (x : Sat). Looked (passed z v) Answer (passed z' x.0)) (sym is) record {
      same = (same, saw.topo_is, saw.number_is, saw.stride_is, saw.sole_is);
      saw = saw.saw;
      own_is = saw.own_is;
      others = saw.others;
      core = c;
      leads = leads;
      answer = answer;
    }

pub rests : (b : Bool) (v : View) (w m : Sat) → v.helps ≡ b → Saw v w.0 → IsInside w → m ≡ (record w.0 { turn = false }, []) → IsAtRest b m
rests b v w m helps saw inside is = subst (IsAtRest b) (sym is) (record { bare = refl; waits = refl; lives = inside.lives; strides = inside.strides; alone = inside.alone; unmade = inside.unmade }, saw.helps_is ∙ helps)

pub rests_with : (b : Bool) (v : View) (w m : Sat) (call : Call) → v.helps ≡ b → Saw v w.0 → IsInside w → m ≡ (record w.0 { turn = false; seen = w.0.seen ++ entry w.0.number call ∷ [] }, []) → IsAtRest b m
rests_with b v w m call helps saw inside is = subst (IsAtRest b) (sym is) (
  record {
    bare = refl;
    waits = refl;
    lives = inside.lives;
    strides = inside.strides;
    alone = inside.alone;
    unmade = λ k. own-other (w.0.number + (k + 1) * w.0.stride) w.0.seen (entry w.0.number call) (above w.0.number w.0.stride k inside.strides) ∙ inside.unmade k;
  },
  saw.helps_is ∙ helps,
)

-- The pass that gives another one, and what it gives: both own half of the numbers.
module _ (m m' : Sat) (calm : IsResting m) where
  half : (sole : Bool) → m' ≡ (record (elder m.0) { sole = sole }, m.1) → IsResting m'
  half sole is = subst IsResting (sym is) record {
    bare = calm.bare;
    waits = calm.waits;
    lives = calm.lives;
    strides = omega (arith, calm.strides);
    alone = calm.alone;
    unmade = λ k. ap (λ (n : ℕ). own n m.0.seen) (omega (arith, even (k + 1) m.0.stride)) ∙ calm.unmade (k * 2 + 1);
  }

  other_half : (helps : Bool) → m' ≡ (record (younger m.0) { helps = helps }, []) → IsResting m'
  other_half helps is = subst IsResting (sym is) record {
    bare = refl;
    waits = refl;
    lives = refl;
    strides = omega (arith, calm.strides);
    alone = refl;
    unmade = λ k. ap (λ (n : ℕ). own n m.0.seen) (omega (arith, odd (k + 1) m.0.stride)) ∙ calm.unmade ((k + 1) * 2);
  }

  pub rests_elder : (b : Bool) → m.0.helps ≡ b → m' ≡ (elder m.0, m.1) → IsAtRest b m'
  rests_elder b helps is = (half false is, ap (λ (x : Sat). x.0.helps) is ∙ helps)

  pub rests_younger : (b : Bool) → m.0.helps ≡ b → m' ≡ (younger m.0, []) → IsAtRest b m'
  rests_younger b helps is = (other_half m.0.helps is, ap (λ (x : Sat). x.0.helps) is ∙ helps)

  pub rests_helped : (b : Bool) → m.0.helps ≡ b → m' ≡ (helped m.0, m.1) → IsAtRest b m'
  rests_helped b helps is = (half m.0.sole is, ap (λ (x : Sat). x.0.helps) is ∙ helps)

  pub rests_helper : m' ≡ (helper m.0, []) → IsAtRest true m'
  rests_helper is = (other_half true is, ap (λ (x : Sat). x.0.helps) is)

module _ (z z' : TableId) (m m' : Sat) (calm : IsResting m) (same : z' ≡ z) where
  given : (helps : Bool) → m' ≡ (record (younger m.0) { helps = helps }, []) → IsAnother (passed z m.0) (passed z' m'.0)
  given helps is = subst (λ (x : Sat). IsAnother (passed z m.0) (passed z' x.0)) (sym is)
      (same, refl, (λ e. absurd (omega (arith, e, calm.strides))), refl, ap (λ (n : ℕ). own n m.0.seen) (omega (arith, one-mul m.0.stride)) ∙ calm.unmade 0)

  pub is_another : m' ≡ (younger m.0, []) → IsAnother (passed z m.0) (passed z' m'.0)
  is_another is = given m.0.helps is

  pub is_helper : m' ≡ (helper m.0, []) → IsAnother (passed z m.0) (passed z' m'.0)
  is_helper is = given true is

-- ---- both outcomes

pub if_ok : {T E : Type 0} (P Q : T → Type 0) (r : Result T E) → ((x : T) → P x → Q x) → IfOk r P → IfOk r Q
if_ok P Q (Ok x) then is = then x is
if_ok P Q (Err e) then is = tt

pub on_err : {T E : Type 0} (P : Type 0) (r : Result T E) → P → OnErr r P
on_err P (Ok x) is = tt
on_err P (Err e) is = is
