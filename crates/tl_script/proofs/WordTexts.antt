-- Channels, classes, permits and names: each word is read as what it spells, and as nothing else.
use Rattle.std.proofs.Common.{◌≡◌, ℕ, ◌≤◌, Bool, true, false, cond, eqb, not, List, [], ◌∷◌, ◌++◌, Option, Some, None, refl, subst, arith}
use Rattle.std.proofs.lemmas.Option.{none-some, same_Some}
use Rattle.std.proofs.lemmas.Bool.{eqb-true, eq-eqb, and_from}
use Rattle.tl_text.specs.Words.{◌>>=◌, ◌␣◌}
use Rattle.tl_text.specs.Numbers.{numeral}
use Rattle.tl_text.specs.Names.{is_name}
use Rattle.tl_text.proofs.Cuts.{is_free}
use Rattle.tl_text.proofs.Numerals.{bind_some, number_again}
use Rattle.tl_text.proofs.Spelling.{number_step}
use Rattle.tl_tables.specs.declared.Chan.{Chan}
use Rattle.tl_tables.specs.declared.Chan.TheVariants as chan
use Rattle.tl_text.specs.Naming.{name_at}
use Rattle.tl_topology.specs.declared.region.Permits.{Permits}
use Rattle.tl_beats.specs.Text.{chan_text}
use Rattle.tl_beats.specs.declared.watch.Class.{Class}
use Rattle.tl_script.specs.Lines.{chan_at, class_at, permit_at, permits_at}
use Rattle.tl_script.specs.Text.{permit_text, permits_text}

pub joined : (line word rest text more : List ℕ) → line ≡ word ++ 32 ∷ rest → word ≡ text → rest ≡ more → line ≡ text ␣ more
joined line word rest text more e p q = rw (← p, ← q) e

-- ---- names

at_name : {B : Type 0} (t : Bool) (word : List ℕ) (f : List ℕ → Option B) (y : B) → (cond t (Some word) None >>= f) ≡ Some y → (t ≡ true) × (f word ≡ Some y)
at_name true word f y e = (refl, e)
at_name false word f y e = absurd (none-some y e)

pub name_step : {B : Type 0} (word : List ℕ) (f : List ℕ → Option B) (y : B) (P : Type 0) → (name_at word >>= f) ≡ Some y → (is_name word ≡ true → f word ≡ Some y → P) → P
unfolding name_at
name_step word f y P e k =
    let t = at_name (is_name word) word f y e in
    k t.0 t.1

pub name_again : (name : List ℕ) → is_name name ≡ true → name_at name ≡ Some name
unfolding name_at
name_again name is = rw is refl

-- ---- channels and classes

at_chan : (p q r s t : Bool) (b : ℕ) (c : Chan) → (p ≡ true → b ≡ 65) → (q ≡ true → b ≡ 66) → (r ≡ true → b ≡ 67) → (s ≡ true → b ≡ 68) → (t ≡ true → b ≡ 69)
    → cond p (Some chan.A) (cond q (Some chan.B) (cond r (Some chan.C) (cond s (Some chan.D) (cond t (Some chan.E) None)))) ≡ Some c → b ∷ [] ≡ chan_text c
at_chan true q r s t b c is_a is_b is_c is_d is_e e = rw (← same_Some _ _ e, is_a refl) refl
at_chan false true r s t b c is_a is_b is_c is_d is_e e = rw (← same_Some _ _ e, is_b refl) refl
at_chan false false true s t b c is_a is_b is_c is_d is_e e = rw (← same_Some _ _ e, is_c refl) refl
at_chan false false false true t b c is_a is_b is_c is_d is_e e = rw (← same_Some _ _ e, is_d refl) refl
at_chan false false false false true b c is_a is_b is_c is_d is_e e = rw (← same_Some _ _ e, is_e refl) refl
at_chan false false false false false b c is_a is_b is_c is_d is_e e = absurd (none-some c e)

chan_takes : (word : List ℕ) (c : Chan) → chan_at word ≡ Some c → word ≡ chan_text c
unfolding chan_at
chan_takes [] c e = absurd (none-some c e)
chan_takes (x ∷ y ∷ word) c e = absurd (none-some c e)
chan_takes (x ∷ []) c e =
    at_chan (eqb x 65) (eqb x 66) (eqb x 67) (eqb x 68) (eqb x 69) x c (λ h. eqb-true x 65 h) (λ h. eqb-true x 66 h) (λ h. eqb-true x 67 h) (λ h. eqb-true x 68 h) (λ h. eqb-true x 69 h) e

chan_again : (c : Chan) → chan_at (chan_text c) ≡ Some c
unfolding chan_at
chan_again chan.A = refl
chan_again chan.B = refl
chan_again chan.C = refl
chan_again chan.D = refl
chan_again chan.E = refl

pub chan_space : (c : Chan) → is_free 32 (chan_text c) ≡ true
chan_space chan.A = refl
chan_space chan.B = refl
chan_space chan.C = refl
chan_space chan.D = refl
chan_space chan.E = refl

pub chan_line : (c : Chan) → is_free 10 (chan_text c) ≡ true
chan_line chan.A = refl
chan_line chan.B = refl
chan_line chan.C = refl
chan_line chan.D = refl
chan_line chan.E = refl

pub record IsClass (channel opcode : List ℕ) (c : Class) : Type 0 where
  pub channel_is : channel ≡ chan_text c.chan
  pub opcode_is : opcode ≡ numeral 10 c.opcode
  pub small : c.opcode ≤ 7

class_takes : (channel opcode : List ℕ) (c : Class) → class_at channel opcode ≡ Some c → IsClass channel opcode c
unfolding class_at
class_takes channel opcode c e =
    let found = bind_some (chan_at channel) _ c e in
    number_step 10 7 opcode _ c (IsClass channel opcode c) (omega arith) (omega arith) found.2 (λ o is small k.
    let made : Class = record { chan = found.0; opcode = o } in
    subst (λ (x : Class). IsClass channel opcode x) (same_Some made c k) (record { channel_is = chan_takes channel found.0 found.1; opcode_is = is; small = small }))

pub class_step : {B : Type 0} (channel opcode : List ℕ) (f : Class → Option B) (y : B) (P : Type 0) → (class_at channel opcode >>= f) ≡ Some y → ((c : Class) → IsClass channel opcode c → f c ≡ Some y → P) → P
class_step channel opcode f y P e k =
    let c = bind_some (class_at channel opcode) f y e in
    k c.0 (class_takes channel opcode c.0 c.1) c.2

pub class_again : (c : Class) → c.opcode ≤ 7 → class_at (chan_text c.chan) (numeral 10 c.opcode) ≡ Some c
unfolding class_at
class_again c small = rw (chan_again c.chan, number_again 10 7 c.opcode (omega arith) (omega arith) small (omega arith)) refl

-- ---- permits

at_permit : (s t : Bool) (letter b : ℕ) (permitted : Bool) → (s ≡ true → b ≡ letter) → (t ≡ true → b ≡ 45) → cond s (Some true) (cond t (Some false) None) ≡ Some permitted → b ≡ permit_text letter permitted
at_permit true t letter b permitted p q e = rw (← same_Some _ _ e) (p refl)
at_permit false true letter b permitted p q e = rw (← same_Some _ _ e) (q refl)
at_permit false false letter b permitted p q e = absurd (none-some permitted e)

permit_step : {B : Type 0} (letter b : ℕ) (f : Bool → Option B) (y : B) (P : Type 0) → (permit_at letter b >>= f) ≡ Some y → ((permitted : Bool) → b ≡ permit_text letter permitted → f permitted ≡ Some y → P) → P
permit_step letter b f y P e k =
    let p = bind_some (permit_at letter b) f y e in
    k p.0 (at_permit (eqb b letter) (eqb b 45) letter b p.0 (λ h. eqb-true b letter h) (λ h. eqb-true b 45 h) p.1) p.2

five : (a b c d e a1 b1 c1 d1 e1 : ℕ) → a ≡ a1 → b ≡ b1 → c ≡ c1 → d ≡ d1 → e ≡ e1 → ◌≡◌ {A = List ℕ} (a ∷ b ∷ c ∷ d ∷ e ∷ []) (a1 ∷ b1 ∷ c1 ∷ d1 ∷ e1 ∷ [])
five a b c d e a1 b1 c1 d1 e1 p q r s t = rw (p, q, r, s, t) refl

pub permits_takes : (word : List ℕ) (permits : Permits) → permits_at word ≡ Some permits → word ≡ permits_text permits
unfolding permits_at permits_text
permits_takes [] permits e = absurd (none-some permits e)
permits_takes (g ∷ []) permits e = absurd (none-some permits e)
permits_takes (g ∷ p ∷ []) permits e = absurd (none-some permits e)
permits_takes (g ∷ p ∷ a ∷ []) permits e = absurd (none-some permits e)
permits_takes (g ∷ p ∷ a ∷ h ∷ []) permits e = absurd (none-some permits e)
permits_takes (g ∷ p ∷ a ∷ h ∷ c ∷ x ∷ word) permits e = absurd (none-some permits e)
permits_takes (g ∷ p ∷ a ∷ h ∷ c ∷ []) permits e =
    let P : Type 0 = g ∷ p ∷ a ∷ h ∷ c ∷ [] ≡ permits_text permits in
    permit_step 103 g _ permits P e (λ get get_is k1.
    permit_step 112 p _ permits P k1 (λ put put_is k2.
    permit_step 97 a _ permits P k2 (λ atomic atomic_is k3.
    permit_step 104 h _ permits P k3 (λ hint hint_is k4.
    permit_step 99 c _ permits P k4 (λ cache cache_is k5.
    let made : Permits = record { get = get; put = put; atomic = atomic; hint = hint; cache = cache } in
    subst (λ (x : Permits). g ∷ p ∷ a ∷ h ∷ c ∷ [] ≡ permits_text x) (same_Some made permits k5) (five g p a h c _ _ _ _ _ get_is put_is atomic_is hint_is cache_is))))))

permit_again : (letter : ℕ) (permitted : Bool) → eqb 45 letter ≡ false → permit_at letter (permit_text letter permitted) ≡ Some permitted
permit_again letter true other = rw (eq-eqb letter letter refl) refl
permit_again letter false other = rw other refl

pub permits_again : (p : Permits) → permits_at (permits_text p) ≡ Some p
unfolding permits_at permits_text
permits_again p = rw (permit_again 103 p.get refl, permit_again 112 p.put refl, permit_again 97 p.atomic refl, permit_again 104 p.hint refl, permit_again 99 p.cache refl) refl

permit_line : (letter : ℕ) (permitted : Bool) → not (eqb letter 10) ≡ true → not (eqb (permit_text letter permitted) 10) ≡ true
permit_line letter true other = other
permit_line letter false other = refl

pub permits_line : (p : Permits) → is_free 10 (permits_text p) ≡ true
unfolding permits_text
permits_line p =
    and_from _ _ (permit_line 103 p.get refl) (and_from _ _ (permit_line 112 p.put refl) (and_from _ _ (permit_line 97 p.atomic refl)
    (and_from _ _ (permit_line 104 p.hint refl) (and_from _ _ (permit_line 99 p.cache refl) refl))))
