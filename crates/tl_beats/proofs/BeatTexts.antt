-- A line is read as the beat that it spells, and as no other.
use Rattle.std.proofs.Common.{◌≡◌, ℕ, ◌-◌, ◌^◌, ◌<◌, ◌≤◌, Bool, true, false, cond, eqb, List, [], ◌∷◌, Option, Some, None, refl, sym, ap, subst, ◌∙◌, arith}
use Rattle.std.proofs.lemmas.Option.{none-some, same_Some}
use Rattle.std.proofs.lemmas.Bool.{eqb-true}
use Rattle.tl_text.specs.Words.{◌>>=◌, ◌␣◌}
use Rattle.tl_text.specs.Numbers.{numeral}
use Rattle.tl_text.specs.Names.{bit}
use Rattle.tl_text.proofs.Cuts.{is_free, word_again}
use Rattle.tl_text.proofs.Numerals.{bind_some, number_again}
use Rattle.tl_text.proofs.Spelling.{bit_again, bit_free, word_step, number_step, field_step, bit_step, bit_field_step, field_again, spaced_free, number_line}
use Rattle.tl_tables.specs.declared.Chan.{Chan}
use Rattle.tl_tables.specs.declared.Chan.TheVariants as chan
use Rattle.tl_beats.specs.declared.Beat.{Beat}
use Rattle.tl_beats.specs.declared.beat_line.Message.{Message}
use Rattle.tl_beats.specs.Beats.{IsWellFormed, LacksOther, HasMask}
use Rattle.tl_beats.specs.Reading.{message_at, access_at, release_at, reply_at, grant_ack_at, fields_at, beat_at}
use Rattle.tl_beats.specs.Text.{chan_text, fields_text, beat_text}
use Rattle.tl_beats.proofs.Lacking.{access_lacks}

-- ---- what channels A to D begin with

abbrev four : ℕ → ℕ → ℕ → ℕ → List ℕ → List ℕ
four opcode param size source rest = numeral 10 opcode ␣ numeral 10 param ␣ numeral 10 size ␣ numeral 10 source ␣ rest

pub record IsMessage (line : List ℕ) (m : Message) (rest : List ℕ) : Type 0 where
  pub spelled : line ≡ four m.opcode m.param m.size m.source rest
  pub opcode : m.opcode ≤ 7
  pub param : m.param ≤ 7
  pub size : m.size ≤ 15
  pub source : m.source ≤ 65535

abbrev Begun : Type 0
Begun = Message × List ℕ

message_from : (line r1 r2 r3 r4 : List ℕ) (o p z s : ℕ) (x : Begun) → line ≡ numeral 10 o ␣ r1 → r1 ≡ numeral 10 p ␣ r2 → r2 ≡ numeral 10 z ␣ r3 → r3 ≡ numeral 10 s ␣ r4 → o ≤ 7 → p ≤ 7 → z ≤ 15 → s ≤ 65535
    → ◌≡◌ {A = Option Begun} (Some (record { opcode = o; param = p; size = z; source = s }, r4)) (Some x) → IsMessage line x.0 x.1
message_from line r1 r2 r3 r4 o p z s x e1 e2 e3 e4 o_fits p_fits z_fits s_fits e =
    let made : Begun = (record { opcode = o; param = p; size = z; source = s }, r4) in
    let same : made ≡ x = same_Some made x e in
    let three = e3 ∙ ap (λ (l : List ℕ). numeral 10 z ␣ l) e4 in
    let two = e2 ∙ ap (λ (l : List ℕ). numeral 10 p ␣ l) three in
    let spelled : line ≡ four o p z s r4 = e1 ∙ ap (λ (l : List ℕ). numeral 10 o ␣ l) two in
    subst (λ (q : Begun). IsMessage line q.0 q.1) same (record { spelled = spelled; opcode = o_fits; param = p_fits; size = z_fits; source = s_fits })

message_takes : (line : List ℕ) (x : Begun) → message_at line ≡ Some x → IsMessage line x.0 x.1
unfolding message_at
message_takes line x e =
    let P : Type 0 = IsMessage line x.0 x.1 in
    field_step 10 7 line _ x P (omega arith) (omega arith) e (λ w1 r1 o e1 o_fits k1.
    field_step 10 7 r1 _ x P (omega arith) (omega arith) k1 (λ w2 r2 p e2 p_fits k2.
    field_step 10 15 r2 _ x P (omega arith) (omega arith) k2 (λ w3 r3 z e3 z_fits k3.
    field_step 10 65535 r3 _ x P (omega arith) (omega arith) k3 (λ w4 r4 s e4 s_fits k4.
    message_from line r1 r2 r3 r4 o p z s x e1 e2 e3 e4 o_fits p_fits z_fits s_fits k4))))

message_again : (o p z s : ℕ) (rest : List ℕ) → o ≤ 7 → p ≤ 7 → z ≤ 15 → s ≤ 65535 → message_at (four o p z s rest) ≡ Some (record { opcode = o; param = p; size = z; source = s }, rest)
unfolding message_at
message_again o p z s rest o_fits p_fits z_fits s_fits =
    let w1 = field_again 10 o (numeral 10 p ␣ numeral 10 z ␣ numeral 10 s ␣ rest) (omega arith) (omega arith) (omega arith) in
    let n1 = number_again 10 7 o (omega arith) (omega arith) o_fits (omega arith) in
    let w2 = field_again 10 p (numeral 10 z ␣ numeral 10 s ␣ rest) (omega arith) (omega arith) (omega arith) in
    let n2 = number_again 10 7 p (omega arith) (omega arith) p_fits (omega arith) in
    let w3 = field_again 10 z (numeral 10 s ␣ rest) (omega arith) (omega arith) (omega arith) in
    let n3 = number_again 10 15 z (omega arith) (omega arith) z_fits (omega arith) in
    let w4 = field_again 10 s rest (omega arith) (omega arith) (omega arith) in
    let n4 = number_again 10 65535 s (omega arith) (omega arith) s_fits (omega arith) in
    rw (w1, n1, w2, n2, w3, n3, w4, n4) refl

-- a message that was read, handed on
message_step : {B : Type 0} (line : List ℕ) (f : Begun → Option B) (y : B) (P : Type 0) → (message_at line >>= f) ≡ Some y → ((m : Message) (rest : List ℕ) → IsMessage line m rest → f (m, rest) ≡ Some y → P) → P
message_step line f y P e k =
    let m = bind_some (message_at line) f y e in
    k m.0.0 m.0.1 (message_takes line m.0 m.1) m.2

-- ---- what is read is spelled so

record Reads (text line : List ℕ) (cycle : ℕ) (c : Chan) (b : Beat) : Type 0 where
  pub spelled : line ≡ text
  pub cycle_is : b.cycle ≡ cycle
  pub chan_is : b.chan ≡ c
  pub opcode : b.opcode ≤ 7
  pub param : b.param ≤ 7
  pub size : b.size ≤ 15
  pub source : b.source ≤ 65535
  pub sink : b.sink ≤ 65535
  pub address : b.address < 2 ^ 64
  pub mask : b.mask < 2 ^ 64
  pub lacks : LacksOther c b

after_message : (line rest text : List ℕ) (m : Message) → IsMessage line m rest → rest ≡ text → line ≡ four m.opcode m.param m.size m.source text
after_message line rest text m is e = is.spelled ∙ ap (four m.opcode m.param m.size m.source) e

field_then : (base n : ℕ) (line rest text : List ℕ) → line ≡ numeral base n ␣ rest → rest ≡ text → line ≡ numeral base n ␣ text
field_then base n line rest text e more = e ∙ ap (λ (l : List ℕ). numeral base n ␣ l) more

bit_then : (d : Bool) (line rest text : List ℕ) → line ≡ bit d ␣ rest → rest ≡ text → line ≡ bit d ␣ text
bit_then d line rest text e more = e ∙ ap (λ (l : List ℕ). bit d ␣ l) more

access_from : (c : Chan) (cycle : ℕ) (line r1 r2 r3 : List ℕ) (m : Message) (a k : ℕ) (x : Bool) (b : Beat) → HasMask c → IsMessage line m r1 → r1 ≡ numeral 16 a ␣ r2 → a ≤ 2 ^ 64 - 1 → r2 ≡ numeral 16 k ␣ r3 → k ≤ 2 ^ 64 - 1 → r3 ≡ bit x
    → ◌≡◌ {A = Option Beat} (Some (record { cycle = cycle; chan = c; opcode = m.opcode; param = m.param; size = m.size; source = m.source; sink = 0; address = a; mask = k; denied = false; corrupt = x })) (Some b) → Reads (fields_text chan.A b) line cycle c b
access_from c cycle line r1 r2 r3 m a k x b has is a_is a_fits k_is k_fits x_is e =
    let made : Beat = record { cycle = cycle; chan = c; opcode = m.opcode; param = m.param; size = m.size; source = m.source; sink = 0; address = a; mask = k; denied = false; corrupt = x } in
    let same : made ≡ b = same_Some made b e in
    let spelled : line ≡ fields_text chan.A made = after_message line r1 _ m is (field_then 16 a r1 r2 _ a_is (field_then 16 k r2 r3 _ k_is x_is)) in
    subst (λ (q : Beat). Reads (fields_text chan.A q) line cycle c q) same (record {
      spelled = spelled;
      cycle_is = refl;
      chan_is = refl;
      opcode = is.opcode;
      param = is.param;
      size = is.size;
      source = is.source;
      sink = omega arith;
      address = omega (arith, a_fits);
      mask = omega (arith, k_fits);
      lacks = access_lacks c made has refl refl;
    })

access_takes : (c : Chan) (cycle : ℕ) (line : List ℕ) (b : Beat) → HasMask c → access_at c cycle line ≡ Some b → Reads (fields_text chan.A b) line cycle c b
unfolding access_at
access_takes c cycle line b has e =
    let P : Type 0 = Reads (fields_text chan.A b) line cycle c b in
    message_step line _ b P e (λ m r1 is k1.
    field_step 16 (2 ^ 64 - 1) r1 _ b P (omega arith) (omega arith) k1 (λ w2 r2 a a_is a_fits k2.
    field_step 16 (2 ^ 64 - 1) r2 _ b P (omega arith) (omega arith) k2 (λ w3 r3 k k_is k_fits k3.
    bit_step r3 _ b P k3 (λ x x_is k4.
    access_from c cycle line r1 r2 r3 m a k x b has is a_is a_fits k_is k_fits x_is k4))))

release_from : (cycle : ℕ) (line r1 r2 : List ℕ) (m : Message) (a : ℕ) (x : Bool) (b : Beat) → IsMessage line m r1 → r1 ≡ numeral 16 a ␣ r2 → a ≤ 2 ^ 64 - 1 → r2 ≡ bit x
    → ◌≡◌ {A = Option Beat} (Some (record { cycle = cycle; chan = chan.C; opcode = m.opcode; param = m.param; size = m.size; source = m.source; sink = 0; address = a; mask = 0; denied = false; corrupt = x })) (Some b) → Reads (fields_text chan.C b) line cycle chan.C b
release_from cycle line r1 r2 m a x b is a_is a_fits x_is e =
    let made : Beat = record { cycle = cycle; chan = chan.C; opcode = m.opcode; param = m.param; size = m.size; source = m.source; sink = 0; address = a; mask = 0; denied = false; corrupt = x } in
    let same : made ≡ b = same_Some made b e in
    let spelled : line ≡ fields_text chan.C made = after_message line r1 _ m is (field_then 16 a r1 r2 _ a_is x_is) in
    subst (λ (q : Beat). Reads (fields_text chan.C q) line cycle chan.C q) same (record {
      spelled = spelled;
      cycle_is = refl;
      chan_is = refl;
      opcode = is.opcode;
      param = is.param;
      size = is.size;
      source = is.source;
      sink = omega arith;
      address = omega (arith, a_fits);
      mask = omega arith;
      lacks = (refl, refl, refl);
    })

release_takes : (cycle : ℕ) (line : List ℕ) (b : Beat) → release_at cycle line ≡ Some b → Reads (fields_text chan.C b) line cycle chan.C b
unfolding release_at
release_takes cycle line b e =
    let P : Type 0 = Reads (fields_text chan.C b) line cycle chan.C b in
    message_step line _ b P e (λ m r1 is k1.
    field_step 16 (2 ^ 64 - 1) r1 _ b P (omega arith) (omega arith) k1 (λ w2 r2 a a_is a_fits k2.
    bit_step r2 _ b P k2 (λ x x_is k3.
    release_from cycle line r1 r2 m a x b is a_is a_fits x_is k3)))

reply_from : (cycle : ℕ) (line r1 r2 r3 : List ℕ) (m : Message) (s : ℕ) (d x : Bool) (b : Beat) → IsMessage line m r1 → r1 ≡ numeral 10 s ␣ r2 → s ≤ 65535 → r2 ≡ bit d ␣ r3 → r3 ≡ bit x
    → ◌≡◌ {A = Option Beat} (Some (record { cycle = cycle; chan = chan.D; opcode = m.opcode; param = m.param; size = m.size; source = m.source; sink = s; address = 0; mask = 0; denied = d; corrupt = x })) (Some b) → Reads (fields_text chan.D b) line cycle chan.D b
reply_from cycle line r1 r2 r3 m s d x b is s_is s_fits d_is x_is e =
    let made : Beat = record { cycle = cycle; chan = chan.D; opcode = m.opcode; param = m.param; size = m.size; source = m.source; sink = s; address = 0; mask = 0; denied = d; corrupt = x } in
    let same : made ≡ b = same_Some made b e in
    let spelled : line ≡ fields_text chan.D made = after_message line r1 _ m is (field_then 10 s r1 r2 _ s_is (bit_then d r2 r3 _ d_is x_is)) in
    subst (λ (q : Beat). Reads (fields_text chan.D q) line cycle chan.D q) same (record {
      spelled = spelled;
      cycle_is = refl;
      chan_is = refl;
      opcode = is.opcode;
      param = is.param;
      size = is.size;
      source = is.source;
      sink = s_fits;
      address = omega arith;
      mask = omega arith;
      lacks = (refl, refl);
    })

reply_takes : (cycle : ℕ) (line : List ℕ) (b : Beat) → reply_at cycle line ≡ Some b → Reads (fields_text chan.D b) line cycle chan.D b
unfolding reply_at
reply_takes cycle line b e =
    let P : Type 0 = Reads (fields_text chan.D b) line cycle chan.D b in
    message_step line _ b P e (λ m r1 is k1.
    field_step 10 65535 r1 _ b P (omega arith) (omega arith) k1 (λ w2 r2 s s_is s_fits k2.
    bit_field_step r2 _ b P k2 (λ w3 r3 d d_is k3.
    bit_step r3 _ b P k3 (λ x x_is k4.
    reply_from cycle line r1 r2 r3 m s d x b is s_is s_fits d_is x_is k4))))

grant_ack_from : (cycle : ℕ) (line : List ℕ) (s : ℕ) (b : Beat) → line ≡ numeral 10 s → s ≤ 65535
    → ◌≡◌ {A = Option Beat} (Some (record { cycle = cycle; chan = chan.E; opcode = 0; param = 0; size = 0; source = 0; sink = s; address = 0; mask = 0; denied = false; corrupt = false })) (Some b) → Reads (fields_text chan.E b) line cycle chan.E b
grant_ack_from cycle line s b s_is s_fits e =
    let made : Beat = record { cycle = cycle; chan = chan.E; opcode = 0; param = 0; size = 0; source = 0; sink = s; address = 0; mask = 0; denied = false; corrupt = false } in
    let same : made ≡ b = same_Some made b e in
    subst (λ (q : Beat). Reads (fields_text chan.E q) line cycle chan.E q) same (record {
      spelled = s_is;
      cycle_is = refl;
      chan_is = refl;
      opcode = omega arith;
      param = omega arith;
      size = omega arith;
      source = omega arith;
      sink = s_fits;
      address = omega arith;
      mask = omega arith;
      lacks = (refl, refl, refl, refl, refl, refl, refl, refl);
    })

grant_ack_takes : (cycle : ℕ) (line : List ℕ) (b : Beat) → grant_ack_at cycle line ≡ Some b → Reads (fields_text chan.E b) line cycle chan.E b
unfolding grant_ack_at
grant_ack_takes cycle line b e =
    let P : Type 0 = Reads (fields_text chan.E b) line cycle chan.E b in
    number_step 10 65535 line _ b P (omega arith) (omega arith) e (λ s s_is s_fits k.
    grant_ack_from cycle line s b s_is s_fits k)

-- what a channel's word and the words after it are
abbrev Named : ℕ → ℕ → List ℕ → Beat → Type 0
Named x cycle line b = (x ∷ [] ≡ chan_text b.chan) × Reads (fields_text b.chan b) line cycle b.chan b

named : (c : Chan) (x cycle : ℕ) (line : List ℕ) (b : Beat) → x ∷ [] ≡ chan_text c → Reads (fields_text c b) line cycle c b → Named x cycle line b
named c x cycle line b is r = subst (λ (d : Chan). (x ∷ [] ≡ chan_text d) × Reads (fields_text d b) line cycle d b) (sym r.chan_is) (is, r)

one_byte : (x y : ℕ) → x ≡ y → x ∷ [] ≡ y ∷ []
one_byte x y e = ap (λ (n : ℕ). n ∷ []) e

at_name : (sa sb sc sd se : Bool) (x cycle : ℕ) (line : List ℕ) (b : Beat) → (sa ≡ true → x ≡ 65) → (sb ≡ true → x ≡ 66) → (sc ≡ true → x ≡ 67) → (sd ≡ true → x ≡ 68) → (se ≡ true → x ≡ 69)
    → cond sa (access_at chan.A cycle line) (cond sb (access_at chan.B cycle line) (cond sc (release_at cycle line) (cond sd (reply_at cycle line) (cond se (grant_ack_at cycle line) None)))) ≡ Some b → Named x cycle line b
at_name true sb sc sd se x cycle line b is_a is_b is_c is_d is_e e = named chan.A x cycle line b (one_byte x 65 (is_a refl)) (access_takes chan.A cycle line b tt e)
at_name false true sc sd se x cycle line b is_a is_b is_c is_d is_e e = named chan.B x cycle line b (one_byte x 66 (is_b refl)) (access_takes chan.B cycle line b tt e)
at_name false false true sd se x cycle line b is_a is_b is_c is_d is_e e = named chan.C x cycle line b (one_byte x 67 (is_c refl)) (release_takes cycle line b e)
at_name false false false true se x cycle line b is_a is_b is_c is_d is_e e = named chan.D x cycle line b (one_byte x 68 (is_d refl)) (reply_takes cycle line b e)
at_name false false false false true x cycle line b is_a is_b is_c is_d is_e e = named chan.E x cycle line b (one_byte x 69 (is_e refl)) (grant_ack_takes cycle line b e)
at_name false false false false false x cycle line b is_a is_b is_c is_d is_e e = absurd (none-some b e)

fields_takes : (word : List ℕ) (cycle : ℕ) (line : List ℕ) (b : Beat) → fields_at word cycle line ≡ Some b → (word ≡ chan_text b.chan) × Reads (fields_text b.chan b) line cycle b.chan b
fields_takes [] cycle line b e = absurd (none-some b e)
fields_takes (x ∷ y ∷ word) cycle line b e = absurd (none-some b e)
fields_takes (x ∷ []) cycle line b e =
    at_name (eqb x 65) (eqb x 66) (eqb x 67) (eqb x 68) (eqb x 69) x cycle line b (λ h. eqb-true x 65 h) (λ h. eqb-true x 66 h) (λ h. eqb-true x 67 h) (λ h. eqb-true x 68 h) (λ h. eqb-true x 69 h) e

beat_from : (line r1 name r2 : List ℕ) (n : ℕ) (b : Beat) → line ≡ numeral 10 n ␣ r1 → n ≤ 2 ^ 64 - 1 → r1 ≡ name ␣ r2 → fields_at name n r2 ≡ Some b → (line ≡ beat_text b) × IsWellFormed b
unfolding beat_text
beat_from line r1 name r2 n b n_is n_fits joins e =
    let f = fields_takes name n r2 b e in
    let behind : name ␣ r2 ≡ chan_text b.chan ␣ fields_text b.chan b = rw (← f.0, ← f.1.spelled) refl in
    let spelled : line ≡ numeral 10 n ␣ chan_text b.chan ␣ fields_text b.chan b = field_then 10 n line r1 _ n_is (joins ∙ behind) in (
      spelled ∙ ap (λ (m : ℕ). numeral 10 m ␣ chan_text b.chan ␣ fields_text b.chan b) (sym f.1.cycle_is),
      record {
        cycle = omega (arith, n_fits, f.1.cycle_is);
        opcode = f.1.opcode;
        param = f.1.param;
        size = f.1.size;
        source = f.1.source;
        sink = f.1.sink;
        address = f.1.address;
        mask = f.1.mask;
        lacks = f.1.lacks;
      },
    )

pub beat_takes : (line : List ℕ) (b : Beat) → beat_at line ≡ Some b → (line ≡ beat_text b) × IsWellFormed b
unfolding beat_at
beat_takes line b e =
    let P : Type 0 = (line ≡ beat_text b) × IsWellFormed b in
    field_step 10 (2 ^ 64 - 1) line _ b P (omega arith) (omega arith) e (λ w1 r1 n n_is n_fits k1.
    word_step r1 _ b P k1 (λ name r2 joins k2.
    beat_from line r1 name r2 n b n_is n_fits joins k2))

-- ---- what is spelled so is read

access_again : (c : Chan) (cycle o p z s a k : ℕ) (x : Bool) → o ≤ 7 → p ≤ 7 → z ≤ 15 → s ≤ 65535 → a < 2 ^ 64 → k < 2 ^ 64 → access_at c cycle (four o p z s (numeral 16 a ␣ numeral 16 k ␣ bit x))
    ≡ Some (record { cycle = cycle; chan = c; opcode = o; param = p; size = z; source = s; sink = 0; address = a; mask = k; denied = false; corrupt = x })
unfolding access_at
access_again c cycle o p z s a k x o_fits p_fits z_fits s_fits a_fits k_fits =
    let m = message_again o p z s (numeral 16 a ␣ numeral 16 k ␣ bit x) o_fits p_fits z_fits s_fits in
    let w1 = field_again 16 a (numeral 16 k ␣ bit x) (omega arith) (omega arith) a_fits in
    let n1 = number_again 16 (2 ^ 64 - 1) a (omega arith) (omega arith) (omega (arith, a_fits)) (omega arith) in
    let w2 = field_again 16 k (bit x) (omega arith) (omega arith) k_fits in
    let n2 = number_again 16 (2 ^ 64 - 1) k (omega arith) (omega arith) (omega (arith, k_fits)) (omega arith) in
    rw (m, w1, n1, w2, n2, bit_again x) refl

release_again : (cycle o p z s a : ℕ) (x : Bool) → o ≤ 7 → p ≤ 7 → z ≤ 15 → s ≤ 65535 → a < 2 ^ 64 → release_at cycle (four o p z s (numeral 16 a ␣ bit x))
    ≡ Some (record { cycle = cycle; chan = chan.C; opcode = o; param = p; size = z; source = s; sink = 0; address = a; mask = 0; denied = false; corrupt = x })
unfolding release_at
release_again cycle o p z s a x o_fits p_fits z_fits s_fits a_fits =
    let m = message_again o p z s (numeral 16 a ␣ bit x) o_fits p_fits z_fits s_fits in
    let w1 = field_again 16 a (bit x) (omega arith) (omega arith) a_fits in
    let n1 = number_again 16 (2 ^ 64 - 1) a (omega arith) (omega arith) (omega (arith, a_fits)) (omega arith) in
    rw (m, w1, n1, bit_again x) refl

reply_again : (cycle o p z s k : ℕ) (d x : Bool) → o ≤ 7 → p ≤ 7 → z ≤ 15 → s ≤ 65535 → k ≤ 65535 → reply_at cycle (four o p z s (numeral 10 k ␣ bit d ␣ bit x))
    ≡ Some (record { cycle = cycle; chan = chan.D; opcode = o; param = p; size = z; source = s; sink = k; address = 0; mask = 0; denied = d; corrupt = x })
unfolding reply_at
reply_again cycle o p z s k d x o_fits p_fits z_fits s_fits k_fits =
    let m = message_again o p z s (numeral 10 k ␣ bit d ␣ bit x) o_fits p_fits z_fits s_fits in
    let w1 = field_again 10 k (bit d ␣ bit x) (omega arith) (omega arith) (omega arith) in
    let n1 = number_again 10 65535 k (omega arith) (omega arith) k_fits (omega arith) in
    let w2 = word_again (bit d) (bit x) (bit_free 32 d (omega arith)) in
    rw (m, w1, n1, w2, bit_again d, bit_again x) refl

grant_ack_again : (cycle k : ℕ) → k ≤ 65535 → grant_ack_at cycle (numeral 10 k) ≡ Some (record { cycle = cycle; chan = chan.E; opcode = 0; param = 0; size = 0; source = 0; sink = k; address = 0; mask = 0; denied = false; corrupt = false })
unfolding grant_ack_at
grant_ack_again cycle k k_fits = rw (number_again 10 65535 k (omega arith) (omega arith) k_fits (omega arith)) refl

-- a beat of these fields
same_beat : (b : Beat) (c : Chan) (o p z s k a m : ℕ) (d x : Bool) → b.chan ≡ c → b.opcode ≡ o → b.param ≡ p → b.size ≡ z → b.source ≡ s → b.sink ≡ k → b.address ≡ a → b.mask ≡ m → b.denied ≡ d → b.corrupt ≡ x
    → ◌≡◌ {A = Option Beat} (Some (record { cycle = b.cycle; chan = c; opcode = o; param = p; size = z; source = s; sink = k; address = a; mask = m; denied = d; corrupt = x })) (Some b)
same_beat b c o p z s k a m d x e1 e2 e3 e4 e5 e6 e7 e8 e9 e10 = rw (← e1, ← e2, ← e3, ← e4, ← e5, ← e6, ← e7, ← e8, ← e9, ← e10) refl

fields_of : (c : Chan) (b : Beat) → b.chan ≡ c → IsWellFormed b → fields_at (chan_text c) b.cycle (fields_text c b) ≡ Some b
fields_of chan.A b is formed =
    let lacks : LacksOther chan.A b = subst (λ (c : Chan). LacksOther c b) is formed.lacks in
    access_again chan.A b.cycle b.opcode b.param b.size b.source b.address b.mask b.corrupt formed.opcode formed.param formed.size formed.source formed.address formed.mask ∙ same_beat b chan.A _ _ _ _ 0 _ _ false _ is refl refl refl refl lacks.0 refl refl lacks.1 refl
fields_of chan.B b is formed =
    let lacks : LacksOther chan.B b = subst (λ (c : Chan). LacksOther c b) is formed.lacks in
    access_again chan.B b.cycle b.opcode b.param b.size b.source b.address b.mask b.corrupt formed.opcode formed.param formed.size formed.source formed.address formed.mask ∙ same_beat b chan.B _ _ _ _ 0 _ _ false _ is refl refl refl refl lacks.0 refl refl lacks.1 refl
fields_of chan.C b is formed =
    let lacks : LacksOther chan.C b = subst (λ (c : Chan). LacksOther c b) is formed.lacks in
    release_again b.cycle b.opcode b.param b.size b.source b.address b.corrupt formed.opcode formed.param formed.size formed.source formed.address ∙ same_beat b chan.C _ _ _ _ 0 _ 0 false _ is refl refl refl refl lacks.0 refl lacks.1 lacks.2 refl
fields_of chan.D b is formed =
    let lacks : LacksOther chan.D b = subst (λ (c : Chan). LacksOther c b) is formed.lacks in
    reply_again b.cycle b.opcode b.param b.size b.source b.sink b.denied b.corrupt formed.opcode formed.param formed.size formed.source formed.sink ∙ same_beat b chan.D _ _ _ _ _ 0 0 _ _ is refl refl refl refl refl lacks.0 lacks.1 refl refl
fields_of chan.E b is formed =
    let lacks : LacksOther chan.E b = subst (λ (c : Chan). LacksOther c b) is formed.lacks in
    grant_ack_again b.cycle b.sink formed.sink ∙ same_beat b chan.E 0 0 0 0 _ 0 0 false false is lacks.0 lacks.1 lacks.2 lacks.3 refl lacks.4 lacks.5 lacks.6 lacks.7

chan_free : (c : Chan) → is_free 32 (chan_text c) ≡ true
chan_free chan.A = refl
chan_free chan.B = refl
chan_free chan.C = refl
chan_free chan.D = refl
chan_free chan.E = refl

pub beat_again : (b : Beat) → IsWellFormed b → beat_at (beat_text b) ≡ Some b
unfolding beat_at beat_text
beat_again b formed =
    let w1 = field_again 10 b.cycle (chan_text b.chan ␣ fields_text b.chan b) (omega arith) (omega arith) formed.cycle in
    let n1 = number_again 10 (2 ^ 64 - 1) b.cycle (omega arith) (omega arith) (omega (arith, formed.cycle)) (omega arith) in
    let w2 = word_again (chan_text b.chan) (fields_text b.chan b) (chan_free b.chan) in
    rw (w1, n1, w2) (fields_of b.chan b refl formed)

-- ---- no newline stands in the line of a beat

field_line : (base n : ℕ) (rest : List ℕ) → 2 ≤ base → base ≤ 16 → n < 2 ^ 64 → is_free 10 rest ≡ true → is_free 10 (numeral base n ␣ rest) ≡ true
field_line base n rest two small fits free = spaced_free (numeral base n) rest (number_line base n two small fits) free

four_line : (o p z s : ℕ) (rest : List ℕ) → o ≤ 7 → p ≤ 7 → z ≤ 15 → s ≤ 65535 → is_free 10 rest ≡ true → is_free 10 (four o p z s rest) ≡ true
four_line o p z s rest o_fits p_fits z_fits s_fits free =
    let one = field_line 10 s rest (omega arith) (omega arith) (omega arith) free in
    let two = field_line 10 z (numeral 10 s ␣ rest) (omega arith) (omega arith) (omega arith) one in
    let three = field_line 10 p (numeral 10 z ␣ numeral 10 s ␣ rest) (omega arith) (omega arith) (omega arith) two in
    field_line 10 o (numeral 10 p ␣ numeral 10 z ␣ numeral 10 s ␣ rest) (omega arith) (omega arith) (omega arith) three

bit_line : (x : Bool) → is_free 10 (bit x) ≡ true
bit_line x = bit_free 10 x (omega arith)

access_line : (b : Beat) → IsWellFormed b → is_free 10 (fields_text chan.A b) ≡ true
access_line b formed =
    let rest = field_line 16 b.address (numeral 16 b.mask ␣ bit b.corrupt) (omega arith) (omega arith) formed.address (field_line 16 b.mask (bit b.corrupt) (omega arith) (omega arith) formed.mask (bit_line b.corrupt)) in
    four_line b.opcode b.param b.size b.source _ formed.opcode formed.param formed.size formed.source rest

fields_line : (c : Chan) (b : Beat) → IsWellFormed b → is_free 10 (fields_text c b) ≡ true
fields_line chan.A b formed = access_line b formed
fields_line chan.B b formed = access_line b formed
fields_line chan.C b formed =
    let rest = field_line 16 b.address (bit b.corrupt) (omega arith) (omega arith) formed.address (bit_line b.corrupt) in
    four_line b.opcode b.param b.size b.source _ formed.opcode formed.param formed.size formed.source rest
fields_line chan.D b formed =
    let rest = field_line 10 b.sink (bit b.denied ␣ bit b.corrupt) (omega arith) (omega arith) (omega (arith, formed.sink)) (spaced_free (bit b.denied) (bit b.corrupt) (bit_line b.denied) (bit_line b.corrupt)) in
    four_line b.opcode b.param b.size b.source _ formed.opcode formed.param formed.size formed.source rest
fields_line chan.E b formed = number_line 10 b.sink (omega arith) (omega arith) (omega (arith, formed.sink))

chan_line : (c : Chan) → is_free 10 (chan_text c) ≡ true
chan_line chan.A = refl
chan_line chan.B = refl
chan_line chan.C = refl
chan_line chan.D = refl
chan_line chan.E = refl

pub beat_line : (b : Beat) → IsWellFormed b → is_free 10 (beat_text b) ≡ true
unfolding beat_text
beat_line b formed = field_line 10 b.cycle (chan_text b.chan ␣ fields_text b.chan b) (omega arith) (omega arith) formed.cycle (spaced_free (chan_text b.chan) (fields_text b.chan b) (chan_line b.chan) (fields_line b.chan b formed))
