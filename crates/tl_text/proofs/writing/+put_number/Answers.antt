use Rattle.std.proofs.Common.{◌≡◌, ◌+◌, ◌/◌, ◌++◌, ◌∷◌, [], List, ℕ, length, length-append, refl, ap, ◌∙◌, arith, rules, append_assoc}
use Rattle.tl_text.specs.Numbers.{numeral}
use Rattle.tl_text.proofs.Digits.{numeral_step, numeral_last, fewer_left}
use Rattle.tl_text.proofs.writing.+put_number.Goals as goal

step_length : (a b : List ℕ) (g : ℕ) → a ≡ b ++ g ∷ [] → length a ≡ length b + 1
step_length a b g e = ap (λ (l : List ℕ). length l) e ∙ length-append b (g ∷ [])

pub push-requires : goal.push-requires
push-requires t c = (search rules, omega (arith, c.requires.room, ap (λ (l : List ℕ). length l) (numeral_last c.args.base c.args.number c.if-number-base.true)))

pub put_number-requires : goal.put_number-requires
put_number-requires t c =
    let step = step_length _ _ _ (numeral_step c.args.base c.args.number c.requires.low c.if-number-base.false (search rules)) in
    (omega (arith, c.decreases, fewer_left c.args.base c.args.number c.requires.low c.if-number-base.false), (c.requires.low, (c.requires.high, omega (arith, step, c.requires.room))))

pub push-requires-else-number-base : goal.push-requires-else-number-base
push-requires-else-number-base t c =
    let step = step_length _ _ _ (numeral_step c.args.base c.args.number c.requires.low c.if-number-base.false (search rules)) in
    let put = ap (λ (l : List ℕ). length l) c.put_number.ensures ∙ length-append c.args.line.now.items (numeral c.args.base (c.args.number / c.args.base)) in
    (search rules, omega (arith, step, put, c.requires.room))

pub returns-then-number-base : goal.returns-then-number-base
returns-then-number-base t c = rw (c.push.ensures.items, c.glyph.ensures, numeral_last c.args.base c.args.number c.if-number-base.true) refl

pub returns-else-number-base : goal.returns-else-number-base
returns-else-number-base t c =
    let step = numeral_step c.args.base c.args.number c.requires.low c.if-number-base.false (search rules) in
    rw (c.push-else-number-base.ensures.items, c.glyph-else-number-base.ensures, c.put_number.ensures, append_assoc, ← step) refl
