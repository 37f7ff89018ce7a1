use Rattle.std.proofs.Common.{◌≡◌, ◌∷◌, ◌+◌, ◌-◌, List, [], drop, take, refl, sym, ap, length-drop, subst, ◌∙◌, length, arith}
use Rattle.tl_beats.specs.declared.Beat.{Beat}
use Rattle.tl_definitions.specs.Positions.{placed_from}
use Rattle.tl_capture.specs.Rising.{AreRising}
use Rattle.tl_capture.proofs.CursorLemmas.{rising_drop, placed_drop, from_on}
use Rattle.tl_capture.proofs.cursor.Cursor.moved.Goals as goal

pub invariant_of-result : goal.invariant_of-result
invariant_of-result c =
    let own = c.args.self.now in
    let left : drop c.args.more own.rest.now ≡ c.in_ok-next.next.now ∷ c.in_ok-next.rest.now = sym (from_on c.args.more own.rest.now) ∙ c.in_ok-next.ensures.cases.0 in
    let many = ap length left in
    let dropped = length-drop c.args.more own.rest.now in
    let room = own.lines in
    record { lines = omega arith; rising = subst AreRising left (rising_drop c.args.more own.next.now own.rest.now own.rising) }

pub returns-in_err-next : goal.returns-in_err-next
returns-in_err-next c =
    let own = c.args.self.now in
    let few = length-drop c.args.more own.rest.now in
    let end : drop c.args.more own.rest.now ≡ [] = sym (from_on c.args.more own.rest.now) ∙ none (take (length own.rest.now - c.args.more) (drop c.args.more own.rest.now)) c.in_err-next.ensures.cases in
    rw c.from_residual.ensures (placed_drop own.link own.fragment (own.line + 1) c.args.more own.rest.now ∙ ap (placed_from own.link own.fragment (own.line + 1 + c.args.more)) end)
  where
    none : (beats : List Beat) → length beats ≡ 0 → beats ≡ []
    none [] h = refl
    none (b ∷ beats) h = cc

pub returns : goal.returns
returns c =
    let own = c.args.self.now in
    sym (placed_drop own.link own.fragment (own.line + 1) c.args.more own.rest.now
    ∙ ap (placed_from own.link own.fragment (own.line + 1 + c.args.more)) (sym (from_on c.args.more own.rest.now) ∙ c.in_ok-next.ensures.cases.0))
