-- Blocks as large as all addresses.
use Rattle.std.proofs.Common.{◌≡◌, ℕ, ◌*◌, ◌^◌, ◌<◌, ◌≤◌, sym, ap, ◌∙◌, ◌/◌, arith}
use Rattle.std.proofs.Math.Pow.{pow_mono}
use Rattle.std.proofs.Math.Nat.{div-eq_of_lt, zero-mul}
use Rattle.tl_definitions.specs.Messages.{round_down}

pub one_block : (exponent address : ℕ) → 64 ≤ exponent → address < 2 ^ 64 → 0 ≡ round_down exponent address
one_block exponent address large fits =
    let room : 2 ^ 64 ≤ 2 ^ exponent = pow_mono large in
    let below : address < 2 ^ exponent = omega (arith, room) in
    let none : 0 ≡ address / 2 ^ exponent = sym (div-eq_of_lt below) in
    sym (zero-mul (2 ^ exponent)) ∙ ap (λ n. n * 2 ^ exponent) none
