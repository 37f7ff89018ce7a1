-- Shifts of lanes lose nothing.
use Rattle.std.proofs.Common.{◌≡◌, ℕ, zero, suc, ◌+◌, ◌-◌, ◌*◌, ◌/◌, ◌%◌, ◌^◌, ◌<◌, ◌≤◌, ◌∙◌, arith}
use Rattle.std.proofs.lemmas.Bool.{lt-leb}
use Rattle.std.proofs.Math.Pow.{shl_exact, pow_mono}
use Rattle.std.proofs.Math.Nat.{one-mul, one-le-pow}
use Rattle.tl_definitions.specs.Rules.{active_lanes}

pub one_shifted : (k : ℕ) → k < 64 → 1 * 2 ^ k % 18446744073709551616 ≡ 2 ^ k
one_shifted k lt = shl_exact {a = 1} 1 k 64 (omega arith) (omega (arith, lt)) ∙ one-mul (2 ^ k)

-- the lanes end within 64
starts_within : (size lane : ℕ) → 2 ^ size < 64 → lane < 64 → lane / 2 ^ size * 2 ^ size + 2 ^ size ≤ 64
starts_within zero lane small lt = omega arith
starts_within (suc zero) lane small lt = omega arith
starts_within (suc (suc zero)) lane small lt = omega arith
starts_within (suc (suc (suc zero))) lane small lt = omega arith
starts_within (suc (suc (suc (suc zero)))) lane small lt = omega arith
starts_within (suc (suc (suc (suc (suc zero))))) lane small lt = omega arith
starts_within (suc (suc (suc (suc (suc (suc size)))))) lane small lt =
    let least : 6 ≤ suc (suc (suc (suc (suc (suc size))))) = omega arith in
    let large : 2 ^ 6 ≤ 2 ^ suc (suc (suc (suc (suc (suc size))))) = pow_mono least in
    absurd (omega (arith, large, small))

below : (k : ℕ) → 2 ^ k - 1 < 2 ^ k
below k = omega (arith, one-le-pow k 2 (omega arith))

pub lanes_shifted : (width size address : ℕ) → 1 ≤ width → width ≤ 64 → size ≤ 15 → 2 ^ size < width
    → (2 ^ (2 ^ size) - 1) * 2 ^ (address % width / 2 ^ size * 2 ^ size) % 18446744073709551616 ≡ active_lanes width size address
lanes_shifted width size address some lanes small lt =
    let lane : address % width < 64 = omega arith in
    let within = starts_within size (address % width) (omega (arith, lt, lanes)) lane in
    let whole = shl_exact {a = 2 ^ (2 ^ size) - 1} (2 ^ size) (address % width / 2 ^ size * 2 ^ size) 64 (below (2 ^ size)) (omega (arith, within)) in
    rw (lt-leb width (2 ^ size) lt) whole

-- as the code writes it
pub lanes_coded : (width size address : ℕ) → 1 ≤ width → width ≤ 64 → size ≤ 15 → 2 ^ size < width
    → (1 * 2 ^ (1 * 2 ^ size % 18446744073709551616) % 18446744073709551616 - 1) * 2 ^ (address % width / (1 * 2 ^ size % 18446744073709551616) * (1 * 2 ^ size % 18446744073709551616)) % 18446744073709551616 ≡ active_lanes width size address
lanes_coded width size address some lanes small lt =
    let one : 1 * 2 ^ size % 18446744073709551616 ≡ 2 ^ size = one_shifted size (omega arith) in
    let two : 1 * 2 ^ (2 ^ size) % 18446744073709551616 ≡ 2 ^ (2 ^ size) = one_shifted (2 ^ size) (omega (arith, lt, lanes)) in
    rw (one, two) (lanes_shifted width size address some lanes small lt)

-- the last byte of a message lies below the end of all addresses
last_fits : (size address : ℕ) → size ≤ 15 → address < 18446744073709551616 → address / 2 ^ size * 2 ^ size + (2 ^ size - 1) < 18446744073709551616
last_fits zero address few lt = omega (arith, few, lt)
last_fits (suc zero) address few lt = omega (arith, few, lt)
last_fits (suc (suc zero)) address few lt = omega (arith, few, lt)
last_fits (suc (suc (suc zero))) address few lt = omega (arith, few, lt)
last_fits (suc (suc (suc (suc zero)))) address few lt = omega (arith, few, lt)
last_fits (suc (suc (suc (suc (suc zero))))) address few lt = omega (arith, few, lt)
last_fits (suc (suc (suc (suc (suc (suc zero)))))) address few lt = omega (arith, few, lt)
last_fits (suc (suc (suc (suc (suc (suc (suc zero))))))) address few lt = omega (arith, few, lt)
last_fits (suc (suc (suc (suc (suc (suc (suc (suc zero)))))))) address few lt = omega (arith, few, lt)
last_fits (suc (suc (suc (suc (suc (suc (suc (suc (suc zero))))))))) address few lt = omega (arith, few, lt)
last_fits (suc (suc (suc (suc (suc (suc (suc (suc (suc (suc zero)))))))))) address few lt = omega (arith, few, lt)
last_fits (suc (suc (suc (suc (suc (suc (suc (suc (suc (suc (suc zero))))))))))) address few lt = omega (arith, few, lt)
last_fits (suc (suc (suc (suc (suc (suc (suc (suc (suc (suc (suc (suc zero)))))))))))) address few lt = omega (arith, few, lt)
last_fits (suc (suc (suc (suc (suc (suc (suc (suc (suc (suc (suc (suc (suc zero))))))))))))) address few lt = omega (arith, few, lt)
last_fits (suc (suc (suc (suc (suc (suc (suc (suc (suc (suc (suc (suc (suc (suc zero)))))))))))))) address few lt = omega (arith, few, lt)
last_fits (suc (suc (suc (suc (suc (suc (suc (suc (suc (suc (suc (suc (suc (suc (suc zero))))))))))))))) address few lt = omega (arith, few, lt)
last_fits (suc (suc (suc (suc (suc (suc (suc (suc (suc (suc (suc (suc (suc (suc (suc (suc size)))))))))))))))) address few lt = absurd (omega (arith, few))

-- as the code writes it
pub last_coded : (size address : ℕ) → size ≤ 15 → address < 18446744073709551616
    → address / (1 * 2 ^ size % 18446744073709551616) * (1 * 2 ^ size % 18446744073709551616) + (1 * 2 ^ size % 18446744073709551616 - 1) < 18446744073709551616
last_coded size address few lt =
    let one : 1 * 2 ^ size % 18446744073709551616 ≡ 2 ^ size = one_shifted size (omega (arith, few)) in
    rw one (last_fits size address few lt)
