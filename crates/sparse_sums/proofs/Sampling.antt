-- The numbers of the lanes that are sampled.
use Rattle.std.proofs.Common.{◌≢◌, ℕ, ◌*◌, ◌/◌, ◌<◌, arith}
use Rattle.std.proofs.Math.Nat.{mul-lt-mul_of_pos_right, mul-div-le}

-- the k-th of 64 evenly spaced lanes is within bounds
pub sampled : (lanes k : ℕ) → k < 64 → lanes / 64 ≢ 0 → k * (lanes / 64) < lanes
sampled lanes k lt some =
    let positive : 0 < lanes / 64 = omega arith in
    let before : k * (lanes / 64) < 64 * (lanes / 64) = mul-lt-mul_of_pos_right lt positive in
    omega (arith, before, mul-div-le lanes 64)
