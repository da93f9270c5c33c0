-- Prime numbers.
use Rattle.std.specs.Prelude.{◌≡◌, ℕ, ◌<◌, ◌⊎◌}
use Rattle.std.specs.Int.{◌∣◌}

-- n is greater than one, and has no divisors but one and n
pub record IsPrime (n : ℕ) : Type 0 where
  pub above_one : 1 < n
  pub divisors : (d : ℕ) → d ∣ n → (d ≡ 1) ⊎ (d ≡ n)
