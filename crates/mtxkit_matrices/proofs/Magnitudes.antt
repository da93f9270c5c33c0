-- Natural numbers times powers of ten.
use Rattle.std.proofs.Common.{◌≡◌, ◌≢◌, ℕ, ◌+◌, ◌-◌, ◌*◌, ◌^◌, ◌<◌, ◌≤◌, Bool, true, false, not}
use Rattle.std.proofs.Common.{Option, Some, None, Result, Ok, Err, refl, sym, ap, ◌∙◌, arith}
use Rattle.std.specs.Option.{SomeIff}
use Rattle.std.specs.Prelude.{IfOk, IfErr, MatchResult}
use Rattle.std.proofs.lemmas.Nat.{pow-add}
use Rattle.std.proofs.lemmas.Grind.{pow_more}
use Rattle.std.proofs.Math.Nat.{pow-le-pow_right, mul-le-mul_left, mul_assoc, mul-le-mul}
use Rattle.std.proofs.Math.Nat.{eq_of_mul-eq-mul_right}
use Rattle.mtxkit_matrices.specs.declared.decimals.number.Misfit.{Misfit}
use Rattle.mtxkit_matrices.specs.declared.decimals.number.Misfit.TheVariants.{Fraction, Range}
use Rattle.mtxkit_matrices.specs.InnerDigits.{IsTrimmed}
use Rattle.mtxkit_matrices.specs.InnerPowers.{IsMagnitude, HasLeastScale, HasNoMagnitude}
use Rattle.mtxkit_matrices.specs.InnerPowers.{extreme, up, down}

pub tens : (k : ℕ) → 0 < 10 ^ k
tens k =
    let p = pow-le-pow_right {n = 10} (omega arith) {i = 0} {j = k} (omega arith) in
    omega arith

-- a part followed by zeros, and by more zeros
zeros_more : (v zeros more total : ℕ) → v * 10 ^ zeros ≡ total
    → v * 10 ^ (zeros + more) ≡ total * 10 ^ more
zeros_more v zeros more total e =
    rw (pow-add 10 zeros more, ← mul_assoc v (10 ^ zeros) (10 ^ more), e) refl

-- v * 10 ^ d is total * 10 ^ (gain - loss), stated without a division
is_exact : (v zeros gain loss d total : ℕ) → v * 10 ^ zeros ≡ total → zeros + gain ≡ d + loss
    → (v * 10 ^ d) * 10 ^ loss ≡ total * 10 ^ gain
is_exact v zeros gain loss d total e same = mul_assoc v (10 ^ d) (10 ^ loss)
    ∙ rw (← pow-add 10 d loss, ← same) (zeros_more v zeros gain total e)

-- a number that does not end in 0, times a negative power of ten, is not an integer
is_fraction : (v zeros gain loss total m : ℕ) → v * 10 ^ zeros ≡ total
    → ((tenth : ℕ) → v ≡ tenth * 10 → v ≡ 0) → v ≢ 0 → zeros + gain < loss
    → m * 10 ^ loss ≡ total * 10 ^ gain → ⊥
is_fraction v zeros gain loss total m e trimmed some lt f =
    some (trimmed (m * 10 ^ rest) (cancelled ∙ more))
  where
    rest : ℕ
    rest = loss - (zeros + gain) - 1

    parts : loss ≡ (rest + 1) + (zeros + gain)
    parts = omega arith

    -- the equation divided by 10 ^ (zeros + gain)
    cancelled : v ≡ m * 10 ^ (rest + 1)
    cancelled = eq_of_mul-eq-mul_right (10 ^ (zeros + gain)) (tens (zeros + gain)) v
        (m * 10 ^ (rest + 1))
        (zeros_more v zeros gain total e ∙ sym f ∙ ap (λ (k : ℕ). m * 10 ^ k) parts
        ∙ rw (pow-add 10 (rest + 1) (zeros + gain))
        (sym (mul_assoc m (10 ^ (rest + 1)) (10 ^ (zeros + gain)))))

    more : m * 10 ^ (rest + 1) ≡ (m * 10 ^ rest) * 10
    more = rw (pow_more 10 rest, ← mul_assoc m (10 ^ rest) 10) refl

-- a nonzero number followed by 128 or more zeros exceeds 128 bits
is_wide : (v d : ℕ) → v ≢ 0 → 128 ≤ d → ¬ (v * 10 ^ d < 2 ^ 128)
is_wide v d some le small =
    let p = pow-le-pow_right {n = 10} (omega arith) {i = 128} {j = d} le in
    let m = mul-le-mul {n₁ = 1} {m₁ = 10 ^ 128} {n₂ = v} {m₂ = 10 ^ d} (omega (arith, some)) p in
    omega arith

pub is_wide_part : (v d : ℕ) → ¬ (v < 2 ^ 128) → ¬ (v * 10 ^ d < 2 ^ 128)
is_wide_part v d large small = let m = mul-le-mul_left v (tens d) in large (omega arith)

-- ---- the result of `shifted`

up-not : (negative : Bool) (size : ℕ) → up (not negative) size ≡ down negative size
up-not true size = refl
up-not false size = refl

module _ {total : ℕ} {part : Option ℕ} {zeros : ℕ} (t : IsTrimmed total part zeros)
    (behind scale : ℕ) (negative : Bool) (size : ℕ) where
  pub zero_magnitude : t.value ≡ 0 → IsMagnitude total behind scale negative size 0
  zero_magnitude e =
      let w = rw e at t.whole in
      let none : total ≡ 0 = omega arith in
      rw none (equal (10 ^ (behind + down negative size)) (10 ^ (scale + up negative size)))
    where
      equal : (x y : ℕ) → 0 * x ≡ 0 * y
      equal x y = omega arith

  no_integer : t.value ≢ 0 → zeros + scale + up negative size < behind + up (not negative) size
      → (m : ℕ) → IsMagnitude total behind scale negative size m → ⊥
  no_integer some lt m e =
      let n = up-not negative size in
      is_fraction t.value zeros (scale + up negative size) (behind + down negative size) total m
      t.whole t.trimmed some (omega arith) e

  module _ (d : ℕ)
      (same : zeros + scale + up negative size ≡ d + (behind + up (not negative) size)) where
    exact : IsMagnitude total behind scale negative size (t.value * 10 ^ d)
    exact =
        let n = up-not negative size in
        is_exact t.value zeros (scale + up negative size) (behind + down negative size) d total
        t.whole (omega arith)

    pub raised_magnitude : (r : Result ℕ Misfit)
        → MatchResult r (λ m. m ≡ t.value * 10 ^ d)
        (λ why. (why ≡ Range) × (t.value * 10 ^ d < 2 ^ 128 → ⊥))
        → IfOk r (IsMagnitude total behind scale negative size)
    raised_magnitude (Ok m) h = rw h exact
    raised_magnitude (Err why) h = tt

    pub no_raised : (r : Result ℕ Misfit)
        → MatchResult r (λ m. m ≡ t.value * 10 ^ d)
        (λ why. (why ≡ Range) × (t.value * 10 ^ d < 2 ^ 128 → ⊥))
        → IfErr r (λ why. HasNoMagnitude why total behind scale negative size)
    no_raised (Ok m) h = tt
    no_raised (Err why) h = rw h.0 (t.value * 10 ^ d, exact, h.1)

-- a number that is not an integer, and the least scale at which it is one
module _ {total : ℕ} {part : Option ℕ} {zeros : ℕ} (t : IsTrimmed total part zeros)
    (behind scale more : ℕ) (negative : Bool) (size : ℕ) (some : t.value ≢ 0)
    (few : zeros + scale + up negative size + more ≡ behind + up (not negative) size)
    (lt : 0 < more) where
  below : (less : ℕ) → less < scale + more → (m : ℕ)
      → IsMagnitude total behind less negative size m → ⊥
  below less l = no_integer t behind less negative size some (omega arith)

  least_scale : (least : Option ℕ) → SomeIff least (scale + more < 2 ^ 32) (scale + more)
      → HasLeastScale total behind negative size least
  least_scale (Some least) k = rw k.1 (
    (t.value * 10 ^ 0, exact t behind (scale + more) negative size 0 (omega arith)),
    below,
  )
  least_scale None k = λ less l. below less (omega (arith, k))

  pub no_fraction : (least : Option ℕ) → SomeIff least (scale + more < 2 ^ 32) (scale + more)
      → HasNoMagnitude (Fraction least) total behind scale negative size
  no_fraction least k =
      (no_integer t behind scale negative size some (omega arith), least_scale least k)

-- a power of ten whose exponent exceeds 64 bits
pub no_extreme : {total : ℕ} {part : Option ℕ} {zeros : ℕ} (t : IsTrimmed total part zeros)
    (behind scale : ℕ) (negative : Bool) (size : ℕ) → t.value ≢ 0 → zeros < 2 ^ 63
    → behind < 2 ^ 63 → scale < 2 ^ 32 → ¬ (size < 2 ^ 64)
    → HasNoMagnitude (extreme negative) total behind scale negative size
no_extreme t behind scale true size some few short low large = (
  no_integer t behind scale true size some (omega (arith, large)),
  λ less l. no_integer t behind less true size some (omega (arith, large)),
)
no_extreme {zeros} t behind scale false size some few short low large = (
  t.value * 10 ^ (zeros + scale + size - behind),
  exact t behind scale false size (zeros + scale + size - behind) (omega (arith, large)),
  is_wide t.value (zeros + scale + size - behind) some (omega (arith, large)),
)
