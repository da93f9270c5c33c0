-- The values of a decimal number at two scales.
use Rattle.std.proofs.Common.{◌≡◌, ℕ, ℤ, zero, suc, ◌+◌, ◌-◌, ◌*◌, ◌^◌, ◌≤◌, ◌<◌, Bool, true, false}
use Rattle.std.proofs.Common.{List, Some, refl, sym, ap, subst, ◌∙◌, inl, inr, arith}
use Rattle.std.specs.Prelude.{FitsSigned}
use Rattle.std.specs.Int.{w128}
use Rattle.std.specs.Str.Parse.{starts_with_minus}
use Rattle.std.proofs.lemmas.Bool.{cases_lt}
use Rattle.std.proofs.lemmas.Nat.{pow-add}
use Rattle.std.proofs.Math.Nat.{eq_of_mul-eq-mul_right, mul-le-mul_left, mul_assoc, mul_right_comm}
use Rattle.mtxkit_matrices.specs.declared.decimals.number.Misfit.TheVariants.{Fraction, Range}
use Rattle.mtxkit_matrices.specs.Decimals.{IsScaled, IsMisfit}
use Rattle.mtxkit_matrices.specs.InnerPowers.{signed}
use Rattle.mtxkit_matrices.proofs.Magnitudes.{tens}

-- ---- magnitudes

-- m times 10 ^ l is n times 10 ^ (scale + g); so it is at a scale that is d larger, m times 10 ^ d
magnitude_more : (m l n g scale d : ℕ) → m * 10 ^ l ≡ n * 10 ^ (scale + g)
    → (m * 10 ^ d) * 10 ^ l ≡ n * 10 ^ (scale + d + g)
magnitude_more m l n g scale d e =
    let same : scale + d + g ≡ (scale + g) + d = omega arith in
    mul_right_comm m (10 ^ d) (10 ^ l) ∙ ap (λ (x : ℕ). x * 10 ^ d) e
    ∙ mul_assoc n (10 ^ (scale + g)) (10 ^ d)
    ∙ ap (λ (x : ℕ). n * x) (sym (pow-add 10 (scale + g) d)) ∙ ap (λ (k : ℕ). n * 10 ^ k) (sym same)

one_magnitude : (m k l total : ℕ) → m * 10 ^ l ≡ total → k * 10 ^ l ≡ total → m ≡ k
one_magnitude m k l total e f = eq_of_mul-eq-mul_right (10 ^ l) (tens l) m k (e ∙ sym f)

-- what fits in 128 bits with a sign fits if its magnitude is less
fits_less : (minus : Bool) (m k : ℕ) → m ≤ k → FitsSigned w128 (signed minus k)
    → FitsSigned w128 (signed minus m)
fits_less false m k le f = let s = f.sfits in record { sfits = omega (arith, s) }
fits_less true zero k le f = record { sfits = omega arith }
fits_less true (suc m) zero le f = absurd (omega arith)
fits_less true (suc m) (suc k) le f = let s = f.sfits in record { sfits = omega (arith, s) }

-- ---- values

module _ (word : List ℕ) (scale d : ℕ) where
  -- an integer is one at each larger scale
  scaled_more : (z : ℤ) → IsScaled scale word z → (y : ℤ) × IsScaled (scale + d) word y
  scaled_more z s = (
    signed (starts_with_minus word) (s.magnitude * 10 ^ d),
    record {
      magnitude = s.magnitude * 10 ^ d;
      sign = refl;
      value = magnitude_more s.magnitude _ _ _ scale d s.value;
    },
  )

  -- if it fits in 128 bits at the larger scale, it does at the smaller one
  fits_before : (z y : ℤ) → IsScaled scale word z → IsScaled (scale + d) word y → FitsSigned w128 y
      → FitsSigned w128 z
  fits_before z y s r f =
      let same : s.magnitude * 10 ^ d ≡ r.magnitude =
      one_magnitude _ _ _ _ (magnitude_more s.magnitude _ _ _ scale d s.value) r.value in
      let le = mul-le-mul_left s.magnitude (tens d) in
      subst (FitsSigned w128) (sym s.sign) (fits_less (starts_with_minus word) s.magnitude r.magnitude
      (omega (arith, le, same)) (subst (FitsSigned w128) r.sign f))

-- ---- values that are refused at a scale

-- a fraction at a scale is an integer at none below its least one, which is larger
pub fraction_below : (word : List ℕ) (scale least : ℕ) → IsMisfit (Fraction (Some least)) scale word
    → scale < least
fraction_below word scale least (none, ((z, s), below)) = elim (cases_lt scale least) [
  | inl lt ↦ lt
  | inr le ↦
      let more = scaled_more word least (scale - least) z s in
      let same : least + (scale - least) ≡ scale = omega (arith, le) in
      absurd (none more.0 (subst (λ (k : ℕ). IsScaled k word more.0) same more.1))
]

-- an integer that does not fit at a scale does not at any larger one
pub wide_above : (word : List ℕ) (scale other : ℕ) → IsMisfit Range scale word → scale ≤ other
    → (y : ℤ) → IsScaled other word y → FitsSigned w128 y → ⊥
wide_above word scale other (z, s, wide) le y r f =
    let same : other ≡ scale + (other - scale) = omega (arith, le) in
    wide (fits_before word scale (other - scale) z y s (subst (λ (k : ℕ). IsScaled k word y) same r) f)
