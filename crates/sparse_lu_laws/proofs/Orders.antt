-- An element c with c ^ n = 1, but for no exponent n / q with a divisor q of n, has the n different powers c ^ k with k
-- below n. So a ring of residues with such an element has more than n residues.
use Rattle.std.proofs.Common.{◌≡◌, ◌≢◌, ℕ, ◌-◌, ◌*◌, ◌/◌, ◌<◌, ◌≤◌, inl, inr}
use Rattle.std.proofs.Common.{List, length, map, get_or, ap, sym, ◌∙◌, subst, arith}
use Rattle.std.specs.Int.{◌∣◌}
use Rattle.std.proofs.Math.Nat.{div-mul_cancel, dvd-mul_right, mul-div_cancel}
use Rattle.std.proofs.Math.Nat.{zero-mod}
use Rattle.std.proofs.lemmas.List.{get_or-map, length-map}
use Rattle.std.proofs.lemmas.Nat.Gcd.{le_of_dvd}
use Rattle.sparse_algebra.specs.Algebra.{CommRing}
use Rattle.sparse_algebra.specs.Moduli.{modulus, mod_ring}
use Rattle.sparse_algebra.specs.Plain.{below}
use Rattle.sparse_algebra.specs.Residues.{Residue, same_residue}
use Rattle.sparse_algebra.proofs.Cases.{lt_or_ge}
use Rattle.sparse_algebra.proofs.RingLemmas.{mul_zero}
use Rattle.sparse_permutation.specs.Permutations.{IsOrder}
use Rattle.sparse_permutation.proofs.Orders.{below_at, length-below, order_occurs}
use Rattle.sparse_lu_laws.proofs.PrimeFields.{one_not_zero}
use Rattle.sparse_lu_laws.proofs.Powers.{power, power_add, power_gcd, power_multiple}

-- each divisor of n above one has a divisor q such that c ^ (n / q) is not one
abbrev pub HasFullOrder : (R : CommRing) → R.Carrier → ℕ → Type 0
HasFullOrder R c n = (t : ℕ) → t ∣ n → 1 < t → (q : ℕ) × (q ∣ t) × (power R c (n / q) ≢ R.one)

-- if n = t g and t = u q, then n / q = g u
quotient_of_factors : (n g t q u : ℕ) → t * g ≡ n → u * q ≡ t → q ≢ 0 → n / q ≡ g * u
quotient_of_factors n g t q u product split some =
    let regrouped : n ≡ (g * u) * q = omega (arith, product, ap (λ x. x * g) split) in
    let positive : 0 < q = omega arith in
    ap (λ x. x / q) regrouped ∙ mul-div_cancel (g * u) positive

module _ (R : CommRing) (c : R.Carrier) (n : ℕ) (whole : power R c n ≡ R.one)
    (full : HasFullOrder R c n) where
  no_smaller_exponent : (k : ℕ) → 0 < k → k < n → power R c k ≢ R.one
  no_smaller_exponent k some less one =
      let found = power_gcd R c n k whole one in
      let g = found.0 in
      let at_most : g ≤ k = le_of_dvd some found.1.1 in
      let t = n / g in
      let product : t * g ≡ n = div-mul_cancel g found.1.0 in
      let not_zero : t ≢ 0 = λ e. absurd (omega (arith, product, ap (λ x. x * g) e)) in
      let not_one : t ≢ 1 = λ e. absurd (omega (arith, product, ap (λ x. x * g) e)) in
      let part = full t (subst (λ x. t ∣ x) product (dvd-mul_right t g)) (omega arith) in
      let q = part.0 in
      let u = t / q in
      let split : u * q ≡ t = div-mul_cancel q part.1 in
      let positive : q ≢ 0 = λ e. absurd (omega (arith, split, ap (λ x. u * x) e)) in
      let quotient = quotient_of_factors n g t q u product split positive in
      part.2 (ap (power R c) quotient ∙ power_multiple R c g u found.2)

  undone : (i : ℕ) → i < n → R.mul (power R c (n - i)) (power R c i) ≡ R.one
  undone i less = sym (power_add R c (n - i) i) ∙ ap (power R c) (omega arith) ∙ whole

  pub powers_apart : (i j : ℕ) → i < j → j < n → power R c i ≢ power R c j
  powers_apart i j before less same =
      let rest = power R c (j - i) in
      no_smaller_exponent (j - i) (omega arith) (omega arith)
      (sym (R.laws.mul_one rest) ∙ R.laws.mul_comm rest R.one
      ∙ ap (λ x. R.mul x rest) (sym (undone i (omega arith)))
      ∙ R.laws.mul_assoc (power R c (n - i)) (power R c i) rest
      ∙ ap (R.mul (power R c (n - i))) (sym (power_add R c i (j - i))
      ∙ ap (power R c) (omega arith) ∙ sym same) ∙ undone i (omega arith))

  pub powers_nonzero : R.one ≢ R.zero → (i : ℕ) → i < n → power R c i ≢ R.zero
  powers_nonzero nonzero i less none = nonzero (sym (undone i less)
      ∙ ap (R.mul (power R c (n - i))) none ∙ mul_zero R (power R c (n - i)))

module _ (d : ℕ) (above : 1 < d) (c : Residue (modulus d)) (n : ℕ)
    (whole : power (mod_ring d) c n ≡ (mod_ring d).one) (full : HasFullOrder (mod_ring d) c n) where
  abbrev R : CommRing
  R = mod_ring d

  -- the k-th power, without the residue zero
  abbrev number_at : ℕ → ℕ
  number_at k = (power R c k).number - 1

  positive : (k : ℕ) → k < n → 0 < (power R c k).number
  positive k less = elim (lt_or_ge 0 (power R c k).number) [
    | inl some ↦ some
    | inr none ↦ absurd (powers_nonzero R c n whole full (one_not_zero d above) k less
        (same_residue (power R c k) R.zero (omega (arith, zero-mod (modulus d)))))
  ]

  number_below : (k : ℕ) → k < n → number_at k < d - 1
  number_below k less = omega (arith, positive k less, (power R c k).below)

  numbers_apart : (l k : ℕ) → l < k → k < n → number_at l ≢ number_at k
  numbers_apart l k before less same =
      powers_apart R c n whole full l k before less (same_residue (power R c l) (power R c k)
      (omega (arith, same, positive l (omega arith), positive k less)))

  abbrev numbers : List ℕ
  numbers = map number_at (below n)

  count : length numbers ≡ n
  count = length-map (below n) number_at ∙ length-below n

  numbers_at : (k : ℕ) → k < n → get_or numbers k 0 ≡ number_at k
  numbers_at k less = get_or-map number_at (below n) k 0 0 (omega (arith, length-below n))
      ∙ ap number_at (below_at n k less)

  -- if there were no more than n residues, the n powers would be a permutation, and the greatest
  -- residue one of them
  numbers_order : d - 1 < n → IsOrder numbers
  numbers_order few k inside =
      let less : k < n = omega (arith, count) in
      record {
        below = omega (arith, count, numbers_at k less, number_below k less);
        new = λ l before same. numbers_apart l k before less
            (sym (numbers_at l (omega arith)) ∙ same ∙ numbers_at k less);
      }

  pub more_residues : n < d
  more_residues = elim (lt_or_ge n d) [
    | inl more ↦ more
    | inr few ↦
        let found = order_occurs (numbers_order (omega arith)) (d - 1) (omega (arith, count)) in
        let less : found.0 < n = omega (arith, count, found.1) in
        absurd (omega (arith, found.2, numbers_at found.0 less, number_below found.0 less))
  ]
