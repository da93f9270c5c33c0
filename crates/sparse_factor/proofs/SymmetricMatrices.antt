-- Symmetric matrices: the sum of an upper triangle and its mirror image, and their permutations.
use Rattle.std.proofs.Common.{◌≡◌, ℕ, ◌≤◌, inl, inr, Bool, true, false, ◌&&◌, min, max, List}
use Rattle.std.proofs.Common.{ap, sym, ◌∙◌, refl, arith}
use Rattle.std.specs.Prelude.{nat_le, nat_lt, ◌||◌}
use Rattle.std.proofs.Math.Nat.{min_comm, max_comm, min-eq_left, min-eq_right, max-eq_left}
use Rattle.std.proofs.Math.Nat.{max-eq_right}
use Rattle.std.proofs.lemmas.Bool.Decides.{nat_tests}
use Rattle.sparse_algebra.proofs.Cases.{lt_or_ge}
use Rattle.sparse_algebra.proofs.RingLemmas.{zero_add}
use Rattle.sparse_algebra.proofs.PlainLemmas.{same_plain}
use Rattle.sparse_algebra.specs.Algebra.{CommRing}
use Rattle.sparse_algebra.specs.Sums.{where_true}
use Rattle.sparse_algebra.specs.Plain.{Plain, IsProper, plain_kept, plain_sum, plain_transpose}
use Rattle.sparse_permutation.specs.PermutedPlain.{plain_permuted, IsSymmetric}
use Rattle.sparse_permutation.proofs.PermutedPlain.{transpose_permuted}
use Rattle.sparse_factor.specs.Factorisations.{plain_symmetric, plain_upper}

-- the test of one triangle holds, that of the other does not
places_above : (a b c d e : Bool) → c ≡ true → e ≡ false → ((a && c) || ((b && d) && e)) ≡ a
places_above true true true true false p q = refl
places_above true true true false false p q = refl
places_above true false true d false p q = refl
places_above false true true true false p q = refl
places_above false true true false false p q = refl
places_above false false true d false p q = refl
places_above a b false d e p q = cc
places_above a b true d true p q = cc

places_below : (a b c d e : Bool) → c ≡ false → d ≡ true → e ≡ true
    → ((a && c) || ((b && d) && e)) ≡ b
places_below true true false true true p q r = refl
places_below true false false true true p q r = refl
places_below false true false true true p q r = refl
places_below false false false true true p q r = refl
places_below a b true d e p q r = cc
places_below a b false false e p q r = cc
places_below a b false true false p q r = cc

module _ (R : CommRing) where
  values_above : (a b c d e : Bool) (v w : R.Carrier) → c ≡ true → e ≡ false
      → (a ≡ false → v ≡ R.zero)
      → R.add (where_true R (a && c) v) (where_true R ((b && d) && e) (where_true R (b && d) w)) ≡ v
  values_above true true true true false v w p q proper = R.laws.add_zero v
  values_above true true true false false v w p q proper = R.laws.add_zero v
  values_above true false true d false v w p q proper = R.laws.add_zero v
  values_above false true true true false v w p q proper =
      R.laws.add_zero R.zero ∙ sym (proper refl)
  values_above false true true false false v w p q proper =
      R.laws.add_zero R.zero ∙ sym (proper refl)
  values_above false false true d false v w p q proper =
      R.laws.add_zero R.zero ∙ sym (proper refl)
  values_above a b false d e v w p q proper = cc
  values_above a b true d true v w p q proper = cc

  values_below : (a b c d e : Bool) (v w : R.Carrier) → c ≡ false → d ≡ true → e ≡ true
      → (b ≡ false → w ≡ R.zero)
      → R.add (where_true R (a && c) v) (where_true R ((b && d) && e) (where_true R (b && d) w)) ≡ w
  values_below true true false true true v w p q r proper = zero_add R w
  values_below true false false true true v w p q r proper = zero_add R R.zero ∙ sym (proper refl)
  values_below false true false true true v w p q r proper = zero_add R w
  values_below false false false true true v w p q r proper = zero_add R R.zero ∙ sym (proper refl)
  values_below a b true d e v w p q r proper = cc
  values_below a b false false e v w p q r proper = cc
  values_below a b false true false v w p q r proper = cc

  -- what a has at (min(i, j), max(i, j)), above and below the diagonal
  above : {X : Type 0} (g : ℕ → ℕ → X) (i j : ℕ) → i ≤ j → g i j ≡ g (min i j) (max i j)
  above g i j le = ap (λ k. g k j) (sym (min-eq_left le))
      ∙ ap (g (min i j)) (sym (max-eq_right le))

  below : {X : Type 0} (g : ℕ → ℕ → X) (i j : ℕ) → j ≤ i → g j i ≡ g (min i j) (max i j)
  below g i j le = ap (λ k. g k i) (sym (min-eq_right le))
      ∙ ap (g (min i j)) (sym (max-eq_left le))

  -- the upper triangle and the entries below the diagonal of its transpose
  pub two_triangles : (a : Plain R) → IsProper a → plain_sum R (plain_upper R a)
      (plain_kept R (λ i j. nat_lt j i) (plain_transpose R (plain_upper R a)))
      ≡ plain_symmetric R a
  two_triangles a proper = same_plain (plain_sum R (plain_upper R a)
      (plain_kept R (λ i j. nat_lt j i) (plain_transpose R (plain_upper R a)))) (plain_symmetric R a)
      refl refl
      (λ i j. elim (lt_or_ge j i) [
        | inl less ↦
            let c : nat_le i j ≡ false = grind (arith, nat_tests) in
            let d : nat_le j i ≡ true = grind (arith, nat_tests) in
            let e : nat_lt j i ≡ true = grind (arith, nat_tests) in
            places_below (a.has i j) (a.has j i) _ _ _ c d e ∙ below a.has i j (omega arith)
        | inr le ↦
            let c : nat_le i j ≡ true = grind (arith, nat_tests) in
            let e : nat_lt j i ≡ false = grind (arith, nat_tests) in
            places_above (a.has i j) (a.has j i) _ (nat_le j i) _ c e ∙ above a.has i j le
      ])
      (λ i j. elim (lt_or_ge j i) [
        | inl less ↦
            let c : nat_le i j ≡ false = grind (arith, nat_tests) in
            let d : nat_le j i ≡ true = grind (arith, nat_tests) in
            let e : nat_lt j i ≡ true = grind (arith, nat_tests) in
            values_below (a.has i j) (a.has j i) _ _ _ (a.value i j) (a.value j i) c d e (proper j i)
            ∙ below a.value i j (omega arith)
        | inr le ↦
            let c : nat_le i j ≡ true = grind (arith, nat_tests) in
            let e : nat_lt j i ≡ false = grind (arith, nat_tests) in
            values_above (a.has i j) (a.has j i) _ (nat_le j i) _ (a.value i j) (a.value j i) c e
            (proper i j) ∙ above a.value i j le
      ])

  mirrored : {X : Type 0} (g : ℕ → ℕ → X) (i j : ℕ)
      → g (min j i) (max j i) ≡ g (min i j) (max i j)
  mirrored g i j = ap (λ k. g k (max j i)) (min_comm j i) ∙ ap (g (min i j)) (max_comm j i)

  -- the symmetric matrix of an upper triangle is symmetric
  pub is_symmetric : (a : Plain R) → a.rows ≡ a.cols → IsSymmetric R (plain_symmetric R a)
  is_symmetric a square = same_plain (plain_transpose R (plain_symmetric R a)) (plain_symmetric R a)
      (sym square) square (mirrored a.has) (mirrored a.value)

  -- and a symmetric matrix is that of its upper triangle
  pub symmetric_itself : (a : Plain R) → IsSymmetric R a → plain_symmetric R a ≡ a
  symmetric_itself a symmetric = same_plain (plain_symmetric R a) a refl refl
      (λ i j. elim (lt_or_ge j i) [
        | inl less ↦ sym (below a.has i j (omega arith))
            ∙ ap (λ (m : Plain R). m.has i j) symmetric
        | inr le ↦ sym (above a.has i j le)
      ])
      (λ i j. elim (lt_or_ge j i) [
        | inl less ↦ sym (below a.value i j (omega arith))
            ∙ ap (λ (m : Plain R). m.value i j) symmetric
        | inr le ↦ sym (above a.value i j le)
      ])

  -- so a permuted symmetric matrix is that of its upper triangle
  pub permuted_itself : (p : List ℕ) (a m : Plain R) → IsSymmetric R a → m ≡ plain_permuted R p a
      → plain_symmetric R m ≡ plain_permuted R p a
  permuted_itself p a m symmetric is = ap (plain_symmetric R) is
      ∙ symmetric_itself (plain_permuted R p a)
      (transpose_permuted R p a ∙ ap (plain_permuted R p) symmetric)
