-- Factorisations of a symmetric matrix, from the columns of its lower triangle.
use Rattle.std.proofs.Common.{◌≡◌, ℕ, ◌≤◌, sym}
use Rattle.sparse_algebra.specs.Algebra.{CommRing}
use Rattle.sparse_algebra.specs.Plain.{Plain, plain_transpose}
use Rattle.sparse_compressed.specs.Compressed.{Compressed}
use Rattle.sparse_compressed.specs.PlainOfLanes.{plain_of_cols}
use Rattle.sparse_compressed.proofs.Arrays.{proper_rows}
use Rattle.sparse_factor.specs.Factorisations.{IsFactorisation, plain_upper}
use Rattle.sparse_factor.specs.Factors.{symmetric_of}
use Rattle.sparse_factor.specs.InnerFactors.{ArePartFactors}
use Rattle.sparse_factor.proofs.PlainProducts.{columns_of, factorisation_of, symmetric-transposed}
use Rattle.sparse_factor.proofs.UpperTriangles.{lower_symmetric, part_same}

module _ (R : CommRing) {T : Type 0} (f : T → R.Carrier) (a t : Compressed T)
    (plain : plain_of_cols R f t ≡ plain_transpose R (plain_upper R (plain_of_cols R f a))) where
  below_same : (i c : ℕ) → c ≤ i
      → (plain_of_cols R f t).value i c ≡ (symmetric_of R f a).value i c
  below_same = lower_symmetric R (plain_of_cols R f a) (plain_of_cols R f t)
      (λ i j. proper_rows R f a j i) plain

  pub factors_of_part : {n : ℕ} (l : Plain R) (d : ℕ → R.Carrier) → n ≡ a.pattern.minor_dim
      → l.rows ≡ a.pattern.minor_dim → l.cols ≡ l.rows
      → ArePartFactors R f n n (plain_of_cols R f t).value l.value d
      → IsFactorisation R f (symmetric_of R f a) l d
  factors_of_part {n} l d size rows square part =
      factorisation_of R f (symmetric_of R f a) l d rows square
      (symmetric-transposed R (plain_of_cols R f a))
      (rw size at (part_same R f n n (plain_of_cols R f t).value (symmetric_of R f a).value l.value
      d below_same part))

  pub part_of_factors : {n : ℕ} (l : Plain R) (d : ℕ → R.Carrier) → n ≡ a.pattern.minor_dim
      → IsFactorisation R f (symmetric_of R f a) l d
      → ArePartFactors R f n n (plain_of_cols R f t).value l.value d
  part_of_factors l d size h =
      rw size (part_same R f a.pattern.minor_dim a.pattern.minor_dim (symmetric_of R f a).value
      (plain_of_cols R f t).value l.value d (λ i c le. sym (below_same i c le))
      (columns_of R f (symmetric_of R f a) l d h))
