-- Entries of a product as dot products of a lane and a column, and adding one column of a matrix
-- more.
use Rattle.std.proofs.Common.{◌≡◌, ℕ, suc, ◌+◌, ◌<◌, List, ap, sym, ◌∙◌, arith}
use Rattle.sparse_algebra.specs.Algebra.{CommRing}
use Rattle.sparse_algebra.specs.Sums.{dot_of, sum_below}
use Rattle.sparse_algebra.specs.Plain.{Plain, plain_product}
use Rattle.sparse_algebra.proofs.SumLemmas.{sum_below-same}
use Rattle.sparse_pattern.specs.Raw.{lane_of}
use Rattle.sparse_compressed.specs.Compressed.{Compressed, IsSound}
use Rattle.sparse_compressed.specs.PlainOfLanes.{plain_of_rows}
use Rattle.sparse_compressed.proofs.LaneValues.{values_of, row_sum}

module _ (R : CommRing) where
  -- the dot product of a lane and column j of b is an entry of the product
  pub lane_entry : {T : Type 0} (f : T → R.Carrier) (z : T) {m : Compressed T} (b : Plain R)
      {i j : ℕ} {ks : List ℕ} {vs : List T} {sum : R.Carrier} {x : ℕ → R.Carrier}
      → IsSound m → i < m.pattern.major_dim → ks ≡ lane_of m.pattern i → vs ≡ values_of m i
      → m.pattern.minor_dim ≡ b.rows → ((k : ℕ) → k < b.rows → x k ≡ b.value k j)
      → sum ≡ dot_of R f ks vs x → sum ≡ (plain_product R (plain_of_rows R f m) b).value i j
  lane_entry f z {m} b {i} {x = x} sound lane indices values inner column is =
      (rw (indices, values) at is) ∙ row_sum R f z m sound i lane x
      ∙ sum_below-same R m.pattern.minor_dim _ _
      (λ k lt. ap (R.mul ((plain_of_rows R f m).value i k)) (column k (omega arith)))

  -- adding column n of a matrix A to beta c + alpha A x, computed from the first n columns
  pub term_more : {n : ℕ} (a x : ℕ → R.Carrier) {alpha start now new multiplier : R.Carrier}
      → now ≡ R.add start (R.mul alpha (sum_below R n (λ k. R.mul (a k) (x k))))
      → new ≡ R.add now (R.mul multiplier (a n)) → multiplier ≡ R.mul alpha (x n)
      → new ≡ R.add start (R.mul alpha (sum_below R (n + 1) (λ k. R.mul (a k) (x k))))
  term_more {n} a x {alpha} {start} {multiplier = multiplier} so_far added is =
      let s = sum_below R n (λ k. R.mul (a k) (x k)) in
      let e : n + 1 ≡ suc n = omega arith in
      added ∙ ap (λ c. R.add c (R.mul multiplier (a n))) so_far ∙ R.laws.add_assoc start (R.mul alpha s)
      _
      ∙ ap (R.add start) (ap (R.add (R.mul alpha s))
      (ap (λ c. R.mul c (a n)) is ∙ R.laws.mul_assoc alpha (x n) (a n)
      ∙ ap (R.mul alpha) (R.laws.mul_comm (x n) (a n)))
      ∙ sym (R.laws.distrib alpha s (R.mul (a n) (x n)))
      ∙ ap (λ m. R.mul alpha (sum_below R m (λ k. R.mul (a k) (x k)))) (sym e))
