-- The lower triangle of a matrix, and its columns.
use Rattle.std.proofs.Common.{◌≡◌, ℕ, ◌<◌, ◌≤◌, Bool, true, false, ◌&&◌, List, ap, sym, ◌∙◌, refl}
use Rattle.std.proofs.Common.{arith}
use Rattle.std.specs.Prelude.{nat_le}
use Rattle.std.proofs.lemmas.Bool.Decides.{nat_tests}
use Rattle.sparse_algebra.specs.Algebra.{CommRing}
use Rattle.sparse_algebra.specs.Sums.{where_true}
use Rattle.sparse_algebra.specs.Plain.{Plain, IsProper}
use Rattle.sparse_compressed.specs.Compressed.{Compressed}
use Rattle.sparse_compressed.specs.PlainOfLanes.{plain_of_cols}
use Rattle.sparse_compressed.proofs.Arrays.{proper_rows}
use Rattle.sparse_dense_ops.specs.Solutions.{plain_lower}
use Rattle.sparse_dense_ops.specs.InnerColumns.{IsColumnBelow, lower}
use Rattle.sparse_dense_ops.proofs.Substitutions.{IsLower, IsPivotColumn}

module _ (R : CommRing) where
  -- `b && c` keeps a value that is zero if b is false, where c is true
  pub by_test : (b c : Bool) (v : R.Carrier) → c ≡ true → (b ≡ false → v ≡ R.zero)
      → where_true R (b && c) v ≡ v
  by_test true true v h off = refl
  by_test true false v h off = cc
  by_test false c v h off = sym (off refl)

  off_test : (b c : Bool) (v : R.Carrier) → c ≡ false → where_true R (b && c) v ≡ R.zero
  off_test true true v h = cc
  off_test true false v h = refl
  off_test false c v h = refl

module _ (R : CommRing) (a : Plain R) where
  pub lower_is : IsProper a → (i j : ℕ) → j ≤ i → (plain_lower R a).value i j ≡ a.value i j
  lower_is proper i j le =
      let test : nat_le j i ≡ true = grind (arith, nat_tests) in
      by_test R (a.has i j) (nat_le j i) (a.value i j) test (proper i j)

  pub lower_zero : IsLower R (plain_lower R a).value
  lower_zero i j lt =
      let test : nat_le j i ≡ false = grind (arith, nat_tests) in
      off_test R (a.has i j) (nat_le j i) (a.value i j) test

-- the entries of a column below the diagonal of a matrix are those of its lower triangle
pub pivot_column : {R : CommRing} {T : Type 0} {f : T → R.Carrier} (m : Compressed T) {n k : ℕ}
    {rows : List ℕ} {values : List T} {e : T}
    → IsColumnBelow R f (plain_of_cols R f m) k rows values e → m.pattern.minor_dim ≡ n → k < n
    → IsPivotColumn R f n (lower R f m) k rows values e
pivot_column {R} {f = f} m {k = k} {e = e} column square within =
    let a = plain_of_cols R f m in
    let proper : IsProper a = λ i j. proper_rows R f m j i in
    record {
      low = lower_zero R a;
      within = within;
      inside = rw (← square) column.inside;
      inverts = ap (λ c. R.mul c (f e)) (lower_is R a proper k k (omega arith)) ∙ column.inverts;
      below = λ i more. column.below i more ∙ sym (lower_is R a proper i k (omega arith));
      above = column.above;
    }
