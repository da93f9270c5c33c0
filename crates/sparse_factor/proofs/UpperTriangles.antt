-- The symmetric matrix depends on the upper triangle alone.
use Rattle.std.proofs.Common.{◌≡◌, ℕ, ◌≤◌, true, min, max, ap, sym, ◌∙◌, arith}
use Rattle.std.specs.Prelude.{nat_le}
use Rattle.std.proofs.Math.Nat.{min-le_left, min-eq_right, max-eq_left, le-max_left}
use Rattle.sparse_algebra.proofs.Cases.{and_both, and_parts}
use Rattle.sparse_algebra.specs.Algebra.{CommRing}
use Rattle.sparse_algebra.specs.Plain.{Plain, IsProper, plain_transpose}
use Rattle.sparse_pattern.specs.Raw.{Raw}
use Rattle.sparse_compressed.specs.Compressed.{Compressed, IsSound}
use Rattle.sparse_compressed.specs.PlainOfLanes.{plain_of_cols}
use Rattle.sparse_compressed.proofs.Arrays.{proper_rows}
use Rattle.sparse_dense_ops.proofs.ColumnSteps.{by_test}
use Rattle.sparse_factor.specs.Fill.{InFill, UpperBase, StoresByColumns}
use Rattle.sparse_factor.specs.Factorisations.{IsFactorisation, plain_symmetric, plain_upper}
use Rattle.sparse_factor.specs.Factors.{symmetric_of}
use Rattle.sparse_factor.specs.InnerFactors.{ArePartFactors}
use Rattle.sparse_factor.proofs.FillLaws.{in_fill_into}
use Rattle.sparse_factor.proofs.FilledSets.{has_entry, entry_has}
use Rattle.sparse_factor.proofs.FillPatterns.{is_le, le_is}
use Rattle.sparse_factor.proofs.Alternatives.{both_ways}

module _ (R : CommRing) where
  pub upper_is : (a : Plain R) → IsProper a → (i j : ℕ) → i ≤ j
      → (plain_upper R a).value i j ≡ a.value i j
  upper_is a proper i j le = by_test R (a.has i j) (nat_le i j) (a.value i j) (le_is i j le)
      (proper i j)

  min_max : (i j : ℕ) → min i j ≤ max i j
  min_max i j = omega (arith, min-le_left i j, le-max_left i j)

  symmetric_is : (a : Plain R) → IsProper a → (i j : ℕ)
      → (plain_symmetric R a).value i j ≡ (plain_upper R a).value (min i j) (max i j)
  symmetric_is a proper i j = sym (upper_is a proper (min i j) (max i j) (min_max i j))

  -- matrices with the same upper triangle have the same symmetric matrix
  pub symmetric_same : (a b : Plain R) → IsProper a → IsProper b
      → plain_upper R b ≡ plain_upper R a → (i j : ℕ)
      → (plain_symmetric R a).value i j ≡ (plain_symmetric R b).value i j
  symmetric_same a b pa pb same i j = symmetric_is a pa i j
      ∙ sym (ap (λ (m : Plain R). m.value (min i j) (max i j)) same) ∙ sym (symmetric_is b pb i j)

  -- below the diagonal the symmetric matrix is the transposed upper triangle
  pub lower_symmetric : (a t : Plain R) → IsProper a → t ≡ plain_transpose R (plain_upper R a)
      → (i c : ℕ) → c ≤ i → t.value i c ≡ (plain_symmetric R a).value i c
  lower_symmetric a t proper is i c le =
      ap (λ (m : Plain R). m.value i c) is ∙ upper_is a proper c i le
      ∙ ap (λ k. a.value k i) (sym (min-eq_right le))
      ∙ ap (a.value (min i c)) (sym (max-eq_left le))

  module _ {T : Type 0} (f : T → R.Carrier) where
    -- columns that satisfy the equations of one matrix satisfy those of another with the same
    -- entries on and below the diagonal
    pub part_same : (n j : ℕ) (m k l : ℕ → ℕ → R.Carrier) (d : ℕ → R.Carrier)
        → ((i c : ℕ) → c ≤ i → m i c ≡ k i c) → ArePartFactors R f n j m l d
        → ArePartFactors R f n j k l d
    part_same n j m k l d same p = record {
      unit = p.unit;
      upper = p.upper;
      pivots = p.pivots;
      columns = λ i c lt le within. p.columns i c lt le within ∙ same i c le;
    }

    pub factorisation_same : (m k l : Plain R) (d : ℕ → R.Carrier) → m.rows ≡ k.rows
        → ((i j : ℕ) → m.value i j ≡ k.value i j) → IsFactorisation R f m l d
        → IsFactorisation R f k l d
    factorisation_same m k l d rows same h = record {
      rows = h.rows ∙ rows;
      lower = h.lower;
      pivots = λ j lt. h.pivots j (omega (arith, lt, rows));
      equation = λ i j a b. h.equation i j (omega (arith, a, rows)) (omega (arith, b, rows))
          ∙ same i j;
    }

module _ (R : CommRing) {T : Type 0} (f : T → R.Carrier) (a b : Compressed T) (sa : IsSound a)
    (sb : IsSound b)
    (same : plain_upper R (plain_of_cols R f b) ≡ plain_upper R (plain_of_cols R f a)) where
  pub same_rows : a.pattern.minor_dim ≡ b.pattern.minor_dim
  same_rows = sym (ap (λ (m : Plain R). m.rows) same)

  pub same_symmetric : (i j : ℕ) → (symmetric_of R f a).value i j ≡ (symmetric_of R f b).value i j
  same_symmetric = symmetric_same R (plain_of_cols R f a) (plain_of_cols R f b)
      (λ i j. proper_rows R f a j i) (λ i j. proper_rows R f b j i) same

  has_base : (m : Compressed T) → IsSound m → (c r : ℕ)
      → (plain_upper R (plain_of_cols R f m)).has r c ≡ true → UpperBase m.pattern c r
  has_base m sound c r hit =
      let parts = and_parts ((plain_of_cols R f m).has r c) (nat_le r c) hit in
      (has_entry R f m sound r c parts.0, is_le r c parts.1)

  base_has : (m : Compressed T) → IsSound m → (c r : ℕ) → UpperBase m.pattern c r
      → (plain_upper R (plain_of_cols R f m)).has r c ≡ true
  base_has m sound c r base = and_both ((plain_of_cols R f m).has r c) (nat_le r c)
      (entry_has R f m sound r c base.0) (le_is r c base.1)

  to_a : (c r : ℕ) → UpperBase b.pattern c r → UpperBase a.pattern c r
  to_a c r base = has_base a sa c r
      (sym (ap (λ (m : Plain R). m.has r c) same) ∙ base_has b sb c r base)

  to_b : (c r : ℕ) → UpperBase a.pattern c r → UpperBase b.pattern c r
  to_b c r base = has_base b sb c r
      (ap (λ (m : Plain R). m.has r c) same ∙ base_has a sa c r base)

  pub same_fill : (p : Raw) → StoresByColumns (InFill (UpperBase a.pattern)) p
      → StoresByColumns (InFill (UpperBase b.pattern)) p
  same_fill p stores i j =
      both_ways (stores i j) (in_fill_into to_b i j, in_fill_into to_a i j)
