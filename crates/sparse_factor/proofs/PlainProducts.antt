-- The plain product L D Lᵀ as sums, and factorisations of plain matrices by their columns.
use Rattle.std.proofs.Common.{◌≡◌, ℕ, ◌<◌, true, min, max, ap, sym}
use Rattle.std.proofs.Common.{◌∙◌, refl, arith}
use Rattle.std.specs.Prelude.{nat_eq, nat_lt}
use Rattle.std.proofs.Math.Nat.{min_comm, max_comm}
use Rattle.std.proofs.lemmas.Bool.Decides.{nat_tests}
use Rattle.sparse_algebra.proofs.Cases.{nat_eq_no}
use Rattle.sparse_algebra.specs.Algebra.{CommRing}
use Rattle.sparse_algebra.specs.Sums.{sum_below}
use Rattle.sparse_algebra.specs.Plain.{Plain}
use Rattle.sparse_algebra.proofs.SumLemmas.{sum_below-same, sum_below-zero}
use Rattle.sparse_dense_ops.proofs.RingSteps.{add_off, sum_below-split}
use Rattle.sparse_factor.specs.Factorisations.{IsFactorisation, plain_diagonal, plain_ldl}
use Rattle.sparse_factor.specs.Factorisations.{plain_symmetric}
use Rattle.sparse_factor.specs.InnerFactors.{term, ArePartFactors}
use Rattle.sparse_factor.proofs.RingFacts.{mul_off_right}
use Rattle.sparse_factor.proofs.Columns.{whole, equations_of_part}

module _ (R : CommRing) where
  module _ (l : Plain R) (d : ℕ → R.Carrier) where
    on_diagonal : (n c : ℕ) → c < n → (plain_diagonal R n d).value c c ≡ d c
    on_diagonal n c lt =
        let same : nat_eq c c ≡ true = grind (arith, nat_tests) in
        let inside : nat_lt c n ≡ true = grind (arith, nat_tests) in
        rw (same, inside) refl

    -- each column of L is multiplied by its entry of D
    scaled : (i c : ℕ) → c < l.cols → sum_below R l.cols
        (λ k. R.mul (l.value i k) ((plain_diagonal R l.cols d).value k c))
        ≡ R.mul (l.value i c) (d c)
    scaled i c lt =
        sum_below-split R l.cols c
        (λ k. R.mul (l.value i k) ((plain_diagonal R l.cols d).value k c)) (λ _. R.zero) lt refl
        (λ k k_lt ne. mul_off_right R (l.value i k) ((plain_diagonal R l.cols d).value k c)
        (rw (nat_eq_no k c ne) refl))
        ∙ add_off R _ (sum_below R l.cols (λ _. R.zero)) (sum_below-zero R l.cols)
        ∙ ap (R.mul (l.value i c)) (on_diagonal l.cols c lt)

    pub ldl-value : (i j : ℕ)
        → (plain_ldl R l d).value i j ≡ sum_below R l.cols (term R l.value d i j)
    ldl-value i j = sum_below-same R l.cols _ (term R l.value d i j)
        (λ c lt. ap (λ x. R.mul x (l.value j c)) (scaled i c lt))

  -- the symmetric matrix is its own transpose
  pub symmetric-transposed : (a : Plain R) (i j : ℕ)
      → (plain_symmetric R a).value i j ≡ (plain_symmetric R a).value j i
  symmetric-transposed a i j = ap (λ k. a.value k (max i j)) (min_comm i j)
      ∙ ap (a.value (min j i)) (max_comm i j)

  module _ {T : Type 0} (f : T → R.Carrier) (m l : Plain R) (d : ℕ → R.Carrier) where
    -- a factorisation gives the equations of all columns
    pub columns_of : IsFactorisation R f m l d
        → ArePartFactors R f m.rows m.rows m.value l.value d
    columns_of h =
        let cols : l.cols ≡ m.rows = h.lower.square ∙ h.rows in
        let unit = λ (c : ℕ) (lt : c < m.rows). h.lower.unit c (omega (arith, lt, h.rows)) in
        let upper = λ (i c : ℕ) (lt : c < m.rows) (less : i < c).
        h.lower.upper i c less (omega (arith, lt, h.rows)) in
        record {
          unit = unit;
          upper = upper;
          pivots = h.pivots;
          columns = λ i c lt le within.
              sym (whole R f m.rows i c l.value d lt (unit c lt)
              (λ k more in_m. upper c k in_m more))
              ∙ ap (λ n. sum_below R n (term R l.value d i c)) (sym cols)
              ∙ sym (ldl-value l d i c) ∙ h.equation i c within lt;
        }

    pub factorisation_of : l.rows ≡ m.rows → l.cols ≡ l.rows
        → ((i j : ℕ) → m.value i j ≡ m.value j i)
        → ArePartFactors R f m.rows m.rows m.value l.value d → IsFactorisation R f m l d
    factorisation_of rows square symmetric h =
        let cols : l.cols ≡ m.rows = square ∙ rows in
        record {
          rows = rows;
          lower = record {
            square = square;
            unit = λ j lt. h.unit j (omega (arith, lt, rows));
            upper = λ i j less lt. h.upper i j (omega (arith, lt, rows)) less;
          };
          pivots = h.pivots;
          equation = λ i j a b. ldl-value l d i j
              ∙ ap (λ n. sum_below R n (term R l.value d i j)) cols
              ∙ equations_of_part R f m.rows m.value l.value d symmetric h i j a b;
        }
