-- A system whose matrix is L D Lᵀ, with units on the diagonal of D, has at most one solution.
use Rattle.std.proofs.Common.{◌≡◌, ℕ, zero, suc, ◌+◌, ◌<◌, ◌≤◌, ◌≢◌, inl, inr, ap, sym, ◌∙◌}
use Rattle.std.proofs.Common.{length, subst, arith, true, false, ◌&&◌}
use Rattle.std.specs.Prelude.{nat_eq, nat_lt}
use Rattle.std.proofs.lemmas.Bool.Decides.{nat_tests}
use Rattle.std.proofs.lemmas.Bool.{cases_eq, cases_lt}
use Rattle.nalgebra_sparse.specs.Algebra.{CommRing}
use Rattle.nalgebra_sparse.specs.Compressed.{Compressed}
use Rattle.nalgebra_sparse.specs.Factorisations.{IsUnitLower, plain_diagonal, plain_ldl}
use Rattle.nalgebra_sparse.specs.Factors.{Factors, HavePivots, diagonal, plain_of_factors}
use Rattle.nalgebra_sparse.specs.Factors.{symmetric_of}
use Rattle.nalgebra_sparse.specs.Plain.{Plain, plain_product, plain_transpose}
use Rattle.nalgebra_sparse.specs.PlainOfLanes.{plain_of_cols}
use Rattle.nalgebra_sparse.specs.RingLemmas.{zero_mul, cancel}
use Rattle.nalgebra_sparse.specs.Solutions.{HasSameValues, IsSolution}
use Rattle.nalgebra_sparse.specs.SumLemmas.{sum_below-same}
use Rattle.nalgebra_sparse.specs.Sums.{sum_below, where_true}
use Rattle.examples_theorems.specs.OnlySolutions.{Solves, IsOnlySolution}

module _ (R : CommRing) where
  -- if two sums are equal and all their terms but one are, so is that one
  one_term : (n i : ℕ) (f g : ℕ → R.Carrier) → i < n → sum_below R n f ≡ sum_below R n g
      → ((k : ℕ) → k < n → k ≢ i → f k ≡ g k) → f i ≡ g i
  one_term zero i f g lt sums same = absurd (omega arith)
  one_term (suc n) i f g lt sums same = elim (cases_eq i n) [
    | inl is ↦
        let front : sum_below R n f ≡ sum_below R n g =
        sum_below-same R n f g (λ k l. same k (omega arith) (λ e. omega arith)) in
        ap f is
        ∙ cancel R (f n) (g n) (sum_below R n g)
        (R.laws.add_comm (f n) (sum_below R n g)
        ∙ ap (λ c. R.add c (f n)) (sym front) ∙ sums
        ∙ R.laws.add_comm (sum_below R n g) (g n))
        ∙ ap g (sym is)
    | inr other ↦
        let last : f n ≡ g n = same n (omega arith) (λ e. other (sym e)) in
        one_term n i f g (omega arith)
        (cancel R (sum_below R n f) (sum_below R n g) (g n)
        (ap (R.add (sum_below R n f)) (sym last) ∙ sums))
        (λ k l. same k (omega arith))
  ]

  abbrev pub IsUnit : R.Carrier → Type 0
  IsUnit c = (e : R.Carrier) × (R.mul c e ≡ R.one)

  divided : (c x y : R.Carrier) → IsUnit c → R.mul c x ≡ R.mul c y → x ≡ y
  divided c x y unit same =
      let back : (z : R.Carrier) → R.mul unit.0 (R.mul c z) ≡ z =
      λ z. sym (R.laws.mul_assoc unit.0 c z)
      ∙ ap (λ w. R.mul w z) (R.laws.mul_comm unit.0 c ∙ unit.1)
      ∙ R.laws.mul_comm R.one z ∙ R.laws.mul_one z in
      sym (back x) ∙ ap (R.mul unit.0) same ∙ back y

  both_zero : (t x y : R.Carrier) → t ≡ R.zero → R.mul t x ≡ R.mul t y
  both_zero t x y is = ap (λ c. R.mul c x) is ∙ zero_mul R x ∙ sym (ap (λ c. R.mul c y) is ∙ zero_mul R y)

  -- t x and t y have equal values
  abbrev pub AreSolutions : ℕ → (ℕ → ℕ → R.Carrier) → (ℕ → R.Carrier) → (ℕ → R.Carrier) → Type 0
  AreSolutions n t x y = (i : ℕ) → i < n
      → sum_below R n (λ k. R.mul (t i k) (x k)) ≡ sum_below R n (λ k. R.mul (t i k) (y k))

  module _ (n : ℕ) (t : ℕ → ℕ → R.Carrier) (x y : ℕ → R.Carrier) (both : AreSolutions n t x y)
      (units : (k : ℕ) → k < n → IsUnit (t k k)) where
    -- x and y are equal at i if they are equal at all other columns of row i
    at_row : (i : ℕ) → i < n → ((k : ℕ) → k < n → k ≢ i → R.mul (t i k) (x k) ≡ R.mul (t i k) (y k))
        → x i ≡ y i
    at_row i lt others = divided (t i i) (x i) (y i) (units i lt)
        (one_term n i (λ k. R.mul (t i k) (x k)) (λ k. R.mul (t i k) (y k)) lt (both i lt) others)

    module _ (above : (i k : ℕ) → i < k → k < n → t i k ≡ R.zero) where
      lower_first : (m k : ℕ) → k < m → k < n → x k ≡ y k
      lower_first zero k lt inside = absurd (omega arith)
      lower_first (suc m) k lt inside = elim (cases_lt k m) [
        | inl less ↦ lower_first m k less inside
        | inr ge ↦ at_row k inside (λ j l ne. elim (cases_lt j k) [
          | inl before ↦ ap (R.mul (t k j)) (lower_first m j (omega arith) l)
          | inr after ↦
              let later : k < j = omega (arith, ne) in both_zero (t k j) (x j) (y j) (above k j later l)
        ])
      ]

      pub lower_unique : (k : ℕ) → k < n → x k ≡ y k
      lower_unique k lt = lower_first n k lt lt

    module _ (beneath : (i k : ℕ) → k < i → i < n → t i k ≡ R.zero) where
      upper_last : (m k : ℕ) → n ≤ k + m → k < n → x k ≡ y k
      upper_last zero k le inside = absurd (omega arith)
      upper_last (suc m) k le inside = at_row k inside (λ j l ne. elim (cases_lt j k) [
        | inl before ↦ both_zero (t k j) (x j) (y j) (beneath k j before inside)
        | inr after ↦
            let later : k < j = omega (arith, ne) in
            ap (R.mul (t k j)) (upper_last m j (omega arith) l)
      ])

      pub upper_unique : (k : ℕ) → k < n → x k ≡ y k
      upper_unique k lt = upper_last n k (omega arith) lt

  module _ (l : Plain R) (d : ℕ → R.Carrier) (lower : IsUnitLower R l)
      (units : (j : ℕ) → j < l.rows → IsUnit (d j)) where
    unit_at : (k : ℕ) → k < l.rows → IsUnit (l.value k k)
    unit_at k lt = (R.one, R.laws.mul_one (l.value k k) ∙ lower.unit k lt)

    on_diagonal : (k : ℕ) → k < l.cols → (plain_diagonal R l.cols d).value k k ≡ d k
    on_diagonal k lt =
        let hit : (nat_eq k k && nat_lt k l.cols) ≡ true = grind (arith, nat_tests) in
        ap (λ b. where_true R b (d k)) hit

    off_diagonal : (i k : ℕ) → i < k → (plain_diagonal R l.cols d).value i k ≡ R.zero
    off_diagonal i k lt =
        let miss : (nat_eq i k && nat_lt i l.cols) ≡ false = grind (arith, nat_tests) in
        ap (λ b. where_true R b (d i)) miss

    unit_diagonal : (k : ℕ) → k < l.cols → IsUnit ((plain_diagonal R l.cols d).value k k)
    unit_diagonal k lt =
        subst IsUnit (sym (on_diagonal k lt)) (units k (omega (arith, lower.square)))

    module _ (x y : Plain R) (c : ℕ) where
      -- x and y are equal if Lᵀ x and Lᵀ y are
      peel_transposed : ((k : ℕ) → k < l.rows
          → (plain_product R (plain_transpose R l) x).value k c
          ≡ (plain_product R (plain_transpose R l) y).value k c)
          → (k : ℕ) → k < l.rows → x.value k c ≡ y.value k c
      peel_transposed same = upper_unique l.rows (λ i k. l.value k i) (λ k. x.value k c)
          (λ k. y.value k c) same unit_at (λ i k lt inside. lower.upper k i lt inside)

      peel_diagonal : ((k : ℕ) → k < l.cols
          → (plain_product R (plain_diagonal R l.cols d) x).value k c
          ≡ (plain_product R (plain_diagonal R l.cols d) y).value k c)
          → (k : ℕ) → k < l.cols → x.value k c ≡ y.value k c
      peel_diagonal same = lower_unique l.cols (plain_diagonal R l.cols d).value
          (λ k. x.value k c) (λ k. y.value k c) same unit_diagonal
          (λ i k lt inside. off_diagonal i k lt)

      peel_lower : ((k : ℕ) → k < l.rows
          → (plain_product R l x).value k c ≡ (plain_product R l y).value k c)
          → (k : ℕ) → k < l.cols → x.value k c ≡ y.value k c
      peel_lower same = lower_unique l.cols l.value (λ k. x.value k c) (λ k. y.value k c)
          (λ i lt. same i (omega (arith, lower.square)))
          (λ k lt. unit_at k (omega (arith, lower.square)))
          (λ i k lt inside. lower.upper i k lt (omega (arith, lower.square)))

    module _ (assoc : (a b c : Plain R)
        → plain_product R (plain_product R a b) c ≡ plain_product R a (plain_product R b c)) where
      abbrev scaled : Plain R → Plain R
      scaled x = plain_product R (plain_diagonal R l.cols d) (plain_product R (plain_transpose R l) x)

      -- (L D Lᵀ) x is L (D (Lᵀ x))
      in_parts : (x : Plain R) → plain_product R (plain_ldl R l d) x ≡ plain_product R l (scaled x)
      in_parts x =
          assoc (plain_product R l (plain_diagonal R l.cols d)) (plain_transpose R l) x
          ∙ assoc l (plain_diagonal R l.cols d) (plain_product R (plain_transpose R l) x)

      module _ (s : Plain R) (cols : s.cols ≡ l.rows)
          (equation : HasSameValues R l.rows l.rows (plain_ldl R l d) s) (c : ℕ) where
        pub product-same : (x : Plain R) (i : ℕ) → i < l.rows
            → (plain_product R (plain_ldl R l d) x).value i c ≡ (plain_product R s x).value i c
        product-same x i lt =
            sum_below-same R l.rows (λ k. R.mul ((plain_ldl R l d).value i k) (x.value k c))
            (λ k. R.mul (s.value i k) (x.value k c))
            (λ k inside. ap (λ t. R.mul t (x.value k c)) (equation i k lt inside))
            ∙ ap (λ n. sum_below R n (λ k. R.mul (s.value i k) (x.value k c))) (sym cols)

        parts-same : (x : Plain R) (i : ℕ) → i < l.rows
            → (plain_product R l (scaled x)).value i c ≡ (plain_product R s x).value i c
        parts-same x i lt = ap (λ p. p.value i c) (sym (in_parts x)) ∙ product-same x i lt

        -- two solutions for one right side have the same values
        pub one_solution : (x y : Plain R)
            → ((i : ℕ) → i < l.rows
            → (plain_product R s x).value i c ≡ (plain_product R s y).value i c)
            → (k : ℕ) → k < l.rows → x.value k c ≡ y.value k c
        one_solution x y same =
            let lx = plain_product R (plain_transpose R l) x in
            let ly = plain_product R (plain_transpose R l) y in
            peel_transposed x y c (λ k lt. peel_diagonal lx ly c (peel_lower (scaled x) (scaled y) c
            (λ i inside. parts-same x i inside ∙ same i inside ∙ sym (parts-same y i inside)))
            k (omega (arith, lower.square)))

-- the solution that a factorisation finds is the only one
module _ (R : CommRing) {T : Type 0} (f : T → R.Carrier) (z : T) (a : Compressed T) (s : Factors T)
    (square : a.pattern.minor_dim ≡ a.pattern.major_dim)
    (rows : s.l.pattern.minor_dim ≡ a.pattern.minor_dim)
    (count : length s.d ≡ a.pattern.minor_dim) (lower : IsUnitLower R (plain_of_cols R f s.l))
    (pivots : HavePivots R f z s.d)
    (equation : HasSameValues R (length s.d) (length s.d) (plain_of_factors R f z s)
    (symmetric_of R f a))
    (assoc : (a b c : Plain R)
    → plain_product R (plain_product R a b) c ≡ plain_product R a (plain_product R b c)) where
  units_of : (j : ℕ) → j < s.l.pattern.minor_dim → IsUnit R (diagonal R f z s.d j)
  units_of j lt = let pivot = pivots j (omega (arith, rows, count)) in (f pivot.0, pivot.1)

  equation_of : HasSameValues R s.l.pattern.minor_dim s.l.pattern.minor_dim
      (plain_of_factors R f z s) (symmetric_of R f a)
  equation_of i j row col =
      equation i j (omega (arith, rows, count)) (omega (arith, rows, count))

  pub only_solution : (x b : Plain R) → IsSolution R (plain_of_factors R f z s) x b
      → IsOnlySolution R (symmetric_of R f a) x b
  only_solution x b solved =
      let l = plain_of_cols R f s.l in
      let d = diagonal R f z s.d in
      let cols : a.pattern.major_dim ≡ s.l.pattern.minor_dim = omega (arith, square, rows) in
      let solution : Solves R (symmetric_of R f a) x b =
      λ i j row col. sym (product-same R l d lower units_of assoc (symmetric_of R f a) cols
      equation_of j x i (omega (arith, row, rows))) ∙ ap (λ p. p.value i j) solved in
      record {
        solution = solution;
        only = λ y solves i j row col. one_solution R l d lower units_of assoc (symmetric_of R f a)
            cols equation_of j y x
            (λ k lt. solves k j (omega (arith, lt, rows)) col
            ∙ sym (solution k j (omega (arith, lt, rows)) col))
            i (omega (arith, row, cols));
      }
