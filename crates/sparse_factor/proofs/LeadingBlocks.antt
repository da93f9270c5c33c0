-- Factorisations of the first rows and columns of a symmetric matrix that is given by triplets.
-- - `started`, `one_less`, `none_left`: the list of the leading triplets, while it is built
-- - `block_factors`: the factors that `Ldl::factor` returns for the leading block are factors of the leading rows and
--   columns
-- - `block_unfactored`: if the leading block has no factors, the leading rows and columns have none
-- - `empty_factors`: no rows and columns have factors
-- - `stops`: if the first n rows and columns have factors, and the first n + 1 have none, then no more have any
-- - `stops_whole`, `started_between`, `upper_half`, `found_between`: the bisection, if all rows and columns have factors,
--   at first, where its upper half remains, and at its end
use Rattle.std.proofs.Common.{◌≡◌, ℕ, ◌+◌, ◌-◌, ◌<◌, ◌≤◌, inl, inr, Bool, true, false, ◌&&◌, min, max, List}
use Rattle.std.proofs.Common.{[], ◌∷◌, ◌++◌, length, ap, sym, subst, ◌∙◌, refl, append_assoc, arith}
use Rattle.std.specs.Prelude.{◌||◌}
use Rattle.std.specs.List.{flat_map}
use Rattle.std.proofs.lemmas.Bool.{cases_Bool, cases_lt}
use Rattle.std.proofs.lemmas.Bool.Decides.{nat_tests}
use Rattle.std.proofs.Math.Nat.{min-le_left, max-eq_left, max-eq_right}
use Rattle.sparse_algebra.specs.Algebra.{CommRing}
use Rattle.sparse_algebra.specs.Plain.{Plain, is_at}
use Rattle.sparse_algebra.specs.Sums.{sum_by, where_true}
use Rattle.sparse_algebra.proofs.SumLemmas.{sum_by-append, where_no}
use Rattle.sparse_coo_dense.specs.Coo.{Coo, appended, coo_of}
use Rattle.sparse_coo_dense.specs.CooPlain.{plain_of_coo}
use Rattle.sparse_compressed.specs.Compressed.{Compressed}
use Rattle.sparse_compressed.specs.PlainOfLanes.{plain_of_cols}
use Rattle.sparse_factor.specs.Factorisations.{plain_symmetric, IsUnitLower}
use Rattle.sparse_factor.specs.Factors.{diagonal, plain_of_factors, symmetric_of}
use Rattle.sparse_factor.specs.Factors.{Factors, HasNoFactors, HavePivots}
use Rattle.sparse_factor.proofs.PlainProducts.{columns_of, factorisation_of, symmetric-transposed}
use Rattle.sparse_dense_ops.specs.Solutions.{HasSameValues}
use Rattle.sparse_factor.specs.LeadingBlocks.{leading, HasFactorisation, StopsAt}
use Rattle.sparse_factor.specs.InnerLeadingBlocks.{is_leading, one_leading, IsBetween, IsLeadingWithout}

append-none : {X : Type 0} (xs : List X) → (xs ++ []) ≡ xs
append-none [] = refl
append-none (x ∷ xs) = ap (λ ys. x ∷ ys) (append-none xs)

module _ {T : Type 0} (n : ℕ) where
  -- at first all triplets are still to be appended to an empty list
  pub started : (all first : List (ℕ × ℕ × T)) (m : Coo T) → first ≡ all → m ≡ coo_of n n []
      → IsLeadingWithout n all first m
  started all first m same new = record {
    rows = ap (λ l. l.nrows) new;
    cols = ap (λ l. l.ncols) new;
    triplets = ap (λ l. l.triplets ++ flat_map (one_leading n) first) new
        ∙ ap (flat_map (one_leading n)) same;
  }

  -- a triplet was appended
  pub one_less : (all rest more : List (ℕ × ℕ × T)) (t : ℕ × ℕ × T) (m next : Coo T)
      → rest ≡ t ∷ more → next ≡ appended m (one_leading m.nrows t)
      → IsLeadingWithout n all rest m → IsLeadingWithout n all more next
  one_less all rest more t m next first added kept = record {
    rows = ap (λ l. l.nrows) added ∙ kept.rows;
    cols = ap (λ l. l.ncols) added ∙ kept.cols;
    triplets =
        let one = one_leading n in
        ap (λ l. l.triplets ++ flat_map one more) added
        ∙ ap (λ k. (m.triplets ++ one_leading k t) ++ flat_map one more) kept.rows
        ∙ append_assoc m.triplets (one t) (flat_map one more)
        ∙ ap (λ ts. m.triplets ++ flat_map one ts) (sym first) ∙ kept.triplets;
  }

  -- all triplets were appended
  pub none_left : (all rest : List (ℕ × ℕ × T)) (m : Coo T) → rest ≡ []
      → IsLeadingWithout n all rest m → m ≡ coo_of n n (flat_map (one_leading n) all)
  none_left all rest m empty kept =
      ap (λ k. coo_of k m.ncols m.triplets) kept.rows
      ∙ ap (λ k. coo_of n k m.triplets) kept.cols
      ∙ ap (coo_of n n) (sym (append-none m.triplets)
      ∙ ap (λ ts. m.triplets ++ flat_map (one_leading n) ts) (sym empty) ∙ kept.triplets)

not_true : (b : Bool) → (b ≡ true → ⊥) → b ≡ false
not_true true never = absurd (never refl)
not_true false never = refl

none_below : {X : Type 0} (n : ℕ) → n < 0 → X
none_below n lt = let never : ⊥ = omega (arith, lt) in absurd never

-- a pair within the first n rows and columns has the same value in the list of the leading triplets
module _ (R : CommRing) {T : Type 0} (f : T → R.Carrier) (n i j : ℕ) (row : i < n) (col : j < n) where
  abbrev at_pair : ℕ × ℕ × T → R.Carrier
  at_pair t = where_true R (is_at i j t) (f t.2)

  missed : (t : ℕ × ℕ × T) → is_leading n t ≡ false → is_at i j t ≡ false
  missed t outside = not_true (is_at i j t) (λ there. grind (arith, nat_tests, row, col, outside, there))

  one-value : (t : ℕ × ℕ × T) → sum_by R at_pair (one_leading n t) ≡ at_pair t
  one-value t = elim (cases_Bool (is_leading n t)) [
    | inl inside ↦ rw inside (R.laws.add_zero (at_pair t))
    | inr outside ↦ rw outside (sym (where_no R (is_at i j t) (f t.2) (missed t outside)))
  ]

  leading-value : (ts : List (ℕ × ℕ × T))
      → sum_by R at_pair (flat_map (one_leading n) ts) ≡ sum_by R at_pair ts
  leading-value [] = refl
  leading-value (t ∷ ts) =
      let rest = flat_map (one_leading n) ts in
      sum_by-append R at_pair (one_leading n t) rest
      ∙ ap (λ x. R.add x (sum_by R at_pair rest)) (one-value t)
      ∙ ap (R.add (at_pair t)) (leading-value ts)

max_below : (n i j : ℕ) → i < n → j < n → max i j < n
max_below n i j row col = elim (cases_lt i j) [
  | inl lt ↦ subst (λ k. k < n) (sym (max-eq_right (omega (arith, lt)))) col
  | inr le ↦ subst (λ k. k < n) (sym (max-eq_left le)) row
]

module _ (R : CommRing) {T : Type 0} (f : T → R.Carrier) where
  -- factors of p are factors of the first n rows and columns of q, if both have the same values there
  leading_factors : (p q : Plain R) (n : ℕ) → p.rows ≡ n → HasSameValues R n n p q
      → HasFactorisation R f p → HasFactorisation R f (leading R n q)
  leading_factors p q n size same given = (
    given.0,
    given.1,
    record {
      rows = given.2.rows ∙ size;
      lower = given.2.lower;
      pivots = λ j lt. given.2.pivots j (subst (λ k. j < k) (sym size) lt);
      equation = λ i j row col. given.2.equation i j (subst (λ k. i < k) (sym size) row)
          (subst (λ k. j < k) (sym size) col) ∙ same i j row col;
    },
  )

  factors_of_leading : (p q : Plain R) (n : ℕ) → p.rows ≡ n → HasSameValues R n n p q
      → HasFactorisation R f (leading R n q) → HasFactorisation R f p
  factors_of_leading p q n size same given = (
    given.0,
    given.1,
    record {
      rows = given.2.rows ∙ sym size;
      lower = given.2.lower;
      pivots = λ j lt. given.2.pivots j (subst (λ k. j < k) size lt);
      equation = λ i j row col.
          let r = subst (λ k. i < k) size row in
          let c = subst (λ k. j < k) size col in
          given.2.equation i j r c ∙ sym (same i j r c);
    },
  )

  pub empty_factors : (q : Plain R) → HasFactorisation R f (leading R 0 q)
  empty_factors q = (
    leading R 0 q,
    λ j. R.zero,
    record {
      rows = refl;
      lower = record {
        square = refl;
        unit = λ j lt. none_below j lt;
        upper = λ i j lt below. none_below j below;
      };
      pivots = λ j lt. none_below j lt;
      equation = λ i j row col. none_below i row;
    },
  )

  -- factors of the first m rows and columns have factors of fewer of them at their beginning
  fewer_factors : (a : Plain R) (m k : ℕ) → k ≤ m
      → HasFactorisation R f (leading R m (plain_symmetric R a))
      → HasFactorisation R f (leading R k (plain_symmetric R a))
  fewer_factors a m k few given =
      let s = plain_symmetric R a in
      let l = leading R k given.0 in
      let p = columns_of R f (leading R m s) given.0 given.1 given.2 in (
        l,
        given.1,
        factorisation_of R f (leading R k s) l given.1 refl refl (symmetric-transposed R a) (record {
          unit = λ c lt. p.unit c (omega (arith, lt, few));
          upper = λ i c lt less. p.upper i c (omega (arith, lt, few)) less;
          pivots = λ c lt. p.pivots c (omega (arith, lt, few));
          columns = λ i c lt le row. p.columns i c (omega (arith, lt, few)) le
              (omega (arith, row, few));
        }),
      )

  pub stops : (a : Plain R) (n : ℕ) → n ≤ a.rows
      → HasFactorisation R f (leading R n (plain_symmetric R a))
      → (n < a.rows → HasFactorisation R f (leading R (n + 1) (plain_symmetric R a)) → ⊥)
      → StopsAt R f (plain_symmetric R a) n
  stops a n within factors none = record {
    within = within;
    before = λ k few. fewer_factors a n k few factors;
    after = λ k more rows given. none (omega (arith, more, rows))
        (fewer_factors a k (n + 1) (omega (arith, more)) given);
  }

  pub stops_whole : (a : Plain R) (n : ℕ) → n ≡ a.rows
      → HasFactorisation R f (leading R n (plain_symmetric R a)) → StopsAt R f (plain_symmetric R a) n
  stops_whole a n is factors = stops a n (omega (arith, is)) factors
      (λ more given. omega (arith, is, more))

  pub started_between : (a : Plain R) (n : ℕ) → n ≡ a.rows
      → (HasFactorisation R f (leading R n (plain_symmetric R a)) → ⊥)
      → IsBetween R f (plain_symmetric R a) 0 n
  started_between a n is none = record {
    order = omega arith;
    within = omega (arith, is);
    factors = empty_factors (plain_symmetric R a);
    none = none;
  }

  pub upper_half : (a : Plain R) (low high middle : ℕ)
      → IsBetween R f (plain_symmetric R a) low high → middle ≤ high
      → HasFactorisation R f (leading R middle (plain_symmetric R a))
      → IsBetween R f (plain_symmetric R a) middle high
  upper_half a low high middle between order factors = record {
    order = order;
    within = between.within;
    factors = factors;
    none = between.none;
  }

  -- the range has at most one number above `low`
  pub found_between : (a : Plain R) (low high : ℕ) → IsBetween R f (plain_symmetric R a) low high
      → high - low ≤ 1 → StopsAt R f (plain_symmetric R a) low
  found_between a low high between few =
      stops a low (omega (arith, between.order, between.within)) between.factors (λ more given.
      elim (cases_lt low high) [
        | inl lt ↦
            let next : low + 1 ≡ high = omega (arith, lt, few) in
            between.none (subst (λ n. HasFactorisation R f (leading R n (plain_symmetric R a))) next given)
        | inr le ↦
            let same : low ≡ high = omega (arith, le, between.order) in
            between.none (subst (λ n. HasFactorisation R f (leading R n (plain_symmetric R a))) same
            between.factors)
      ])

  -- the block m, whose triplets are the leading ones of a
  module _ (n : ℕ) (a list : Coo T) (m : Compressed T)
      (is : list ≡ coo_of n n (flat_map (one_leading n) a.triplets))
      (plain : plain_of_cols R f m ≡ plain_of_coo R f list) where
    pub block_rows : m.pattern.minor_dim ≡ n
    block_rows = ap (λ (p : Plain R). p.rows) plain ∙ ap (λ l. l.nrows) is

    pub block_cols : m.pattern.major_dim ≡ n
    block_cols = ap (λ (p : Plain R). p.cols) plain ∙ ap (λ l. l.ncols) is

    same_values : HasSameValues R n n (symmetric_of R f m) (plain_symmetric R (plain_of_coo R f a))
    same_values i j row col =
        ap (λ (p : Plain R). p.value (min i j) (max i j)) plain
        ∙ ap (λ (l : Coo T). (plain_of_coo R f l).value (min i j) (max i j)) is
        ∙ leading-value R f n (min i j) (max i j) (omega (arith, min-le_left i j, row))
        (max_below n i j row col) a.triplets

    pub block_factors : (z : T) (s : Factors T) → s.l.pattern.minor_dim ≡ m.pattern.minor_dim
        → length s.d ≡ m.pattern.minor_dim → IsUnitLower R (plain_of_cols R f s.l)
        → HavePivots R f z s.d
        → HasSameValues R (length s.d) (length s.d) (plain_of_factors R f z s) (symmetric_of R f m)
        → HasFactorisation R f (leading R n (plain_symmetric R (plain_of_coo R f a)))
    block_factors z s rows count lower pivots equation =
        leading_factors (symmetric_of R f m) (plain_symmetric R (plain_of_coo R f a)) n block_rows
        same_values (
          plain_of_cols R f s.l,
          diagonal R f z s.d,
          record {
            rows = rows;
            lower = lower;
            pivots = λ j lt. pivots j (subst (λ k. j < k) (sym count) lt);
            equation = subst (λ k. HasSameValues R k k (plain_of_factors R f z s) (symmetric_of R f m))
                count equation;
          },
        )

    pub block_unfactored : HasNoFactors R f m
        → HasFactorisation R f (leading R n (plain_symmetric R (plain_of_coo R f a))) → ⊥
    block_unfactored none given =
        let found = factors_of_leading (symmetric_of R f m)
        (plain_symmetric R (plain_of_coo R f a)) n block_rows same_values given in
        none found.0 found.1 found.2
