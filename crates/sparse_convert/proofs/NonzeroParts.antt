-- The values of a dense matrix that are not zero, as a plain matrix.
use Rattle.std.proofs.Common.{◌≡◌, ◌≢◌, ℕ, zero, suc, ◌+◌, ◌*◌, ◌<◌, ◌≤◌, inl, inr, ◌↔◌, Bool, true}
use Rattle.std.proofs.Common.{false, not, ◌&&◌, ◌||◌, nat_eq, nat_lt, List, [], ◌∷◌, map}
use Rattle.std.proofs.Common.{refl, ap, sym, subst, ◌∙◌, arith}
use Rattle.std.specs.List.{filter, list_any}
use Rattle.std.proofs.Math.ListN.{get_or-map}
use Rattle.std.proofs.lemmas.Bool.Decides.{Decides-eqb, Decides-ltb, nat_tests}
use Rattle.std.proofs.lemmas.List.Folds.{list_any-append}
use Rattle.sparse_algebra.proofs.Cases.{and_both, and_parts, nat_eq_no, or_false, three}
use Rattle.sparse_algebra.specs.Algebra.{CommRing}
use Rattle.sparse_algebra.specs.Sums.{sum_by, where_true}
use Rattle.sparse_algebra.specs.Plain.{Plain, any_below, below, is_at, plain_of_triplets}
use Rattle.sparse_algebra.specs.Plain.{plain_transpose}
use Rattle.sparse_coo_dense.specs.Dense.{Dense, value_at}
use Rattle.sparse_coo_dense.specs.DensePlain.{plain_of_dense}
use Rattle.sparse_algebra.proofs.RingLemmas.{zero_add}
use Rattle.sparse_algebra.proofs.SumLemmas.{sum_by-append, sum_by-same}
use Rattle.sparse_algebra.proofs.PlainLemmas.{any_is, any_below-same, and_comm}
use Rattle.sparse_compressed.specs.Compressed.{transposed}
use Rattle.sparse_compressed.proofs.KeptPlain.{transposed_twice}
use Rattle.sparse_convert.specs.FromDense.{full_lanes, row_triplets, column_triplets, differs_from}
use Rattle.sparse_convert.specs.FromDense.{IsNonzeroPart}
use Rattle.sparse_convert.proofs.Folds.{any-filter, any-flat_map, any-map, sum_by-filter}
use Rattle.sparse_convert.proofs.Folds.{sum_by-flat_map, sum_by-map, sum_where, where_and}
use Rattle.sparse_convert.proofs.MatrixLists.{plain_of_transposed_list}
use Rattle.sparse_convert.proofs.DenseLanes.{column_lanes, kept_columns}

-- ---- tests of numbers

any-below : (n : ℕ) (test : ℕ → Bool) → list_any test (below n) ≡ any_below n test
any-below zero test = refl
any-below (suc n) test = list_any-append test (below n) (n ∷ [])
    ∙ ap (λ b. b || (test n || false)) (any-below n test)
    ∙ ap (λ b. any_below n test || b) (or_false (test n))

lt_yes : (k n : ℕ) → k < n → nat_lt k n ≡ true
lt_yes k n lt = (Decides-ltb k n).1 lt

lt_no : (k n : ℕ) → n ≤ k → nat_lt k n ≡ false
lt_no k n le = grind (arith, nat_tests)

eq_yes : (k n : ℕ) → k ≡ n → nat_eq k n ≡ true
eq_yes k n e = (Decides-eqb k n).1 e

-- ---- sums over lists

module _ (R : CommRing) where
  nothing : (b : Bool) (x : R.Carrier) → x ≡ R.zero → where_true R b x ≡ R.zero
  nothing true x e = e
  nothing false x e = refl

  -- a sum over the numbers below n of which only k counts is the value at k
  pick : (n k : ℕ) (h : ℕ → R.Carrier)
      → sum_by R (λ l. where_true R (nat_eq l k) (h l)) (below n) ≡ where_true R (nat_lt k n) (h k)
  pick zero k h = sym (ap (λ b. where_true R b (h k)) (lt_no k zero (omega arith)))
  pick (suc n) k h =
      sum_by-append R (λ l. where_true R (nat_eq l k) (h l)) (below n) (n ∷ [])
      ∙ ap (λ c. R.add c (R.add (where_true R (nat_eq n k) (h n)) R.zero)) (pick n k h)
      ∙ ap (R.add (where_true R (nat_lt k n) (h k)))
      (R.laws.add_zero (where_true R (nat_eq n k) (h n)))
      ∙ elim (three k n) as (λ _. R.add (where_true R (nat_lt k n) (h k))
      (where_true R (nat_eq n k) (h n)) ≡ where_true R (nat_lt k (suc n)) (h k)) [
        | inl lt ↦ rw (
          lt_yes k n lt,
          nat_eq_no n k (λ e. omega arith),
          lt_yes k (suc n) (omega arith),
        ) (R.laws.add_zero (h k))
        | inr (inl gt) ↦ rw (
          lt_no k n (omega arith),
          nat_eq_no n k (λ e. omega arith),
          lt_no k (suc n) (omega arith),
        ) (R.laws.add_zero R.zero)
        | inr (inr same) ↦ rw (
          lt_no k n (omega arith),
          eq_yes n k (sym same),
          lt_yes k (suc n) (omega arith),
        ) (zero_add R (h n) ∙ ap h (sym same))
      ]

  module _ {T : Type 0} (f : T → R.Carrier) where
    -- the sum at (i, j) over all triplets is the value there
    full_sum : (n m : ℕ) (value : ℕ → ℕ → T) (i j : ℕ)
        → sum_by R (λ t. where_true R (is_at i j t) (f t.2)) (full_lanes n m value) ≡ where_true R
        (nat_lt i n && nat_lt j m) (f (value i j))
    full_sum n m value i j =
        let g : ℕ × ℕ × T → R.Carrier = λ t. where_true R (is_at i j t) (f t.2) in
        let lane : ℕ → List (ℕ × ℕ × T) = λ a. map {B = ℕ × ℕ × T} (λ k. (a, k, value a k))
        (below m) in
        let at : (a : ℕ) → sum_by R g (lane a) ≡ where_true R (nat_eq a i)
        (where_true R (nat_lt j m) (f (value a j))) = λ a.
        sum_by-map R g (λ k. (a, k, value a k)) (below m)
        ∙ sum_by-same R _ (λ k. where_true R (nat_eq a i)
        (where_true R (nat_eq k j) (f (value a k))))
        (λ k. where_and R (nat_eq a i) (nat_eq k j) (f (value a k))) (below m)
        ∙ sum_where R (nat_eq a i) (λ k. where_true R (nat_eq k j) (f (value a k))) (below m)
        ∙ ap (where_true R (nat_eq a i)) (pick m j (λ k. f (value a k))) in
        sum_by-flat_map R g lane (below n)
        ∙ sum_by-same R _ _ at (below n)
        ∙ pick n i (λ a. where_true R (nat_lt j m) (f (value a j)))
        ∙ sym (where_and R (nat_lt i n) (nat_lt j m) (f (value i j)))

    module _ (E : T → T → Bool) (z : T) (zero_is : f z ≡ R.zero)
        (decides : (x y : T) → (E x y ≡ true) ↔ (f x ≡ f y)) where
      -- a value that is not stored is zero, so it adds nothing
      sum_differs : (i j : ℕ) (ts : List (ℕ × ℕ × T))
          → sum_by R (λ t. where_true R (is_at i j t) (f t.2)) (filter (differs_from E z) ts)
          ≡ sum_by R (λ t. where_true R (is_at i j t) (f t.2)) ts
      sum_differs i j ts =
          sum_by-filter R (λ t. where_true R (is_at i j t) (f t.2)) (differs_from E z) ts
          ∙ sum_by-same R _ _ (λ t. dropped (E t.2 z) (is_at i j t) (f t.2)
          (λ e. (decides t.2 z).0 e ∙ zero_is)) ts
        where
          dropped : (c b : Bool) (x : R.Carrier) → (c ≡ true → x ≡ R.zero)
              → where_true R (not c) (where_true R b x) ≡ where_true R b x
          dropped true b x none = sym (nothing b x (none refl))
          dropped false b x none = refl

      -- a pair is kept exactly if it is within the shape and its value is not zero
      module _ (n m : ℕ) (value : ℕ → ℕ → T) (i j : ℕ) where
        any_full : list_any (is_at i j) (filter (differs_from E z) (full_lanes n m value))
            ≡ any_below n
            (λ a. any_below m (λ k. not (E (value a k) z) && (nat_eq a i && nat_eq k j)))
        any_full =
            let test : ℕ × ℕ × T → Bool = λ t. differs_from E z t && is_at i j t in
            any-filter (is_at i j) (differs_from E z) (full_lanes n m value)
            ∙ any-flat_map test (λ a. map {B = ℕ × ℕ × T} (λ k. (a, k, value a k)) (below m))
            (below n)
            ∙ any-below n _
            ∙ any_below-same n _ _ (λ a. any-map test (λ k. (a, k, value a k)) (below m)
            ∙ any-below m _)

        has_forth : list_any (is_at i j) (filter (differs_from E z) (full_lanes n m value)) ≡ true
            → (i < n) × (j < m) × (not (E (value i j) z) ≡ true)
        has_forth h =
            let outer = (any_is n
            (λ a. any_below m (λ k. not (E (value a k) z) && (nat_eq a i && nat_eq k j)))).0
            (sym any_full ∙ h) in
            let inner = (any_is m (λ k. not (E (value outer.0 k) z)
            && (nat_eq outer.0 i && nat_eq k j))).0 outer.2 in
            let both = and_parts _ _ inner.2 in
            let at = and_parts _ _ both.1 in
            let row : outer.0 ≡ i = (Decides-eqb outer.0 i).0 at.0 in
            let col : inner.0 ≡ j = (Decides-eqb inner.0 j).0 at.1 in (
              subst (λ a. a < n) row outer.1,
              subst (λ k. k < m) col inner.1,
              subst (λ a. not (E (value a j) z) ≡ true) row
                  (subst (λ k. not (E (value outer.0 k) z) ≡ true) col both.0),
            )

        has_back : (i < n) × (j < m) × (not (E (value i j) z) ≡ true)
            → list_any (is_at i j) (filter (differs_from E z) (full_lanes n m value)) ≡ true
        has_back h =
            let here = and_both _ _ h.2 (and_both _ _ (eq_yes i i refl) (eq_yes j j refl)) in
            any_full ∙ (any_is n _).1 (i, h.0, (any_is m _).1 (j, h.1, here))

      -- the kept triplets are the nonzero part of a plain matrix whose places are all pairs within
      -- its shape
      full_part : (n m : ℕ) (value : ℕ → ℕ → T) (a : Plain R) → n ≡ a.rows → m ≡ a.cols
          → ((i j : ℕ) → a.has i j ≡ (nat_lt i n && nat_lt j m))
          → ((i j : ℕ) → a.value i j ≡ where_true R (nat_lt i n && nat_lt j m) (f (value i j)))
          → IsNonzeroPart a (plain_of_triplets R f n m
          (filter (differs_from E z) (full_lanes n m value)))
      full_part n m value a rows cols places values = record {
        rows = rows;
        cols = cols;
        has = λ i j. (
          λ h.
              let r = has_forth n m value i j h in
              let inside : (nat_lt i n && nat_lt j m) ≡ true =
              and_both _ _ (lt_yes i n r.0) (lt_yes j m r.1) in (
                places i j ∙ inside,
                λ none. refused (E (value i j) z) r.2
                    ((decides (value i j) z).1
                    (sym (values i j ∙ ap (λ b. where_true R b (f (value i j))) inside) ∙ none
                    ∙ sym zero_is)),
              ),
          λ h.
              let inside = sym (places i j) ∙ h.0 in
              let parts = and_parts (nat_lt i n) (nat_lt j m) inside in
              has_back n m value i j (
                (Decides-ltb i n).0 parts.0,
                (Decides-ltb j m).0 parts.1,
                differs (E (value i j) z)
                    (λ e. h.1 (values i j ∙ nothing _ _ ((decides (value i j) z).0 e ∙ zero_is))),
              ),
        );
        value = λ i j. sum_differs i j (full_lanes n m value) ∙ full_sum n m value i j
            ∙ sym (values i j);
      }
        where
          refused : (b : Bool) → not b ≡ true → b ≡ true → ⊥
          refused true h e = cc
          refused false h e = cc

          differs : (b : Bool) → b ≢ true → not b ≡ true
          differs true h = absurd (h refl)
          differs false h = refl

      dense_value : (d : Dense T) (i j : ℕ)
          → (plain_of_dense R f d).value i j ≡ where_true R (nat_lt i d.nrows && nat_lt j d.ncols)
          (f (value_at d i j z))
      dense_value d i j = ap (where_true R (nat_lt i d.nrows && nat_lt j d.ncols))
          (ap (value_of) (sym zero_is) ∙ get_or-map f d.values (j * d.nrows + i) z)
        where
          value_of : R.Carrier → R.Carrier
          value_of x =
              value_at (record { nrows = d.nrows; ncols = d.ncols; values = map f d.values }) i j x

      -- row by row
      pub rows_part : (d : Dense T) (n m : ℕ) (ts : List (ℕ × ℕ × T)) → n ≡ d.nrows → m ≡ d.ncols
          → ts ≡ filter (differs_from E z) (row_triplets z d)
          → IsNonzeroPart (plain_of_dense R f d) (plain_of_triplets R f n m ts)
      rows_part d n m ts rows cols is = rw (rows, cols, is)
          (full_part d.nrows d.ncols (λ i j. value_at d i j z) (plain_of_dense R f d) refl refl
          (λ i j. refl) (dense_value d))

      -- column by column
      columns_part : (d : Dense T)
          → IsNonzeroPart (plain_of_dense R f d) (plain_transpose R
          (plain_of_triplets R f d.ncols d.nrows (filter (differs_from E z)
          (column_lanes z d))))
      columns_part d =
          let h = full_part d.ncols d.nrows (λ j i. value_at d i j z)
          (plain_transpose R (plain_of_dense R f d)) refl refl
          (λ j i. and_comm (nat_lt i d.nrows) (nat_lt j d.ncols))
          (λ j i. dense_value d i j ∙ ap (λ b. where_true R b (f (value_at d i j z)))
          (and_comm (nat_lt i d.nrows) (nat_lt j d.ncols))) in
          record {
            rows = h.cols;
            cols = h.rows;
            has = λ i j. h.has j i;
            value =
                λ i j. h.value j i;
          }

      pub triplets_part : (d : Dense T)
          → IsNonzeroPart (plain_of_dense R f d) (plain_of_triplets R f d.nrows d.ncols
          (filter (differs_from E z) (column_triplets z d)))
      triplets_part d =
          let kept = filter (differs_from E z) (column_lanes z d) in
          subst (IsNonzeroPart (plain_of_dense R f d))
          (sym (ap (plain_of_triplets R f d.nrows d.ncols) (kept_columns E z d)
          ∙ plain_of_transposed_list R f d.ncols d.nrows kept))
          (columns_part d)

      pub cols_part : (d : Dense T) (n m : ℕ) (ts : List (ℕ × ℕ × T)) → n ≡ d.nrows → m ≡ d.ncols
          → map transposed ts ≡ filter (differs_from E z) (column_triplets z d)
          → IsNonzeroPart (plain_of_dense R f d) (plain_transpose R (plain_of_triplets R f m n ts))
      cols_part d n m ts rows cols is =
          let same : ts ≡ filter (differs_from E z) (column_lanes z d) = sym (transposed_twice ts)
          ∙ ap (map transposed) (is ∙ kept_columns E z d)
          ∙ transposed_twice (filter (differs_from E z) (column_lanes z d)) in
          rw (rows, cols, same) (columns_part d)
