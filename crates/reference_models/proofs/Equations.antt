-- The equations of a factorisation, solved column by column.
use Rattle.std.proofs.Common.{◌≡◌, ℕ, suc, ◌+◌, ◌*◌, ◌<◌, List, length, set}
use Rattle.std.proofs.Common.{get_or-set_same, get_or-set_other, length-set, ap, sym, subst, ◌∙◌}
use Rattle.std.proofs.Common.{arith}
use Rattle.std.proofs.lemmas.List.{get_or_default}
use Rattle.std.proofs.lemmas.Nat.{mul-add-lt}
use Rattle.sparse_algebra.specs.Algebra.{CommRing}
use Rattle.sparse_algebra.specs.Sums.{sum_below}
use Rattle.sparse_algebra.proofs.SumLemmas.{sum_below-same}
use Rattle.sparse_coo_dense.specs.Dense.{Dense, HasValues, value_at, with_value_at}
use Rattle.sparse_coo_dense.specs.DensePlain.{plain_of_dense}
use Rattle.sparse_coo_dense.proofs.DenseLemmas.{set_values}
use Rattle.sparse_algebra.specs.Inverses.{HasInverse}
use Rattle.sparse_dense_ops.specs.SparseVectors.{elements}
use Rattle.sparse_dense_ops.proofs.RingSteps.{back, moved_over}
use Rattle.sparse_dense_ops.proofs.PlainSolutions.{dense_inside}
use Rattle.sparse_factor.specs.Factors.{diagonal}
use Rattle.sparse_factor.specs.InnerFactors.{ArePartFactors, term}
use Rattle.sparse_factor.proofs.Columns.{no_factorisation}
use Rattle.sparse_factor.proofs.NextColumn.{part_step}
use Rattle.sparse_factor.proofs.PlainProducts.{columns_of, factorisation_of, symmetric-transposed}
use Rattle.sparse_factor.proofs.RingFacts.{cancel_left}
use Rattle.reference_models.specs.DenseFactors.{AreDenseFactorsOf, HasNoDenseFactors, dense_symmetric}
use Rattle.reference_models.specs.InnerEquations.{AreFirstFactors, HasNoColumns, HaveOneSize}
use Rattle.reference_models.specs.InnerEquations.{IsColumnDivided, left_at, left_of}
use Rattle.reference_models.proofs.DenseWrites.{unwritten, written, zeros}

module _ (R : CommRing) where
  -- the remainder plus the sum of the columns before is the entry
  left_of-sum : (m l : ℕ → ℕ → R.Carrier) (d : ℕ → R.Carrier) (j i : ℕ)
      → R.add (sum_below R j (term R l d i j)) (left_of R m l d j i) ≡ m i j
  left_of-sum m l d j i = R.laws.add_comm _ _ ∙ back R (m i j) (sum_below R j (term R l d i j))

  -- one more term is subtracted
  pub term_off : (m : R.Carrier) (g : ℕ → R.Carrier) (k : ℕ) (x y : R.Carrier)
      → R.add (sum_below R k g) x ≡ m → y ≡ R.add x (R.neg (g k))
      → R.add (sum_below R (k + 1) g) y ≡ m
  term_off m g k x y h e =
      let next : k + 1 ≡ suc k = omega arith in
      ap (λ n. R.add (sum_below R n g) y) next
      ∙ ap (R.add (R.add (sum_below R k g) (g k))) e
      ∙ moved_over R (sum_below R k g) (g k) x ∙ h

  pub is_left_of : (m l : ℕ → ℕ → R.Carrier) (d : ℕ → R.Carrier) (j i : ℕ) (w : R.Carrier)
      → R.add (sum_below R j (term R l d i j)) w ≡ m i j → w ≡ left_of R m l d j i
  is_left_of m l d j i w h = cancel_left R w (left_of R m l d j i)
      (sum_below R j (term R l d i j)) (h ∙ sym (left_of-sum m l d j i))

  -- the remainder depends on these columns alone
  pub left_of-same : (m l l' : ℕ → ℕ → R.Carrier) (d : ℕ → R.Carrier) (j i : ℕ)
      → ((k c : ℕ) → c < j → l k c ≡ l' k c) → left_of R m l d j i ≡ left_of R m l' d j i
  left_of-same m l l' d j i same = ap (λ s. R.add (m i j) (R.neg s))
      (sum_below-same R j (term R l d i j) (term R l' d i j) (λ k lt.
      ap (λ x. R.mul (R.mul x (d k)) (l j k)) (same i k lt)
      ∙ ap (R.mul (R.mul (l' i k) (d k))) (same j k lt)))

module _ (R : CommRing) {T : Type 0} (f : T → R.Carrier) (z : T) (none : f z ≡ R.zero) where
  -- an entry that is read
  pub read : (d : Dense T) (i j : ℕ) (v : T) → length d.values ≡ d.nrows * d.ncols
      → i < d.nrows → j < d.ncols → v ≡ value_at d i j v
      → f v ≡ (plain_of_dense R f d).value i j
  read d i j v full row col is =
      let within : j * d.nrows + i < length d.values =
      rw full (mul-add-lt j d.nrows i d.ncols col row) in
      ap f (is ∙ get_or_default d.values (j * d.nrows + i) v z within)
      ∙ sym (dense_inside R f z none d i j row col)

  -- an entry of column j is written below the diagonal
  module _ (a first x : Dense T) (d : List T) (j i : ℕ) (v : T)
      (size : HaveOneSize a first d) (lt : j < i) (within : i < a.nrows)
      (rows : x.nrows ≡ first.nrows) (cols : x.ncols ≡ first.ncols)
      (full : length x.values ≡ x.nrows * x.ncols) where
    inside : (i < x.nrows) × (j < x.ncols)
    inside = (omega (arith, within, rows, size.rows), omega (arith, lt, within, cols, size.cols))

    pub entry_written : (plain_of_dense R f (with_value_at x i j v)).value i j ≡ f v
    entry_written = written R f z none x i j v full inside.0 inside.1

    pub entry_unwritten : (k c : ℕ) → (k ≡ i → c ≡ j → ⊥)
        → (plain_of_dense R f (with_value_at x i j v)).value k c ≡ (plain_of_dense R f x).value k c
    entry_unwritten k c ne = unwritten R f z none x i j k c v inside.0 ne

  module _ (a l : Dense T) (d : List T) (j : ℕ) (lt : j < a.nrows) (p : T)
      (first : AreFirstFactors R f z a l d j) (pivot : f p ≡ left_at R f z a l d j j) where
    -- a pivot without an inverse
    pub no_columns : (HasInverse R f (f p) → ⊥) → HasNoColumns R f a
    no_columns singular c e whole =
        no_factorisation R f a.nrows j (dense_symmetric R f a).value (plain_of_dense R f l).value c
        (elements R f z d) e (f p) lt first.part
        (ap (R.add (sum_below R j (term R (plain_of_dense R f l).value (elements R f z d) j j)))
        pivot ∙ left_of-sum R (dense_symmetric R f a).value (plain_of_dense R f l).value
        (elements R f z d) j j) singular whole

    -- a pivot with an inverse
    module _ (e one : T) (next : Dense T) (inverse : R.mul (f p) (f e) ≡ R.one)
        (unit : f one ≡ R.one) (divided : IsColumnDivided R f z a d j (f e) l next) where
      row : j < next.nrows
      row = omega (arith, lt, divided.rows, first.size.rows)

      col : j < next.ncols
      col = omega (arith, lt, divided.cols, first.size.cols)

      off : (k c : ℕ) → (k ≡ j → c ≡ j → ⊥)
          → (plain_of_dense R f (with_value_at next j j one)).value k c
          ≡ (plain_of_dense R f next).value k c
      off k c ne = unwritten R f z none next j j k c one row ne

      pivot_in : j < length d
      pivot_in = omega (arith, lt, first.size.pivots)

      next_part : ArePartFactors R f a.nrows (suc j) (dense_symmetric R f a).value
          (plain_of_dense R f (with_value_at next j j one)).value (elements R f z (set d j p))
      next_part =
          part_step R f a.nrows j (dense_symmetric R f a).value (plain_of_dense R f l).value
          (plain_of_dense R f (with_value_at next j j one)).value (elements R f z d)
          (elements R f z (set d j p)) (left_at R f z a l d j) e lt first.part
          (λ i _ _. left_of-sum R (dense_symmetric R f a).value (plain_of_dense R f l).value
          (elements R f z d) j i)
          (ap (λ x. R.mul x (f e)) (sym pivot) ∙ inverse)
          (λ i c ne. off i c (λ _ same. ne same)
          ∙ divided.kept i c (λ same _. ne same))
          (λ c ne. ap f (get_or-set_other d j c p z ne))
          (ap f (get_or-set_same d j p z pivot_in) ∙ pivot)
          (written R f z none next j j one divided.full row col ∙ unit)
          (λ i less. off i j (λ same _. absurd (omega (arith, same, less)))
          ∙ divided.kept i j (λ _ more. absurd (omega arith)) ∙ first.above i j less)
          (λ i more within. off i j (λ same _. absurd (omega (arith, same, more)))
          ∙ divided.divided i more within)

      pub next_factors : AreFirstFactors R f z a (with_value_at next j j one) (set d j p) (j + 1)
      next_factors =
          let set_one = set_values next j j one divided.full row col in
          record {
            size = record {
              square = first.size.square;
              rows = divided.rows ∙ first.size.rows;
              cols = divided.cols ∙ first.size.cols;
              pivots = length-set d j p ∙ first.size.pivots;
              full = set_one.count;
            };
            part = let is : suc j ≡ j + 1 = omega arith in
                subst (λ n. ArePartFactors R f a.nrows n (dense_symmetric R f a).value
                (plain_of_dense R f (with_value_at next j j one)).value
                (elements R f z (set d j p))) is next_part;
            above = λ i c less. off i c (λ a b. absurd (omega (arith, a, b, less)))
                ∙ divided.kept i c (λ is more. absurd (omega (arith, is, more, less)))
                ∙ first.above i c less;
          }

  -- before the first column
  pub no_factors_yet : (a l : Dense T) (d : List T) → a.ncols ≡ a.nrows
      → HasValues a.nrows a.nrows (λ _ _ _. z) l → length d ≡ a.nrows
      → AreFirstFactors R f z a l d 0
  no_factors_yet a l d square values count = record {
    size = record {
      square = square;
      rows = values.rows;
      cols = values.cols;
      pivots = count;
      full = let r = values.rows in let c = values.cols in rw (r, c) values.count;
    };
    part = record {
      unit = λ c lt. absurd (omega arith);
      upper = λ i c lt _. absurd (omega arith);
      pivots = λ c lt. absurd (omega arith);
      columns = λ i c lt _ _. absurd (omega arith);
    };
    above = λ i c _. zeros R f z none l a.nrows a.nrows i c values;
  }

  -- after the last column
  pub all_factors : (a l : Dense T) (d : List T) → AreFirstFactors R f z a l d a.nrows
      → AreDenseFactorsOf R f z a l d
  all_factors a l d first =
      factorisation_of R f (dense_symmetric R f a) (plain_of_dense R f l) (diagonal R f z d)
      first.size.rows (first.size.cols ∙ sym first.size.rows)
      (symmetric-transposed R (plain_of_dense R f a)) first.part

  pub none_at_all : (a : Dense T) → HasNoColumns R f a → HasNoDenseFactors R f a
  none_at_all a none l d whole =
      none l.value d (columns_of R f (dense_symmetric R f a) l d whole)
