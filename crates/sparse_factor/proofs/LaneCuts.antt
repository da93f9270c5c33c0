-- The entries of a column from its cursor on, and the update by a multiple of them.
use Rattle.std.proofs.Common.{◌≡◌, ℕ, ◌+◌, ◌-◌, ◌<◌, ◌≤◌, length, get_or, All}
use Rattle.std.proofs.Common.{drop, slice_index, slice_range, ap, sym, subst, ◌∙◌, refl, arith}
use Rattle.std.proofs.lemmas.List.{get_or-drop, get_or_default, length-drop}
use Rattle.std.proofs.lemmas.List.Edits.{get_or-between, length-between}
use Rattle.sparse_algebra.specs.Algebra.{CommRing}
use Rattle.sparse_algebra.proofs.RingLemmas.{mul_zero}
use Rattle.sparse_algebra.proofs.Products.{mul_neg}
use Rattle.sparse_pattern.specs.Raw.{start_of, end_of, lane_of}
use Rattle.sparse_pattern.proofs.PatternLanes.{length-lane, get_or-lane}
use Rattle.sparse_compressed.specs.Compressed.{Compressed, IsSound}
use Rattle.sparse_compressed.specs.PlainOfLanes.{plain_of_cols}
use Rattle.sparse_compressed.proofs.LaneValues.{values_of, lane_value_is}
use Rattle.sparse_dense_ops.specs.SparseVectors.{sparse_elements}
use Rattle.sparse_dense_ops.proofs.SparseVectors.{sparse_elements-drop, sparse_elements-none}
use Rattle.sparse_dense_ops.proofs.SparseVectors.{drop_range}
use Rattle.sparse_dense_ops.proofs.RingSteps.{add_off}
use Rattle.sparse_factor.specs.InnerFactors.{IsCursor, term}
use Rattle.sparse_factor.specs.InnerNested.{column_from}

module _ (R : CommRing) {T : Type 0} (f : T → R.Carrier) (z : T) where
  -- column k from offset c on, as a vector
  abbrev pub cut : Compressed T → ℕ → ℕ → ℕ → R.Carrier
  cut m k c = column_from R f m.pattern m.values k c

  module _ {m : Compressed T} {j k c : ℕ} (sound : IsSound m) (lane : k < m.pattern.major_dim)
      (cursor : IsCursor m.pattern j k c) where
    abbrev skipped : ℕ
    skipped = c - start_of m.pattern k

    place : start_of m.pattern k + skipped ≡ c
    place = omega (arith, cursor.from)

    rows_cut : drop skipped (lane_of m.pattern k)
        ≡ slice_range m.pattern.indices c (end_of m.pattern k)
    rows_cut = drop_range m.pattern.indices (start_of m.pattern k) (end_of m.pattern k) skipped
        (omega (arith, place, cursor.to))
        ∙ ap (λ b. slice_range m.pattern.indices b (end_of m.pattern k)) place

    values_cut : drop skipped (values_of m k) ≡ slice_range m.values c (end_of m.pattern k)
    values_cut = drop_range m.values (start_of m.pattern k) (end_of m.pattern k) skipped
        (omega (arith, place, cursor.to))
        ∙ ap (λ b. slice_range m.values b (end_of m.pattern k)) place

    cut_is : (i : ℕ) → cut m k c i
        ≡ sparse_elements R f (drop skipped (lane_of m.pattern k)) (drop skipped (values_of m k)) i
    cut_is i = rw (rows_cut, values_cut) refl

    index_at : (q : ℕ) → q < length (lane_of m.pattern k) → get_or (lane_of m.pattern k) q 0
        ≡ slice_index m.pattern.indices (start_of m.pattern k + q)
    index_at q lt = get_or-lane m.pattern k (sound.valid.lanes k lane) q lt

    -- from row j on the cut column has the values of column k
    cut_below : (i : ℕ) → j ≤ i → cut m k c i ≡ (plain_of_cols R f m).value i k
    cut_below i le = cut_is i
        ∙ sparse_elements-drop R f i skipped (lane_of m.pattern k) (values_of m k) (λ q less lt e.
        let above = cursor.before (start_of m.pattern k + q) (omega arith)
        (omega (arith, less, place)) in omega (arith, above, e, index_at q lt, le))
        ∙ lane_value_is R f z m sound k lane i

    -- above row j the cut column is zero
    cut_above : (i : ℕ) → i < j → cut m k c i ≡ R.zero
    cut_above i less = cut_is i
        ∙ sparse_elements-none R f i (drop skipped (lane_of m.pattern k))
        (drop skipped (values_of m k)) (λ q lt e.
        let long = length-lane m.pattern k (sound.valid.lanes k lane) in
        let inside : skipped + q < length (lane_of m.pattern k) =
        omega (arith, lt, length-drop skipped (lane_of m.pattern k)) in
        let same : start_of m.pattern k + (skipped + q) ≡ c + q = omega (arith, place) in
        let below = cursor.behind (c + q) (omega arith) (omega (arith, inside, long, place)) in
        let read = index_at (skipped + q) inside in
        let there = ap (slice_index m.pattern.indices) same in
        omega (arith, less, below, e, get_or-drop skipped (lane_of m.pattern k) q 0, read, there))

    -- the rows of the cut column are rows of the matrix
    pub cut_inside : All (λ i. i < m.pattern.minor_dim)
        (slice_range m.pattern.indices c (end_of m.pattern k))
    cut_inside q e lt =
        let v = sound.valid.lanes k lane in
        let long = length-between m.pattern.indices c (end_of m.pattern k) v.inside in
        let room : c + q < end_of m.pattern k = omega (arith, lt, long) in
        let bound = v.bounded (c + q) (omega (arith, cursor.from)) room in
        subst (λ i. i < m.pattern.minor_dim)
        (sym (get_or-between m.pattern.indices c (end_of m.pattern k) q e room
        ∙ get_or_default m.pattern.indices (c + q) e 0 (omega (arith, room, v.inside)))) bound

    module _ (scale : R.Carrier) (n : ℕ) (x y : ℕ → R.Carrier)
        (added : (i : ℕ) → i < n → y i ≡ R.add (x i) (R.mul (R.neg scale) (cut m k c i))) where
      pub added-above : (i : ℕ) → i < j → i < n → y i ≡ x i
      added-above i less lt = added i lt ∙ add_off R _ _
          (ap (R.mul (R.neg scale)) (cut_above i less) ∙ mul_zero R _)

      -- the update by the column, times its pivot and its entry in row j
      pub added-below : (d : ℕ → R.Carrier)
          → scale ≡ R.mul (d k) ((plain_of_cols R f m).value j k) → (i : ℕ) → j ≤ i → i < n
          → y i ≡ R.add (x i) (R.neg (term R (plain_of_cols R f m).value d i j k))
      added-below d is i le lt =
          let l = (plain_of_cols R f m).value in
          added i lt ∙ ap (R.add (x i)) (
          ap (R.mul (R.neg scale)) (cut_below i le) ∙ R.laws.mul_comm _ (l i k)
          ∙ mul_neg R (l i k) scale
          ∙ ap R.neg (ap (R.mul (l i k)) is ∙ sym (R.laws.mul_assoc (l i k) (d k) (l j k)))
          )
