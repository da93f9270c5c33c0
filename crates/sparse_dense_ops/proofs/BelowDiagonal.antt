-- The entries of a column below the diagonal.
use Rattle.std.proofs.Common.{◌≡◌, ℕ, ◌+◌, ◌-◌, ◌<◌, ◌≤◌, inl, inr, true, List}
use Rattle.std.proofs.Common.{take}
use Rattle.std.proofs.Common.{length, get_or, drop, All, Contains, ap}
use Rattle.std.proofs.Common.{sym, ◌∙◌, arith}
use Rattle.std.proofs.lemmas.List.{get_or-drop, get_or_default, length-drop}
use Rattle.std.proofs.lemmas.List.{take_rest}
use Rattle.std.proofs.lemmas.List.Edits.{get_or-between}
use Rattle.std.proofs.lemmas.List.Elements.{All-drop}
use Rattle.sparse_algebra.proofs.Cases.{le_cases}
use Rattle.sparse_algebra.specs.Algebra.{CommRing}
use Rattle.sparse_pattern.specs.Raw.{start_of, end_of, lane_of}
use Rattle.sparse_pattern.proofs.PatternLanes.{length-lane, get_or-lane, lane_rises}
use Rattle.sparse_pattern.proofs.LaneLists.{lane_has}
use Rattle.sparse_compressed.specs.Compressed.{Compressed, IsSound, IsOffset}
use Rattle.sparse_compressed.specs.PlainOfLanes.{plain_of_rows, plain_of_cols}
use Rattle.sparse_compressed.proofs.Arrays.{value_at_offset, has_is_place}
use Rattle.sparse_compressed.proofs.LaneValues.{values_of, length-values, lane_value_is}
use Rattle.sparse_dense_ops.proofs.SparseVectors.{sparse_elements-drop, sparse_elements-none}
use Rattle.sparse_dense_ops.specs.InnerColumns.{IsColumnBelow}

module _ (R : CommRing) {T : Type 0} (f : T → R.Carrier) (z : T) (m : Compressed T)
    (sound : IsSound m) (k : ℕ) (lane : k < m.pattern.major_dim) where
  -- entry q of a lane has the offset start + q in the matrix
  in_matrix : (i q : ℕ) → q < length (lane_of m.pattern k) → get_or (lane_of m.pattern k) q 0 ≡ i
      → IsOffset m.pattern k i (start_of m.pattern k + q)
  in_matrix i q lt is =
      let v = sound.valid.lanes k lane in (
        record {
          lane = lane;
          from = omega arith;
          to =
              omega (arith, lt, length-lane m.pattern k v);
        },
        sym (get_or-lane m.pattern k v q lt) ∙ is,
      )

  lane_inside : All (λ i. i < m.pattern.minor_dim) (lane_of m.pattern k)
  lane_inside q e lt =
      let v = sound.valid.lanes k lane in
      rw (get_or_default (lane_of m.pattern k) q e 0 lt, get_or-lane m.pattern k v q lt)
      (v.bounded (start_of m.pattern k + q) (omega arith)
      (omega (arith, length-lane m.pattern k v)))

  pub value_stored : (i q : ℕ) → q < length (lane_of m.pattern k)
      → get_or (lane_of m.pattern k) q 0 ≡ i
      → (plain_of_rows R f m).value k i ≡ f (get_or (values_of m k) q z)
  value_stored i q lt is =
      let room : start_of m.pattern k + q < end_of m.pattern k =
      omega (arith, lt, length-lane m.pattern k (sound.valid.lanes k lane)) in
      value_at_offset R f m.pattern sound.valid m.values sound.count z k i
      (start_of m.pattern k + q) (in_matrix i q lt is)
      ∙ ap f (sym (get_or-between m.values (start_of m.pattern k) (end_of m.pattern k) q z room))

  pub not_stored : (i : ℕ) → (Contains (lane_of m.pattern k) i → ⊥)
      → (plain_of_rows R f m).has k i ≡ true → ⊥
  not_stored i none hit = none ((lane_has m.pattern sound.valid k i lane).1
      ((has_is_place R f m.pattern sound.valid m.values sound.count k i).0 hit))

  -- the entries of a lane after the diagonal, which is entry q, are those below the diagonal
  column_is : (q : ℕ) (e : T) → q < length (lane_of m.pattern k)
      → get_or (lane_of m.pattern k) q 0 ≡ k → R.mul (f (get_or (values_of m k) q z)) (f e) ≡ R.one
      → IsColumnBelow R f (plain_of_cols R f m) k (drop (q + 1) (lane_of m.pattern k))
      (drop (q + 1) (values_of m k)) e
  column_is q e lt is inverts =
      let rows = lane_of m.pattern k in
      let offset = in_matrix k q lt is in
      record {
        count = omega (
          arith,
          length-drop (q + 1) rows,
          length-drop (q + 1) (values_of m k),
          length-values R f z m sound k lane,
        );
        inside = All-drop (λ i. i < m.pattern.minor_dim) (q + 1) rows lane_inside;
        stored = (has_is_place R f m.pattern sound.valid m.values sound.count k k).1
            (record { at = start_of m.pattern k + q; in_lane = offset.0; index = offset.1 });
        inverts = ap (λ c. R.mul c (f e)) (value_stored k q lt is) ∙ inverts;
        below = λ i more. sparse_elements-drop R f i (q + 1) rows (values_of m k)
            (λ r before within e. omega (arith, not_past r before, e))
            ∙ lane_value_is R f z m sound k lane i;
        above = λ i le. sparse_elements-none R f i (drop (q + 1) rows)
            (drop (q + 1) (values_of m k)) (λ r within e.
            let inside : q + 1 + r < length rows = omega
            (arith, within, length-drop (q + 1) rows) in
            let later = lane_rises m.pattern k (sound.valid.lanes k lane) q (q + 1 + r)
            (omega arith) inside in
            omega (arith, later, is, get_or-drop (q + 1) rows r 0, e));
      }
    where
      not_past : (r : ℕ) → r < q + 1 → get_or (lane_of m.pattern k) r 0 ≤ k
      not_past r before = elim (le_cases r q (omega arith)) [
        | inl less ↦ omega (
          arith,
          lane_rises m.pattern k (sound.valid.lanes k lane) r q less lt,
          is,
        )
        | inr same ↦ omega (arith, ap (λ s. get_or (lane_of m.pattern k) s 0) same, is)
      ]

  -- a value that was read in a slice of the lane's values is the value of entry q
  pub value_read : (values : List T) → values ≡ values_of m k → (q : ℕ)
      → q < length (lane_of m.pattern k) → (v : T) → v ≡ get_or values q v
      → v ≡ get_or (values_of m k) q z
  value_read values are q lt v read =
      read ∙ ap (λ vs. get_or vs q v) are
      ∙ get_or_default (values_of m k) q v z (omega (arith, lt, length-values R f z m sound k lane))

  -- the rest of a lane's slices after the diagonal are the column below the diagonal
  pub column_found : (rows : List ℕ) (values : List T) → rows ≡ lane_of m.pattern k
      → values ≡ values_of m k → (q : ℕ) → q < length rows → get_or rows q 0 ≡ k → (e v : T)
      → v ≡ get_or values q v → R.mul (f v) (f e) ≡ R.one
      → IsColumnBelow R f (plain_of_cols R f m) k
      (take (length rows - (q + 1)) (drop (q + 1) rows))
      (take (length values - (q + 1)) (drop (q + 1) values)) e
  column_found rows values rows_are values_are q lt is e v read inverts =
      let within : q < length (lane_of m.pattern k) = rw (← rows_are) lt in
      rw (take_rest rows (q + 1), take_rest values (q + 1), rows_are, values_are)
      (column_is q e within (rw (← rows_are) is)
      (ap (λ v. R.mul (f v) (f e)) (sym (value_read values values_are q within v read)) ∙ inverts))
