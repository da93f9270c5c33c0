-- The depths of columns in the elimination tree.
use Rattle.std.proofs.Common.{◌≡◌, ◌⊎◌, ℕ, inl, inr, set, ◌+◌, ◌≤◌, ◌<◌, ◌^◌, Bool, true, false, List, [], ◌∷◌}
use Rattle.std.proofs.Common.{length, get_or, refl, sym, ap, ◌∙◌, arith, subst}
use Rattle.std.specs.Prelude.{◌==◌}
use Rattle.std.proofs.lemmas.Bool.{eqb-true, eqb-false, cases_eq}
use Rattle.std.proofs.lemmas.List.{length-set, get_or-set_same, get_or-set_other}
use Rattle.sparse_pattern.specs.Raw.{Raw, IsEntry, IsValid, lane_of}
use Rattle.sparse_pattern.proofs.LaneLists.{contains_from_has, lane_has}
use Rattle.sparse_pattern.proofs.PatternLanes.{lane_rises}
use Rattle.mtxkit_patterns.specs.Columns.{IsDepth, IsLower, root, child, below_diagonal, rows_below}
use Rattle.mtxkit_patterns.specs.InnerDepths.{AreDepths, HasDepth, depth_above}

pub depths_none : (l : Raw) (depths : List ℕ) → length depths ≡ l.major_dim → AreDepths l 0 depths 0
depths_none l depths long = record {
  long = long;
  depth = λ i from to. absurd (omega (arith, from, to));
  bound = λ i from to. absurd (omega (arith, from, to));
  small = λ i from to. absurd (omega (arith, from, to));
  reached = inl (refl, refl);
}

module _ (l : Raw) (valid : IsValid l) (square : l.minor_dim ≡ l.major_dim) (lower : IsLower l)
    (j : ℕ) (lt : j < l.major_dim) where
  -- a row of column j is on or below the diagonal, and not below the last one
  row_at : (k : ℕ) → k < length (lane_of l j)
      → (j ≤ get_or (lane_of l j) k 0) × (get_or (lane_of l j) k 0 < l.major_dim)
  row_at k within =
      let row = get_or (lane_of l j) k 0 in
      let entry : IsEntry l j row = (lane_has l valid j row lt).0
      (contains_from_has (lane_of l j) row (record { at = k; within = within; is = refl })) in
      let bounded = (valid.lanes j lt).bounded entry.at entry.in_lane.from entry.in_lane.to in
      (lower row j entry, omega (arith, bounded, entry.index, square))

  parent_in : (lane : List ℕ) → lane_of l j ≡ lane → (parent : ℕ) (rows : List ℕ)
      → below_diagonal j lane ≡ parent ∷ rows → (j < parent) × (parent < l.major_dim)
  parent_in [] e parent rows is = absurd cc
  parent_in (row ∷ others) e parent rows is = by (row == j) refl
    where
      by : (t : Bool) → (row == j) ≡ t → (j < parent) × (parent < l.major_dim)
      by true f =
          let here : row ≡ j = eqb-true _ _ f in
          let behind : others ≡ parent ∷ rows = rw f at is in
          let lane : lane_of l j ≡ row ∷ parent ∷ rows = e ∙ ap (λ (x : List ℕ). row ∷ x) behind in
          let long : 1 < length (lane_of l j) = rw lane (omega arith) in
          let rises : row < parent = rw lane at (lane_rises l j (valid.lanes j lt) 0 1 (omega arith) long) in
          let at : (j ≤ parent) × (parent < l.major_dim) = rw lane at (row_at 1 long) in
          (omega (arith, here, rises), at.1)
      by false f =
          let apart : row ≡ j → ⊥ = eqb-false _ _ f in
          let same : row ≡ parent = cc in
          let long : 0 < length (lane_of l j) = rw e (omega arith) in
          let at : (j ≤ row) × (row < l.major_dim) = rw e at (row_at 0 long) in
          (omega (arith, at.0, apart, same), omega (arith, at.1, same))

  pub parent_after : (parent : ℕ) (rows : List ℕ) → rows_below l j ≡ parent ∷ rows
      → (j < parent) × (parent < l.major_dim)
  parent_after parent rows is = parent_in (lane_of l j) refl parent rows is

  module _ (done : ℕ) (at : done + j + 1 ≡ l.major_dim) (depths : List ℕ) (height : ℕ)
      (are : AreDepths l done depths height) where
    pub has_depth : l.major_dim < 2 ^ 64 → HasDepth (rows_below l j) depths
    has_depth room = by (rows_below l j) refl
      where
        by : (rows : List ℕ) → rows_below l j ≡ rows → HasDepth (rows_below l j) depths
        by [] e = rw e tt
        by (parent ∷ rows) e =
            let after = parent_after parent rows e in
            let small = are.small parent (omega (arith, after.0, at)) after.1 in
            rw e (omega (arith, after.1, are.long), omega (arith, small, at, room))

    depth_is : IsDepth l j (depth_above (rows_below l j) depths)
    depth_is = by (rows_below l j) refl
      where
        by : (rows : List ℕ) → rows_below l j ≡ rows
            → IsDepth l j (depth_above (rows_below l j) depths)
        by [] e = rw e (root e)
        by (parent ∷ rows) e =
            let after = parent_after parent rows e in
            rw e (child e (are.depth parent (omega (arith, after.0, at)) after.1))

    depth_few : (1 ≤ depth_above (rows_below l j) depths)
        × (depth_above (rows_below l j) depths ≤ done + 1)
    depth_few = by (rows_below l j) refl
      where
        by : (rows : List ℕ) → rows_below l j ≡ rows
            → (1 ≤ depth_above (rows_below l j) depths)
            × (depth_above (rows_below l j) depths ≤ done + 1)
        by [] e = rw e (omega arith, omega arith)
        by (parent ∷ rows) e =
            let after = parent_after parent rows e in
            let small = are.small parent (omega (arith, after.0, at)) after.1 in
            rw e (omega arith, omega (arith, small))

    -- what holds of the new depth and of the others holds of each
    each : (d : ℕ) (P : ℕ → ℕ → Type 0) → P j d
        → ((i : ℕ) → l.major_dim ≤ i + done → i < l.major_dim → P i (get_or depths i 0))
        → (i : ℕ) → l.major_dim ≤ i + (done + 1) → i < l.major_dim → P i (get_or (set depths j d) i 0)
    each d P this others i from to = by (cases_eq i j)
      where
        by : (i ≡ j) ⊎ (i ≡ j → ⊥) → P i (get_or (set depths j d) i 0)
        by (inl e) = rw e (subst (P j) (sym (get_or-set_same depths j d 0
            (omega (arith, lt, are.long)))) this)
        by (inr apart) = subst (P i) (sym (get_or-set_other depths j i d 0 apart))
            (others i (omega (arith, from, apart, at)) to)

    pub depths_more : (d height' : ℕ) → d ≡ depth_above (rows_below l j) depths → height ≤ height'
        → d ≤ height' → (height' ≡ height) ⊎ (height' ≡ d)
        → AreDepths l (done + 1) (set depths j d) height'
    depths_more d height' e up high last =
        let few : (1 ≤ d) × (d ≤ done + 1) = rw e depth_few in
        let this : IsDepth l j d = rw e depth_is in
        record {
          long = length-set depths j d ∙ are.long;
          depth = each d (IsDepth l) this are.depth;
          bound = each d (λ i x. x ≤ height') high
              (λ i from to. omega (arith, are.bound i from to, up));
          small = each d (λ i x. x ≤ done + 1) few.1 (λ i from to. omega (arith, are.small i from to));
          reached = by last are.reached;
        }
      where
        by : (height' ≡ height) ⊎ (height' ≡ d)
            → ((height ≡ 0) × (done ≡ 0)) ⊎ ((i : ℕ) × ((i < l.major_dim) × IsDepth l i height))
            → ((height' ≡ 0) × (done + 1 ≡ 0)) ⊎ ((i : ℕ) × ((i < l.major_dim) × IsDepth l i height'))
        by (inr h) old = inr (j, (lt, rw (h, e) depth_is))
        by (inl h) (inl none) =
            let few : (1 ≤ d) × (d ≤ done + 1) = rw e depth_few in
            absurd (omega (arith, few.0, h, none.0, high))
        by (inl h) (inr (i, is)) = inr (i, (is.0, rw h is.1))
