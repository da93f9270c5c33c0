-- Row j of L while its entries are read: each makes an update by its column, from row j on.
use Rattle.std.proofs.Common.{◌≡◌, ℕ, ◌+◌, ◌<◌, ◌≤◌, inl, inr, List, length}
use Rattle.std.proofs.Common.{slice_index, get_or, ap, sym, ◌∙◌, refl, arith}
use Rattle.std.proofs.Common.{subst}
use Rattle.std.proofs.lemmas.List.{get_or_default, get_or_past}
use Rattle.sparse_algebra.proofs.Cases.{lt_or_ge}
use Rattle.sparse_algebra.specs.Algebra.{CommRing}
use Rattle.sparse_pattern.specs.Raw.{end_of, IsInLane}
use Rattle.sparse_compressed.specs.Compressed.{Compressed, IsSound}
use Rattle.sparse_compressed.specs.PlainOfLanes.{plain_of_cols}
use Rattle.sparse_dense_ops.specs.SparseVectors.{AddsMultiple, elements}
use Rattle.sparse_factor.specs.InnerFactors.{AreCursors, IsCursor, IsUpdated, IsLowerPattern, IsRowOf}
use Rattle.sparse_factor.specs.InnerNested.{moved, scale_at}
use Rattle.sparse_factor.proofs.Cursors.{AreCursorsAt, at_cursor, cursors_start, cursors_more}
use Rattle.sparse_factor.proofs.FilledSets.{no_entry_zero}
use Rattle.sparse_factor.proofs.MovedCursors.{length-moved}
use Rattle.sparse_factor.proofs.LaneCuts.{cut, added-above, added-below}
use Rattle.sparse_factor.proofs.ColumnUpdates.{IsUpdated-start, IsUpdated-next}
use Rattle.sparse_factor.proofs.EntryValues.{value_at_entry}

module _ (R : CommRing) {T : Type 0} (f : T → R.Carrier) (z : T) where
  -- w is b after the updates by the first k columns of m; b has the pivots above row j
  abbrev pub IsUpdatedBy : Compressed T → ℕ → List T → ℕ → (ℕ → R.Carrier) → Type 0
  IsUpdatedBy m j b k w = IsUpdated R (length b) j (plain_of_cols R f m).value (elements R f z b) k w
      (elements R f z b)

  -- w is b after the updates by the columns of the first q entries of row j of m, from row j on;
  -- above row j both have the pivots
  pub record IsRowRead (m : Compressed T) (j : ℕ) (row : List ℕ) (b : List T) (q : ℕ)
      (cursors : List ℕ) (w : ℕ → R.Carrier) : Type 0 where
    pub sound : IsSound m
    pub low : IsLowerPattern m.pattern
    pub is : IsRowOf m.pattern j row
    pub square : m.pattern.minor_dim ≡ m.pattern.major_dim
    pub rows : length b ≡ m.pattern.major_dim
    pub room : m.pattern.major_dim ≤ length cursors
    pub placed : AreCursorsAt m.pattern j row q cursors
    pub above : (i : ℕ) → i < j → w i ≡ elements R f z b i
    pub left : IsUpdatedBy m j b (get_or row q j) w

  -- the columns without an entry in row j are zero there
  others_zero : {m : Compressed T} {j : ℕ} {row : List ℕ} → IsSound m → IsRowOf m.pattern j row
      → (c : ℕ) → ((p : ℕ) → p < length row → slice_index row p ≡ c → ⊥)
      → (plain_of_cols R f m).value j c ≡ R.zero
  others_zero {m} {j} sound is c none = no_entry_zero R f m sound j c
      (λ place. let at = is.all c place in none at.0 at.1 at.2)

  pub none_read : {m : Compressed T} {j : ℕ} {row : List ℕ} {b : List T} {cursors : List ℕ}
      → IsSound m → IsLowerPattern m.pattern → IsRowOf m.pattern j row
      → m.pattern.minor_dim ≡ m.pattern.major_dim → length b ≡ m.pattern.major_dim
      → m.pattern.major_dim ≤ length cursors → AreCursors m.pattern j cursors
      → IsRowRead m j row b 0 cursors (elements R f z b)
  none_read {m} {j} {row} {b} {cursors} sound low is square rows room are = record {
    sound = sound;
    low = low;
    is = is;
    square = square;
    rows = rows;
    room = room;
    placed = cursors_start sound.valid is cursors are;
    above = λ i _. refl;
    left = IsUpdated-start R (length b) j (plain_of_cols R f m).value (elements R f z b) row is.rising
        (others_zero sound is) (elements R f z b);
  }

module _ {R : CommRing} {T : Type 0} {f : T → R.Carrier} {z : T} {m : Compressed T} {j : ℕ}
    {row : List ℕ} {b : List T} {q : ℕ} {cursors : List ℕ} {w : ℕ → R.Carrier}
    (s : IsRowRead R f z m j row b q cursors w) where
  -- the whole row is read
  pub all_read : length row ≤ q → IsUpdatedBy R f z m j b j w
  all_read end = subst (λ k. IsUpdatedBy R f z m j b k w) (get_or_past row q j end) s.left

  -- the entries of the row are in columns of the matrix
  pub row_columns : (r : ℕ) → r < length row → slice_index row r < m.pattern.major_dim
  row_columns r lt = (s.is.stored r lt).in_lane.lane

  -- the same elements
  pub read-same : (x : ℕ → R.Carrier) → ((i : ℕ) → i < length b → x i ≡ w i) → j ≤ length b
      → IsRowRead R f z m j row b q cursors x
  read-same x same le = record {
    sound = s.sound;
    low = s.low;
    is = s.is;
    square = s.square;
    rows = s.rows;
    room = s.room;
    placed = s.placed;
    above = λ i less. same i (omega arith) ∙ s.above i less;
    left = λ i from to. ap (R.add _) (same i to) ∙ s.left i from to;
  }

  module _ (lt : q < length row) where
    abbrev k : ℕ
    k = slice_index row q

    abbrev c : ℕ
    c = slice_index cursors (slice_index row q)

    lane : k < m.pattern.major_dim
    lane = (s.is.stored q lt).in_lane.lane

    cursor : IsCursor m.pattern j k c
    cursor = s.placed.waiting q (omega arith) lt

    entry_found : (c < end_of m.pattern k) × (slice_index m.pattern.indices c ≡ j)
    entry_found = at_cursor s.sound.valid lane cursor (s.is.stored q lt)

    -- the column has row j at its cursor
    pub entry_lane : IsInLane m.pattern k c
    entry_lane = record { lane = lane; from = cursor.from; to = entry_found.0 }

    pub entry_row : slice_index m.pattern.indices c ≡ j
    entry_row = entry_found.1

    pub row_within : j < length b
    row_within = omega (
      arith,
      (s.sound.valid.lanes k lane).bounded c cursor.from entry_found.0,
      entry_found.1,
      s.square,
      s.rows,
    )

    entry_value : (plain_of_cols R f m).value j k ≡ elements R f z m.values c
    entry_value = value_at_entry R f s.sound z (record {
      at = c;
      in_lane = entry_lane;
      index = entry_found.1;
    })

    -- x after the update by the entry
    passed : {x : ℕ → R.Carrier} → ((i : ℕ) → i < j → x i ≡ w i)
        → IsUpdatedBy R f z m j b (get_or row (q + 1) j) x
        → IsRowRead R f z m j row b (q + 1) (moved cursors k) x
    passed above left = record {
      sound = s.sound;
      low = s.low;
      is = s.is;
      square = s.square;
      rows = s.rows;
      room = omega (arith, s.room, length-moved cursors k);
      placed = cursors_more s.sound.valid s.is lt s.placed (omega (arith, lane, s.room));
      above = λ i less. above i less ∙ s.above i less;
      left = left;
    }

    -- the update by column k, times its pivot u and its entry in row j
    updated : k < j → (u : R.Carrier) → u ≡ elements R f z b k → (x : ℕ → R.Carrier)
        → ((i : ℕ) → i < length b → x i
        ≡ R.add (w i) (R.mul (R.neg (R.mul u (elements R f z m.values c))) (cut R f z m k c i)))
        → IsRowRead R f z m j row b (q + 1) (moved cursors k) x
    updated below u pivot x added =
        let scale = R.mul u (elements R f z m.values c) in
        let factor : scale ≡ R.mul (elements R f z b k) ((plain_of_cols R f m).value j k) =
        ap (λ u. R.mul u (elements R f z m.values c)) pivot
        ∙ ap (R.mul (elements R f z b k)) (sym entry_value) in
        passed
        (λ i less. added-above R f z s.sound lane cursor scale (length b) w x added i less
        (omega (arith, less, row_within)))
        (IsUpdated-next R (length b) j (plain_of_cols R f m).value (elements R f z b) row s.is.rising
        (others_zero R f z s.sound s.is) q lt w x (elements R f z b) below s.left
        (added-below R f z s.sound lane cursor scale (length b) w x added (elements R f z b)
        factor))

    -- the entry on the diagonal is the last one of its row
    none_behind : j ≤ k → length row ≤ q + 1
    none_behind over = elim (lt_or_ge (q + 1) (length row)) [
      | inl more ↦
          let up = s.is.rising q (q + 1) (omega arith) more in
          let most = s.low _ j (s.is.stored (q + 1) more) in
          absurd (omega (arith, up, most, over))
      | inr none ↦ none
    ]

    pub diagonal_skipped : j ≤ k → IsRowRead R f z m j row b (q + 1) (moved cursors k) w
    diagonal_skipped over =
        let most = s.low k j (s.is.stored q lt) in
        let here : get_or row q j ≡ j = get_or_default row q j 0 lt ∙ omega arith in
        passed (λ i _. refl) (subst (λ k. IsUpdatedBy R f z m j b k w)
        (here ∙ sym (get_or_past row (q + 1) j (none_behind over))) s.left)

    -- the same, where column, cursor and next entry are given otherwise
    pub entry_updated : (l d r : ℕ) → l ≡ k → d ≡ slice_index cursors l → r ≡ q + 1 → l < j
        → (u : R.Carrier) → u ≡ elements R f z b l → (x : ℕ → R.Carrier)
        → ((i : ℕ) → i < length b → x i
        ≡ R.add (w i) (R.mul (R.neg (R.mul u (elements R f z m.values d))) (cut R f z m l d i)))
        → IsRowRead R f z m j row b r (moved cursors l) x
    entry_updated l d r is at next below u pivot x added =
        let Step : ℕ → ℕ → ℕ → Type 0 = λ l d r. l < j → u ≡ elements R f z b l
        → ((i : ℕ) → i < length b → x i
        ≡ R.add (w i) (R.mul (R.neg (R.mul u (elements R f z m.values d))) (cut R f z m l d i)))
        → IsRowRead R f z m j row b r (moved cursors l) x in
        let one : Step k c (q + 1) = λ below pivot added. updated below u pivot x added in
        let two : Step l (slice_index cursors l) (q + 1) =
        subst (λ l. Step l (slice_index cursors l) (q + 1)) (sym is) one in
        subst (Step l d) (sym next) (subst (λ d. Step l d (q + 1)) (sym at) two) below pivot added

-- the update by the column of the next entry, which is not made from the diagonal on
pub one_read : {R : CommRing} {T : Type 0} {f : T → R.Carrier} {z : T} {m : Compressed T} {j : ℕ}
    {row : List ℕ} {b : List T} {q : ℕ} {cursors : List ℕ} (x y : List T)
    → IsRowRead R f z m j row b q cursors (elements R f z x) → q < length row
    → length x ≡ length b
    → (slice_index row q < j → AddsMultiple R f z
    (scale_at R f z m.values x (slice_index row q) (slice_index cursors (slice_index row q)))
    (cut R f z m (slice_index row q) (slice_index cursors (slice_index row q))) x y)
    → (j ≤ slice_index row q → y ≡ x)
    → IsRowRead R f z m j row b (q + 1) (moved cursors (slice_index row q)) (elements R f z y)
one_read {R} {f = f} {z} {m} {j} {row} {b} {q} {cursors} x y s lt long less unchanged =
    let k = slice_index row q in
    let c = slice_index cursors k in
    elim (lt_or_ge k j) [
      | inl below ↦ entry_updated s lt k c (q + 1) refl refl refl below (elements R f z x k)
          (s.above k below) (elements R f z y) (λ i i_lt. less below i (omega (arith, i_lt, long)))
      | inr over ↦ subst (λ y. IsRowRead R f z m j row b (q + 1) (moved cursors k)
          (elements R f z y)) (sym (unchanged over)) (diagonal_skipped s lt over)
    ]
