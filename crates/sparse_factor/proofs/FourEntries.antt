-- Four entries of row j, in nested columns one after the other, that are read together.
use Rattle.std.proofs.Common.{◌≡◌, ℕ, ◌+◌, ◌<◌, ◌≤◌, List, Bool, length}
use Rattle.std.proofs.Common.{slice_index, ap, sym, subst, ◌∙◌, refl, arith}
use Rattle.sparse_algebra.specs.Algebra.{CommRing}
use Rattle.sparse_pattern.specs.Raw.{IsEntry, IsInLane}
use Rattle.sparse_compressed.specs.Compressed.{Compressed}
use Rattle.sparse_dense_ops.specs.SparseVectors.{elements}
use Rattle.sparse_factor.specs.InnerFactors.{IsCursor}
use Rattle.sparse_factor.specs.InnerNested.{AreFirstRows, AreFour, AreNested, IsNested}
use Rattle.sparse_factor.specs.InnerNested.{IsUpdatedByFour, moved_four, update_by}
use Rattle.sparse_factor.proofs.Cursors.{at_cursor}
use Rattle.sparse_factor.proofs.MovedCursors.{second_behind, third_behind, fourth_behind}
use Rattle.sparse_factor.proofs.NestedTails.{first_of_first, first_rows}
use Rattle.sparse_factor.proofs.RowEntries.{IsRowRead, entry_updated, read-same, row_within}

module _ {R : CommRing} {T : Type 0} {f : T → R.Carrier} {z : T} {m : Compressed T} {j : ℕ}
    {row : List ℕ} {b : List T} {q : ℕ} {cursors : List ℕ} {nested : List Bool} (x : List T)
    (s : IsRowRead R f z m j row b q cursors (elements R f z x)) (are : AreNested m.pattern nested)
    (four : AreFour nested row q) where
  abbrev k : ℕ
  k = slice_index row q

  abbrev at : ℕ → ℕ
  at l = slice_index cursors l

  rises : (r : ℕ) → r + 1 < length row → slice_index row r < slice_index row (r + 1)
  rises r lt = s.is.rising r (r + 1) (omega arith) lt

  -- the columns of the four entries
  columns : (slice_index row (q + 1) ≡ k + 1) × (slice_index row (q + 2) ≡ k + 2)
  columns =
      let more = four.more in
      let e : q + 1 + 1 ≡ q + 2 = omega arith in
      let e' : q + 2 + 1 ≡ q + 3 = omega arith in
      let one = rises q (omega (arith, more)) in
      let two = rises (q + 1) (omega (arith, more)) in
      let three = rises (q + 2) (omega (arith, more)) in
      let two' = subst (λ r. slice_index row (q + 1) < slice_index row r) e two in
      let three' = subst (λ r. slice_index row (q + 2) < slice_index row r) e' three in
      let last = four.last in (
        omega (arith, one, two', three', last),
        omega (arith, one, two', three', last),
      )

  -- entry r of the row is in column l
  module _ (r l : ℕ) (from : q ≤ r) (lt : r < length row) (is : slice_index row r ≡ l) where
    stored : IsEntry m.pattern l j
    stored = subst (λ l. IsEntry m.pattern l j) is (s.is.stored r lt)

    waiting : IsCursor m.pattern j l (at l)
    waiting = subst (λ l. IsCursor m.pattern j l (at l)) is (s.placed.waiting r from lt)

    placed : IsInLane m.pattern l (at l)
    placed = record {
      lane = stored.in_lane.lane;
      from = waiting.from;
      to = (at_cursor s.sound.valid stored.in_lane.lane waiting stored).0;
    }

    placed_row : slice_index m.pattern.indices (at l) ≡ j
    placed_row = (at_cursor s.sound.valid stored.in_lane.lane waiting stored).1

  -- the rows of a nested column from its cursor on are the first of those of the next column
  next_rows : (r l : ℕ) → q ≤ r → r + 1 < length row → slice_index row r ≡ l
      → slice_index row (r + 1) ≡ l + 1 → IsNested m.pattern l
      → AreFirstRows m.pattern l (at l) (l + 1) (at (l + 1))
  next_rows r l from lt is next h = first_rows s.sound.valid h (placed r l from (omega arith) is)
      (placed_row r l from (omega arith) is) (placed (r + 1) (l + 1) (omega arith) lt next)
      (placed_row (r + 1) (l + 1) (omega arith) lt next)

  next_at : (r r' l l' : ℕ) → r' ≡ r + 1 → l' ≡ l + 1 → q ≤ r → r' < length row
      → slice_index row r ≡ l → slice_index row r' ≡ l' → IsNested m.pattern l
      → AreFirstRows m.pattern l (at l) l' (at l')
  next_at r r' l l' e e' from lt is next h =
      subst (λ l'. AreFirstRows m.pattern l (at l) l' (at l')) (sym e')
      (next_rows r l from (omega (arith, e, lt)) is (ap (slice_index row) (sym e) ∙ next ∙ e') h)

  pub four_lane : IsInLane m.pattern k (at k)
  four_lane = let more = four.more in placed q k (omega arith) (omega (arith, more)) refl

  pub four_second : AreFirstRows m.pattern k (at k) (k + 1) (at (k + 1))
  four_second = let more = four.more in
      next_at q (q + 1) k (k + 1) refl refl (omega arith) (omega (arith, more)) refl columns.0
      (are.each k four.first)

  pub four_third : AreFirstRows m.pattern k (at k) (k + 2) (at (k + 2))
  four_third = let more = four.more in
      first_of_first four_second (next_at (q + 1) (q + 2) (k + 1) (k + 2) (omega arith) (omega arith)
      (omega arith) (omega (arith, more)) columns.0 columns.1 (are.each (k + 1) four.second))

  pub four_fourth : AreFirstRows m.pattern k (at k) (k + 3) (at (k + 3))
  four_fourth = let more = four.more in
      first_of_first four_third (next_at (q + 2) (q + 3) (k + 2) (k + 3) (omega arith) (omega arith)
      (omega arith) (omega (arith, more)) columns.1 four.last (are.each (k + 2) four.third))

  pub four_lanes : k + 3 < m.pattern.major_dim
  four_lanes = let more = four.more in
      (placed (q + 3) (k + 3) (omega arith) (omega (arith, more)) four.last).lane

  -- the four columns are before column j
  before : k + 3 < j
  before =
      let more = four.more in
      let e : q + 3 + 1 ≡ q + 4 = omega arith in
      let up = rises (q + 3) (omega (arith, more)) in
      let up' = subst (λ r. slice_index row (q + 3) < slice_index row r) e up in
      let most = s.low _ j (s.is.stored (q + 4) more) in
      let last = four.last in omega (arith, up', most, last)

  pub four_read : {y : List T} → length x ≡ length b
      → IsUpdatedByFour R f z m.pattern m.values k cursors x y
      → IsRowRead R f z m j row b (q + 4) (moved_four cursors k) (elements R f z y)
  four_read {y} long h =
      let more = four.more in
      let less = before in
      let u : ℕ → ℕ → R.Carrier = λ l. update_by R f z m.pattern m.values x l (at l) in
      let w1 : ℕ → R.Carrier = λ i. R.add (elements R f z x i) (u k i) in
      let w2 : ℕ → R.Carrier = λ i. R.add (w1 i) (u (k + 1) i) in
      let w3 : ℕ → R.Carrier = λ i. R.add (w2 i) (u (k + 2) i) in
      let w4 : ℕ → R.Carrier = λ i. R.add (w3 i) (u (k + 3) i) in
      let s1 = entry_updated s (omega (arith, more)) k (at k) (q + 1) refl refl refl
      (omega (arith, less)) (elements R f z x k) (s.above k (omega (arith, less))) w1
      (λ i lt. refl) in
      let s2 = entry_updated s1 (omega (arith, more)) (k + 1) (at (k + 1)) (q + 2) (sym columns.0)
      (sym (second_behind cursors k)) (omega arith) (omega (arith, less))
      (elements R f z x (k + 1)) (s.above (k + 1) (omega (arith, less))) w2 (λ i lt. refl) in
      let s3 = entry_updated s2 (omega (arith, more)) (k + 2) (at (k + 2)) (q + 3) (sym columns.1)
      (sym (third_behind cursors k)) (omega arith) (omega (arith, less)) (elements R f z x (k + 2))
      (s.above (k + 2) (omega (arith, less))) w3 (λ i lt. refl) in
      let s4 = entry_updated s3 (omega (arith, more)) (k + 3) (at (k + 3)) (q + 4) (sym four.last)
      (sym (fourth_behind cursors k)) (omega arith) less (elements R f z x (k + 3))
      (s.above (k + 3) less) w4 (λ i lt. refl) in
      read-same s4 (elements R f z y) (λ i lt. h.each i (omega (arith, lt, long)))
      (let within = row_within s (omega (arith, more)) in omega (arith, within))
