-- The cursors of the columns while the entries of row j are read.
use Rattle.std.proofs.Common.{◌≡◌, ◌≢◌, ℕ, ◌+◌, ◌<◌, ◌≤◌, inl, inr, List, length, get_or, set, ap}
use Rattle.std.proofs.Common.{slice_index, sym, subst, ◌∙◌, arith, get_or-set_same}
use Rattle.std.proofs.Common.{get_or-set_other}
use Rattle.sparse_algebra.proofs.Cases.{three, same_or_not, lt_add_one_cases, le_cases}
use Rattle.sparse_pattern.specs.Raw.{Raw, end_of, IsEntry, IsValid}
use Rattle.sparse_pattern.proofs.PatternLanes.{rises_at}
use Rattle.sparse_factor.specs.InnerFactors.{AreCursors, IsCursor, IsRowOf}
use Rattle.sparse_factor.specs.InnerNested.{moved}

module _ {p : Raw} {j k c : ℕ} (valid : IsValid p) (lane : k < p.major_dim)
    (cursor : IsCursor p j k c) where
  -- a column that has row j has it at its cursor
  pub at_cursor : IsEntry p k j → (c < end_of p k) × (slice_index p.indices c ≡ j)
  at_cursor place = elim (three place.at c) [
    | inl less ↦
        let r = cursor.before place.at place.in_lane.from less in
        absurd (omega (arith, r, place.index))
    | inr (inl more) ↦
        let r = rises_at p k (valid.lanes k lane) c place.at cursor.from more place.in_lane.to in
        let b = cursor.behind c (omega arith) (omega (arith, more, place.in_lane.to)) in
        absurd (omega (arith, r, b, place.index))
    | inr (inr same) ↦ (
      omega (arith, place.in_lane.to, same),
      ap (slice_index p.indices) (sym same) ∙ place.index,
    )
  ]

  pub cursor_past : c < end_of p k → slice_index p.indices c ≡ j → IsCursor p (j + 1) k (c + 1)
  cursor_past lt is = record {
    from = omega (arith, cursor.from);
    to = omega arith;
    before = λ q from less. elim (lt_add_one_cases q c less) [
      | inl under ↦ let r = cursor.before q from under in omega (arith, r)
      | inr same ↦ let e = ap (slice_index p.indices) same ∙ is in omega (arith, e)
    ];
    behind = λ q over to.
        let r = rises_at p k (valid.lanes k lane) c q cursor.from (omega arith) to in
        omega (arith, r, is);
  }

  -- in a column without row j the cursor for row j is that for row j + 1
  pub cursor_stays : (IsEntry p k j → ⊥) → IsCursor p (j + 1) k c
  cursor_stays none = record {
    from = cursor.from;
    to = cursor.to;
    before = λ q from less. let r = cursor.before q from less in omega (arith, r);
    behind = λ q over to. elim (le_cases j (slice_index p.indices q) (cursor.behind q over to)) [
      | inl less ↦ omega arith
      | inr same ↦ absurd (none (record {
        at = q;
        in_lane = record {
          lane = lane;
          from = omega (arith, cursor.from, over);
          to = to;
        };
        index = sym same;
      }))
    ];
  }

-- the offsets of the columns are their cursors for row 0
pub first_cursors : (p : Raw) → IsValid p → AreCursors p 0 p.offsets
first_cursors p valid k lane = record {
  from = omega arith;
  to = (valid.lanes k lane).ordered;
  before = λ q from less. absurd (omega arith);
  behind = λ q from to. omega arith;
}

-- the columns of the entries of row j from entry q on have their cursors at row j, and all others
-- past it
pub record AreCursorsAt (p : Raw) (j : ℕ) (row : List ℕ) (q : ℕ) (cursors : List ℕ) : Type 0 where
  pub waiting : (r : ℕ) → q ≤ r → r < length row
      → IsCursor p j (slice_index row r) (slice_index cursors (slice_index row r))
  pub passed : (k : ℕ) → k < p.major_dim
      → ((r : ℕ) → q ≤ r → r < length row → slice_index row r ≢ k)
      → IsCursor p (j + 1) k (slice_index cursors k)

module _ {p : Raw} {j : ℕ} {row : List ℕ} (valid : IsValid p) (is : IsRowOf p j row) where
  pub cursors_start : (cursors : List ℕ) → AreCursors p j cursors → AreCursorsAt p j row 0 cursors
  cursors_start cursors h = record {
    waiting = λ r _ lt. h (slice_index row r) (is.stored r lt).in_lane.lane;
    passed = λ k lane none. cursor_stays valid lane (h k lane)
        (λ place. let at = is.all k place in none at.0 (omega arith) at.1 at.2);
  }

  -- the cursor of entry q advances
  pub cursors_more : {q : ℕ} {cursors : List ℕ} → q < length row
      → AreCursorsAt p j row q cursors → slice_index row q < length cursors
      → AreCursorsAt p j row (q + 1) (moved cursors (slice_index row q))
  unfolding moved
  cursors_more {q} {cursors} lt h inside =
      let k = slice_index row q in
      let c = slice_index cursors k in
      let here = h.waiting q (omega arith) lt in
      let lane = (is.stored q lt).in_lane.lane in
      let found = at_cursor valid lane here (is.stored q lt) in
      record {
        waiting = λ r from to.
            let up = is.rising q r (omega arith) to in
            subst (IsCursor p j (slice_index row r)) (sym (get_or-set_other cursors k
            (slice_index row r) (c + 1) 0 (λ e. omega (arith, e, up))))
            (h.waiting r (omega arith) to);
        passed = λ l l_lane none. elim (same_or_not l k) [
          | inl same ↦ subst (λ l. IsCursor p (j + 1) l (get_or (set cursors k (c + 1)) l 0))
              (sym same) (subst (IsCursor p (j + 1) k)
              (sym (get_or-set_same cursors k (c + 1) 0 inside))
              (cursor_past valid lane here found.0 found.1))
          | inr differs ↦ subst (IsCursor p (j + 1) l)
              (sym (get_or-set_other cursors k l (c + 1) 0 differs))
              (h.passed l l_lane (λ r from to. elim (le_cases q r from) [
                | inl less ↦ none r (omega arith) to
                | inr e ↦ λ found. differs (sym found ∙ ap (slice_index row) (sym e))
              ]))
        ];
      }
