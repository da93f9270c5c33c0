-- A column of L is gathered from the scratch column.
use Rattle.std.proofs.Common.{◌≡◌, ◌≢◌, ℕ, ◌+◌, ◌<◌, ◌≤◌, inl, inr, List, length, get_or, set, ap}
use Rattle.std.proofs.Common.{slice_index, sym, ◌∙◌, arith, get_or-set_same}
use Rattle.std.proofs.Common.{get_or-set_other, length-set}
use Rattle.std.proofs.lemmas.List.{get_or_default}
use Rattle.sparse_algebra.proofs.Cases.{lt_add_one_cases}
use Rattle.sparse_algebra.specs.Algebra.{CommRing}
use Rattle.sparse_pattern.specs.Raw.{Raw, start_of, end_of, IsValidLane}
use Rattle.sparse_pattern.proofs.PatternLanes.{rises_at}

module _ (R : CommRing) {T : Type 0} (f : T → R.Carrier) (z : T) where
  -- the entries of column j before offset `at` are gathered from x, times e; the others of `new`
  -- are those of `old`
  pub record AreGathered (p : Raw) (j : ℕ) (e : R.Carrier) (at : ℕ) (old new x y : List T) : Type 0
    where
      pub count : length new ≡ length old
      pub same : length y ≡ length x
      pub gathered : (q : ℕ) → start_of p j ≤ q → q < at
          → f (get_or new q z) ≡ R.mul (f (get_or x (slice_index p.indices q) z)) e
      pub before : (q : ℕ) → q < start_of p j → get_or new q z ≡ get_or old q z
      pub behind : (q : ℕ) → at ≤ q → get_or new q z ≡ get_or old q z
      pub cleared : (q : ℕ) → start_of p j ≤ q → q < at
          → get_or y (slice_index p.indices q) z ≡ z
      pub kept : (i : ℕ)
          → ((q : ℕ) → start_of p j ≤ q → q < at → slice_index p.indices q ≢ i)
          → get_or y i z ≡ get_or x i z

module _ {R : CommRing} {T : Type 0} {f : T → R.Carrier} {z : T} {p : Raw} {j : ℕ}
    {e : R.Carrier} {at : ℕ} {old new x y : List T} (h : AreGathered R f z p j e at old new x y)
    (lane : IsValidLane p j) (from_start : start_of p j ≤ at) (to_end : at < end_of p j) where
  abbrev row : ℕ
  row = slice_index p.indices at

  other_row : (q : ℕ) → start_of p j ≤ q → q < at → slice_index p.indices q ≢ row
  other_row q from less same =
      let r = rises_at p j lane q at from less to_end in omega (arith, r, same)

  -- the element u of the scratch column is stored at offset `at`
  pub gathered_next : {u v : T} → length old ≡ length p.indices → length x ≡ p.minor_dim
      → u ≡ get_or y row u → f v ≡ R.mul (f u) e
      → AreGathered R f z p j e (at + 1) old (set new at v) x (set y row z)
  gathered_next {u} {v} full long read is =
      let bound = lane.bounded at from_start to_end in
      let at_in : at < length new = omega (arith, to_end, lane.inside, h.count, full) in
      let row_in : row < length y = omega (arith, bound, h.same, long) in
      let entry : u ≡ get_or x row z =
      read ∙ get_or_default y row u z row_in ∙ h.kept row other_row in
      record {
        count = length-set new at v ∙ h.count;
        same = length-set y row z ∙ h.same;
        gathered = λ q from less. elim (lt_add_one_cases q at less) [
          | inl under ↦ ap f (get_or-set_other new at q v z (λ same. omega (arith, same, under)))
              ∙ h.gathered q from under
          | inr is_at ↦ ap (λ q. f (get_or (set new at v) q z)) is_at
              ∙ ap f (get_or-set_same new at v z at_in) ∙ is ∙ ap (λ u. R.mul (f u) e) entry
              ∙ ap (λ q. R.mul (f (get_or x (slice_index p.indices q) z)) e) (sym is_at)
        ];
        before = λ q less. get_or-set_other new at q v z
            (λ same. omega (arith, same, less, from_start)) ∙ h.before q less;
        behind = λ q over. get_or-set_other new at q v z (λ same. omega (arith, same, over))
            ∙ h.behind q (omega arith);
        cleared = λ q from less. elim (lt_add_one_cases q at less) [
          | inl under ↦ get_or-set_other y row (slice_index p.indices q) z z
              (other_row q from under) ∙ h.cleared q from under
          | inr is_at ↦ ap (λ q. get_or (set y row z) (slice_index p.indices q) z) is_at
              ∙ get_or-set_same y row z z row_in
        ];
        kept = λ i none. get_or-set_other y row i z z
            (λ same. none at from_start (omega arith) (sym same))
            ∙ h.kept i (λ q from less. none q from (omega arith));
      }
