-- The first value that is not zero, and the first difference of two matrices, row by row.
-- - `none_before`, `one_more`: the triplets before the rest are zero, while they are searched
-- - `first_found`, `all_zero`: what the search has found
-- - `difference_found`, `asymmetry_found`: the first value of a difference that is not zero, of two matrices and of a
--   matrix and its transpose
use Rattle.std.proofs.Common.{Bool, true, false, not}
use Rattle.std.proofs.Common.{◌≡◌, ℕ, zero, suc, ◌+◌, ◌-◌, ◌<◌, inl, inr, Option, Some, None, All, List}
use Rattle.std.proofs.Common.{[], ◌∷◌, ◌++◌, length, get_or, slice_index, slice_index_or, refl, sym, ap, subst, ◌∙◌}
use Rattle.std.proofs.Common.{append-nil, append_assoc, length-append, arith}
use Rattle.std.specs.Prelude.{MatchOption}
use Rattle.std.proofs.lemmas.Bool.{cases_Bool}
use Rattle.std.proofs.lemmas.List.{get_or_append_left, get_or-append_right}
use Rattle.std.proofs.lemmas.List.Elements.{All-nil, All-push}
use Rattle.sparse_algebra.proofs.Cases.{three}
use Rattle.sparse_algebra.proofs.RingLemmas.{cancel}
use Rattle.sparse_algebra.specs.Algebra.{CommRing}
use Rattle.sparse_algebra.specs.Plain.{Plain, plain_difference, plain_transpose}
use Rattle.sparse_pattern.specs.Raw.{Raw, IsInLane, IsValid, Precedes, entries_of}
use Rattle.sparse_pattern.proofs.LaneOrder.{length-entries}
use Rattle.sparse_pattern.proofs.OffsetsInLanes.{lane_of_offset, starts_ordered}
use Rattle.sparse_pattern.proofs.PatternLanes.{rises_at}
use Rattle.sparse_compressed.specs.Compressed.{Compressed, IsOffset, IsSound, lane_triplets, zip_values}
use Rattle.sparse_compressed.specs.PlainOfLanes.{plain_of_rows}
use Rattle.sparse_compressed.proofs.Arrays.{entry_at}
use Rattle.sparse_compressed.proofs.ArraysDeterminePlain.{plain_of_rows-has_lanes}
use Rattle.sparse_compressed.proofs.TripletBounds.{zip-pair, length-lane_triplets}
use Rattle.sparse_dense_ops.specs.Solutions.{HasSameValues}
use Rattle.mtxkit_matrices.specs.Differences.{IsFirstDifference, IsFirstAsymmetry}
use Rattle.mtxkit_matrices.specs.InnerNonzeros.{IsFirstNonzero, IsZeroBefore}
use Rattle.mtxkit_matrices.specs.Values.{AllZero, IsSymmetricMatrix}
use Rattle.mtxkit_matrices.specs.declared.coordinates.Coordinates.{Coordinates}
use Rattle.mtxkit_matrices.proofs.ZeroValues.{same_of_zero, zero_values}

-- ---- the search

module _ (R : CommRing) {T : Type 0} (f : T → R.Carrier) where
  abbrev IsZero : ℕ × ℕ × T → Type 0
  IsZero t = f t.2 ≡ R.zero

  pub none_before : (all first : List (ℕ × ℕ × T)) → first ≡ all → IsZeroBefore R f all first
  none_before all first same = record { before = []; split = sym same; zeros = All-nil IsZero }

  pub one_more : (all rest more : List (ℕ × ℕ × T)) (t : ℕ × ℕ × T) → rest ≡ t ∷ more
      → f t.2 ≡ R.zero → IsZeroBefore R f all rest → IsZeroBefore R f all more
  one_more all rest more t next here kept = record {
    before = kept.before ++ t ∷ [];
    split = kept.split ∙ ap (λ ts. kept.before ++ ts) next
        ∙ sym (append_assoc kept.before (t ∷ []) more);
    zeros = All-push IsZero kept.before t kept.zeros here;
  }

pub not_both : (b : Bool) → b ≡ true → true ≡ not b → ⊥
not_both true h k = cc
not_both false h k = cc

pub is_true : (b : Bool) → false ≡ not b → b ≡ true
is_true true h = refl
is_true false h = cc

zip-value : {T : Type 0} (ps : List (ℕ × ℕ)) (vs : List T) (k : ℕ) (t : ℕ × ℕ × T) (z : T)
    → length ps ≡ length vs → k < length vs
    → (get_or (zip_values ps vs) k t).2 ≡ slice_index_or vs k z
zip-value [] [] k t z e lt = absurd (omega arith)
zip-value [] (v ∷ vs) k t z e lt = absurd (omega arith)
zip-value (p ∷ ps) [] k t z e lt = absurd (omega arith)
zip-value (p ∷ ps) (v ∷ vs) zero t z e lt = refl
zip-value (p ∷ ps) (v ∷ vs) (suc k) t z e lt =
    zip-value ps vs k t z (omega arith) (omega arith)

-- an entry that precedes another one, lane by lane, has a smaller offset
earlier_offset : (d : Raw) → IsValid d → (i j p row col q : ℕ) → IsOffset d i j p
    → IsOffset d row col q → Precedes (i, j) (row, col) → p < q
earlier_offset d valid i j p row col q first next (inl lt) =
    let after = starts_ordered d valid (i + 1) row (omega arith) (omega (arith, next.0.lane)) in
    omega (arith, first.0.to, after, next.0.from)
earlier_offset d valid i j p row col q first next (inr same) =
    let here = subst (λ l. IsInLane d l p) same.0 first.0 in
    let lane = valid.lanes row next.0.lane in
    elim (three p q) [
      | inl lt ↦ lt
      | inr more ↦ elim more [
        | inl gt ↦
            let rises = rises_at d row lane q p next.0.from gt here.to in
            absurd (omega (arith, rises, first.1, next.1, same.1))
        | inr e ↦
            let index : j ≡ col = sym first.1 ∙ ap (slice_index d.indices) e ∙ next.1 in
            absurd (omega (arith, index, same.1))
      ]
    ]

module _ (R : CommRing) {T : Type 0} (f : T → R.Carrier) (z : T) (m : Compressed T)
    (sound : IsSound m) where
  abbrev d : Raw
  d = m.pattern

  counted : length (entries_of d) ≡ length m.values
  counted = length-entries d sound.valid ∙ sym sound.count

  -- the triplet with the number k is the entry at the offset k
  record IsTriplet (k : ℕ) (t : ℕ × ℕ × T) : Type 0 where
    offset : IsOffset d t.0 t.1 k
    value : t.2 ≡ slice_index_or m.values k z

  triplet_at : (k : ℕ) (t : ℕ × ℕ × T) → k < length m.values
      → IsTriplet k (get_or (lane_triplets m) k t)
  triplet_at k t within =
      let at = lane_of_offset d sound.valid k (omega (arith, within, sound.count)) in
      let entry = entry_at d sound.valid at.0 k at.1 in
      let pair = zip-pair (entries_of d) m.values k t counted within in
      record {
        offset = (
          subst (λ l. IsInLane d l k) (sym (pair.0 ∙ ap (λ p. p.0) entry)) at.1,
          sym (pair.1 ∙ ap (λ p. p.1) entry),
        );
        value = zip-value (entries_of d) m.values k t z counted within;
      }

  module _ (before more : List (ℕ × ℕ × T)) (t : ℕ × ℕ × T)
      (split : lane_triplets m ≡ before ++ t ∷ more) (zeros : All (λ u. f u.2 ≡ R.zero) before)
    where
      within : length before < length m.values
      within =
          let long : length (lane_triplets m) ≡ length before + length (t ∷ more) =
          ap length split ∙ length-append before (t ∷ more) in
          omega (arith, long, length-lane_triplets m sound)

      here : get_or (lane_triplets m) (length before) t ≡ t
      here =
          let none : length before - length before ≡ 0 = omega arith in
          ap (λ ts. get_or ts (length before) t) split
          ∙ get_or-append_right before (t ∷ more) (length before) (length before) t refl (omega arith)
          ∙ ap (λ q. get_or (t ∷ more) q t) none

      found : IsTriplet (length before) t
      found = subst (IsTriplet (length before)) here (triplet_at (length before) t within)

      zero_at : (q : ℕ) → q < length before → f (slice_index_or m.values q z) ≡ R.zero
      zero_at q lt =
          let inside : q < length m.values = omega (arith, lt, within) in
          ap f (sym (triplet_at q t inside).value)
          ∙ ap (λ ts. f (get_or ts q t).2) split
          ∙ ap (λ (u : ℕ × ℕ × T). f u.2) (get_or_append_left before (t ∷ more) t q lt) ∙ zeros q t lt

      first_nonzero : (f t.2 ≡ R.zero → ⊥) → IsFirstNonzero R (plain_of_rows R f m) t.0 t.1
      first_nonzero nonzero =
          let have = plain_of_rows-has_lanes R f m sound in
          let lane = sound.valid.lanes t.0 found.offset.0.lane in
          record {
            row_inside = found.offset.0.lane;
            col_inside = subst (λ c. c < d.minor_dim) found.offset.1
                (lane.bounded (length before) found.offset.0.from found.offset.0.to);
            nonzero = λ zero. nonzero (ap f found.value
                ∙ have.values t.0 t.1 (length before) z found.offset ∙ zero);
            before = λ i j earlier. elim (cases_Bool ((plain_of_rows R f m).has i j)) [
              | inl is ↦
                  let place = (have.places i j).1 is in
                  let at : IsOffset d i j place.at = (place.in_lane, place.index) in
                  sym (have.values i j place.at z at) ∙ zero_at place.at
                  (earlier_offset d sound.valid i j place.at t.0 t.1 (length before) at found.offset
                  earlier)
              | inr not ↦ have.proper i j not
            ];
          }

  pub first_found : (rest more : List (ℕ × ℕ × T)) (t : ℕ × ℕ × T) → rest ≡ t ∷ more
      → (f t.2 ≡ R.zero → ⊥) → IsZeroBefore R f (lane_triplets m) rest
      → IsFirstNonzero R (plain_of_rows R f m) t.0 t.1
  first_found rest more t next nonzero kept =
      first_nonzero kept.before more t (kept.split ∙ ap (λ ts. kept.before ++ ts) next) kept.zeros
      nonzero

  pub all_zero : (rest : List (ℕ × ℕ × T)) → rest ≡ [] → IsZeroBefore R f (lane_triplets m) rest
      → AllZero R (plain_of_rows R f m)
  all_zero rest none kept =
      let every : lane_triplets m ≡ kept.before =
      kept.split ∙ ap (λ ts. kept.before ++ ts) none ∙ append-nil kept.before in
      let long = ap length every in
      zero_values R f z m sound (λ k within.
      let inside : k < length kept.before =
      omega (arith, within, long, length-lane_triplets m sound) in
      elim kept.before as (λ (ts : List (ℕ × ℕ × T)). lane_triplets m ≡ ts → k < length ts
      → All (λ u. f u.2 ≡ R.zero) ts → f (slice_index_or m.values k z) ≡ R.zero) [
        | [] ↦ λ _ lt _. absurd (omega (arith, lt))
        | t ∷ ts ↦ λ is lt zeros. ap f (sym (triplet_at k t within).value)
            ∙ ap (λ us. f (get_or us k t).2) is ∙ zeros k t lt
      ] every inside kept.zeros)

-- ---- differences

module _ (R : CommRing) (a b d : Plain R) (is : d ≡ plain_difference R a b) (n m : ℕ)
    (rows : a.rows ≡ n) (cols : a.cols ≡ m) where
  first_difference : (row col : ℕ) → IsFirstNonzero R d row col
      → IsFirstDifference R n m a b row col
  first_difference row col first = record {
    row_inside = omega (arith, first.row_inside, ap (λ (p : Plain R). p.rows) is, rows);
    col_inside = omega (arith, first.col_inside, ap (λ (p : Plain R). p.cols) is, cols);
    differs = λ same. first.nonzero (ap (λ (p : Plain R). p.value row col) is
        ∙ ap (λ v. R.add v (R.neg (b.value row col))) same ∙ R.laws.add_neg (b.value row col));
    before = λ i j _ _ earlier.
        cancel R (a.value i j) (b.value i j) (R.neg (b.value i j))
        (sym (ap (λ (p : Plain R). p.value i j) is) ∙ first.before i j earlier
        ∙ sym (R.laws.add_neg (b.value i j)));
  }

  pub difference_found : (found : Option Coordinates)
      → MatchOption found (AllZero R d) (λ at. IsFirstNonzero R d at.row at.col)
      → MatchOption found (HasSameValues R n m a b)
      (λ at. IsFirstDifference R n m a b at.row at.col)
  difference_found None zeros = same_of_zero R a b d is zeros n m
  difference_found (Some at) first = first_difference at.row at.col first

module _ (R : CommRing) (a t : Plain R) (is : t ≡ plain_transpose R a) (square : a.cols ≡ a.rows)
  where
    pub asymmetry_found : (found : Option Coordinates)
        → MatchOption found (HasSameValues R a.rows a.cols a t)
        (λ at. IsFirstDifference R a.rows a.cols a t at.row at.col)
        → MatchOption found (IsSymmetricMatrix R a)
        (λ at. IsFirstAsymmetry R a at.row at.col)
    asymmetry_found None same = record {
      square = square;
      values = λ i j row col. same i j row (omega (arith, col, square))
          ∙ ap (λ (p : Plain R). p.value i j) is;
    }
    asymmetry_found (Some at) first =
        subst (λ (p : Plain R). IsFirstDifference R a.rows a.cols a p at.row at.col) is first
