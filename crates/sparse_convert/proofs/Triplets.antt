-- Triplets as three lists of the same length, and their lanes.
use Rattle.std.proofs.Common.{◌≡◌, ℕ, ◌+◌, ◌<◌, ◌≤◌, inl, inr, Bool, eqb, List, [], ◌∷◌, ◌++◌}
use Rattle.std.proofs.Common.{length, take, map, filter, get_or, slice_index, All, IsPermutation}
use Rattle.std.proofs.Common.{refl, ap, sym, ◌∙◌, arith}
use Rattle.std.specs.List.{AllPairs, list_any}
use Rattle.std.specs.List.Sorted.{IsNonDecreasing, IsNonDecreasingBy}
use Rattle.std.proofs.lemmas.List.{get_or-map, get_or_default, length-map}
use Rattle.std.proofs.lemmas.List.Elements.{All-filter, All-map, filter_passes}
use Rattle.std.proofs.lemmas.List.Kept.{AllPairs-filter}
use Rattle.std.proofs.lemmas.List.Sorted.{list_any-IsPermutation}
use Rattle.sparse_algebra.proofs.Cases.{lt_or_ge}
use Rattle.sparse_algebra.specs.Algebra.{CommRing}
use Rattle.sparse_algebra.specs.Sums.{where_true}
use Rattle.sparse_algebra.specs.Plain.{is_at, plain_of_triplets}
use Rattle.sparse_algebra.proofs.SumLemmas.{sum_by-permutation, sum_by-same}
use Rattle.sparse_algebra.proofs.PlainLemmas.{same_plain}
use Rattle.sparse_coo_dense.proofs.TripletLists.{bounded, length-triplets, row_at, rows-zip}
use Rattle.sparse_coo_dense.proofs.TripletLists.{triplet_at}
use Rattle.sparse_compressed.proofs.Arrays.{value_at}
use Rattle.sparse_convert.specs.declared.borrowed.Triplets.{Triplets}
use Rattle.sparse_convert.specs.InnerTripletLists.{list_of}
use Rattle.sparse_convert.specs.InnerTripletLanes.{LanesStrictlyIncrease, entries_of_lane}
use Rattle.sparse_convert.specs.InnerTripletLanes.{triplets_of_lane, index_sum, plain_of_lanes}
use Rattle.sparse_convert.proofs.ByKey.{no_element, same_key, sorted-map}
use Rattle.sparse_convert.proofs.Folds.{any-filter, any-map, sum_by-filter, sum_by-map, where_and}
use Rattle.sparse_convert.proofs.IndexSums.{has_index}

module _ {T : Type 0} (l : Triplets T) where
  abbrev majors : List ℕ
  majors = l.majors.now

  abbrev minors : List ℕ
  minors = l.minors.now

  abbrev ts : List (ℕ × ℕ × T)
  ts = list_of l

  pub triplet_count : length ts ≡ length majors
  triplet_count = length-triplets majors minors l.values.now l.lists.row_count l.lists.col_count
      ∙ sym l.lists.row_count

  pub majors_back : map (λ (t : ℕ × ℕ × T). t.0) ts ≡ majors
  majors_back = rows-zip majors minors l.values.now l.lists.row_count l.lists.col_count

  -- one more triplet
  pub next_triplet : (p : ℕ) (v : T) → p < length majors → v ≡ get_or l.values.now p v
      → take (p + 1) ts ≡ take p ts ++ (slice_index majors p, slice_index minors p, v) ∷ []
  next_triplet p v lt is = triplet_at majors minors l.values.now p (slice_index majors p)
      (slice_index minors p) v l.lists.row_count l.lists.col_count
      (omega (arith, l.lists.row_count))
      (get_or_default majors p 0 (slice_index majors p) lt)
      (get_or_default minors p 0 (slice_index minors p)
      (omega (arith, l.lists.row_count, l.lists.col_count))) is

  -- the indices of a triplet
  indices_at : (k : ℕ) (t : ℕ × ℕ × T) → k < length ts
      → ((get_or ts k t).0 ≡ slice_index majors k) × ((get_or ts k t).1 ≡ slice_index minors k)
  indices_at k t lt = row_at majors minors l.values.now k t l.lists.row_count l.lists.col_count
      (omega (arith, triplet_count, l.lists.row_count))

  pub all_inside : All (λ t. (t.0 < l.major_dim) × (t.1 < l.minor_dim)) ts
  all_inside = bounded l.major_dim l.minor_dim majors minors l.values.now l.lists

  -- no triplet is in a lane at or above the bound
  pub lane_past : (i : ℕ) → l.major_dim ≤ i → triplets_of_lane ts i ≡ []
  lane_past i le = ap (map (λ (t : ℕ × ℕ × T). (t.1, t.2)))
      (no_element (λ t. t.0) l.major_dim i ts le (λ k t lt. (all_inside k t lt).0))

  pub lane_below : (i : ℕ) → All (λ e. e.0 < l.minor_dim) (triplets_of_lane ts i)
  lane_below i = All-map (λ e. e.0 < l.minor_dim) (λ t. (t.1, t.2))
      (filter (λ t. eqb t.0 i) ts) (All-filter (λ t. eqb t.0 i) (λ t. t.1 < l.minor_dim) ts
      (λ k d lt. (all_inside k d lt).1))

  -- a relation between the minor indices of any two triplets of a lane holds between those of its
  -- entries
  lane_pairs : (P : ℕ → ℕ → Type 0)
      → ((p q : ℕ) → p < q → q < length majors → slice_index majors p ≡ slice_index majors q
      → P (slice_index minors p) (slice_index minors q))
      → (i : ℕ) → AllPairs (λ t u. P t.1 u.1) (filter (λ t. eqb t.0 i) ts)
  lane_pairs P related i p q d lt within =
      let test : ℕ × ℕ × T → Bool = λ t. eqb t.0 i in
      let lane = filter test ts in
      let S : ℕ × ℕ × T → ℕ × ℕ × T → Type 0 = λ t u. t.0 ≡ u.0 → P t.1 u.1 in
      let pairs : AllPairs S ts = λ p q d lt within same.
      let a = indices_at p d (omega arith) in
      let b = indices_at q d within in
      rw (a.1, b.1) (related p q lt (omega (arith, triplet_count)) (sym a.0 ∙ same ∙ b.0)) in
      let passes = λ (k : ℕ) (lt : k < length lane).
      same_key (get_or lane k d).0 i (filter_passes test ts k d lt) in
      AllPairs-filter S test ts pairs p q d lt within
      (passes p (omega arith) ∙ sym (passes q within))

  -- if the minor indices never decrease, each lane is sorted
  pub lane_sorted : IsNonDecreasing minors → (i : ℕ)
      → IsNonDecreasingBy (λ e. e.0) (triplets_of_lane ts i)
  lane_sorted up i = sorted-map (λ e. e.0) (λ t. (t.1, t.2)) (filter (λ t. eqb t.0 i) ts)
      (λ p q d le within. elim (lt_or_ge p q) [
        | inl lt ↦ lane_pairs (λ a b. a ≤ b)
            (λ p q lt within same. up p q 0 (omega arith)
            (omega (arith, l.lists.row_count, l.lists.col_count)))
            i p q d lt within
        | inr ge ↦
            let e : p ≡ q = omega arith in
            omega (arith, ap (λ k. (get_or (filter (λ t. eqb t.0 i) ts) k d).1) e)
      ])

  -- if the minor indices of each lane's triplets are strictly increasing, those of its entries are
  pub lane_strictly_increases : LanesStrictlyIncrease majors minors → (i : ℕ)
      → AllPairs (λ e o. e.0 < o.0) (triplets_of_lane ts i)
  lane_strictly_increases increasing i p q d lt within =
      let lane = filter (λ t. eqb t.0 i) ts in
      let pair : ℕ × ℕ × T → ℕ × T = λ t. (t.1, t.2) in
      let size = length-map lane pair in
      let u : ℕ × ℕ × T = (i, d.0, d.1) in
      omega (
        arith,
        ap (λ e. e.0) (get_or-map pair lane p u d (omega arith)),
        ap (λ e. e.0) (get_or-map pair lane q u d (omega arith)),
        lane_pairs (λ a b. a < b) increasing i p q u lt (omega arith),
      )

-- a lane has an index exactly if a triplet has that row and column
pub lane_has : {T : Type 0} (i j : ℕ) (ts : List (ℕ × ℕ × T))
    → has_index j (triplets_of_lane ts i) ≡ list_any (is_at i j) ts
lane_has i j ts = any-map (λ e. eqb e.0 j) (λ t. (t.1, t.2)) (filter (λ t. eqb t.0 i) ts)
    ∙ any-filter (λ t. eqb t.1 j) (λ t. eqb t.0 i) ts

module _ (R : CommRing) {T : Type 0} (f : T → R.Carrier) where
  -- the sum over the entries of a lane with an index is the sum over the triplets with that row and
  -- column
  pub lane_sum : (i j : ℕ) (ts : List (ℕ × ℕ × T))
      → index_sum R f (triplets_of_lane ts i) j ≡ value_at R f ts i j
  lane_sum i j ts =
      sum_by-map R (λ e. where_true R (eqb e.0 j) (f e.1)) (λ t. (t.1, t.2))
      (filter (λ t. eqb t.0 i) ts)
      ∙ sum_by-filter R (λ t. where_true R (eqb t.1 j) (f t.2)) (λ t. eqb t.0 i) ts
      ∙ sum_by-same R _ _ (λ t. sym (where_and R (eqb t.0 i) (eqb t.1 j) (f t.2))) ts

  -- lanes of the triplets of each row, in any order, have the plain matrix of the triplets
  pub lanes_represent : (rows cols : ℕ) (offsets : List ℕ) (entries : List (ℕ × T))
      (ts : List (ℕ × ℕ × T))
      → ((i : ℕ) → IsPermutation (triplets_of_lane ts i) (entries_of_lane offsets entries i))
      → plain_of_lanes R f rows cols offsets entries ≡ plain_of_triplets R f rows cols ts
  lanes_represent rows cols offsets entries ts moved =
      same_plain (plain_of_lanes R f rows cols offsets entries) (plain_of_triplets R f rows cols ts)
      refl refl
      (λ i j. sym (list_any-IsPermutation (λ e. eqb e.0 j) (triplets_of_lane ts i)
      (entries_of_lane offsets entries i) (moved i)) ∙ lane_has i j ts)
      (λ i j. sym (sum_by-permutation R (λ e. where_true R (eqb e.0 j) (f e.1))
      (triplets_of_lane ts i) (entries_of_lane offsets entries i) (moved i)) ∙ lane_sum i j ts)
