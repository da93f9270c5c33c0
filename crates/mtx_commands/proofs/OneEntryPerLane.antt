-- The pattern of a list of triplets as the product of two patterns with one entry in each lane.
use Rattle.std.proofs.Common.{◌≡◌, ℕ, ◌+◌, ◌<◌, ◌↔◌, List, All, length, map, slice_index}
use Rattle.std.proofs.Common.{sym, ap, ◌∙◌, arith}
use Rattle.std.proofs.lemmas.List.{length-map}
use Rattle.std.proofs.lemmas.List.Elements.{All-map}
use Rattle.nalgebra_sparse.specs.Raw.{Raw, raw_of, IsInLane, IsEntry}
use Rattle.nalgebra_sparse.specs.TransposedPattern.{IsTransposedPattern}
use Rattle.nalgebra_sparse.specs.Products.{IsProductOf}
use Rattle.nalgebra_sparse.specs.Coo.{Coo, IsInside}
use Rattle.mtx_commands.specs.TripletPatterns.{HasTriplet, HasOneEntryPerLane, AreNumbersTo}

-- ---- a pattern whose lane k has one entry, at element k of a list

module _ (n m : ℕ) (offsets indices : List ℕ) (numbers : AreNumbersTo offsets n)
    (size : length indices ≡ n) where
  in_lane : (k : ℕ) → k < n → IsInLane (raw_of n m offsets indices) k k
  in_lane k lt = record {
    lane = lt;
    from = omega (arith, numbers.each k (omega arith));
    to = omega (arith, numbers.each (k + 1) (omega arith));
  }

  pub has_one_entry_per_lane : HasOneEntryPerLane (raw_of n m offsets indices) indices
  has_one_entry_per_lane k i = (
    λ place.
        let at = place.in_lane in
        let here : place.at ≡ k = omega (
          arith,
          at.lane,
          at.from,
          at.to,
          numbers.each k (omega (arith, at.lane)),
          numbers.each (k + 1) (omega (arith, at.lane)),
        ) in
        (omega (arith, at.lane, size), ap (slice_index indices) (sym here) ∙ place.index),
    λ h. record { at = k; in_lane = in_lane k (omega (arith, h.0, size)); index = h.1 },
  )

-- ---- the entries of the product are the rows and columns of the triplets

module _ {T : Type 0} (m : Coo T) where
  pub rows_inside : IsInside m → All (λ i. i < m.nrows) (map (λ t. t.0) m.triplets)
  rows_inside inside = All-map (λ i. i < m.nrows) (λ t. t.0) m.triplets
      (λ k d lt. (inside k d lt).0)

  pub columns_inside : IsInside m → All (λ j. j < m.ncols) (map (λ t. t.1) m.triplets)
  columns_inside inside = All-map (λ j. j < m.ncols) (λ t. t.1) m.triplets
      (λ k d lt. (inside k d lt).1)

  pub triplets_placed : (p columns transposed rows : Raw)
      → HasOneEntryPerLane columns (map (λ t. t.1) m.triplets)
      → HasOneEntryPerLane rows (map (λ t. t.0) m.triplets)
      → IsTransposedPattern columns transposed → IsProductOf p transposed rows
      → (i j : ℕ) → IsEntry p j i ↔ HasTriplet m i j
  triplets_placed p columns transposed rows of_columns of_rows is_transposed product i j = (
    λ place.
        let (k, left, right) = (product j i).0 place in
        let column = (of_columns k j).0 ((is_transposed.entries k j).0 left) in
        let row = (of_rows k i).0 right in
        record {
          at = k;
          within = omega (arith, row.0, length-map m.triplets (λ t. t.0));
          row = row.1;
          column = column.1;
        },
    λ h.
        let left = (of_columns h.at j).1
        (omega (arith, h.within, length-map m.triplets (λ t. t.1)), h.column) in
        let right = (of_rows h.at i).1
        (omega (arith, h.within, length-map m.triplets (λ t. t.0)), h.row) in
        (product j i).1 (h.at, (is_transposed.entries h.at j).1 left, right),
  )
