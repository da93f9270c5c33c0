-- The rows of an appended column are those of the fill.
use Rattle.std.proofs.Common.{◌≡◌, ℕ, ◌+◌, ◌<◌, ◌≤◌, ◌⊎◌, ◌↔◌, List, [], ◌∷◌, ◌++◌, length}
use Rattle.std.proofs.Common.{slice_index, slice_range, Contains, length-append, sym, ◌∙◌, subst}
use Rattle.std.proofs.Common.{arith}
use Rattle.std.specs.List.Sorted.{IsStrictlyIncreasing}
use Rattle.std.proofs.lemmas.Grind.{common_steps}
use Rattle.sparse_pattern.specs.InnerGainedLanes.{GainsLane}
use Rattle.sparse_pattern.proofs.BuiltLanes.{IsBuilt, lane_gained}
use Rattle.sparse_sums.proofs.GainedLanes.{gains_same}
use Rattle.sparse_factor.specs.Fill.{Filled}
use Rattle.sparse_factor.specs.InnerChildren.{IsInTails}
use Rattle.sparse_factor.proofs.FillLaws.{low_filled}
use Rattle.sparse_factor.proofs.Merged.{AreMerged, merged_has, filled_within}

-- column j of the fill of a base is appended after the columns before it, as a lane
pub record IsAppended (base : ℕ → ℕ → Type 0) (n j : ℕ) (offsets rows lane : List ℕ) : Type 0 where
  pub built : IsBuilt n (λ k i. Filled base i k) (j + 1) offsets rows
  pub rising : IsStrictlyIncreasing lane
  pub holds : (i : ℕ) → Contains lane i ↔ Filled base i j
  pub low : (i : ℕ) → Contains lane i → j ≤ i
  pub within : (i : ℕ) → Contains lane i → i < n

slice_appended : (xs ys zs : List ℕ) → zs ≡ xs ++ ys → slice_range zs (length xs) (length zs) ≡ ys
slice_appended xs ys zs is = rw is (grind (arith, common_steps, length-append xs ys))

-- the rows after those of the columns before j are the tails of the children of column j and its
-- base rows
pub column_appended : {base : ℕ → ℕ → Type 0} {n : ℕ} {offsets rows firsts nexts : List ℕ} {j : ℕ}
    → AreMerged base n offsets rows firsts nexts j → (own : List ℕ)
    → ((i : ℕ) → Contains own i ↔ base i j) → {offsets' rows' lane : List ℕ}
    → GainsLane rows rows'
    (λ i. IsInTails offsets rows nexts (slice_index firsts j) i ⊎ Contains own i)
    → offsets' ≡ offsets ++ length rows' ∷ []
    → lane ≡ slice_range rows' (length rows) (length rows')
    → IsAppended base n j offsets' rows' lane
column_appended {base} {n} {offsets} {rows} {j = j} are own has {offsets'} {rows'} {lane} gains grown
    read =
    let fill : GainsLane rows rows' (λ i. Filled base i j) =
    gains_same (merged_has are own has) gains in
    let is : lane ≡ fill.lane = read ∙ slice_appended rows fill.lane rows' fill.pushed in
    let holds : (i : ℕ) → Contains lane i ↔ Filled base i j =
    λ i. subst (λ l. Contains l i ↔ Filled base i j) (sym is) (fill.holds i) in
    record {
      built = lane_gained n (λ k i. Filled base i k) j offsets offsets' rows rows' are.built
          (λ i f. filled_within are i j f) fill grown;
      rising = subst IsStrictlyIncreasing (sym is) fill.rising;
      holds = holds;
      low = λ i h. low_filled base are.low ((holds i).0 h);
      within = λ i h. filled_within are i j ((holds i).0 h);
    }
