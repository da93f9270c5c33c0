-- Lane j of a transposed pattern lists the columns that have row j.
use Rattle.std.proofs.Common.{◌≡◌, ℕ, ◌+◌, ◌-◌, ◌<◌, length, slice_index, ap}
use Rattle.std.proofs.Common.{◌∙◌, arith}
use Rattle.std.proofs.lemmas.List.Elements.{Contains-get_or}
use Rattle.sparse_pattern.specs.Raw.{Raw, start_of, lane_of, IsEntry, IsValid}
use Rattle.sparse_pattern.specs.TransposedPattern.{IsTransposedPattern}
use Rattle.sparse_pattern.proofs.LaneLists.{lane_has}
use Rattle.sparse_pattern.proofs.PatternLanes.{length-lane, get_or-lane, lane_rises}
use Rattle.sparse_factor.specs.InnerFactors.{IsRowOf}

pub lane_is_row : (p t : Raw) → IsTransposedPattern p t → IsValid t → (j : ℕ) → j < t.major_dim
    → IsRowOf p j (lane_of t j)
lane_is_row p t transposed valid j lt =
    let lane = valid.lanes j lt in
    record {
      rising = λ q r less within. lane_rises t j lane q r less within;
      stored = λ q within. (transposed.entries (slice_index (lane_of t j) q) j).0
          ((lane_has t valid j (slice_index (lane_of t j) q) lt).0
          (Contains-get_or (lane_of t j) q 0 within));
      all = λ k place.
          let there : IsEntry t j k = (transposed.entries k j).1 place in
          let q = there.at - start_of t j in
          let back : start_of t j + q ≡ there.at = omega (arith, there.in_lane.from) in
          let within : q < length (lane_of t j) =
          omega (arith, there.in_lane.to, back, length-lane t j lane) in (
            q,
            within,
            get_or-lane t j lane q within ∙ ap (slice_index t.indices) back
                ∙ there.index,
          );
    }
