-- A valid lane, as a list of indices and by its offsets.
use Rattle.std.proofs.Common.{◌≡◌, ℕ, zero, suc, ◌+◌, ◌-◌, ◌<◌, ◌≤◌, length, get_or, subst, arith}
use Rattle.std.proofs.lemmas.Grind.{common_steps}
use Rattle.std.proofs.lemmas.List.Edits.{length-between}
use Rattle.sparse_pattern.specs.Raw.{Raw, start_of, end_of, lane_of, IsValidLane}

module _ (d : Raw) (i : ℕ) (valid : IsValidLane d i) where
  pub length-lane : length (lane_of d i) ≡ end_of d i - start_of d i
  length-lane = length-between _ _ _ valid.inside

  pub get_or-lane : (k : ℕ) → k < length (lane_of d i)
      → get_or (lane_of d i) k 0 ≡ get_or d.indices (start_of d i + k) 0
  get_or-lane k lt =
      let room : k < end_of d i - start_of d i = omega (arith, length-lane) in
      grind (arith, common_steps, room)

  -- the indices of a lane increase with the offset
  pub offsets_rise : (p n : ℕ) → start_of d i ≤ p → p + suc n < end_of d i
      → get_or d.indices p 0 < get_or d.indices (p + suc n) 0
  offsets_rise p zero from to =
      let e : p + 1 - 1 ≡ p = omega arith in
      let step = valid.rising (p + 1) (omega arith) to in
      subst (λ q. get_or d.indices q 0 < get_or d.indices (p + 1) 0) e step
  offsets_rise p (suc n) from to =
      let e : p + suc (suc n) - 1 ≡ p + suc n = omega arith in
      let step = valid.rising (p + suc (suc n)) (omega arith) to in
      let before = offsets_rise p n from (omega arith) in
      let step' = subst (λ q. get_or d.indices q 0 < get_or d.indices (p + suc (suc n)) 0) e step in
      omega arith

  pub rises_at : (p q : ℕ) → start_of d i ≤ p → p < q → q < end_of d i
      → get_or d.indices p 0 < get_or d.indices q 0
  rises_at p q from lt to =
      let e : p + suc (q - p - 1) ≡ q = omega arith in
      subst (λ r. get_or d.indices p 0 < get_or d.indices r 0) e
      (offsets_rise p (q - p - 1) from (omega arith))

  pub lane_rises : (a b : ℕ) → a < b → b < length (lane_of d i)
      → get_or (lane_of d i) a 0 < get_or (lane_of d i) b 0
  lane_rises a b lt in_lane =
      rw (get_or-lane a (omega arith), get_or-lane b in_lane)
      (rises_at (start_of d i + a) (start_of d i + b) (omega arith) (omega arith)
      (omega (arith, length-lane)))
