-- The values of a pattern, updated lane by lane.
use Rattle.std.proofs.Common.{◌≡◌, ℕ, ◌+◌, ◌-◌, ◌<◌, ◌≤◌, ◌⊎◌, inl, inr, List, length, get_or, ap}
use Rattle.std.proofs.Common.{sym, subst, ◌∙◌, refl, arith}
use Rattle.sparse_algebra.proofs.Cases.{lt_or_ge, lt_add_one_cases}
use Rattle.sparse_algebra.specs.Algebra.{CommRing}
use Rattle.sparse_pattern.specs.Raw.{Raw, start_of, end_of, lane_of, IsInLane, IsValid, IsValidLane}
use Rattle.sparse_pattern.proofs.PatternLanes.{length-lane, get_or-lane}
use Rattle.sparse_pattern.proofs.OffsetsInLanes.{one_lane}
use Rattle.sparse_compressed.specs.Compressed.{IsOffset}

-- the entry of lane i at the offset p is the k-th of the lane
pub record IsAt (d : Raw) (i j p k : ℕ) : Type 0 where
  pub within : k < length (lane_of d i)
  pub back : start_of d i + k ≡ p
  pub index : get_or (lane_of d i) k 0 ≡ j

pub at_offset : (d : Raw) (i j p : ℕ) → IsValidLane d i → IsOffset d i j p
    → IsAt d i j p (p - start_of d i)
at_offset d i j p valid at =
    let k = p - start_of d i in
    let lt : k < length (lane_of d i) = omega (arith, length-lane d i valid, at.0.from, at.0.to) in
    let back : start_of d i + k ≡ p = omega (arith, at.0.from) in
    record {
      within = lt;
      back = back;
      index = get_or-lane d i valid k lt ∙ ap (λ p. get_or d.indices p 0) back ∙ at.1;
    }

pub off_lane : (d : Raw) (i p : ℕ) → i < d.major_dim → (IsInLane d i p → ⊥)
    → (p < start_of d i) ⊎ (end_of d i ≤ p)
off_lane d i p lane none = elim (lt_or_ge p (start_of d i)) [
  | inl below ↦ inl below
  | inr from ↦ elim (lt_or_ge p (end_of d i)) [
    | inl to ↦ absurd (none (record { lane = lane; from = from; to = to }))
    | inr past ↦ inr past
  ]
]

-- in the lanes below n each value c has become base c + alpha * x, and the values from lane n on are unchanged
pub record HasUpdatedLanes (R : CommRing) {T : Type 0} (f : T → R.Carrier) (z : T) (d : Raw)
    (base : T → R.Carrier) (alpha : R.Carrier) (x : ℕ → ℕ → R.Carrier) (start now : List T)
    (n : ℕ) : Type 0 where
  pub updated : (i j p : ℕ) → i < n → IsOffset d i j p
      → f (get_or now p z) ≡ R.add (base (get_or start p z)) (R.mul alpha (x i j))
  pub rest : (p : ℕ) → start_of d n ≤ p → get_or now p z ≡ get_or start p z

module _ {R : CommRing} {T : Type 0} {f : T → R.Carrier} {z : T} {d : Raw} {base : T → R.Carrier}
    {alpha : R.Carrier} {x : ℕ → ℕ → R.Carrier} {start : List T} where
  pub lanes_none : HasUpdatedLanes R f z d base alpha x start start 0
  lanes_none = record {
    updated = λ i j p lt at. absurd (omega (arith, lt));
    rest = λ p from. refl;
  }

  -- updating lane n
  pub lanes_more : {old : List T} {n : ℕ} → HasUpdatedLanes R f z d base alpha x start old n
      → IsValid d → n < d.major_dim → (new : List T)
      → ((p : ℕ) → (IsInLane d n p → ⊥) → get_or new p z ≡ get_or old p z)
      → ((j p : ℕ) → IsOffset d n j p → f (get_or new p z) ≡ R.add (base (get_or old p z))
      (R.mul alpha (x n j)))
      → HasUpdatedLanes R f z d base alpha x start new (n + 1)
  lanes_more {n = n} was valid lane new others here = record {
    updated = λ i j p lt at. elim (lt_add_one_cases i n lt) [
      | inl earlier ↦ ap f (others p (λ here. omega (arith, one_lane d valid i n p at.0 here)))
          ∙ was.updated i j p earlier at
      | inr last ↦
          let at' : IsOffset d n j p = subst (λ i. IsOffset d i j p) last at in
          here j p at' ∙ ap (λ c. R.add (base c) (R.mul alpha (x n j))) (was.rest p at'.0.from)
          ∙ ap (λ i. R.add (base (get_or start p z)) (R.mul alpha (x i j))) (sym last)
    ];
    rest = λ p from. others p (λ here. omega (arith, here.to))
        ∙ was.rest p (omega (arith, (valid.lanes n lane).ordered));
  }
