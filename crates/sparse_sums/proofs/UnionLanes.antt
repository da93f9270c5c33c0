-- The pattern of a sum, built lane by lane.
use Rattle.std.proofs.Common.{◌≡◌, ℕ, ◌+◌, ◌<◌, ◌⊎◌, inl, inr, ◌↔◌, List, [], ◌∷◌, ◌++◌, length}
use Rattle.std.proofs.Common.{Contains, arith}
use Rattle.sparse_pattern.specs.Raw.{Raw, raw_of, lane_of, IsValid, IsEntry}
use Rattle.sparse_pattern.specs.InnerGainedLanes.{GainsLane}
use Rattle.sparse_pattern.proofs.BuiltLanes.{IsBuilt, lane_gained, all_built, minor_index_below}
use Rattle.sparse_pattern.proofs.LaneLists.{lane_has}
use Rattle.sparse_algebra.specs.Algebra.{CommRing}
use Rattle.sparse_sums.specs.InnerAdding.{GainsEntries}
use Rattle.sparse_sums.specs.PatternSums.{IsUnionOf}
use Rattle.sparse_sums.proofs.GainedLanes.{gains_same}

-- a or b has an entry at (i, j)
abbrev pub IsEither : Raw → Raw → ℕ → ℕ → Type 0
IsEither a b i j = IsEntry a i j ⊎ IsEntry b i j

-- a list of indices gains a lane where lists of indices and values gain its entries
abbrev pub gained_lane : {R : CommRing} {T : Type 0} {f : T → R.Carrier} {old new : List ℕ}
    {us ws : List T} {P : ℕ → Type 0} {V : ℕ → R.Carrier} → GainsEntries R f old new us ws P V
    → GainsLane old new P
gained_lane gains = record {
  lane = gains.lane;
  pushed = gains.pushed;
  rising = gains.rising;
  holds = gains.holds;
}

module _ (a b : Raw) (va : IsValid a) (vb : IsValid b) (lanes : a.major_dim ≡ b.major_dim)
    (width : a.minor_dim ≡ b.minor_dim) where
  -- lane n of the union has the indices of both lanes n
  pub lanes_have : (n j : ℕ) → n < a.major_dim
      → (Contains (lane_of a n) j ⊎ Contains (lane_of b n) j) ↔ IsEither a b n j
  lanes_have n j lt = grind (arith, lane_has a va n j lt, lane_has b vb n j (omega arith))

  pub either_within : (i j : ℕ) → IsEither a b i j → (i < a.major_dim) × (j < a.minor_dim)
  either_within i j h = elim h [
    | inl x ↦ (x.in_lane.lane, minor_index_below a va i j x)
    | inr y ↦ (omega (arith, y.in_lane.lane), omega (arith, minor_index_below b vb i j y))
  ]

  pub union_more : {n : ℕ} {offsets indices indices' : List ℕ} (offsets' : List ℕ)
      → n < a.major_dim → IsBuilt a.minor_dim (IsEither a b) n offsets indices
      → GainsLane indices indices' (λ j. Contains (lane_of a n) j ⊎ Contains (lane_of b n) j)
      → offsets' ≡ offsets ++ length indices' ∷ []
      → IsBuilt a.minor_dim (IsEither a b) (n + 1) offsets' indices'
  union_more {n} {offsets} {indices} {indices'} offsets' lt built gains is =
      lane_gained a.minor_dim (IsEither a b) n offsets offsets' indices indices' built
      (λ j h. (either_within n j h).1) (gains_same (λ j. lanes_have n j lt) gains) is

  pub union_all : {n : ℕ} {offsets indices : List ℕ} (d : Raw) → n ≡ a.major_dim
      → d ≡ raw_of a.major_dim a.minor_dim offsets indices
      → IsBuilt a.minor_dim (IsEither a b) n offsets indices → IsUnionOf d a b
  union_all {n} {offsets} {indices} d whole is built = all_built a.minor_dim (IsEither a b) n
      a.major_dim d offsets indices whole is (λ i j h. (either_within i j h).0) built
