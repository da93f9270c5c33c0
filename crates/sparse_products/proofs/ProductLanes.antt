-- The pattern of a product, lane by lane.
use Rattle.std.proofs.Common.{◌≡◌, ℕ, ◌+◌, ◌<◌, ◌↔◌, ◌⊎◌, inl, inr, List, [], ◌∷◌, ◌++◌, length}
use Rattle.std.proofs.Common.{take, get_or, All, Contains, subst, sym, refl, arith}
use Rattle.std.proofs.lemmas.List.Elements.{All-contains, Contains-get_or}
use Rattle.sparse_pattern.specs.Raw.{Raw, raw_of, lane_of, IsValid, IsEntry}
use Rattle.sparse_pattern.specs.InnerGainedLanes.{GainsLane}
use Rattle.sparse_pattern.proofs.BuiltLanes.{IsBuilt, lane_gained, all_built, minor_index_below}
use Rattle.sparse_pattern.proofs.LaneLists.{lane_has}
use Rattle.sparse_sums.proofs.Merging.{more}
use Rattle.sparse_products.specs.Products.{IsProductOf}
use Rattle.sparse_products.specs.InnerProducts.{IsInLanes}
use Rattle.sparse_sums.proofs.GainedLanes.{gains_same}

-- the pattern of the product of a and b has (i, j)
abbrev pub IsInProduct : Raw → Raw → ℕ → ℕ → Type 0
IsInProduct a b i j = (k : ℕ) × IsEntry a i k × IsEntry b k j

-- offsets and indices are those of the first n lanes of the product of a and b
abbrev pub IsProductBelow : ℕ → Raw → Raw → List ℕ → List ℕ → Type 0
IsProductBelow n a b offsets indices = IsBuilt b.minor_dim (IsInProduct a b) n offsets indices

-- the union of lane k of b for each k in lane i of a is lane i of the product
pub in_lanes_is : (a b : Raw) → IsValid a → (i j : ℕ) → i < a.major_dim
    → IsInLanes b (lane_of a i) j ↔ IsInProduct a b i j
in_lanes_is a b valid i j lt = (
  λ h. (h.0, (lane_has a valid i h.0 lt).0 h.1, h.2),
  λ h. (h.0, (lane_has a valid i h.0 lt).1 h.1, h.2),
)

pub lane_more : {n : ℕ} {offsets indices indices' : List ℕ} (a b : Raw) (offsets' : List ℕ)
    → IsValid a → IsValid b → n < a.major_dim → IsProductBelow n a b offsets indices
    → GainsLane indices indices' (IsInLanes b (lane_of a n))
    → offsets' ≡ offsets ++ length indices' ∷ [] → IsProductBelow (n + 1) a b offsets' indices'
lane_more {n} {offsets} {indices} {indices'} a b offsets' va vb lt below gains is =
    lane_gained b.minor_dim (IsInProduct a b) n offsets offsets' indices indices' below
    (λ j h. minor_index_below b vb h.0 j h.2) (gains_same (λ j. in_lanes_is a b va n j lt) gains) is

-- the pattern of all lanes is that of the product
pub all_lanes : {n : ℕ} {offsets indices : List ℕ} (a b d : Raw) → n ≡ a.major_dim
    → d ≡ raw_of a.major_dim b.minor_dim offsets indices → IsProductBelow n a b offsets indices
    → IsProductOf d a b
all_lanes {n} {offsets} {indices} a b d whole is below =
    all_built b.minor_dim (IsInProduct a b) n a.major_dim d offsets indices whole is
    (λ i j h. h.1.in_lane.lane) below

-- empty lanes have no index
pub in_lanes_none : (d : Raw) (lanes : List ℕ) → IsValid d → All (λ k. lane_of d k ≡ []) lanes
    → (j : ℕ) → IsInLanes d lanes j → ⊥
in_lanes_none d lanes valid empty j h =
    let none = All-contains (λ k. lane_of d k ≡ []) lanes h.0 empty h.1 in
    let has = subst (λ l. Contains l j) none
    ((lane_has d valid h.0 j h.2.in_lane.lane).1 h.2) in omega (arith, has.1)

pub lane_below : (d : Raw) → IsValid d → (i : ℕ) → i < d.major_dim
    → All (λ k. k < d.minor_dim) (lane_of d i)
lane_below d valid i lt k z inside = minor_index_below d valid i (get_or (lane_of d i) k z)
    ((lane_has d valid i (get_or (lane_of d i) k z) lt).0
    (Contains-get_or (lane_of d i) k z inside))

-- the union of the lanes of p + 1 elements of a list is that of the first p and lane k
pub in_lanes_then : (d : Raw) (lanes : List ℕ) (p k : ℕ) → p < length lanes → k ≡ get_or lanes p 0
    → (j : ℕ)
    → IsInLanes d (take (p + 1) lanes) j ↔ (IsInLanes d (take p lanes) j ⊎ IsEntry d k j)
in_lanes_then d lanes p k lt is j =
    let front = λ (l : ℕ). more lanes p k l lt is in (
      λ h. elim ((front h.0).0 h.1) [
        | inl was ↦ inl (h.0, was, h.2)
        | inr same ↦ inr (subst (λ l. IsEntry d l j) (sym same) h.2)
      ],
      λ h. elim h [
        | inl was ↦ (was.0, (front was.0).1 (inl was.1), was.2)
        | inr here ↦ (k, (front k).1 (inr refl), here)
      ],
    )

-- adding lane k to a set of the indices of the first p lanes gives those of the first p + 1
pub in_lanes_more : (d : Raw) → IsValid d → {Old New : ℕ → Type 0} (lanes : List ℕ) (p k : ℕ)
    → p < length lanes → k ≡ get_or lanes p 0 → k < d.major_dim
    → ((j : ℕ) → New j ↔ (Old j ⊎ Contains (lane_of d k) j))
    → ((j : ℕ) → Old j ↔ IsInLanes d (take p lanes) j) → (j : ℕ)
    → New j ↔ IsInLanes d (take (p + 1) lanes) j
in_lanes_more d valid lanes p k lt is within adds before j =
    let lane = lane_has d valid k j within in
    let both = in_lanes_then d lanes p k lt is j in (
      λ h. both.1 (elim ((adds j).0 h)
          [ inl was ↦ inl ((before j).0 was) | inr here ↦ inr (lane.0 here) ]),
      λ h. (adds j).1 (elim (both.0 h)
          [ inl was ↦ inl ((before j).1 was) | inr place ↦ inr (lane.1 place) ]),
    )
