-- Whether a pattern contains that of a product, lane by lane.
use Rattle.std.proofs.Common.{ℕ, ◌+◌, ◌<◌, inl, inr, List, length, take, get_or, Contains, subst}
use Rattle.std.proofs.lemmas.List.{take_more}
use Rattle.std.proofs.lemmas.List.Elements.{Contains-push_cases}
use Rattle.sparse_pattern.specs.Raw.{Raw, lane_of, IsValid, IsEntry}
use Rattle.sparse_pattern.proofs.LaneLists.{lane_has}
use Rattle.sparse_products.specs.InnerProducts.{IsInLanes}
use Rattle.sparse_products.specs.InnerUpdates.{ContainsProduct}

-- what holds of the first n elements and of the next one holds of the first n + 1
pub element_more : (P : ℕ → Type 0) (xs : List ℕ) (n : ℕ) → n < length xs → P (get_or xs n 0)
    → ((j : ℕ) → Contains (take n xs) j → P j) → (j : ℕ) → Contains (take (n + 1) xs) j → P j
element_more P xs n lt here before j h =
    elim (Contains-push_cases (take n xs) (get_or xs n 0) j
    (subst (λ l. Contains l j) (take_more xs n 0 lt) h)) [
      | inl was ↦ before j was
      | inr same ↦ subst P same here
    ]

module _ (d a b : Raw) (va : IsValid a) where
  -- lane i of d contains lane k of b for each k in lane i of a
  abbrev pub HasLanes : ℕ → Type 0
  HasLanes i = (j : ℕ) → IsInLanes b (lane_of a i) j → IsEntry d i j

  pub product_of_lanes : ((i : ℕ) → i < a.major_dim → HasLanes i) → ContainsProduct d a b
  product_of_lanes all i j k left right = all i left.in_lane.lane j
      (k, (lane_has a va i k left.in_lane.lane).1 left, right)

  pub lanes_of_product : ContainsProduct d a b → (i : ℕ) → i < a.major_dim → HasLanes i
  lanes_of_product all i lt j h = all i j h.0 ((lane_has a va i h.0 lt).0 h.1) h.2
