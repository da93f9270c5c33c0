-- The number of triples of a product.
use Rattle.std.proofs.Common.{◌≡◌, ℕ, zero, suc, ◌+◌, ◌<◌, ◌≤◌, [], ◌∷◌, length, get_or, take, All}
use Rattle.std.proofs.Common.{ap, subst, refl, ◌∙◌, arith}
use Rattle.std.specs.List as naturals
use Rattle.std.proofs.lemmas.List.{take_more, take_all}
use Rattle.std.proofs.lemmas.List.Sums as natural_sums
use Rattle.sparse_pattern.specs.Raw.{Raw, IsValid, lane_of, start_of, end_of}
use Rattle.sparse_pattern.proofs.PatternLanes.{length-lane, get_or-lane}
use Rattle.sparse_products.specs.InnerUpdates.{steps_below, triples_below}
use Rattle.sparse_products.specs.ScalarProducts.{triples_of}

-- the triples of the first n + 1 entries of a are those of the first n and one for each entry of
-- lane k of b
pub triples_more : (n k : ℕ) (a b : Raw) → n < length a.indices → get_or a.indices n 0 ≡ k
    → triples_below (n + 1) a b ≡ triples_below n a b + length (lane_of b k)
triples_more n k a b lt is =
    let g : ℕ → ℕ = λ k. length (lane_of b k) in
    let whole = ap (naturals.sum_by g) (take_more a.indices n 0 lt)
    ∙ natural_sums.sum_by-append g (take n a.indices) (get_or a.indices n 0 ∷ []) in
    omega (arith, whole, ap g is)

-- n entries of a, from the offset s on, that list empty lanes of b are in no triple
triples_none : (s n : ℕ) (a b : Raw) → s + n ≤ length a.indices
    → ((m : ℕ) → m < n → lane_of b (get_or a.indices (s + m) 0) ≡ [])
    → triples_below (s + n) a b ≡ triples_below s a b
triples_none s zero a b le none =
    let e : s + zero ≡ s = omega arith in ap (λ n. triples_below n a b) e
triples_none s (suc n) a b le none =
    let e : s + suc n ≡ s + n + 1 = omega arith in
    omega (
      arith,
      triples_none s n a b (omega arith) (λ m lt. none m (omega arith)),
      ap (λ n. triples_below n a b) e,
      triples_more (s + n) (get_or a.indices (s + n) 0) a b (omega arith) refl,
      ap length (none n (omega arith)),
    )

-- a lane that lists empty lanes of b takes a step for each of its entries
pub steps_none : (a b : Raw) → IsValid a → (i : ℕ) → i < a.major_dim
    → All (λ k. lane_of b k ≡ []) (lane_of a i)
    → steps_below (i + 1) a b ≡ steps_below i a b + length (lane_of a i)
steps_none a b valid i lt empty =
    let lane = valid.lanes i lt in
    let n = length (lane_of a i) in
    let whole : start_of a i + n ≡ end_of a i = omega (arith, length-lane a i lane, lane.ordered) in
    let none = triples_none (start_of a i) n a b (omega (arith, whole, lane.inside))
    (λ m lt. subst (λ k. lane_of b k ≡ []) (get_or-lane a i lane m lt) (empty m 0 lt)) in
    omega (arith, whole, none, ap (λ n. triples_below n a b) whole)

all_triples : (a b : Raw) → triples_below (length a.indices) a b ≡ triples_of a b
all_triples a b = ap (naturals.sum_by (λ k. length (lane_of b k)))
    (take_all (length a.indices) a.indices (omega arith))

pub no_steps : (a b : Raw) → IsValid a → steps_below 0 a b ≡ 0
no_steps a b valid = omega (arith, valid.first, ap (λ n. triples_below n a b) valid.first)

-- the steps of all lanes are the number of entries of a and of triples
pub all_steps : (a b : Raw) → IsValid a → {n : ℕ} → n ≡ a.major_dim
    → steps_below n a b ≡ length a.indices + triples_of a b
all_steps a b valid is =
    let end = ap (start_of a) is ∙ valid.last in
    omega (arith, end, ap (λ n. triples_below n a b) end, all_triples a b)
