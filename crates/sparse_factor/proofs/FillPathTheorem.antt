-- The fill path theorem: (i, j) with j ≤ i is in the fill exactly if a path joins i and j whose
-- inner nodes are less than j.
use Rattle.std.proofs.Common.{◌≡◌, ℕ, zero, suc, ◌<◌, ◌≤◌, ◌⊎◌, ◌↔◌, inl, inr, refl, subst}
use Rattle.std.proofs.Common.{rules, arith}
use Rattle.std.proofs.Math.Nat.{eq-or-lt_of_le}
use Rattle.sparse_factor.specs.FillPaths.{Joined, FillPath, edge, step}
use Rattle.sparse_factor.specs.Fill.{Filled, given, fill}

joined_back : (base : ℕ → ℕ → Type 0) (i j : ℕ) → Joined base i j → Joined base j i
joined_back base i j joined = search rules

pub FillPath-wider : {base : ℕ → ℕ → Type 0} {m i j : ℕ} → (n : ℕ) → m ≤ n → FillPath base m i j
    → FillPath base n i j
FillPath-wider n le (edge e) = edge e
FillPath-wider n le (step e lt w) = step e (omega arith) (FillPath-wider n le w)

-- two paths joined at a node below m
pub FillPath-join : {base : ℕ → ℕ → Type 0} {m i k : ℕ} → FillPath base m i k → (j : ℕ) → k < m
    → FillPath base m k j → FillPath base m i j
FillPath-join (edge e) j lt w = step e lt w
FillPath-join (step e l v) j lt w = step e l (FillPath-join v j lt w)

pub FillPath-back : {base : ℕ → ℕ → Type 0} {m i j : ℕ} → FillPath base m i j → FillPath base m j i
FillPath-back {base} (edge {i} {j} e) = edge (joined_back base i j e)
FillPath-back {base} (step {i} {j} {k} e l v) =
    FillPath-join (FillPath-back v) i l (edge (joined_back base i k e))

-- a path with inner nodes below m + 1 avoids m, or goes to m and on from m, both with inner nodes
-- below m
pub FillPath-split : {base : ℕ → ℕ → Type 0} {m i j : ℕ} → FillPath base m i j → (n : ℕ) → m ≡ suc n →
    FillPath base n i j ⊎ (FillPath base n i n × FillPath base n n j)
FillPath-split (edge e) n same = inl (edge e)
FillPath-split {base} {m} {i} {j} (step {k = k} e l v) n same =
    elim (FillPath-split v n same) [
      | inr w ↦ elim (eq-or-lt_of_le {n = k} {m = n} (omega arith)) [
        | inl at ↦ inr (edge (subst (λ x. Joined base i x) at e), w.1)
        | inr below ↦ inr (step e below w.0, w.1)
      ]
      | inl w ↦ elim (eq-or-lt_of_le {n = k} {m = n} (omega arith)) [
        | inl at ↦ inr (edge (subst (λ x. Joined base i x) at e), subst (λ x. FillPath base n x j) at w)
        | inr below ↦ inl (step e below w)
      ]
    ]

module _ (base : ℕ → ℕ → Type 0) (low : (i j : ℕ) → base i j → j ≤ i) where
  pub FillPath-of_filled : {i j : ℕ} → Filled base i j → FillPath base j i j
  FillPath-of_filled (given {i} {j} b) = edge (inl b)
  FillPath-of_filled (fill {i} {j} {k} p q lt le) =
      FillPath-join (FillPath-wider j (omega arith) (FillPath-of_filled p)) j lt
      (FillPath-back (FillPath-wider j (omega arith) (FillPath-of_filled q)))

  turned : (i j : ℕ) → base i j → i ≤ j → Filled base j i
  turned i j b le = let e : i ≡ j = omega (arith, low i j b) in rw e (given (rw e at b))

  joined_filled : (i j : ℕ) → Joined base i j → (j ≤ i → Filled base i j)
      × (i ≤ j → Filled base j i)
  joined_filled i j (inl b) = (λ h. given b, turned i j b)
  joined_filled i j (inr b) = (turned j i b, λ h. given b)

  -- the ends of a path whose inner nodes are below both are a pair of the fill
  pub Filled-of_path : (m i j : ℕ) → m ≤ i → m ≤ j → FillPath base m i j → (j ≤ i → Filled base i j)
      × (i ≤ j → Filled base j i)
  Filled-of_path zero i j a b (edge e) = joined_filled i j e
  Filled-of_path zero i j a b (step e l w) = absurd (omega arith)
  Filled-of_path (suc m) i j a b w = elim (FillPath-split w m refl) [
    | inl v ↦ Filled-of_path m i j (omega arith) (omega arith) v
    | inr v ↦
        let f : Filled base i m = (Filled-of_path m i m (omega arith) (omega arith) v.0).0
        (omega arith) in
        let g : Filled base j m = (Filled-of_path m m j (omega arith) (omega arith) v.1).1
        (omega arith) in
        ((λ h. fill f g (omega arith) h), (λ h. fill g f (omega arith) h))
  ]

  -- (i, j) with j ≤ i is in the fill exactly if a path from i to j has all inner nodes below j
  pub Filled-FillPath : (i j : ℕ) → j ≤ i → Filled base i j ↔ FillPath base j i j
  Filled-FillPath i j le = (FillPath-of_filled, λ w. (Filled-of_path j i j le (omega arith) w).0 le)
