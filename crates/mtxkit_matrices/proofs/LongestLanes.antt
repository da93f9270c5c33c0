-- The number of entries of the longest lane.
use Rattle.std.proofs.Common.{◌≡◌, ℕ, zero, suc, ◌<◌, ◌≤◌, ◌⊎◌, inl, inr, refl, subst, arith}
use Rattle.std.specs.Prelude.{max}
use Rattle.std.proofs.lemmas.Bool.{cases_lt}
use Rattle.sparse_pattern.specs.Raw.{Raw}
use Rattle.mtxkit_matrices.specs.Lanes.{longest_below, size_of}

module _ (p : Raw) where
  pub longest-bound : (n k : ℕ) → k < n → size_of p k ≤ longest_below p n
  longest-bound zero k lt = absurd (omega (arith, lt))
  longest-bound (suc n) k lt = elim (cases_lt k n) [
    | inl below ↦ omega (arith, longest-bound n k below)
    | inr at ↦
        let here : k ≡ n = omega (arith, lt, at) in
        rw here (omega arith)
  ]

  -- a lane below n has `size` entries, or `size` is 0
  abbrev pub IsReached : ℕ → ℕ → Type 0
  IsReached n size = (size ≡ 0) ⊎ ((k : ℕ) × (k < n) × (size_of p k ≡ size))

  wider : (n size : ℕ) → IsReached n size → IsReached (suc n) size
  wider n size (inl none) = inl none
  wider n size (inr (k, lt, is)) = inr (k, omega (arith, lt), is)

  pub longest-reached : (n : ℕ) → IsReached n (longest_below p n)
  longest-reached zero = inl refl
  longest-reached (suc n) = elim (cases_lt (longest_below p n) (size_of p n)) [
    | inl below ↦ inr (n, omega arith, omega (arith, below))
    | inr at ↦
        let same : longest_below p n ≡ max (longest_below p n) (size_of p n) = omega (arith, at) in
        subst (λ s. IsReached (suc n) s) same (wider n _ (longest-reached n))
  ]
