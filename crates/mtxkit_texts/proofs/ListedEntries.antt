-- The rows and columns of a list of triplets do not depend on its values.
use Rattle.std.proofs.Common.{◌≡◌, ℕ, ◌||◌, List, [], ◌∷◌, length, map, refl, ap, arith}
use Rattle.std.specs.List.{list_any}
use Rattle.sparse_algebra.specs.Plain.{is_at}
use Rattle.sparse_coo_dense.specs.Coo.{zip_triplets}

module _ {S T : Type 0} where
  pub same_places : (i j : ℕ) (ts : List (ℕ × ℕ × S)) (vs : List T) → length vs ≡ length ts
      → list_any (is_at i j) (zip_triplets (map (λ t. t.0) ts) (map (λ t. t.1) ts) vs)
      ≡ list_any (is_at i j) ts
  same_places i j [] vs e = refl
  same_places i j (t ∷ ts) [] e = absurd (omega (arith, e))
  same_places i j (t ∷ ts) (v ∷ vs) e =
      ap (λ b. is_at i j t || b) (same_places i j ts vs (omega (arith, e)))
