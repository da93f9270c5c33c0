-- Triplets within a shape lie within the transposed shape once rows and columns are exchanged.
use Rattle.std.proofs.Common.{ℕ, ◌<◌, List, [], ◌∷◌, map}
use Rattle.std.specs.Prelude.{All}
use Rattle.std.specs.List.{AllByRecursion}
use Rattle.std.proofs.lemmas.List.Elements.{All-from_recursion, recursion_from_All}
use Rattle.sparse_compressed.specs.Compressed.{transposed}

module _ {T : Type 0} (lanes minor : ℕ) where
  by_parts : (ts : List (ℕ × ℕ × T)) → AllByRecursion (λ t. (t.0 < lanes) × (t.1 < minor)) ts
      → AllByRecursion (λ t. (t.0 < minor) × (t.1 < lanes)) (map transposed ts)
  by_parts [] h = tt
  by_parts (t ∷ ts) h = ((h.0.1, h.0.0), by_parts ts h.1)

  pub transposed-inside : (ts : List (ℕ × ℕ × T)) → All (λ t. (t.0 < lanes) × (t.1 < minor)) ts
      → All (λ t. (t.0 < minor) × (t.1 < lanes)) (map transposed ts)
  transposed-inside ts h =
      All-from_recursion (λ t. (t.0 < minor) × (t.1 < lanes)) (map transposed ts)
      (by_parts ts (recursion_from_All (λ t. (t.0 < lanes) × (t.1 < minor)) ts h))
