-- The fill of a pattern has no entry above the diagonal.
use Rattle.std.proofs.Common.{ℕ, ◌≤◌, inl, inr, arith}
use Rattle.std.specs.Prelude.{nat_le, IsTrue}
use Rattle.std.proofs.lemmas.Bool.Decides.{nat_tests}
use Rattle.sparse_pattern.specs.Raw.{Raw}
use Rattle.sparse_factor.specs.Fill.{InFill, StoresByColumns, TriangleBase}
use Rattle.sparse_factor.specs.declared.factorization.Triangle.TheVariants.{Both}
use Rattle.mtxkit_patterns.specs.Columns.{IsLower}

is_le : (i j : ℕ) → j ≤ i → IsTrue (nat_le j i)
is_le i j le = grind (arith, nat_tests, le)

le_from : (i j : ℕ) → IsTrue (nat_le j i) → j ≤ i
le_from i j is = grind (arith, nat_tests, is)

pub lower_fill : (a l : Raw) → StoresByColumns (InFill (TriangleBase Both a)) l → IsLower l
lower_fill a l fill i j entry = le_from i j ((fill i j).0 entry (λ i j. nat_le j i)
    (λ i j k is is' lt le. is_le i j le) (λ i j base. is_le i j (below base)))
  where
    below : {i j : ℕ} → TriangleBase Both a i j → j ≤ i
    below (inl base) = base.1
    below (inr base) = base.1
