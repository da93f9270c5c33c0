-- The number of scalar multiplications of a matrix product.
use Rattle.std.specs.Prelude.{ℕ, length, ⊤}
use Rattle.std.specs.List.{sum_by}
use Rattle.sparse_algebra.specs.declared.operand.Op.{Op}
use Rattle.sparse_algebra.specs.Operands.{MatchOp}
use Rattle.sparse_pattern.specs.Raw.{Raw, lane_of}

-- the number of triples (i, k, j) with (i, k) in a and (k, j) in b: the sum of the lengths of lane
-- k of b over the entries (i, k) of a
abbrev pub triples_of : Raw → Raw → ℕ
triples_of a b = sum_by (λ k. length (lane_of b k)) a.indices

-- P holds of both matrices, if neither operand is transposed
abbrev pub IfNotTransposed : {X Y : Type 0} → Op X → Op Y → (X → Y → Type 0) → Type 0
IfNotTransposed a b P = MatchOp a (λ m. MatchOp b (λ n. P m n) (λ _. ⊤)) (λ _. ⊤)
