-- A symbolic factorisation: the input pattern and the pattern of its factor.
use Rattle.std.specs.Prelude.{◌≡◌, Bool}
use Rattle.std.specs.Ordering.{on, eq_of_both}
use Rattle.sparse_pattern.specs.Raw.{Raw, IsValid, raw_eq}
use Rattle.sparse_factor.specs.Fill.{InFill, TriangleBase, StoresByColumns}
use Rattle.sparse_factor.specs.declared.factorization.Triangle.{Triangle}

pub record Symbolic : Type 0 where
  pub input : Raw
  pub factor : Raw

abbrev pub symbolic_of : Raw → Raw → Symbolic
symbolic_of input factor = record { input = input; factor = factor }

-- the result of `==`
abbrev pub symbolic_eq : Symbolic → Symbolic → Bool
symbolic_eq = eq_of_both (on (λ s. s.input) raw_eq) (on (λ s. s.factor) raw_eq)

-- the factor is valid, has the shape of the input, and stores the fill of the triangle's base
pub record IsFactorOf (triangle : Triangle) (s : Symbolic) : Type 0 where
  pub rows : s.factor.minor_dim ≡ s.input.minor_dim
  pub columns : s.factor.major_dim ≡ s.input.major_dim
  pub fill : StoresByColumns (InFill (TriangleBase triangle s.input)) s.factor
  pub valid : IsValid s.factor
