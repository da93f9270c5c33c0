-- The result of `==` on dense matrices, and its laws.
use Rattle.std.specs.Prelude.{Bool, ◌==◌}
use Rattle.std.specs.Cmp.{IsPartialEquivalence, IsEquivalence, and_per, on_per, and_equiv, on_equiv}
use Rattle.std.specs.Cmp.{partial_equiv_from_equiv, nat_eq_equiv}
use Rattle.std.specs.Cmp.Lexicographic.{pointwise, lists_per, lists_equiv}
use Rattle.std.specs.Ordering.{on, eq_of_both}
use Rattle.sparse_coo_dense.specs.Dense.{Dense}

module _ {T : Type 0} where
  -- the shapes are equal
  abbrev pub dense_shape_eq : Dense T → Dense T → Bool
  dense_shape_eq = eq_of_both (on (λ d. d.nrows) ◌==◌) (on (λ d. d.ncols) ◌==◌)

  -- the shapes are equal, and so are the values
  abbrev pub dense_eq : (T → T → Bool) → Dense T → Dense T → Bool
  dense_eq E = eq_of_both dense_shape_eq (on (λ d. d.values) (pointwise E))

  shape_equiv : IsEquivalence dense_shape_eq
  shape_equiv = and_equiv (on_equiv (λ d. d.nrows) nat_eq_equiv)
      (on_equiv (λ d. d.ncols) nat_eq_equiv)

  pub dense_eq-laws : {E : T → T → Bool} → IsPartialEquivalence E
      → IsPartialEquivalence (dense_eq E)
  dense_eq-laws laws = and_per (partial_equiv_from_equiv shape_equiv)
      (on_per (λ d. d.values) (lists_per laws))

  pub dense_eq-equiv : {E : T → T → Bool} → IsEquivalence E → IsEquivalence (dense_eq E)
  dense_eq-equiv laws = and_equiv shape_equiv (on_equiv (λ d. d.values) (lists_equiv laws))
