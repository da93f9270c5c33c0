-- The result of `==` on coordinate lists, and its laws.
use Rattle.std.specs.Prelude.{ℕ, Bool, List, map, ◌==◌}
use Rattle.std.specs.Cmp.{IsPartialEquivalence, IsEquivalence, and_per, on_per, and_equiv, on_equiv}
use Rattle.std.specs.Cmp.{partial_equiv_from_equiv, nat_eq_equiv}
use Rattle.std.specs.Cmp.Lexicographic.{pointwise, lists_per, lists_equiv}
use Rattle.std.specs.Ordering.{on, eq_of_both}
use Rattle.sparse_coo_dense.specs.Coo.{Coo}

module _ {T : Type 0} where
  abbrev pub rows_of : Coo T → List ℕ
  rows_of m = map (λ t. t.0) m.triplets

  abbrev pub cols_of : Coo T → List ℕ
  cols_of m = map (λ t. t.1) m.triplets

  abbrev pub values_of : Coo T → List T
  values_of m = map (λ t. t.2) m.triplets

  -- the shapes are equal
  abbrev pub coo_shape_eq : Coo T → Coo T → Bool
  coo_shape_eq = eq_of_both (on (λ m. m.nrows) ◌==◌) (on (λ m. m.ncols) ◌==◌)

  -- the shapes are equal, and so are the lists of rows and of columns
  abbrev pub coo_indices_eq : Coo T → Coo T → Bool
  coo_indices_eq = eq_of_both (eq_of_both coo_shape_eq (on rows_of (pointwise ◌==◌)))
      (on cols_of (pointwise ◌==◌))

  -- the shapes are equal, and so are the lists of rows, of columns and of values
  abbrev pub coo_eq : (T → T → Bool) → Coo T → Coo T → Bool
  coo_eq E = eq_of_both coo_indices_eq (on values_of (pointwise E))

  indices_equiv : IsEquivalence coo_indices_eq
  indices_equiv =
      and_equiv
      (and_equiv (and_equiv (on_equiv (λ m. m.nrows) nat_eq_equiv)
      (on_equiv (λ m. m.ncols) nat_eq_equiv)) (on_equiv rows_of (lists_equiv nat_eq_equiv)))
      (on_equiv cols_of (lists_equiv nat_eq_equiv))

  pub coo_eq-laws : {E : T → T → Bool} → IsPartialEquivalence E → IsPartialEquivalence (coo_eq E)
  coo_eq-laws laws = and_per (partial_equiv_from_equiv indices_equiv)
      (on_per values_of (lists_per laws))

  pub coo_eq-equiv : {E : T → T → Bool} → IsEquivalence E → IsEquivalence (coo_eq E)
  coo_eq-equiv laws = and_equiv indices_equiv (on_equiv values_of (lists_equiv laws))
