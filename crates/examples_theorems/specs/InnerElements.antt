-- The triplets of an element, row by row.
use Rattle.std.specs.Prelude.{ℕ, List, [], ◌∷◌, slice_index}
use Rattle.std.specs.List.{flat_map}
use Rattle.nalgebra_sparse.specs.Dense.{value_at}
use Rattle.nalgebra_sparse.specs.Plain.{below}
use Rattle.examples_theorems.specs.declared.parts.Element.{Element}

module _ {T : Type 0} (z : T) (e : Element T) where
  -- the triplet of row k and column l, at their numbers (z is the value outside the shape)
  abbrev pub element_triplet : ℕ → ℕ → ℕ × ℕ × T
  element_triplet k l =
      (slice_index e.rows.items k, slice_index e.cols.items l, value_at e.matrix k l z)

  -- those of row k in the first n columns, and those of the first n rows
  abbrev pub row_triplets : ℕ → ℕ → List (ℕ × ℕ × T)
  row_triplets k n = flat_map (λ l. element_triplet k l ∷ []) (below n)

  abbrev pub element_triplets : ℕ → List (ℕ × ℕ × T)
  element_triplets n = flat_map (λ k. row_triplets k e.matrix.ncols) (below n)
