-- The places of a plain matrix, column by column.
use Rattle.std.specs.Prelude.{ℕ, if◌then◌else◌, List, [], ◌∷◌}
use Rattle.std.specs.List.{flat_map}
use Rattle.sparse_algebra.specs.Algebra.{CommRing}
use Rattle.sparse_algebra.specs.Plain.{Plain, below}

-- the places of a plain matrix with their values, column by column, rows increasing
abbrev pub col_order : (R : CommRing) → Plain R → List (ℕ × ℕ × R.Carrier)
col_order R a = flat_map (λ j. flat_map (λ i. if a.has i j then (i, j, a.value i j) ∷ [] else [])
    (below a.rows)) (below a.cols)
