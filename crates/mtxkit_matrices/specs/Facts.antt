-- Facts about a matrix.
use Rattle.std.specs.Prelude.{◌≡◌, ◌↔◌, Bool, IsTrue, count_by, length}
use Rattle.sparse_algebra.specs.Algebra.{CommRing}
use Rattle.sparse_compressed.specs.Compressed.{Compressed}
use Rattle.sparse_compressed.specs.PlainOfLanes.{plain_of_rows}
use Rattle.mtxkit_matrices.specs.Lanes.{count_below, has_size_in, HasEmptyColumns, IsHistogram}
use Rattle.mtxkit_matrices.specs.Shapes.{IsBandwidth, IsSymmetricPattern}
use Rattle.mtxkit_matrices.specs.Values.{IsSymmetricMatrix}
use Rattle.mtxkit_matrices.specs.declared.facts.info.Info.{Info}

-- the facts are those of the CSR matrix; `is_zero` is the test for zeros among its stored values
pub record AreFacts {T : Type 0} (R : CommRing) (f : T → R.Carrier) (is_zero : T → Bool)
    (m : Compressed T) (s : Info) : Type 0 where
  pub places : s.places ≡ length m.pattern.indices
  pub stored_zeros : s.stored_zeros ≡ count_by is_zero m.values
  pub empty_rows : s.empty_rows ≡ count_below m.pattern.major_dim (has_size_in m.pattern 0 1)
  pub empty_cols : HasEmptyColumns m.pattern s.empty_cols
  pub bandwidth : IsBandwidth m.pattern s.bandwidth
  pub pattern : IsTrue s.has_symmetric_pattern ↔ IsSymmetricPattern m.pattern
  pub values : IsTrue s.has_symmetric_values ↔ IsSymmetricMatrix R (plain_of_rows R f m)
  pub rows : IsHistogram m.pattern s.rows.width s.rows.counts.items
