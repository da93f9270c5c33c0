-- The CSC matrix after a borrow from it, for the contracts of the private functions of `csc`.
use Rattle.std.specs.Prelude.{ℕ, Option}
use Rattle.std.specs.Borrow.{LendsIf, follows_if, MutBor, Fml, RattleType}
use Rattle.sparse_pattern.specs.SparseEntries.{found_name}
use Rattle.sparse_pattern.specs.declared.entry.Found.{Found}
use Rattle.sparse_compressed.specs.Compressed.{Compressed}
use Rattle.sparse_compressed.specs.Writing.{with_value}
use Rattle.sparse_compressed.specs.contracts.CsMatrix.{the_row as core_type}
use Rattle.sparse_csr_csc.specs.contracts.csc.CscMatrix.{the_row as matrix_type}

module _ (T : RattleType) (s : MutBor (Compressed T.Denot)) where
  -- after the borrow the matrix is the storage last written through the result, or unchanged if
  -- there is none
  abbrev pub LendsCoreIf : Option (MutBor (Compressed T.Denot)) → Fml
  LendsCoreIf r = LendsIf (matrix_type T) (core_type T) s r (λ m. m) s.now

  abbrev pub LendsFound : ℕ → ℕ → Found T.Denot → Fml
  LendsFound i j r = follows_if (matrix_type T) T s.ghost_name (found_name r) (with_value s.now i j)
      s.now
