-- The matrices that are kept for the inputs of an expression.
use Rattle.std.specs.Prelude.{◌≡◌, Bool, true, false, IfSome}
use Rattle.sparse_algebra.specs.Algebra.{CommRing}
use Rattle.sparse_coo_dense.specs.Coo.{Coo}
use Rattle.sparse_coo_dense.specs.CooPlain.{plain_of_coo}
use Rattle.sparse_expr.specs.InnerTransposed.{rows_or_transposed}
use Rattle.sparse_expr.specs.declared.sources.CachedMatrix.{CachedMatrix}
use Rattle.sparse_expr.specs.declared.sources.Source.{Source}

module _ (R : CommRing) {T : Type 0} (f : T → R.Carrier) where
  -- the matrix that is kept, if any, is that of the list, or its transpose if `transposed`
  abbrev pub Keeps : Bool → Coo T → CachedMatrix T → Type 0
  Keeps transposed list cached = IfSome cached.matrix
      (λ m. rows_or_transposed R f transposed m.value ≡ plain_of_coo R f list)

  -- both matrices that a source keeps are those of the list
  pub record Provides (list : Coo T) (source : Source T) : Type 0 where
    pub rows : Keeps false list source.rows
    pub transposed : Keeps true list source.transposed
