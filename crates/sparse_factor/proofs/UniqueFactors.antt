-- A factorisation is unique, and depends on the upper triangle alone.
use Rattle.std.proofs.Common.{◌≡◌, List, length, sym, arith}
use Rattle.sparse_algebra.specs.Algebra.{CommRing}
use Rattle.sparse_compressed.specs.Compressed.{Compressed, IsSound}
use Rattle.sparse_compressed.specs.PlainOfLanes.{plain_of_cols}
use Rattle.sparse_factor.specs.Fill.{InFill, UpperBase, StoresByColumns}
use Rattle.sparse_dense_ops.specs.SparseVectors.{elements}
use Rattle.sparse_factor.specs.Factorisations.{IsFactorisation, plain_upper}
use Rattle.sparse_factor.specs.Factors.{AreFactorsOf, AreOnlyFactorsOf, HasNoFactors}
use Rattle.sparse_factor.specs.Factors.{factors_of, symmetric_of}
use Rattle.sparse_factor.proofs.Columns.{part_unique}
use Rattle.sparse_factor.proofs.PlainProducts.{columns_of}
use Rattle.sparse_factor.proofs.UpperTriangles.{factorisation_same, same_fill, same_rows}
use Rattle.sparse_factor.proofs.UpperTriangles.{same_symmetric}

module _ (R : CommRing) {T : Type 0} (f : T → R.Carrier) (z : T) (a l : Compressed T) (d : List T)
    (factors : IsFactorisation R f (symmetric_of R f a) (plain_of_cols R f l) (elements R f z d))
  where
    pub only_factors : length d ≡ a.pattern.minor_dim → AreOnlyFactorsOf R f z a (factors_of l d)
    only_factors size k c h =
        let agree = part_unique R f a.pattern.minor_dim k.value (plain_of_cols R f l).value c
        (elements R f z d) (omega arith)
        (columns_of R f (symmetric_of R f a) k c h)
        (columns_of R f (symmetric_of R f a) (plain_of_cols R f l) (elements R f z d) factors) in (
          λ i j row col. (agree j (omega (arith, col, size))).1 i (omega (arith, row, size)),
          λ j lt. (agree j (omega (arith, lt, size))).0,
        )

    -- and for each matrix with the same upper triangle
    pub factors_same : (b : Compressed T) → IsSound a → IsSound b
        → plain_upper R (plain_of_cols R f b) ≡ plain_upper R (plain_of_cols R f a)
        → StoresByColumns (InFill (UpperBase a.pattern)) l.pattern
        → AreFactorsOf R f z b (factors_of l d)
    factors_same b sa sb same stores = record {
      entries = same_fill R f a b sa sb same l.pattern stores;
      factors = factorisation_same R f (symmetric_of R f a) (symmetric_of R f b)
          (plain_of_cols R f l) (elements R f z d) (same_rows R f a b sa sb same)
          (same_symmetric R f a b sa sb same) factors;
    }

-- a matrix with the same upper triangle has no factors either
pub no_factors_same : (R : CommRing) {T : Type 0} (f : T → R.Carrier) (a b : Compressed T)
    → IsSound a → IsSound b
    → plain_upper R (plain_of_cols R f b) ≡ plain_upper R (plain_of_cols R f a)
    → HasNoFactors R f a → HasNoFactors R f b
no_factors_same R f a b sa sb same none l d h = none l d
    (factorisation_same R f (symmetric_of R f b) (symmetric_of R f a) l d
    (same_rows R f b a sb sa (sym same)) (same_symmetric R f b a sb sa (sym same)) h)
