-- The pivot at which the factorisation of a symmetric matrix stops, in an order.
use Rattle.std.specs.Prelude.{◌≡◌, ◌<◌, ℕ, List, length, slice_index}
use Rattle.sparse_algebra.specs.Algebra.{CommRing}
use Rattle.sparse_algebra.specs.Plain.{Plain, below}
use Rattle.sparse_factor.specs.LeadingBlocks.{StopsAt}
use Rattle.sparse_permutation.specs.Permutations.{IsOrder}
use Rattle.sparse_permutation.specs.PermutedPlain.{plain_permuted}
use Rattle.mtxkit_matrices.specs.declared.orders.EliminationOrder.{EliminationOrder}
use Rattle.mtxkit_matrices.specs.declared.orders.EliminationOrder.TheVariants.{Natural}
use Rattle.mtxkit_matrices.specs.declared.pivots.Pivot.{Pivot}

-- p is an order of n rows, and the natural one if that is asked for
pub record IsOrderBy (order : EliminationOrder) (n : ℕ) (p : List ℕ) : Type 0 where
  pub each : IsOrder p
  pub count : length p ≡ n
  pub natural : order ≡ Natural → p ≡ below n

module _ (R : CommRing) {T : Type 0} (f : T → R.Carrier) where
  -- in P a Pᵀ, as many first rows and columns as the pivot has before it have factors, and no more of
  -- them; its row in a is the next one of the order p
  pub record IsPivotIn (a : Plain R) (p : List ℕ) (pivot : Pivot) : Type 0 where
    pub inside : pivot.number < a.rows
    pub stops : StopsAt R f (plain_permuted R p a) pivot.number
    pub row : pivot.row ≡ slice_index p pivot.number

  -- the same for an order that is asked for
  abbrev pub IsSingularPivot : EliminationOrder → Plain R → Pivot → Type 0
  IsSingularPivot order a pivot =
      (p : List ℕ) × IsOrderBy order a.rows p × IsPivotIn a p pivot
