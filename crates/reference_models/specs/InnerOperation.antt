-- The result of an operation on lists of triplets, and the part of it that is listed.
use Rattle.std.specs.Prelude.{◌≡◌, ℕ, nat_eq, nat_lt, ◌&&◌, ◌||◌, Bool}
use Rattle.sparse_algebra.specs.Algebra.{CommRing}
use Rattle.sparse_algebra.specs.Plain.{Plain, plain_sum, plain_difference, plain_product}
use Rattle.sparse_algebra.specs.Plain.{plain_transpose, plain_negation, plain_kept}
use Rattle.sparse_coo_dense.specs.Coo.{Coo}
use Rattle.sparse_coo_dense.specs.CooPlain.{plain_of_coo}
use Rattle.reference_models.specs.declared.expressions.operation.Operation.{Operation}
use Rattle.reference_models.specs.declared.expressions.operation.Operation.TheVariants as operation

-- whether (i, j) comes before (row, col), row after row
abbrev pub is_before : ℕ → ℕ → ℕ → ℕ → Bool
is_before row col i j = nat_lt i row || (nat_eq i row && nat_lt j col)

module _ (R : CommRing) {T : Type 0} (f : T → R.Carrier) where
  abbrev pub plain_of_operation : Operation T → Plain R
  plain_of_operation (operation.Entries a) = plain_of_coo R f a.now
  plain_of_operation (operation.Sum a b) =
      plain_sum R (plain_of_coo R f a.now) (plain_of_coo R f b.now)
  plain_of_operation (operation.Difference a b) =
      plain_difference R (plain_of_coo R f a.now) (plain_of_coo R f b.now)
  plain_of_operation (operation.Product a b) =
      plain_product R (plain_of_coo R f a.now) (plain_of_coo R f b.now)
  plain_of_operation (operation.Transpose a) = plain_transpose R (plain_of_coo R f a.now)
  plain_of_operation (operation.Negation a) = plain_negation R (plain_of_coo R f a.now)

  -- the list has the part of the plain matrix that comes before (row, col)
  abbrev pub Lists : Plain R → ℕ → ℕ → Coo T → Type 0
  Lists p row col list = plain_of_coo R f list ≡ plain_kept R (is_before row col) p
