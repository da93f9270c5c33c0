-- Updates of the values of a given pattern by a product.
use Rattle.std.specs.Prelude.{◌≡◌, ℕ, ◌+◌, List, length, take}
use Rattle.std.specs.List.{sum_by}
use Rattle.sparse_algebra.specs.Algebra.{CommRing}
use Rattle.sparse_algebra.specs.Prealloc.{plain_update}
use Rattle.sparse_pattern.specs.Raw.{Raw, IsEntry, lane_of, nnz_of, start_of}
use Rattle.sparse_compressed.specs.Compressed.{compressed_of}
use Rattle.sparse_compressed.specs.PlainOfLanes.{plain_of_rows}
use Rattle.sparse_products.specs.InnerOperands.{product_of}
use Rattle.sparse_products.specs.ScalarProducts.{triples_of}
use Rattle.sparse_products.specs.declared.serial.multiplicands.Matrices.{Matrices}
use Rattle.sparse_products.specs.declared.serial.update.Update.{Update}

-- the pattern d contains that of the product of a and b
abbrev pub ContainsProduct : Raw → Raw → Raw → Type 0
ContainsProduct d a b = (i j k : ℕ) → IsEntry a i k → IsEntry b k j → IsEntry d i j

-- the inner dimensions are equal, the pattern d has as many lanes as the product, and there is a
-- value for each index of d
pub record CanUpdate {T : Type 0} (x : Matrices T) (d : Raw) (values : List T) : Type 0 where
  pub inner : x.a.now.pattern.minor_dim ≡ x.b.now.pattern.major_dim
  pub lanes : x.a.now.pattern.major_dim ≡ d.major_dim
  pub count : length values ≡ length d.indices

-- the matrix of d and the new values is beta times that of d and the old ones, plus alpha times the
-- product
abbrev pub IsUpdated : (R : CommRing) {T : Type 0} → (T → R.Carrier) → Update T → Raw → List T
    → List T → Type 0
IsUpdated R f u d old new = plain_of_rows R f (compressed_of d new) ≡ plain_update R (f u.beta)
    (plain_of_rows R f (compressed_of d old)) (f u.alpha) (product_of R f u.matrices)

-- the number of triples (i, k, j) whose (i, k) is one of the first n entries of a
abbrev pub triples_below : ℕ → Raw → Raw → ℕ
triples_below n a b = sum_by (λ k. length (lane_of b k)) (take n a.indices)

-- the number of entries and triples of the first n lanes of a
abbrev pub steps_below : ℕ → Raw → Raw → ℕ
steps_below n a b = start_of a n + triples_below (start_of a n) a b

-- the number of steps of an update of the pattern d
abbrev pub steps_of : {T : Type 0} → Matrices T → Raw → ℕ
steps_of x d = nnz_of x.a.now.pattern + nnz_of d + triples_of x.a.now.pattern x.b.now.pattern
