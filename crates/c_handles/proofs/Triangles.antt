-- Solves in place, and the triangles of a matrix and of its transpose.
-- - `plain_by_values-dense`: an array that is overwritten with all values of a dense matrix has its plain matrix
-- - `SolvesInPlace-dense`: a dense solution written over its right-hand side satisfies `SolvesInPlace`
-- - `SolvesTriangle-dense`: the same for a triangle of the matrix that a handle holds, which satisfies `SolvesTriangle`
-- - `triangle_of-transpose`: the upper triangle is the transpose of the lower triangle of the transpose
-- - `rows-as_lower`, `cols-as_lower`: `as_lower` keeps the numbers of rows and columns of a square matrix
-- - `IsSingularSystem-of_lower`, `-to_lower`: a system is singular if and only if that of the `as_lower` matrix is
use Rattle.std.proofs.Common.{◌≡◌, ℕ, ℤ, ◌<◌, ◌*◌, List, length, map, take, ap, sym}
use Rattle.std.proofs.Common.{Bool, true, false, subst, ◌∙◌, refl, arith}
use Rattle.std.specs.Prelude.{not, Option, Some}
use Rattle.std.proofs.lemmas.List.{take_all}
use Rattle.sparse_algebra.specs.Integers.{element_of}
use Rattle.sparse_algebra.specs.Plain.{Plain, plain_transpose}
use Rattle.sparse_algebra.specs.WrappingValues.{w64_value}
use Rattle.sparse_algebra.specs.declared.scalar.wrapping.W64.{W64}
use Rattle.sparse_coo_dense.specs.Dense.{Dense}
use Rattle.sparse_coo_dense.specs.DensePlain.{plain_of_dense}
use Rattle.sparse_coo_dense.proofs.Meanings.{dense-meant}
use Rattle.c_arrays.specs.Arrays.{plain_by_values, ring64}
use Rattle.sparse_compressed.specs.Compressed.{Compressed}
use Rattle.sparse_compressed.specs.PlainOfLanes.{plain_of_rows}
use Rattle.c_handles.specs.Held.{plain_held}
use Rattle.c_handles.proofs.Done.{held}
use Rattle.c_handles.specs.declared.solving.Triangle.{Triangle}
use Rattle.c_handles.specs.Solved.{as_lower, triangle_of, IsSingularSystem, SolvesInPlace}
use Rattle.c_handles.specs.Solved.{SolvesTriangle}
use Rattle.c_handles.specs.declared.solving.Triangle.TheVariants.{Lower, Upper}
use Rattle.sparse_dense_ops.specs.Solutions.{IsSolution}

pub plain_by_values-dense : (x : Dense W64) (numbers : List ℤ) → length x.values ≡ length numbers
    → map (element_of ring64) (take (length x.values) numbers) ≡ map w64_value x.values
    → plain_by_values ring64 x.nrows x.ncols numbers ≡ plain_of_dense ring64 w64_value x
plain_by_values-dense x numbers full written =
    dense-meant ring64 (element_of ring64) w64_value x.nrows x.ncols numbers x.values
    (ap (map (element_of ring64)) (sym (take_all (length x.values) numbers (omega (arith, full))))
    ∙ written)

pub SolvesInPlace-dense : (t b : Plain ring64) (x : Dense W64) (n m : ℕ) (old new : List ℤ) → x.nrows ≡ n
    → x.ncols ≡ m → length old ≡ n * m
    → IsSolution ring64 t (plain_of_dense ring64 w64_value x) b → b ≡ plain_by_values ring64 n m old
    → plain_by_values ring64 x.nrows x.ncols new ≡ plain_of_dense ring64 w64_value x
    → SolvesInPlace t n m old new
SolvesInPlace-dense t b x n m old new rows cols sized solved side written = record {
  sized = sized;
  solves = subst (λ (p : Plain ring64). IsSolution ring64 t p b)
      (sym ((λ k. plain_by_values ring64 (sym rows k) (sym cols k) new) ∙ written)) solved ∙ side;
}

pub SolvesTriangle-dense : (handle : Option (Compressed W64)) (m a : Compressed W64) → handle ≡ Some m
    → a ≡ m → (triangle : Triangle) (transposed : Bool) (x : Dense W64) (cols : ℕ)
    (old new : List ℤ) → a.pattern.major_dim ≡ a.pattern.minor_dim
    → (IsSingularSystem triangle (plain_of_rows ring64 w64_value a) cols → ⊥)
    → x.nrows ≡ a.pattern.major_dim → x.ncols ≡ cols
    → length old ≡ a.pattern.major_dim * cols
    → IsSolution ring64 (triangle_of triangle transposed (plain_of_rows ring64 w64_value a))
    (plain_of_dense ring64 w64_value x) (plain_by_values ring64 a.pattern.major_dim cols old)
    → plain_by_values ring64 x.nrows x.ncols new ≡ plain_of_dense ring64 w64_value x
    → SolvesTriangle triangle transposed (plain_held handle) cols old new
SolvesTriangle-dense handle m a is same triangle transposed x cols old new square regular rows columns
    sized solved written = subst (λ (h : Option (Compressed W64)).
    SolvesTriangle triangle transposed (plain_held h) cols old new)
    (held handle m a is same) (record {
      square = square;
      regular = regular;
      solved = SolvesInPlace-dense
          (triangle_of triangle transposed (plain_of_rows ring64 w64_value a))
          (plain_by_values ring64 a.pattern.major_dim cols old) x a.pattern.major_dim cols old new
          rows columns sized solved refl written;
    })

pub triangle_of-transpose : (transposed : Bool) (a : Plain ring64)
    → triangle_of Lower (not transposed) (plain_transpose ring64 a) ≡ triangle_of Upper transposed a
triangle_of-transpose false a = refl
triangle_of-transpose true a = refl

pub rows-as_lower : (triangle : Triangle) (a : Plain ring64) → a.cols ≡ a.rows
    → (as_lower triangle a).rows ≡ a.rows
rows-as_lower Lower a square = refl
rows-as_lower Upper a square = square

pub cols-as_lower : (triangle : Triangle) (a : Plain ring64) → a.cols ≡ a.rows
    → (as_lower triangle a).cols ≡ a.rows
cols-as_lower Lower a square = square
cols-as_lower Upper a square = refl

pub IsSingularSystem-of_lower : (triangle : Triangle) (a : Plain ring64) (m : ℕ) → a.cols ≡ a.rows
    → IsSingularSystem Lower (as_lower triangle a) m → IsSingularSystem triangle a m
IsSingularSystem-of_lower Lower a m square h = h
IsSingularSystem-of_lower Upper a m square h =
    (h.0, (h.1.0, subst (λ n. h.1.0 < n) square h.1.1, h.1.2))

pub IsSingularSystem-to_lower : (triangle : Triangle) (a : Plain ring64) (m : ℕ) → a.cols ≡ a.rows
    → IsSingularSystem triangle a m → IsSingularSystem Lower (as_lower triangle a) m
IsSingularSystem-to_lower Lower a m square h = h
IsSingularSystem-to_lower Upper a m square h =
    (h.0, (h.1.0, subst (λ n. h.1.0 < n) (sym square) h.1.1, h.1.2))
