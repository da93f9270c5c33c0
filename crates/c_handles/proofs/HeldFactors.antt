-- Factors held by handles.
-- - `AreFactors-plain`: the factors that `Ldl::factor` finds for a CSC matrix are factors of its plain matrix
-- - `OnOk-HoldsFactors`: a call that stores factors of the matrix of a handle meets the contract of `factor`
-- - `SolvesInPlace-factors`: a dense solution written over its right-hand side meets the contract of `solve_factored`
-- - `l-held`, `d-held`: the factors that a handle holds are `l_held` and `d_held` of the handle
use Rattle.std.proofs.Common.{◌≡◌, ℕ, ℤ, ◌<◌, ◌*◌, List, length, ap, sym, subst, ◌∙◌}
use Rattle.std.specs.Prelude.{Option, Some, Ok, Err, OnOk}
use Rattle.core.specs.declared.result.Result.{Result}
use Rattle.sparse_algebra.specs.Plain.{Plain}
use Rattle.sparse_algebra.specs.WrappingValues.{w64_value}
use Rattle.sparse_algebra.specs.declared.scalar.wrapping.W64.{W64}
use Rattle.sparse_coo_dense.specs.Dense.{Dense}
use Rattle.sparse_coo_dense.specs.DensePlain.{plain_of_dense}
use Rattle.c_arrays.specs.Arrays.{plain_by_values, ring64}
use Rattle.c_arrays.specs.declared.refusal.Refusal.{Refusal}
use Rattle.sparse_compressed.specs.Compressed.{Compressed, IsSound}
use Rattle.sparse_compressed.specs.PlainOfLanes.{plain_of_cols, plain_of_rows}
use Rattle.c_handles.proofs.Done.{plain_of_rows-held, held}
use Rattle.c_handles.proofs.Triangles.{SolvesInPlace-dense}
use Rattle.c_handles.specs.Held.{plain_held}
use Rattle.c_handles.specs.Factored.{d_held, factors_in, l_held, product_held, product_in}
use Rattle.c_handles.specs.Factored.{size_held, size_in, zero64, AreFactors, HoldsFactors}
use Rattle.c_handles.specs.Solved.{SolvesInPlace}
use Rattle.c_handles.specs.declared.held_factors.HeldFactors.{HeldFactors}
use Rattle.c_handles.specs.declared.held_factors.HeldFactors.TheVariants.{Natural}
use Rattle.sparse_factor.specs.Factorisations.{plain_symmetric, IsFactorisation, IsUnitLower}
use Rattle.sparse_factor.specs.Factors.{diagonal, plain_of_factors, symmetric_of}
use Rattle.sparse_factor.specs.Factors.{Factors, HavePivots}
use Rattle.sparse_factor.specs.Fill.{InFill, PlainBase, StoresByColumns, UpperBase}
use Rattle.sparse_factor.proofs.FilledSets.{plain_fill}
use Rattle.sparse_dense_ops.specs.Solutions.{HasSameValues, IsSolution}

pub AreFactors-plain : (a : Plain ring64) (m : Compressed W64) (s : Factors W64) → IsSound m
    → plain_of_cols ring64 w64_value m ≡ a → a.rows ≡ a.cols
    → s.l.pattern.minor_dim ≡ m.pattern.minor_dim → length s.d ≡ m.pattern.minor_dim
    → StoresByColumns (InFill (UpperBase m.pattern)) s.l.pattern
    → IsUnitLower ring64 (plain_of_cols ring64 w64_value s.l)
    → HavePivots ring64 w64_value zero64 s.d
    → HasSameValues ring64 (length s.d) (length s.d) (plain_of_factors ring64 w64_value zero64 s)
    (symmetric_of ring64 w64_value m)
    → AreFactors a s
AreFactors-plain a m s sound plain square rows count entries lower pivots equation = record {
  square = square;
  entries = subst (λ (p : Plain ring64). StoresByColumns (InFill (PlainBase p)) s.l.pattern) plain
      (plain_fill ring64 w64_value m sound s.l.pattern entries);
  factors = subst (λ (p : Plain ring64). IsFactorisation ring64 w64_value (plain_symmetric ring64 p)
      (plain_of_cols ring64 w64_value s.l) (diagonal ring64 w64_value zero64 s.d)) plain (record {
        rows = rows;
        lower = lower;
        pivots = λ j lt. pivots j (subst (λ n. j < n) (sym count) lt);
        equation = subst (λ (n : ℕ). HasSameValues ring64 n n
            (plain_of_factors ring64 w64_value zero64 s) (symmetric_of ring64 w64_value m)) count
            equation;
      });
}

pub OnOk-HoldsFactors : (handle : Option (Compressed W64)) (m a : Compressed W64) → handle ≡ Some m → a ≡ m
    → (answer : Result (Unit {0}) Refusal) (factors : Option HeldFactors) (s : Factors W64)
    → OnOk answer (factors ≡ Some (Natural s)) → AreFactors (plain_of_rows ring64 w64_value a) s
    → OnOk answer (HoldsFactors factors (plain_held handle))
OnOk-HoldsFactors handle m a is same (Ok u) factors s put known = (
  s,
  put,
  subst (λ (p : Plain ring64). AreFactors p s) (plain_of_rows-held handle m a is same) known,
)
OnOk-HoldsFactors handle m a is same (Err e) factors s put known = tt

pub SolvesInPlace-factors : (handle : Option HeldFactors) (f s : HeldFactors) → handle ≡ Some f → s ≡ f
    → (b x : Dense W64) (n cols : ℕ) (old new : List ℤ) → n ≡ size_in s
    → b.nrows ≡ n → b.ncols ≡ cols → length old ≡ n * cols
    → plain_of_dense ring64 w64_value b ≡ plain_by_values ring64 n cols old
    → x.nrows ≡ b.nrows → x.ncols ≡ b.ncols
    → IsSolution ring64 (product_in s)
    (plain_of_dense ring64 w64_value x) (plain_of_dense ring64 w64_value b)
    → plain_by_values ring64 x.nrows x.ncols new ≡ plain_of_dense ring64 w64_value x
    → SolvesInPlace (product_held handle) (size_held handle) cols old new
SolvesInPlace-factors handle f s is same b x n cols old new size rows columns sized side xrows xcolumns solved
    written = subst (λ (h : Option HeldFactors). SolvesInPlace (product_held h)
    (size_held h) cols old new) (held handle f s is same)
    (subst (λ (k : ℕ). SolvesInPlace (product_in s) k cols old new)
    size (SolvesInPlace-dense (product_in s)
    (plain_of_dense ring64 w64_value b) x n cols old new (xrows ∙ rows) (xcolumns ∙ columns) sized
    solved side written))

pub l-held : (handle : Option HeldFactors) (f s : HeldFactors) → handle ≡ Some f → s ≡ f
    → plain_of_cols ring64 w64_value (factors_in s).l ≡ l_held handle
l-held handle f s is same = ap l_held (held handle f s is same)

pub d-held : (handle : Option HeldFactors) (f s : HeldFactors) → handle ≡ Some f → s ≡ f
    → diagonal ring64 w64_value zero64 (factors_in s).d ≡ d_held handle
d-held handle f s is same = ap d_held (held handle f s is same)
