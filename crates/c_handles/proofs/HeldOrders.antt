-- Orders of the rows and columns of matrices that handles hold, and factors in such orders.
-- - `AreFactorsInOrder-plain`: what `Ldl::factor_in_order` ensures for a CSC matrix is true of its plain matrix
-- - `OnOk-HoldsFactorsInOrder`: a call that stores these factors meets the contract of `factor_in_order`
-- - `OnOk-WritesOrderOf`, `IfErr-IsUnordered`: a call that writes an order of a matrix meets the contract of `order`
-- - `OnOk-WritesOrder`, `IfErr-IsOrderUnwritten`: a call that writes the order of factors meets that of `factor_order`
use Rattle.std.proofs.Common.{◌≡◌, ℕ, ◌<◌, List, length, ap, sym, subst, ◌∙◌, inr}
use Rattle.std.specs.Prelude.{Option, Some, Ok, Err, IfErr, OnOk}
use Rattle.core.specs.declared.result.Result.{Result}
use Rattle.sparse_algebra.specs.Plain.{Plain}
use Rattle.sparse_algebra.specs.WrappingValues.{w64_value}
use Rattle.sparse_algebra.specs.declared.scalar.wrapping.W64.{W64}
use Rattle.c_arrays.specs.Arrays.{ring64}
use Rattle.c_arrays.specs.Refused.{IsOutOfMemoryOr}
use Rattle.c_arrays.specs.declared.refusal.Refusal.{Refusal}
use Rattle.sparse_compressed.specs.Compressed.{Compressed}
use Rattle.sparse_compressed.specs.PlainOfLanes.{plain_of_cols, plain_of_rows}
use Rattle.sparse_dense_ops.specs.Solutions.{HasSameValues}
use Rattle.sparse_factor.specs.Factorisations.{IsFactorisation}
use Rattle.sparse_factor.specs.Factors.{diagonal, symmetric_of}
use Rattle.sparse_factor.specs.Fill.{InFill, PlainBase, StoresByColumns}
use Rattle.sparse_factor.specs.OrderedFactors.{plain_of_ordered, AreFactorsOfPermuted, OrderedFactors}
use Rattle.sparse_factor.specs.OrderedFactors.{StoresFillOfPermuted}
use Rattle.sparse_permutation.specs.Permutations.{IsOrder}
use Rattle.c_handles.proofs.Done.{plain_of_rows-held, held}
use Rattle.c_handles.specs.Factored.{order_held, order_in, zero64}
use Rattle.c_handles.specs.Held.{plain_held}
use Rattle.c_handles.specs.Ordered.{permuted_symmetric, AreFactorsInOrder, HoldsFactorsInOrder}
use Rattle.c_handles.specs.Ordered.{IsOrderUnwritten, IsTooShort, IsUnordered, WritesOrder}
use Rattle.c_handles.specs.Ordered.{WritesOrderOf}
use Rattle.c_handles.specs.Solved.{IsSquare}
use Rattle.c_handles.specs.declared.held_factors.HeldFactors.{HeldFactors}
use Rattle.c_handles.specs.declared.held_factors.HeldFactors.TheVariants.{Ordered}

pub AreFactorsInOrder-plain : (a : Plain ring64) (m : Compressed W64) (p q : List ℕ)
    (s : OrderedFactors W64) → plain_of_cols ring64 w64_value m ≡ a → a.rows ≡ a.cols → IsOrder p → q ≡ p
    → s.order ≡ q → length s.order ≡ m.pattern.minor_dim
    → StoresFillOfPermuted ring64 (symmetric_of ring64 w64_value m) s
    → AreFactorsOfPermuted ring64 w64_value zero64 (symmetric_of ring64 w64_value m) s
    → HasSameValues ring64 (length s.order) (length s.order)
    (plain_of_ordered ring64 w64_value zero64 s) (symmetric_of ring64 w64_value m)
    → AreFactorsInOrder a p s
AreFactorsInOrder-plain a m p q s plain square valid copied order rows entries factors equation =
    let is = order ∙ copied in
    subst (λ (b : Plain ring64). AreFactorsInOrder b p s) plain (record {
      square = subst IsSquare (sym plain) square;
      valid = valid;
      count = ap length (sym is) ∙ rows;
      order = is;
      entries = subst (λ (r : List ℕ). StoresByColumns (InFill (PlainBase
          (permuted_symmetric r (plain_of_cols ring64 w64_value m)))) s.factors.l.pattern) is entries;
      factors = subst (λ (r : List ℕ). IsFactorisation ring64 w64_value
          (permuted_symmetric r (plain_of_cols ring64 w64_value m))
          (plain_of_cols ring64 w64_value s.factors.l)
          (diagonal ring64 w64_value zero64 s.factors.d)) is factors;
      equation = subst (λ (n : ℕ). HasSameValues ring64 n n
          (plain_of_ordered ring64 w64_value zero64 s) (symmetric_of ring64 w64_value m)) rows
          equation;
    })

pub OnOk-HoldsFactorsInOrder : (handle : Option (Compressed W64)) (m a : Compressed W64) → handle ≡ Some m
    → a ≡ m → (answer : Result (Unit {0}) Refusal) (factors : Option HeldFactors)
    (p : List ℕ) (s : OrderedFactors W64) → OnOk answer (factors ≡ Some (Ordered s))
    → AreFactorsInOrder (plain_of_rows ring64 w64_value a) p s
    → OnOk answer (HoldsFactorsInOrder factors p (plain_held handle))
OnOk-HoldsFactorsInOrder handle m a is same (Ok u) factors p s put known = (
  s,
  put,
  subst (λ (b : Plain ring64). AreFactorsInOrder b p s)
      (plain_of_rows-held handle m a is same) known,
)
OnOk-HoldsFactorsInOrder handle m a is same (Err e) factors p s put known = tt

pub OnOk-WritesOrderOf : (handle : Option (Compressed W64)) (m a : Compressed W64) → handle ≡ Some m
    → a ≡ m → (answer : Result (Unit {0}) Refusal) (p old new : List ℕ)
    → a.pattern.major_dim ≡ a.pattern.minor_dim → IsOrder p → length p ≡ a.pattern.major_dim
    → OnOk answer (WritesOrder p old new) → OnOk answer (WritesOrderOf (plain_held handle) old new)
OnOk-WritesOrderOf handle m a is same (Ok u) p old new square valid count written =
    subst (λ (b : Plain ring64). WritesOrderOf b old new) (plain_of_rows-held handle m a is same)
    (square, (p, valid, count, written))
OnOk-WritesOrderOf handle m a is same (Err e) p old new square valid count written = tt

pub IfErr-IsUnordered : (handle : Option (Compressed W64)) (m a : Compressed W64) → handle ≡ Some m
    → a ≡ m → (answer : Result (Unit {0}) Refusal) (p room : List ℕ)
    → a.pattern.major_dim ≡ a.pattern.minor_dim → length p ≡ a.pattern.major_dim
    → IfErr answer (IsTooShort (length p) room) → IfErr answer (IsOutOfMemoryOr (IsUnordered handle room))
IfErr-IsUnordered handle m a is same (Ok u) p room square count fault = tt
IfErr-IsUnordered handle m a is same (Err e) p room square count fault =
    let plain = plain_of_rows-held handle m a is same in
    let rows = count ∙ ap (λ (b : Plain ring64). b.rows) plain in
    inr (inr (
      subst IsSquare plain square,
      (fault.0, subst (λ (n : ℕ). length room < n) rows fault.1),
    ))

order-held : (handle : Option HeldFactors) (f s : HeldFactors) → handle ≡ Some f → s ≡ f
    → (p : List ℕ) → p ≡ order_in s → p ≡ order_held handle
order-held handle f s is same p order = order ∙ ap order_held (held handle f s is same)

pub OnOk-WritesOrder : (handle : Option HeldFactors) (f s : HeldFactors) → handle ≡ Some f → s ≡ f
    → (answer : Result (Unit {0}) Refusal) (p old new : List ℕ) → p ≡ order_in s
    → OnOk answer (WritesOrder p old new) → OnOk answer (WritesOrder (order_held handle) old new)
OnOk-WritesOrder handle f s is same answer p old new order =
    subst (λ (q : List ℕ). OnOk answer (WritesOrder q old new)) (order-held handle f s is same p order)

pub IfErr-IsOrderUnwritten : (handle : Option HeldFactors) (f s : HeldFactors) → handle ≡ Some f → s ≡ f
    → (answer : Result (Unit {0}) Refusal) (p room : List ℕ) → p ≡ order_in s
    → IfErr answer (IsTooShort (length p) room)
    → IfErr answer (IsOutOfMemoryOr (IsOrderUnwritten handle room))
IfErr-IsOrderUnwritten handle f s is same (Ok u) p room order fault = tt
IfErr-IsOrderUnwritten handle f s is same (Err e) p room order fault =
    inr (inr (
      fault.0,
      subst (λ (n : ℕ). length room < n)
          (ap length (order-held handle f s is same p order)) fault.1,
    ))
