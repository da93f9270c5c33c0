-- Facts on the matrix that a handle holds.
-- - `OnOk-Holds`: a handle in which a matrix with the plain matrix a was stored satisfies `Holds`
-- - `OnOk-HoldsSum`, `OnOk-HoldsProduct`: the same of two more handles whose matrices have shapes that fit
-- - `one_shape-held`, `inner_size-held`: the shapes of the matrices that two handles hold, as those of `plain_held`
-- - `plain_of_rows-held`: the plain matrix of a matrix that a handle holds is `plain_held` of the handle
-- - `held`: a handle that holds m holds any x that equals m
use Rattle.std.proofs.Common.{◌≡◌, ap, sym, ◌∙◌}
use Rattle.std.specs.Prelude.{Option, Some, Ok, Err, OnOk}
use Rattle.core.specs.declared.result.Result.{Result}
use Rattle.sparse_algebra.specs.Plain.{Plain}
use Rattle.sparse_algebra.specs.WrappingValues.{w64_value}
use Rattle.sparse_algebra.specs.declared.scalar.wrapping.W64.{W64}
use Rattle.sparse_compressed.specs.Compressed.{Compressed}
use Rattle.sparse_compressed.specs.PlainOfLanes.{plain_of_rows}
use Rattle.c_arrays.specs.Arrays.{ring64}
use Rattle.c_arrays.specs.declared.refusal.Refusal.{Refusal}
use Rattle.c_handles.specs.Held.{plain_held, CanMultiply, HaveOneShape, Holds}
use Rattle.c_handles.specs.Held.{HoldsProduct, HoldsSum}

pub OnOk-Holds : (answer : Result (Unit {0}) Refusal) (handle : Option (Compressed W64))
    (m : Compressed W64) (a : Plain ring64) → OnOk answer (handle ≡ Some m)
    → plain_of_rows ring64 w64_value m ≡ a → OnOk answer (Holds handle a)
OnOk-Holds (Ok u) handle m a put same = (m, put, same)
OnOk-Holds (Err e) handle m a put same = tt

pub OnOk-HoldsSum : (answer : Result (Unit {0}) Refusal) (handle first second : Option (Compressed W64))
    (m : Compressed W64) (a : Plain ring64) → HaveOneShape (plain_held first) (plain_held second)
    → OnOk answer (handle ≡ Some m) → plain_of_rows ring64 w64_value m ≡ a
    → OnOk answer (HoldsSum first second a handle)
OnOk-HoldsSum (Ok u) handle first second m a fit put same = (fit, (m, put, same))
OnOk-HoldsSum (Err e) handle first second m a fit put same = tt

pub OnOk-HoldsProduct : (answer : Result (Unit {0}) Refusal) (handle first second : Option (Compressed W64))
    (m : Compressed W64) (a : Plain ring64) → CanMultiply (plain_held first) (plain_held second)
    → OnOk answer (handle ≡ Some m) → plain_of_rows ring64 w64_value m ≡ a
    → OnOk answer (HoldsProduct first second a handle)
OnOk-HoldsProduct (Ok u) handle first second m a fit put same = (fit, (m, put, same))
OnOk-HoldsProduct (Err e) handle first second m a fit put same = tt

pub plain_of_rows-held : (handle : Option (Compressed W64)) (m x : Compressed W64) → handle ≡ Some m → x ≡ m
    → plain_of_rows ring64 w64_value x ≡ plain_held handle
plain_of_rows-held handle m x is same = ap (plain_of_rows ring64 w64_value) same ∙ sym (ap plain_held is)

pub held : {T : Type 0} (handle : Option T) (m x : T) → handle ≡ Some m → x ≡ m → Some x ≡ handle
held handle m x is same = ap Some same ∙ sym is

rows-held : (handle : Option (Compressed W64)) (m : Compressed W64) → handle ≡ Some m
    → (plain_held handle).rows ≡ m.pattern.major_dim
rows-held handle m is = ap (λ (h : Option (Compressed W64)). (plain_held h).rows) is

cols-held : (handle : Option (Compressed W64)) (m : Compressed W64) → handle ≡ Some m
    → (plain_held handle).cols ≡ m.pattern.minor_dim
cols-held handle m is = ap (λ (h : Option (Compressed W64)). (plain_held h).cols) is

module _ (handle other : Option (Compressed W64)) (m n : Compressed W64) (is : handle ≡ Some m)
    (also : other ≡ Some n) where
  pub one_shape-held : m.pattern.major_dim ≡ n.pattern.major_dim
      → m.pattern.minor_dim ≡ n.pattern.minor_dim → HaveOneShape (plain_held handle) (plain_held other)
  one_shape-held rows cols = (
    rows-held handle m is ∙ rows ∙ sym (rows-held other n also),
    cols-held handle m is ∙ cols ∙ sym (cols-held other n also),
  )

  pub inner_size-held : m.pattern.minor_dim ≡ n.pattern.major_dim
      → CanMultiply (plain_held handle) (plain_held other)
  inner_size-held inner = cols-held handle m is ∙ inner ∙ sym (rows-held other n also)
