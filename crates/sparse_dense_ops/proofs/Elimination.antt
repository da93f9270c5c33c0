-- A step of forward substitution in a list: the solution of row k is written, and its multiple of
-- the column added to the rows below.
use Rattle.std.proofs.Common.{◌≡◌, ◌<◌, ℕ, List, length, get_or, set, ap, sym, ◌∙◌, arith}
use Rattle.std.proofs.Common.{length-set, get_or-set_same, get_or-set_other}
use Rattle.sparse_algebra.specs.Algebra.{CommRing}
use Rattle.sparse_algebra.proofs.RingLemmas.{mul_zero}
use Rattle.sparse_dense_ops.specs.SparseVectors.{AddsMultiple, elements, sparse_elements}
use Rattle.sparse_dense_ops.specs.InnerColumns.{IsEliminated}
use Rattle.sparse_dense_ops.proofs.RingSteps.{add_off}

pub eliminated : {R : CommRing} {T : Type 0} {f : T → R.Carrier} (z : T) {k : ℕ} {rows : List ℕ}
    {values : List T} {e : R.Carrier} {minus : R.Carrier} (x y : List T) (answer : T)
    → k < length x → sparse_elements R f rows values k ≡ R.zero
    → f answer ≡ R.mul (f (get_or x k z)) e → minus ≡ R.neg (f answer)
    → AddsMultiple R f z minus (sparse_elements R f rows values) (set x k answer) y
    → IsEliminated R f (length x) k rows values e (elements R f z x) (elements R f z y)
eliminated {R} {f = f} z {k} {rows} {values} {minus = minus} x y answer lt above is negative added =
    let within : (i : ℕ) → i < length x → i < length (set x k answer) =
    λ i l. omega (arith, length-set x k answer) in
    let here : f (get_or y k z) ≡ f answer = added k (within k lt)
    ∙ add_off R _ _ (ap (R.mul minus) above ∙ mul_zero R minus)
    ∙ ap f (get_or-set_same x k answer z lt) in
    record {
      answer = here ∙ is;
      others = λ i l ne. added i (within i l)
          ∙ ap (λ v. R.add (f v) (R.mul minus (sparse_elements R f rows values i)))
          (get_or-set_other x k i answer z ne)
          ∙ ap (λ c. R.add (f (get_or x i z)) (R.mul c (sparse_elements R f rows values i)))
          (negative ∙ ap R.neg (sym here));
    }
