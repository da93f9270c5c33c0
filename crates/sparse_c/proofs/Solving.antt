-- The contract of calls that solve a system and write the solution to an array.
use Rattle.std.proofs.Common.{◌≡◌, ◌≢◌, ◌≤◌, ℕ, ℤ, pos, ◌<◌, ◌*◌, length, take, ap, sym}
use Rattle.std.proofs.Common.{Result, subst, ◌∙◌}
use Rattle.std.specs.Prelude.{IfOk, IfErr, MatchResult, OnOk}
use Rattle.sparse_algebra.specs.Algebra.{CommRing}
use Rattle.sparse_algebra.specs.Plain.{Plain, plain_product}
use Rattle.sparse_algebra.specs.Sums.{sum_below}
use Rattle.sparse_algebra.proofs.SumLemmas.{sum_below-same}
use Rattle.sparse_coo_dense.specs.Dense.{Dense}
use Rattle.sparse_coo_dense.specs.DensePlain.{plain_of_dense}
use Rattle.sparse_dense_ops.specs.Solutions.{HasSameValues, IsSolution}
use Rattle.sparse_c.specs.Dense.{WritesNumbers}
use Rattle.sparse_c.specs.Scalars.{scalars}
use Rattle.sparse_c.specs.Solved.{HoldsMatrix, IsMatrixTooLong}
use Rattle.sparse_c.specs.declared.arguments.Numbers.{Numbers}
use Rattle.c_arrays.proofs.ValidStatuses.{FindsNoFault-sound}
use Rattle.c_arrays.specs.Arrays.{plain_by_values, HoldsDense}
use Rattle.c_arrays.specs.Reduced.{FirstAre}
use Rattle.c_arrays.specs.Refused.{IsOutOfMemoryOr}
use Rattle.c_arrays.specs.Rests.{KeepsBehind}
use Rattle.c_arrays.specs.Statuses.{number_of, FindsNoFault}
use Rattle.c_arrays.specs.declared.refusal.Refusal.{Refusal}
use Rattle.c_arrays.specs.declared.refusal.Refusal.TheVariants.{TooSmall}
use Rattle.c_arrays.proofs.Joining.{both, found, refused}

-- ---- a dense result of a known shape, as it is written to an array

module _ {T : Type 0} (answer : Result (Dense T) Refusal) (n m : ℕ)
    (rows : IfOk answer (λ x. x.nrows ≡ n)) (cols : IfOk answer (λ x. x.ncols ≡ m))
    (R : CommRing) (f : T → R.Carrier) (P : Plain R → Type 0)
    (is : IfOk answer (λ x. P (plain_of_dense R f x))) where
  known : IfOk answer (λ x. ((x.nrows ≡ n) × (x.ncols ≡ m)) × P (plain_of_dense R f x))
  known = both (λ (x : Dense T). (x.nrows ≡ n) × (x.ncols ≡ m))
      (λ (x : Dense T). P (plain_of_dense R f x)) answer
      (both (λ (x : Dense T). x.nrows ≡ n) (λ (x : Dense T). x.ncols ≡ m) answer rows cols) is

  -- if the result satisfies P, so does the matrix in the array; `seen` is the status at the caller, which equals
  -- `status`
  pub numbers_answered : {Shown : ℤ → Type 0} {Sound : Type 0} {Fault : Refusal → Type 0}
      (before after : Numbers) (status seen : ℤ) → seen ≡ status
      → after.values.ghost_name ≡ before.values.ghost_name
      → OnOk answer Sound → IfErr answer (IsOutOfMemoryOr Fault)
      → ((e : Refusal) → Fault e → FindsNoFault (number_of e) → Sound)
      → (status ≡ pos 0
      → MatchResult answer (λ x. HoldsDense (plain_of_dense R f x) after.values.now) (λ _. ⊥))
      → (status ≡ pos 0
      → MatchResult answer (λ x. FirstAre Shown (x.nrows * x.ncols) after.values.now) (λ _. ⊥))
      → (status ≡ pos 0 → MatchResult answer
      (λ x. KeepsBehind (x.nrows * x.ncols) before.values.now after.values.now) (λ _. ⊥))
      → (status ≢ pos 0 → after.values.now ≡ before.values.now)
      → (status ≢ pos 0 → MatchResult answer (λ x. (status ≡ number_of TooSmall)
      × (length before.values.now < x.nrows * x.ncols)) (λ e. status ≡ number_of e))
      → WritesNumbers (scalars R f Shown) Sound Fault (HoldsMatrix R P n m)
      (IsMatrixTooLong R P n m)
      (n * m) before after seen
  numbers_answered {Shown} before after status seen same array sound fault told written shown rest
      untouched why = record {
        answer = record {
          written = λ h.
              let p = found answer known (written (sym same ∙ h)) in record {
                room = subst (λ (s : ℕ × ℕ). s.0 * s.1 ≤ length after.values.now)
                    (λ k. (p.1.0.0.0 k, p.1.0.0.1 k)) p.1.1.room;
                holds = subst P (sym p.1.1.plain ∙ (λ k. plain_by_values R (p.1.0.0.0 k)
                    (p.1.0.0.1 k) (take (p.1.0.0.0 k * p.1.0.0.1 k) after.values.now))) p.1.0.1;
              };
          rest = λ h.
              let p = found answer known (rest (sym same ∙ h)) in
              subst (λ (s : ℕ × ℕ). KeepsBehind (s.0 * s.1) before.values.now after.values.now)
              (λ k. (p.1.0.0.0 k, p.1.0.0.1 k)) p.1.1;
          sound = FindsNoFault-sound _ _ answer status seen same sound fault told written why;
          untouched = λ h. untouched (λ e. h (same ∙ e));
          refused = λ h. refused answer known status seen same fault (λ e given. given)
              (λ x p small. (
                plain_of_dense R f x,
                p.1,
                subst (λ (s : ℕ × ℕ). length before.values.now < s.0 * s.1)
                    (λ k. (p.0.0 k, p.0.1 k)) small,
              )) (why (λ e. h (same ∙ e)));
        };
        shown = record {
          each = λ h.
              let p = found answer known (shown (sym same ∙ h)) in
              subst (λ (s : ℕ × ℕ). FirstAre Shown (s.0 * s.1) after.values.now)
              (λ k. (p.1.0.0.0 k, p.1.0.0.1 k)) p.1.1;
        };
        array = array;
      }

module _ (R : CommRing) where
  -- a solution with a matrix s is a solution with any matrix a that has the values of s
  pub solved_as : (a s x b : Plain R) (n m : ℕ) → a.cols ≡ n → s.cols ≡ n
      → HasSameValues R n n s a → IsSolution R s x b → HasSameValues R n m (plain_product R a x) b
  solved_as a s x b n m cols same equation solved i j row _ =
      ap (λ k. sum_below R k (λ k. R.mul (a.value i k) (x.value k j))) cols
      ∙ sum_below-same R n (λ k. R.mul (a.value i k) (x.value k j))
      (λ k. R.mul (s.value i k) (x.value k j))
      (λ k lt. ap (λ v. R.mul v (x.value k j)) (sym (equation i k row lt)))
      ∙ ap (λ k. sum_below R k (λ k. R.mul (s.value i k) (x.value k j))) (sym same)
      ∙ ap (λ (p : Plain R). p.value i j) solved
