-- The contract of calls that divide a matrix by an integer and write the quotient to arrays.
use Rattle.std.proofs.Common.{◌≡◌, ◌≢◌, ℕ, ℤ, pos, Result, ap, sym, subst, refl}
use Rattle.std.specs.Prelude.{IfOk, IfErr, MatchResult, OnErr, OnOk}
use Rattle.sparse_algebra.specs.Algebra.{CommRing}
use Rattle.sparse_algebra.specs.Integers.{element_of}
use Rattle.sparse_algebra.specs.Plain.{Plain}
use Rattle.sparse_compressed.specs.Compressed.{Compressed, IsSound}
use Rattle.sparse_compressed.specs.PlainOfLanes.{plain_of_rows}
use Rattle.sparse_c.specs.Scalars.{Scalars}
use Rattle.sparse_c.specs.Solved.{Divides, IsFaultOfQuotient, IsQuotientBy, WritesQuotient}
use Rattle.sparse_c.proofs.ValidOperands.{matrix_error-not_too_small, matrix_sound}
use Rattle.c_arrays.specs.Arrays.{place_count, plain_by_rows, output_arrays, OutputArrays, HoldsRows}
use Rattle.c_arrays.specs.Refused.{IsOutOfMemoryOr, IsTooSmall}
use Rattle.c_arrays.specs.Rests.{KeepsRest}
use Rattle.c_arrays.specs.Statuses.{number_of}
use Rattle.c_arrays.specs.declared.refusal.Refusal.{Refusal}
use Rattle.c_arrays.specs.declared.refusal.Refusal.TheVariants.{TooSmall}
use Rattle.c_arrays.proofs.Answering.{size_kept, size_needed}
use Rattle.c_arrays.proofs.ValidStatuses.{FindsNoFault-sound}
use Rattle.c_arrays.proofs.Joining.{found, refused as refused_for}

module _ (R : CommRing) {T : Type 0} (f : T → R.Carrier) (a : Compressed ℤ) (divisor : ℤ)
    (before after : OutputArrays) (status : ℤ) where
  pub quotient_answered : (answer : Result (Compressed T) Refusal)
      → IfOk answer
      (λ m. IsQuotientBy R (element_of R divisor) (plain_of_rows R f m) (plain_by_rows R a))
      → OnOk answer (IsSound a) → IfErr answer (IsOutOfMemoryOr (IsFaultOfQuotient R f a divisor))
      → (status ≡ pos 0
      → MatchResult answer (λ m. HoldsRows (plain_of_rows R f m) after) (λ _. ⊥))
      → (status ≡ pos 0
      → MatchResult answer (λ m. KeepsRest m.pattern.major_dim before after) (λ _. ⊥))
      → (status ≢ pos 0
      → output_arrays after.offsets after.indices after.values before.places ≡ before)
      → (status ≢ pos 0 → IfOk answer (λ m. after.places ≡ place_count (plain_of_rows R f m)))
      → OnErr answer (after.places ≡ before.places)
      → (status ≢ pos 0 → MatchResult answer
      (λ m. (status ≡ number_of TooSmall) × IsTooSmall (plain_of_rows R f m) before)
      (λ e. status ≡ number_of e))
      → Divides R (IsFaultOfQuotient R f a divisor) a divisor before after status
  unfolding WritesQuotient
  quotient_answered answer quotient sound fault written rest untouched needed kept why = record {
    written = λ h.
        let p = found answer quotient (written h) in
        (plain_of_rows R f p.0, p.1.0, p.1.1);
    rest = λ h.
        let p = found answer quotient (rest h) in
        subst (λ (n : ℕ). KeepsRest n before after) (ap (λ (x : Plain R). x.rows) p.1.0.2) p.1.1;
    sound = FindsNoFault-sound _ _ answer status status refl sound fault (matrix_sound a) written
        why;
    untouched = λ h. (
      untouched h,
      size_kept _ status answer before.places after.places kept why h,
    );
    needed = λ small.
        let p = size_needed _ status answer (matrix_error-not_too_small a) quotient fault needed why
        small in
        (plain_of_rows R f p.0, p.1.0, p.1.1);
    refused = λ h. refused_for answer quotient status status refl fault (λ e given. given)
        (λ m p small. (plain_of_rows R f m, p, small)) (why h);
  }

-- this contract after the divisor and the status are replaced by equal numbers
pub seen_quotient : (S : Scalars) {a : Compressed ℤ} {divisor passed : ℤ} {before after : OutputArrays}
    {status seen : ℤ} → divisor ≡ passed → seen ≡ status
    → Divides S.ring (S.IsFault (IsFaultOfQuotient S.ring S.value a passed)) a passed before after
    status
    → Divides S.ring (S.IsFault (IsFaultOfQuotient S.ring S.value a divisor)) a divisor before after
    seen
seen_quotient S {a} {divisor} {passed} {before} {after} is same ensured = subst
    (λ (s : ℤ × ℤ). Divides S.ring (S.IsFault (IsFaultOfQuotient S.ring S.value a s.0)) a s.0 before
    after s.1) (λ k. (sym is k, sym same k)) ensured
