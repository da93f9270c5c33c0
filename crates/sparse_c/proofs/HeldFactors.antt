-- Factors that a handle holds, written to arrays.
-- - `held_answered`: the contract of `nalgebra_sparse_factors_read`, from that of `finish_factors`
-- - `held_missing`: the status of that call if its handle is empty
use Rattle.std.proofs.Common.{◌≡◌, ◌≢◌, ◌≤◌, ◌<◌, ◌⊎◌, ℕ, ℤ, pos, List, length, take, ap, sym}
use Rattle.std.proofs.Common.{Result, Err, inl, inr, subst, ◌∙◌, refl, arith}
use Rattle.std.specs.Prelude.{nat_abs, IfOk, IfErr, MatchResult, OnErr, Option}
use Rattle.std.specs.Int.{w64}
use Rattle.sparse_algebra.specs.Plain.{Plain, plain_transpose}
use Rattle.sparse_algebra.specs.Wrapping.{class_of_zero}
use Rattle.sparse_algebra.specs.WrappingValues.{w64_value}
use Rattle.sparse_algebra.specs.declared.scalar.wrapping.W64.{W64}
use Rattle.sparse_compressed.specs.Compressed.{Compressed}
use Rattle.sparse_compressed.specs.PlainOfLanes.{plain_of_cols, plain_of_rows}
use Rattle.sparse_factor.specs.Factors.{diagonal}
use Rattle.c_handles.specs.Factored.{d_held, l_held, zero64}
use Rattle.c_handles.specs.Held.{IsEmpty}
use Rattle.c_handles.specs.declared.held_factors.HeldFactors.{HeldFactors}
use Rattle.sparse_c.proofs.Factoring.{same_elements}
use Rattle.sparse_c.specs.Factors.{first_elements, HoldsFactors, WritesHeldFactors}
use Rattle.c_arrays.proofs.Answering.{size_kept, size_needed}
use Rattle.c_arrays.proofs.Joining.{both, found, refused}
use Rattle.c_arrays.specs.Arrays.{place_count, ring64, output_arrays, OutputArrays, HoldsRows}
use Rattle.c_arrays.specs.Refused.{IsOutOfMemoryOr, IsTooSmall}
use Rattle.c_arrays.specs.Rests.{KeepsBehind, KeepsRest}
use Rattle.c_arrays.specs.Statuses.{number_of}
use Rattle.c_arrays.specs.declared.refusal.Refusal.{Refusal}
use Rattle.c_arrays.specs.declared.refusal.Refusal.TheVariants.{TooSmall}

empty-not_too_small : (handle : Option HeldFactors) (e : Refusal) → IsEmpty handle e
    → number_of e ≢ number_of TooSmall
empty-not_too_small handle e fault same =
    let other : 17 ≢ 5 = omega arith in
    let numbers : pos 17 ≡ pos 5 = sym (ap number_of fault.0) ∙ same in
    other (ap nat_abs numbers)

pub held_missing : {X : Type 0} (P Q : X → Type 0) (answer : Result X Refusal) (e : Refusal)
    (status : ℤ) → answer ≡ Err e
    → (status ≡ pos 0 → MatchResult answer P (λ _. ⊥))
    → (status ≢ pos 0 → MatchResult answer Q (λ e. status ≡ number_of e))
    → status ≡ number_of e
held_missing P Q answer e status is written refused =
    subst (λ r. MatchResult r Q (λ e. status ≡ number_of e)) is
    (refused (λ zero. subst (λ r. MatchResult r P (λ _. ⊥)) is (written zero)))

module _ {V : Type 0} (items : V → List W64) (handle : Option HeldFactors)
    (answer : Result (Compressed W64 × V) Refusal)
    (columns : IfOk answer (λ s. plain_of_cols ring64 w64_value s.0 ≡ l_held handle))
    (pivots : IfOk answer (λ s. diagonal ring64 w64_value zero64 (items s.1) ≡ d_held handle))
    (count : IfOk answer (λ s. length (items s.1) ≡ (l_held handle).rows)) where
  known : IfOk answer (λ s. ((plain_of_cols ring64 w64_value s.0 ≡ l_held handle)
      × (diagonal ring64 w64_value zero64 (items s.1) ≡ d_held handle))
      × (length (items s.1) ≡ (l_held handle).rows))
  known = both _ _ answer (both _ _ answer columns pivots) count

  pub held_answered : (before after : OutputArrays) (old new : List ℤ) (status : ℤ)
      → IfErr answer (IsOutOfMemoryOr (IsEmpty handle))
      → (status ≡ pos 0
      → MatchResult answer (λ s. HoldsFactors ring64 w64_value s.0 (items s.1) after new) (λ _. ⊥))
      → (status ≡ pos 0
      → MatchResult answer (λ s. KeepsRest s.0.pattern.major_dim before after) (λ _. ⊥))
      → (status ≡ pos 0
      → MatchResult answer (λ s. KeepsBehind (length (items s.1)) old new) (λ _. ⊥))
      → (status ≢ pos 0
      → output_arrays after.offsets after.indices after.values before.places ≡ before)
      → (status ≢ pos 0 → new ≡ old)
      → (status ≢ pos 0
      → IfOk answer (λ s. after.places ≡ place_count (plain_of_rows ring64 w64_value s.0)))
      → OnErr answer (after.places ≡ before.places)
      → (status ≢ pos 0 → MatchResult answer (λ s. (status ≡ number_of TooSmall)
      × (IsTooSmall (plain_of_rows ring64 w64_value s.0) before
      ⊎ (length old < length (items s.1)))) (λ e. status ≡ number_of e))
      → WritesHeldFactors handle before after old new status
  held_answered before after old new status fault written rest rest_pivots untouched
      untouched_pivots needed kept why = record {
        columns = λ h.
            let p = found answer known (written h) in
            subst (λ (x : Plain ring64). HoldsRows (plain_transpose ring64 x) after) p.1.0.0.0
            p.1.1.0;
        room = λ h.
            let p = found answer known (written h) in
            subst (λ (n : ℕ). n ≤ length new) p.1.0.1 p.1.1.1;
        diagonal = λ h.
            let p = found answer known (written h) in
            let d = items p.0.1 in
            (λ k j. (ap (λ (n : ℕ). first_elements ring64 n new j) (sym p.1.0.1)
            ∙ same_elements ring64 w64_value zero64 (class_of_zero w64) (take (length d) new) d
            p.1.1.2 j) k) ∙ p.1.0.0.1;
        rest = λ h.
            let p = found answer known (rest h) in
            subst (λ (n : ℕ). KeepsRest n before after)
            (ap (λ (x : Plain ring64). x.cols) p.1.0.0.0) p.1.1;
        rest_diagonal = λ h.
            let p = found answer known (rest_pivots h) in
            subst (λ (n : ℕ). KeepsBehind n old new) p.1.0.1 p.1.1;
        untouched = λ h. (
          untouched h,
          size_kept _ status answer before.places after.places kept why h,
        );
        untouched_diagonal = untouched_pivots;
        needed = λ small.
            let p = size_needed _ status answer (empty-not_too_small handle) known fault needed why
            small in
            p.1.1 ∙ ap (λ (x : Plain ring64). place_count (plain_transpose ring64 x)) p.1.0.0.0;
        refused = λ h. refused answer known status status refl fault (λ e given. given)
            (λ s p small. elim small [
              | inl few ↦ inl (subst (λ (x : Plain ring64). IsTooSmall (plain_transpose ring64 x)
                  before) p.0.0 few)
              | inr short ↦ inr (subst (λ (n : ℕ). length old < n) p.1 short)
            ]) (why h);
      }
