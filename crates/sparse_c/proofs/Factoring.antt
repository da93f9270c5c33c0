-- Factors of symmetric matrices, and the contract of calls that write them to arrays.
use Rattle.std.proofs.Common.{◌≡◌, ◌≢◌, ◌≤◌, ◌<◌, ◌⊎◌, ℕ, ℤ, pos, List, length, map, take, ap, sym}
use Rattle.std.proofs.Common.{Result, inl, inr, subst, ◌∙◌, refl}
use Rattle.std.specs.Prelude.{slice_index_or, IfOk, IfErr, MatchResult, OnErr, OnOk}
use Rattle.std.proofs.Math.ListN.{get_or, get_or-map}
use Rattle.sparse_algebra.specs.Algebra.{CommRing}
use Rattle.sparse_algebra.specs.Plain.{Plain}
use Rattle.sparse_compressed.specs.Compressed.{Compressed, IsSound}
use Rattle.sparse_compressed.specs.PlainOfLanes.{plain_of_cols, plain_of_rows}
use Rattle.sparse_factor.specs.Fill.{InFill, UpperBase, StoresByColumns}
use Rattle.sparse_factor.specs.Factorisations.{plain_symmetric, IsFactorisation, IsUnitLower}
use Rattle.sparse_factor.specs.Factors.{Factors, diagonal, plain_of_factors}
use Rattle.sparse_factor.specs.Factors.{symmetric_of, HavePivots}
use Rattle.sparse_factor.proofs.FilledSets.{has_entry, entry_has}
use Rattle.sparse_pattern.specs.Raw.{Raw}
use Rattle.sparse_dense_ops.specs.Solutions.{HasSameValues}
use Rattle.sparse_c.proofs.ValidOperands.{matrix_error-not_too_small, matrix_sound}
use Rattle.sparse_c.specs.Factors.{first_elements, AreFactors, AreFactorsTooLong, Factorises}
use Rattle.sparse_c.specs.Factors.{HoldsFactors, IsFaultOfFactors, WritesFactors}
use Rattle.sparse_c.specs.Symmetric.{symmetric_by_cols}
use Rattle.c_arrays.proofs.Answering.{size_kept, size_needed}
use Rattle.c_arrays.proofs.ValidStatuses.{FindsNoFault-sound}
use Rattle.c_arrays.specs.Arrays.{place_count, plain_by_cols, output_arrays, OutputArrays}
use Rattle.c_arrays.specs.Reduced.{FirstAre}
use Rattle.c_arrays.specs.Refused.{IsOutOfMemoryOr, IsRefusedFor, IsTooSmall}
use Rattle.c_arrays.specs.Rests.{KeepsBehind, KeepsRest}
use Rattle.c_arrays.specs.Statuses.{number_of}
use Rattle.c_arrays.specs.declared.refusal.Refusal.{Refusal}
use Rattle.c_arrays.specs.declared.refusal.Refusal.TheVariants.{TooSmall}
use Rattle.c_arrays.proofs.Joining.{both, found, refused}
use Rattle.sparse_algebra.specs.Integers.{times_one, element_of}

-- factors of a CSC matrix m are factors of the arrays a from which m was built
module _ (R : CommRing) {T : Type 0} (f : T → R.Carrier) (z : T) (a : Compressed ℤ)
    (m : Compressed T)
    (s : Factors T) (pattern : m.pattern ≡ a.pattern)
    (plain : plain_of_cols R f m ≡ plain_by_cols R a)
    (rows : s.l.pattern.minor_dim ≡ m.pattern.minor_dim)
    (count : length s.d ≡ m.pattern.minor_dim) where
  pub IsFactorisation-arrays : IsUnitLower R (plain_of_cols R f s.l) → HavePivots R f z s.d
      → HasSameValues R (length s.d) (length s.d) (plain_of_factors R f z s) (symmetric_of R f m)
      → IsFactorisation R f (symmetric_by_cols R a) (plain_of_cols R f s.l) (diagonal R f z s.d)
  IsFactorisation-arrays lower pivots equation =
      let size = count ∙ ap (λ d. d.minor_dim) pattern in
      let product = plain_of_factors R f z s in
      record {
        rows = rows ∙ ap (λ d. d.minor_dim) pattern;
        lower = lower;
        pivots = λ j lt. pivots j (subst (λ n. j < n) (sym size) lt);
        equation = subst (λ (p : Plain R). HasSameValues R a.pattern.minor_dim a.pattern.minor_dim
            product (plain_symmetric R p)) plain
            (subst (λ n. HasSameValues R n n product (symmetric_of R f m)) size equation);
      }

  pub AreFactors-arrays : IsSound s.l
      → StoresByColumns (InFill (UpperBase m.pattern)) s.l.pattern
      → IsUnitLower R (plain_of_cols R f s.l) → HavePivots R f z s.d
      → HasSameValues R (length s.d) (length s.d) (plain_of_factors R f z s) (symmetric_of R f m)
      → AreFactors R f a (plain_of_cols R f s.l) (diagonal R f z s.d)
  AreFactors-arrays sound places lower pivots equation =
      let stored = subst (λ (p : Raw). StoresByColumns (InFill (UpperBase p)) s.l.pattern) pattern
      places in
      record {
        factors = IsFactorisation-arrays lower pivots equation;
        places = λ i j. (
          λ has. (stored i j).0 (has_entry R f s.l sound i j has),
          λ fill. entry_has R f s.l sound i j ((stored i j).1 fill),
        );
      }

module _ (R : CommRing) {T : Type 0} (f : T → R.Carrier) (z : T) (zero_is : f z ≡ R.zero) where
  -- lists that represent the same ring elements represent equal elements at each index
  pub same_elements : (xs : List ℤ) (ys : List T) → map (element_of R) xs ≡ map f ys → (j : ℕ)
      → element_of R (slice_index_or xs j (pos 0)) ≡ f (slice_index_or ys j z)
  unfolding element_of times_one
  same_elements xs ys same j = sym (get_or-map (element_of R) xs j (pos 0))
      ∙ (λ k. get_or (same k) j (sym zero_is k)) ∙ get_or-map f ys j z

  -- the result of `factors_of`, as it is written to the arrays
  module _ {V : Type 0} (items : V → List T) (a : Compressed ℤ)
      (answer : Result (Compressed T × V) Refusal)
      (factors : IfOk answer (λ s. AreFactors R f a (plain_of_cols R f s.0)
      (diagonal R f z (items s.1))))
      (rows : IfOk answer (λ s. s.0.pattern.minor_dim ≡ a.pattern.minor_dim))
      (count : IfOk answer (λ s. length (items s.1) ≡ a.pattern.minor_dim)) where
    known : IfOk answer (λ s. (AreFactors R f a (plain_of_cols R f s.0) (diagonal R f z (items s.1))
        × (s.0.pattern.minor_dim ≡ a.pattern.minor_dim))
        × (length (items s.1) ≡ a.pattern.minor_dim))
    known = both _ _ answer (both _ _ answer factors rows) count

    factors_written : (room : OutputArrays) (pivots : List ℤ)
        → MatchResult answer (λ s. HoldsFactors R f s.0 (items s.1) room pivots) (λ _. ⊥)
        → WritesFactors R f a room pivots
    unfolding WritesFactors
    factors_written room pivots written =
        let p = found answer known written in
        let l = p.0.0 in
        let d = items p.0.1 in
        let size = p.1.0.0.1 ∙ sym p.1.0.1 in (
          plain_of_cols R f l,
          p.1.1.0,
          subst (λ n. n ≤ length pivots) (sym size) p.1.1.1,
          subst (AreFactors R f a (plain_of_cols R f l)) (λ k j. (sym (same_elements
              (take (length d) pivots) d p.1.1.2 j)
              ∙ ap (λ n. first_elements R n pivots j) (sym size)) k) p.1.0.0.0,
        )

    pub factors_shown : (S : ℤ → Type 0) (pivots : List ℤ)
        → MatchResult answer (λ s. FirstAre S (length (items s.1)) pivots) (λ _. ⊥)
        → FirstAre S a.pattern.minor_dim pivots
    factors_shown S pivots written =
        let p = found answer known written in
        subst (λ n. FirstAre S n pivots) p.1.0.1 p.1.1

    factors_rest : (old new : OutputArrays)
        → MatchResult answer (λ s. KeepsRest s.0.pattern.major_dim old new) (λ _. ⊥)
        → KeepsRest a.pattern.minor_dim old new
    factors_rest old new kept =
        let p = found answer known kept in
        subst (λ (n : ℕ). KeepsRest n old new) (p.1.0.0.0.factors.lower.square ∙ p.1.0.0.1) p.1.1

    pivots_rest : (old new : List ℤ)
        → MatchResult answer (λ s. KeepsBehind (length (items s.1)) old new) (λ _. ⊥)
        → KeepsBehind a.pattern.minor_dim old new
    pivots_rest old new kept =
        let p = found answer known kept in
        subst (λ (n : ℕ). KeepsBehind n old new) p.1.0.1 p.1.1

    factors_refused : (room : OutputArrays) (pivots : List ℤ) (status : ℤ)
        → IfErr answer (IsOutOfMemoryOr (IsFaultOfFactors R f a))
        → MatchResult answer (λ s. (status ≡ number_of TooSmall)
        × (IsTooSmall (plain_of_rows R f s.0) room ⊎ (length pivots < length (items s.1))))
        (λ e. status ≡ number_of e)
        → IsRefusedFor (IsFaultOfFactors R f a) (AreFactorsTooLong R f a room pivots) status
    factors_refused room pivots status fault how = refused answer known status status refl fault
        (λ e given. given) (λ s p small. (
          plain_of_cols R f s.0,
          diagonal R f z (items s.1),
          p.0.0,
          elim small [
            | inl few ↦ inl few
            | inr short ↦ inr (subst (λ n. length pivots < n) (p.1 ∙ sym p.0.1) short)
          ],
        )) how

    -- the whole contract
    pub factors_answered : (before after : OutputArrays) (old new : List ℤ) (status : ℤ)
        → OnOk answer (IsSound a) → IfErr answer (IsOutOfMemoryOr (IsFaultOfFactors R f a))
        → (status ≡ pos 0
        → MatchResult answer (λ s. HoldsFactors R f s.0 (items s.1) after new) (λ _. ⊥))
        → (status ≡ pos 0
        → MatchResult answer (λ s. KeepsRest s.0.pattern.major_dim before after) (λ _. ⊥))
        → (status ≡ pos 0
        → MatchResult answer (λ s. KeepsBehind (length (items s.1)) old new) (λ _. ⊥))
        → (status ≢ pos 0
        → output_arrays after.offsets after.indices after.values before.places ≡ before)
        → (status ≢ pos 0 → new ≡ old)
        → (status ≢ pos 0 → IfOk answer (λ s. after.places ≡ place_count (plain_of_rows R f s.0)))
        → OnErr answer (after.places ≡ before.places)
        → (status ≢ pos 0 → MatchResult answer (λ s. (status ≡ number_of TooSmall)
        × (IsTooSmall (plain_of_rows R f s.0) before ⊎ (length old < length (items s.1))))
        (λ e. status ≡ number_of e))
        → Factorises R f (IsFaultOfFactors R f a) a before after old new status
    factors_answered before after old new status sound fault written rest rest_pivots untouched
        untouched_pivots needed kept why = record {
          written = λ h. factors_written after new (written h);
          rest = λ h. factors_rest before after (rest h);
          rest_diagonal = λ h. pivots_rest old new (rest_pivots h);
          sound = FindsNoFault-sound _ _ answer status status refl sound fault (matrix_sound a) written
              why;
          untouched = λ h. (
            untouched h,
            size_kept _ status answer before.places after.places kept why h,
          );
          untouched_diagonal = untouched_pivots;
          needed = λ small.
              let p = size_needed _ status answer (matrix_error-not_too_small a) known fault needed why small
              in
              (plain_of_cols R f p.0.0, diagonal R f z (items p.0.1), p.1.0.0.0, p.1.1);
          refused = λ h. factors_refused before old status fault (why h);
        }
