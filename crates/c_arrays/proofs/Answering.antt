-- The contract of a call that fails, and of a call that writes a matrix by rows (`WritesRows`).
use Rattle.std.proofs.Common.{◌≡◌, ◌≢◌, ℕ, ℤ, pos, Result, Ok, Err, inl, inr, ap, sym, subst}
use Rattle.std.proofs.Common.{◌∙◌, refl, arith}
use Rattle.std.specs.Prelude.{nat_abs, IfOk, IfErr, MatchResult, OnErr, OnOk}
use Rattle.sparse_algebra.specs.Algebra.{CommRing}
use Rattle.sparse_algebra.specs.Plain.{Plain}
use Rattle.sparse_compressed.specs.Compressed.{Compressed}
use Rattle.sparse_compressed.specs.PlainOfLanes.{plain_of_rows}
use Rattle.c_arrays.proofs.ValidStatuses.{memory_finds_fault}
use Rattle.c_arrays.specs.Arrays.{place_count, output_arrays, OutputArrays, HoldsRows}
use Rattle.c_arrays.specs.Refused.{IsOutOfMemoryOr, IsTooSmall}
use Rattle.c_arrays.specs.Rests.{KeepsRest}
use Rattle.c_arrays.specs.Statuses.{number_of, FindsNoFault}
use Rattle.c_arrays.specs.Untouched.{KeepsSize}
use Rattle.c_arrays.specs.Written.{WritesRows}
use Rattle.c_arrays.specs.declared.refusal.Refusal.{Refusal}
use Rattle.c_arrays.specs.declared.refusal.Refusal.TheVariants.{TooSmall}

pub small_not_zero : (status : ℤ) → status ≡ number_of TooSmall → status ≢ pos 0
small_not_zero status small zero =
    let five : 5 ≢ 0 = omega arith in
    let same : pos 5 ≡ pos 0 = sym small ∙ zero in
    five (ap nat_abs same)

-- ---- the size that a call writes, if no fault has the status TOO_SMALL

module _ {X : Type 0} (Q : X → Type 0) (status : ℤ) where
  pub size_needed : {P N : X → Type 0} {Fault : Refusal → Type 0} (answer : Result X Refusal)
      → ((e : Refusal) → Fault e → number_of e ≢ number_of TooSmall)
      → IfOk answer P → IfErr answer (IsOutOfMemoryOr Fault) → (status ≢ pos 0 → IfOk answer N)
      → (status ≢ pos 0 → MatchResult answer (λ x. (status ≡ number_of TooSmall) × Q x)
      (λ e. status ≡ number_of e))
      → status ≡ number_of TooSmall → (x : X) × (P x × N x)
  size_needed (Ok x) other known fault needed refused small =
      (x, (known, needed (small_not_zero status small)))
  size_needed (Err e) other known (inl memory) needed refused small = absurd
      (memory_finds_fault e memory (inr (inl (sym (refused (small_not_zero status small)) ∙ small))))
  size_needed (Err e) other known (inr fault) needed refused small =
      absurd (other e fault (sym (refused (small_not_zero status small)) ∙ small))

  pub size_kept : (answer : Result X Refusal) (old new : ℕ) → OnErr answer (new ≡ old)
      → (status ≢ pos 0 → MatchResult answer (λ x. (status ≡ number_of TooSmall) × Q x)
      (λ e. status ≡ number_of e))
      → status ≢ pos 0 → KeepsSize status old new
  size_kept (Ok x) old new kept refused not_zero other = absurd (other (refused not_zero).0)
  size_kept (Err e) old new kept refused not_zero other = kept

-- ---- a matrix by rows

faulty : {Fault : Refusal → Type 0} → ((e : Refusal) → Fault e → FindsNoFault (number_of e) → ⊥)
    → (e : Refusal) → IsOutOfMemoryOr Fault e → FindsNoFault (number_of e) → ⊥
faulty told e (inl memory) = memory_finds_fault e memory
faulty told e (inr fault) = told e fault

module _ (R : CommRing) {T : Type 0} (f : T → R.Carrier) (a : Plain R) {Sound : Type 0}
    {Fault : Refusal → Type 0} (told : (e : Refusal) → Fault e → FindsNoFault (number_of e) → ⊥)
    (before after : OutputArrays) (status : ℤ) where
  pub rows_answered : (answer : Result (Compressed T) Refusal)
      → IfOk answer (λ m. plain_of_rows R f m ≡ a) → OnOk answer Sound
      → IfErr answer (IsOutOfMemoryOr Fault)
      → (status ≡ pos 0
      → MatchResult answer (λ m. HoldsRows (plain_of_rows R f m) after) (λ _. ⊥))
      → (status ≡ pos 0
      → MatchResult answer (λ m. KeepsRest m.pattern.major_dim before after) (λ _. ⊥))
      → (status ≢ pos 0
      → output_arrays after.offsets after.indices after.values before.places ≡ before)
      → (status ≢ pos 0 → IfOk answer (λ m. after.places ≡ place_count (plain_of_rows R f m)))
      → OnErr answer (after.places ≡ before.places)
      → (status ≢ pos 0 → MatchResult answer
      (λ m. (status ≡ number_of TooSmall) × IsTooSmall (plain_of_rows R f m) before)
      (λ e. status ≡ number_of e))
      → WritesRows Sound Fault a before after status
  rows_answered (Ok m) plain sound fault written rest untouched needed kept refused = record {
    written = λ h. subst (λ (x : Plain R). HoldsRows x after) plain (written h);
    rest = λ h. subst (λ (x : Plain R). KeepsRest x.rows before after) plain (rest h);
    sound = λ _. sound;
    untouched = λ h. (untouched h, λ other. absurd (other (refused h).0));
    needed = λ small. needed (small_not_zero status small) ∙ ap place_count plain;
    refused = λ h. (
      TooSmall,
      (refused h).0,
      inr (refl, subst (λ (x : Plain R). IsTooSmall x before) plain (refused h).1),
    );
  }
  rows_answered (Err e) plain sound fault written rest untouched needed kept refused = record {
    written = λ h. absurd (written h);
    rest = λ h. absurd (rest h);
    sound = λ found. absurd (faulty told e fault (subst FindsNoFault (refused written) found));
    untouched = λ h. (untouched h, λ _. kept);
    needed = λ small.
        absurd (faulty told e fault (subst FindsNoFault (refused written) (inr (inl small))));
    refused = λ h. (e, refused written, inl fault);
  }

-- WritesRows for an equal status, which the caller sees
pub seen_rows : {R : CommRing} {Sound : Type 0} {Fault : Refusal → Type 0} {a : Plain R}
    {before after : OutputArrays} {status seen : ℤ} → seen ≡ status
    → WritesRows Sound Fault a before after status → WritesRows Sound Fault a before after seen
seen_rows {R} {Sound} {Fault} {a} {before} {after} same made =
    subst (λ (s : ℤ). WritesRows Sound Fault a before after s) (sym same) made

-- WritesRows for an equal plain matrix
pub same_rows : {R : CommRing} {Sound : Type 0} {Fault : Refusal → Type 0} {a b : Plain R}
    {before after : OutputArrays} {status : ℤ} → a ≡ b
    → WritesRows Sound Fault a before after status → WritesRows Sound Fault b before after status
same_rows {R} {Sound} {Fault} {a} {b} {before} {after} {status} same made =
    subst (λ (x : Plain R). WritesRows Sound Fault x before after status) same made
