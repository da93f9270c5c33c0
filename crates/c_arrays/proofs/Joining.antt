-- The contract of a call, from what was read, what was computed and the status.
use Rattle.std.proofs.Common.{◌≡◌, ℕ, ℤ, Result, Ok, Err, inl, inr, ap, subst, ◌∙◌, refl}
use Rattle.std.specs.Prelude.{IfOk, IfErr, MatchResult}
use Rattle.sparse_algebra.specs.Algebra.{CommRing}
use Rattle.sparse_algebra.specs.Plain.{Plain}
use Rattle.sparse_compressed.specs.Compressed.{Compressed}
use Rattle.sparse_compressed.specs.PlainOfLanes.{plain_of_rows}
use Rattle.c_arrays.specs.Arrays.{OutputArrays, HoldsRows}
use Rattle.c_arrays.specs.Refused.{IsOutOfMemoryOr, IsRefused, IsRefusedFor, IsTooSmall}
use Rattle.c_arrays.specs.Rests.{KeepsRest}
use Rattle.c_arrays.specs.Statuses.{number_of}
use Rattle.c_arrays.specs.declared.refusal.Refusal.{Refusal}
use Rattle.c_arrays.specs.declared.refusal.Refusal.TheVariants.{TooSmall}

-- two facts about the value of an answer
pub both : {X : Type 0} (P Q : X → Type 0) (answer : Result X Refusal) → IfOk answer P
    → IfOk answer Q → IfOk answer (λ x. P x × Q x)
both P Q (Ok x) p q = (p, q)
both P Q (Err e) p q = q

module _ {X : Type 0} {P Q : X → Type 0} (answer : Result X Refusal) (known : IfOk answer P) where
  -- if a value was written, it exists, and what is known of the answer holds for it
  pub found : MatchResult answer Q (λ _. ⊥) → (x : X) × (P x × Q x)
  found q = find answer known q
    where
      find : (r : Result X Refusal) → IfOk r P → MatchResult r Q (λ _. ⊥) → (x : X) × (P x × Q x)
      find (Ok x) p q = (x, (p, q))
      find (Err e) p never = absurd never

  -- if nothing was written, the status is that of the error of the answer, or of an array that is too small for its
  -- value; the caller sees the status as `seen`
  pub refused : {Given Fault : Refusal → Type 0} {Small : Type 0} (status seen : ℤ)
      → seen ≡ status → IfErr answer (IsOutOfMemoryOr Given) → ((e : Refusal) → Given e → Fault e)
      → ((x : X) → P x → Q x → Small)
      → MatchResult answer (λ x. (status ≡ number_of TooSmall) × Q x)
      (λ e. status ≡ number_of e)
      → IsRefusedFor Fault Small seen
  refused {Given} {Fault} {Small} status seen same fault as_fault as_small how =
      refuse answer known fault how
    where
      refuse : (r : Result X Refusal) → IfOk r P → IfErr r (IsOutOfMemoryOr Given)
          → MatchResult r (λ x. (status ≡ number_of TooSmall) × Q x) (λ e. status ≡ number_of e)
          → IsRefusedFor Fault Small seen
      refuse (Ok x) p fault small = (TooSmall, same ∙ small.0, inr (refl, as_small x p small.1))
      refuse (Err e) p (inl memory) is = (e, same ∙ is, inl (inl memory))
      refuse (Err e) p (inr given) is = (e, same ∙ is, inl (inr (as_fault e given)))

-- ---- matrices by rows

module _ (R : CommRing) {T : Type 0} (f : T → R.Carrier) (a b : Plain R) (same : b ≡ a)
    (answer : Result (Compressed T) Refusal)
    (known : IfOk answer (λ m. plain_of_rows R f m ≡ b)) where
  pub rows_written : (r : OutputArrays)
      → MatchResult answer (λ m. HoldsRows (plain_of_rows R f m) r) (λ _. ⊥) → HoldsRows a r
  rows_written r q =
      let p = found answer known q in
      subst (λ (x : Plain R). HoldsRows x r) (p.1.0 ∙ same) p.1.1

  pub rows_rest : (old new : OutputArrays)
      → MatchResult answer (λ m. KeepsRest m.pattern.major_dim old new) (λ _. ⊥)
      → KeepsRest a.rows old new
  rows_rest old new q =
      let p = found answer known q in
      subst (λ (n : ℕ). KeepsRest n old new) (ap (λ (x : Plain R). x.rows) (p.1.0 ∙ same)) p.1.1

  pub rows_refused : (r : OutputArrays) {Given Fault : Refusal → Type 0} (status seen : ℤ)
      → seen ≡ status → IfErr answer (IsOutOfMemoryOr Given) → ((e : Refusal) → Given e → Fault e)
      → MatchResult answer
      (λ m. (status ≡ number_of TooSmall) × IsTooSmall (plain_of_rows R f m) r)
      (λ e. status ≡ number_of e)
      → IsRefused Fault a r seen
  rows_refused r status seen is fault as_fault how = refused answer known status seen is fault
      as_fault (λ m p small. subst (λ (x : Plain R). IsTooSmall x r) (p ∙ same) small) how
