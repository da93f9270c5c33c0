-- Combining properties of the value and of the error of a result.
use Rattle.std.proofs.Common.{inl, inr}
use Rattle.std.specs.Prelude.{◌⊎◌, refl, Result, Ok, Err, IfOk, IfErr, IsErr, OnOk}

module _ {X E : Type 0} where
  pub ok_both : (P Q S : X → Type 0) (r : Result X E) → ((x : X) → P x → Q x → S x) → IfOk r P
      → IfOk r Q → IfOk r S
  ok_both P Q S (Ok x) h p q = h x p q
  ok_both P Q S (Err e) h p q = tt

  pub err_any : (Q : E → Type 0) (r : Result X E) → ((e : E) → Q e) → IfErr r Q
  err_any Q (Ok x) h = tt
  err_any Q (Err e) h = h e

  pub ok_or : {P Q : Type 0} (r : Result X E) → OnOk r P → (IsErr r → Q) → P ⊎ Q
  ok_or (Ok x) p q = inl p
  ok_or (Err e) p q = inr (q refl)
