-- The ring that a call computes in.
use Rattle.std.specs.Prelude.{◌≤◌, ℕ, ℤ}
use Rattle.sparse_algebra.specs.Algebra.{CommRing}
use Rattle.sparse_algebra.specs.ModNumbers.{mod_value}
use Rattle.sparse_algebra.specs.Moduli.{mod_ring}
use Rattle.sparse_algebra.specs.declared.scalar.residues.Mod.{Mod}
use Rattle.sparse_c.specs.Moduli.{IsFaultModulo}
use Rattle.c_arrays.specs.Reduced.{IsReduced}
use Rattle.c_arrays.specs.declared.refusal.Refusal.{Refusal}

-- a ring; a type of scalars and the ring element that each represents; IsShown, the range of the integers that are
-- written for scalars; and IsFault, the errors of a call whose operands have the errors Fault
pub record Scalars : Type 1 where
  pub ring : CommRing
  pub Scalar : Type 0
  pub value : Scalar → ring.Carrier
  pub IsShown : ℤ → Type 0
  pub IsFault : (Refusal → Type 0) → Refusal → Type 0

-- those of a scalar type
abbrev pub scalars : (R : CommRing) → {T : Type 0} → (T → R.Carrier) → (ℤ → Type 0) → Scalars
scalars R {T} f Shown =
    record { ring = R; Scalar = T; value = f; IsShown = Shown; IsFault = λ Fault. Fault }

-- those of the type of residues modulo m
abbrev pub residues_of : ℕ → Scalars
residues_of m =
    scalars (mod_ring m) (mod_value {m = m}) (λ z. m ≤ 9223372036854775808 → IsReduced m z)

-- those of a call with the modulus m, which may be unlisted
abbrev pub modulo : ℕ → Scalars
modulo m = record {
  ring = mod_ring m;
  Scalar = Mod m;
  value = mod_value {m = m};
  IsShown = IsReduced m;
  IsFault = IsFaultModulo m;
}
