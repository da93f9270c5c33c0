-- The representative and the residue class of a scalar of type `Mod<M>`.
use Rattle.std.specs.Prelude.{ℕ}
use Rattle.sparse_algebra.specs.Residues.{Residue}
use Rattle.sparse_algebra.specs.Moduli.{modulus, mod_class}
use Rattle.sparse_algebra.specs.declared.scalar.residues.Mod.{Mod}

abbrev pub mod_number : {m : ℕ} → Mod m → ℕ
mod_number x = x.number

-- the residue class of a scalar
abbrev pub mod_value : {m : ℕ} → Mod m → Residue (modulus m)
mod_value {m} x = mod_class m x.number
