-- A residue modulo a product of two moduli, seen as a pair of residues.
use Rattle.std.specs.Prelude.{ℕ, ◌*◌, ◌<◌}
use Rattle.std.specs.Int.{IsGcd}
use Rattle.std.proofs.Math.Nat.{mul-pos}
use Rattle.sparse_algebra.specs.Algebra.{CommRing}
use Rattle.sparse_algebra.specs.Residues.{Residue, residues}
use Rattle.sparse_algebra.specs.Moduli.{modulus, modulus_pos, mod_class}

-- one is the greatest common divisor of M and N
abbrev pub AreCoprime : ℕ → ℕ → Type 0
AreCoprime m n = IsGcd (modulus m) (modulus n) 1

pub both_moduli_pos : (m n : ℕ) → 0 < modulus m * modulus n
both_moduli_pos m n = mul-pos (modulus_pos m) (modulus_pos n)

-- the residues modulo M N
abbrev pub both_ring : ℕ → ℕ → CommRing
both_ring m n = residues (modulus m * modulus n) (both_moduli_pos m n)

-- the residues of a number modulo M and modulo N
abbrev pub residue_pair : (m n : ℕ) → Residue (modulus m * modulus n)
    → Residue (modulus m) × Residue (modulus n)
residue_pair m n c = (mod_class m c.number, mod_class n c.number)
