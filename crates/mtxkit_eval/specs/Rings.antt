-- Rings of residues: the integers modulo 2 ^ 64, 2 ^ 128, or a given number.
use Rattle.std.specs.Prelude.{ℤ, pos, ℕ, Option, Some, None, unsigned_abs}
use Rattle.std.specs.Int.{w64, w128, int_rem_euclid, int_wrap}
use Rattle.sparse_algebra.specs.Algebra.{CommRing}
use Rattle.sparse_algebra.specs.ModNumbers.{mod_value}
use Rattle.sparse_algebra.specs.Moduli.{modulus, mod_ring}
use Rattle.sparse_algebra.specs.declared.scalar.residues.Mod.{Mod}
use Rattle.sparse_algebra.specs.declared.scalar.wrapping.W64.{W64}
use Rattle.mtxkit_texts.specs.Loaded.{ring64, value64}

-- the remainder of an integer by m, from 0 to m - 1
abbrev pub remainder : ℕ → ℤ → ℕ
remainder m z = unsigned_abs (int_rem_euclid z (pos m))

-- the signed integer of 64 bits that is congruent to z modulo 2 ^ 64
abbrev pub reduced64 : ℤ → ℤ
reduced64 z = int_wrap w64 z

-- the signed integer of 128 bits that is congruent to z modulo 2 ^ 128
abbrev pub reduced128 : ℤ → ℤ
reduced128 z = int_wrap w128 z

-- the least integer that is congruent to z modulo M and not negative
abbrev pub reduced_modulo : ℕ → ℤ → ℤ
reduced_modulo m z = int_rem_euclid z (pos (modulus m))

-- ---- by the modulus that a command gives, if any

abbrev pub ring_of : Option ℕ → CommRing
ring_of None = ring64
ring_of (Some m) = mod_ring m

abbrev pub reduced_by : Option ℕ → ℤ → ℤ
reduced_by None z = reduced64 z
reduced_by (Some m) z = reduced_modulo m z

abbrev pub scalar_of : Option ℕ → Type 0
scalar_of None = W64
scalar_of (Some m) = Mod m

abbrev pub ring_value : (m : Option ℕ) → scalar_of m → (ring_of m).Carrier
ring_value None x = value64 x
ring_value (Some m) x = mod_value x
