-- The modulus of `Mod<M>`, and its ring.
use Rattle.std.specs.Prelude.{◌≡◌, ℕ, ◌%◌, ◌<◌, ◌↔◌, max, nat_eq, true}
use Rattle.std.proofs.Common.{sym, ap, ◌∙◌, arith}
use Rattle.std.proofs.lemmas.Bool.Decides.{Decides-eqb}
use Rattle.std.proofs.Math.Nat.{mod-eq_of_lt}
use Rattle.sparse_algebra.specs.Algebra.{CommRing}
use Rattle.sparse_algebra.specs.Residues.{Residue, residue, residues}

-- M, or 1 where M is 0
abbrev pub modulus : ℕ → ℕ
modulus m = max 1 m

pub modulus_pos : (m : ℕ) → 0 < modulus m
modulus_pos m = omega arith

-- the residues modulo M
abbrev pub mod_ring : ℕ → CommRing
mod_ring m = residues (modulus m) (modulus_pos m)

-- the residue of a number
abbrev pub mod_class : (m : ℕ) → ℕ → Residue (modulus m)
mod_class m n = residue (modulus m) (modulus_pos m) n

-- numbers below the modulus are equal if and only if their residues are
pub mod_decides : (m x y : ℕ) → x < modulus m → y < modulus m
    → (nat_eq x y ≡ true) ↔ (mod_class m x ≡ mod_class m y)
mod_decides m x y f g = (
  λ e. ap (mod_class m) ((Decides-eqb x y).0 e),
  λ e. let p : x % modulus m ≡ y % modulus m = ap (λ a. a.number) e in (Decides-eqb x y).1
      (sym (mod-eq_of_lt f) ∙ p ∙ mod-eq_of_lt g),
)
