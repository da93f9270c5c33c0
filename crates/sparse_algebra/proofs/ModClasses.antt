-- The residues of the numbers that the operations of `Mod<M>` compute.
use Rattle.std.proofs.Common.{◌≡◌, ℕ, ◌+◌, ◌-◌, ◌*◌, ◌%◌, ◌<◌, ◌≤◌, sym, ap, ◌∙◌, arith}
use Rattle.std.proofs.Math.Nat.{mod-eq_of_lt, mod-mod, add-mod, mod_self, zero-mod}
use Rattle.std.proofs.Math.Nat.{add-mul-mod_self_left}
use Rattle.sparse_algebra.specs.Residues.{same_class, mul-mod_left, mul-mod_right}
use Rattle.sparse_algebra.specs.Moduli.{modulus, modulus_pos, mod_ring, mod_class}

-- numbers with equal remainders have the same residue
pub mod_same : (m x y : ℕ) → x % modulus m ≡ y % modulus m → mod_class m x ≡ mod_class m y
mod_same m x y e = same_class (modulus m) (modulus_pos m) x y e

pub mod_class_of : (m n r : ℕ) → r ≡ n % modulus m → mod_class m r ≡ mod_class m n
mod_class_of m n r e = mod_same m r n (ap (λ k. k % modulus m) e ∙ mod-mod n (modulus m))

-- the residue of the modulus is zero
pub mod_class_modulus : (m : ℕ) → mod_class m (modulus m) ≡ (mod_ring m).zero
mod_class_modulus m = mod_same m (modulus m) 0 (mod_self (modulus m) ∙ sym (zero-mod (modulus m)))

module _ (m x y : ℕ) where
  pub mod_class_add : mod_class m (x + y) ≡ (mod_ring m).add (mod_class m x) (mod_class m y)
  mod_class_add = mod_same m (x + y) (x % modulus m + y % modulus m) (add-mod x y (modulus m))

  pub mod_class_mul : mod_class m (x * y) ≡ (mod_ring m).mul (mod_class m x) (mod_class m y)
  mod_class_mul = mod_same m (x * y) ((x % modulus m) * (y % modulus m))
      (sym (mul-mod_left x (y % modulus m) (modulus m) ∙ mul-mod_right x y (modulus m)))

-- y - (modulus - x), the sum x + y reduced by the modulus, has the residue of x + y
pub mod_class_over : (m x y : ℕ) → x < modulus m → modulus m - x ≤ y
    → mod_class m (y - (modulus m - x)) ≡ mod_class m (x + y)
mod_class_over m x y lt le =
    let n = modulus m in
    let whole : x + y ≡ (y - (n - x)) + n * 1 = omega arith in
    mod_same m (y - (n - x)) (x + y)
    (sym (ap (λ k. k % n) whole ∙ add-mul-mod_self_left (y - (n - x)) n 1))

pub mod_class_neg : (m x : ℕ) → x < modulus m
    → mod_class m (modulus m - x) ≡ (mod_ring m).neg (mod_class m x)
mod_class_neg m x lt = ap (λ n. mod_class m (modulus m - n)) (sym (mod-eq_of_lt lt))

pub mod_class_neg_zero : (m x : ℕ) → x ≡ 0 → mod_class m 0 ≡ (mod_ring m).neg (mod_class m x)
mod_class_neg_zero m x is =
    let n = modulus m in
    let none : x % n ≡ 0 = ap (λ k. k % n) is ∙ zero-mod n in
    let whole : n ≡ n - x % n = omega arith in
    sym (mod_class_modulus m) ∙ ap (mod_class m) whole
