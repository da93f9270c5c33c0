-- An integer and its remainder have the same residue.
use Rattle.std.proofs.Common.{◌≡◌, ◌⊎◌, ℕ, suc, ℤ, pos, negsuc, ◌+◌, ◌-◌, ◌<◌, ◌%◌, ap, sym}
use Rattle.std.proofs.Common.{◌∙◌, inl, inr, arith, refl, unsigned_abs}
use Rattle.std.specs.Int.{int_rem_euclid}
use Rattle.std.proofs.Math.Nat.{mod-lt, mod-eq_of_lt, mod-mod, mod_self, mod-add-mod}
use Rattle.sparse_algebra.proofs.Cases.{lt_suc_cases}
use Rattle.sparse_algebra.specs.Residues.{residue, residues, same_class}
use Rattle.sparse_algebra.specs.Integers.{element_of}
use Rattle.sparse_algebra.proofs.Integers.{times_one-residue}

module _ (m : ℕ) (some : 0 < m) where
  -- the remainder of the negative of n + 1
  negated : (n r : ℕ) → n % m ≡ r → r < m → (r + 1 < m) ⊎ (r + 1 ≡ m)
      → (m - 1 - r) % m ≡ (m - suc n % m) % m
  negated n r e lt (inl below) =
      let next : suc n % m ≡ r + 1 = ap (λ k. k % m) (omega arith) ∙ sym (mod-add-mod n m 1)
      ∙ ap (λ k. (k + 1) % m) e ∙ mod-eq_of_lt below in
      ap (λ k. k % m) (omega (arith, below, next))
  negated n r e lt (inr last) =
      let next : suc n % m ≡ 0 = ap (λ k. k % m) (omega arith) ∙ sym (mod-add-mod n m 1)
      ∙ ap (λ k. (k + 1) % m) e ∙ ap (λ k. k % m) last ∙ mod_self m in
      ap (λ k. k % m) (omega (arith, last)) ∙ mod-eq_of_lt some ∙ sym (mod_self m)
      ∙ ap (λ k. k % m) (omega (arith, next))

  pub element_of-remainder : (z : ℤ)
      → residue m some (unsigned_abs (int_rem_euclid z (pos m))) ≡ element_of (residues m some) z
  unfolding element_of
  element_of-remainder (pos n) = same_class m some (n % m) n (mod-mod n m)
      ∙ sym (times_one-residue m some n)
  element_of-remainder (negsuc n) =
      let below = mod-lt n some in
      same_class m some (m - 1 - n % m) (m - suc n % m)
      (negated n (n % m) refl below (lt_suc_cases (n % m + 1) m (omega (arith, below))))
      ∙ ap (λ a. residue m some (m - a.number)) (sym (times_one-residue m some (suc n)))

  pub element_of-natural : (n : ℕ) → element_of (residues m some) (pos n) ≡ residue m some n
  unfolding element_of
  element_of-natural n = times_one-residue m some n
