-- The integers modulo m, as a commutative ring.
use Rattle.std.specs.Prelude.{◌≡◌, ℕ, ◌+◌, ◌-◌, ◌*◌, ◌%◌, ◌/◌, ◌<◌}
use Rattle.std.proofs.Common.{sym, ap, ◌∙◌, arith}
use Rattle.std.proofs.Math.Nat.{ℕ_set, mod-lt, mod-eq_of_lt, mod-add-mod, add-mod-mod, mod-add-div}
use Rattle.std.proofs.Math.Nat.{add-mul-mod_self_left, mod_self}
use Rattle.std.specs.Coded.{le_prop}
use mathlib.Core.HLevel.{is_prop→PathP}
use Rattle.sparse_algebra.specs.Algebra.{RingLaws, CommRing}

-- a number below m
pub record Residue (m : ℕ) : Type 0 where
  pub number : ℕ
  pub below : number < m

pub residue_set : {m : ℕ} → IsSet (Residue m)
residue_set {m} = hlevel (ℕ_set, le_prop)

pub same_residue : {m : ℕ} (a b : Residue m) → a.number ≡ b.number → a ≡ b
same_residue {m} a b p = λ i. record {
  number = p i;
  below =
      is_prop→PathP (λ j. p j < m) (λ j. le_prop) a.below b.below i;
}

pub mul-mod_right : (a b m : ℕ) → (a * (b % m)) % m ≡ (a * b) % m
mul-mod_right a b m =
    let split = mod-add-div b m in
    let parts : a * b ≡ a * (b % m) + m * (a * (b / m)) = omega (arith, ap (λ x. a * x) split) in
    sym (ap (λ x. x % m) parts ∙ add-mul-mod_self_left (a * (b % m)) m (a * (b / m)))

pub mul-mod_left : (a b m : ℕ) → ((a % m) * b) % m ≡ (a * b) % m
mul-mod_left a b m = ap (λ x. x % m) (omega arith) ∙ mul-mod_right b a m
    ∙ ap (λ x. x % m) (omega arith)

module _ (m : ℕ) (some : 0 < m) where
  -- the residue class of n
  abbrev pub residue : ℕ → Residue m
  residue n = record { number = n % m; below = mod-lt n some }

  pub residue_itself : (a : Residue m) → residue a.number ≡ a
  residue_itself a = same_residue (residue a.number) a (mod-eq_of_lt a.below)

  pub same_class : (x y : ℕ) → x % m ≡ y % m → residue x ≡ residue y
  same_class x y e = same_residue (residue x) (residue y) e

  pub residue_laws : RingLaws (residue 0) (residue 1) (λ a b. residue (a.number + b.number))
      (λ a b. residue (a.number * b.number)) (λ a. residue (m - a.number))
  residue_laws = record {
    add_assoc = λ a b c. same_class _ _ (mod-add-mod (a.number + b.number) m c.number
        ∙ ap (λ x. x % m) (omega arith) ∙ sym (add-mod-mod a.number (b.number + c.number) m));
    add_comm = λ a b. same_class _ _ (ap (λ x. x % m) (omega arith));
    add_zero = λ a. same_class _ _ (add-mod-mod a.number 0 m ∙ ap (λ x. x % m) (omega arith))
        ∙ residue_itself a;
    add_neg = λ a. let h = a.below in same_class _ _
        (add-mod-mod a.number (m - a.number) m ∙ ap (λ x. x % m) (omega arith) ∙ mod_self m
        ∙ sym (mod-eq_of_lt some));
    mul_assoc = λ a b c. same_class _ _ (mul-mod_left (a.number * b.number) c.number m
        ∙ ap (λ x. x % m) (omega arith) ∙ sym (mul-mod_right a.number (b.number * c.number) m));
    mul_comm = λ a b. same_class _ _ (ap (λ x. x % m) (omega arith));
    mul_one = λ a. same_class _ _ (mul-mod_right a.number 1 m ∙ ap (λ x. x % m) (omega arith))
        ∙ residue_itself a;
    distrib = λ a b c. same_class _ _ (mul-mod_right a.number (b.number + c.number) m
        ∙ ap (λ x. x % m) (omega arith)
        ∙ sym (add-mod-mod (a.number * b.number) (a.number * c.number)
        m) ∙ sym (mod-add-mod (a.number * b.number) m ((a.number * c.number) % m)));
  }

  abbrev pub residues : CommRing
  residues = record {
    Carrier = Residue m;
    zero = residue 0;
    one = residue 1;
    add = λ a b. residue (a.number + b.number);
    mul = λ a b. residue (a.number * b.number);
    neg = λ a. residue (m - a.number);
    laws = residue_laws;
  }
