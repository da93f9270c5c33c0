-- Residues modulo 7 that need not be reduced, with a tag that `==` ignores.
use Rattle.std.specs.Prelude.{◌≡◌, ℕ, ◌+◌, ◌*◌, ◌%◌, nat_eq, Bool, true}
use Rattle.std.proofs.Common.{sym, ap, ◌∙◌, refl, arith}
use Rattle.std.proofs.Math.Nat.{add-mod}
use Rattle.std.proofs.lemmas.Bool.Decides.{Decides-eqb}
use Rattle.nalgebra_sparse.specs.Residues.{mul-mod_left, mul-mod_right}
use Rattle.nalgebra_sparse.specs.Classes.{LawsUpTo, class, class_decides}
use Rattle.tests_acceptance.specs.declared.residue7.Residue7.{Residue7}

abbrev pub residue7_of : ℕ → Residue7
residue7_of n = record { number = n; tag = 0 }

abbrev pub residue7_eq : Residue7 → Residue7 → Bool
residue7_eq a b = nat_eq (a.number % 7) (b.number % 7)

abbrev pub residue7_add : Residue7 → Residue7 → Residue7
residue7_add a b = residue7_of (a.number + b.number)

abbrev pub residue7_mul : Residue7 → Residue7 → Residue7
residue7_mul a b = residue7_of (a.number * b.number)

abbrev pub residue7_neg : Residue7 → Residue7
residue7_neg a = residue7_of (6 * a.number)

yes : (m n : ℕ) → m % 7 ≡ n % 7 → nat_eq (m % 7) (n % 7) ≡ true
yes m n e = (Decides-eqb (m % 7) (n % 7)).1 e

is : (m n : ℕ) → nat_eq (m % 7) (n % 7) ≡ true → m % 7 ≡ n % 7
is m n e = (Decides-eqb (m % 7) (n % 7)).0 e

pub residue7_laws : LawsUpTo residue7_eq (residue7_of 0) (residue7_of 1) residue7_add residue7_mul
    residue7_neg
residue7_laws = record {
  reflexive = λ x. yes x.number x.number refl;
  symmetric = λ x y e. yes y.number x.number (sym (is x.number y.number e));
  transitive = λ x y z e f. yes x.number z.number (is x.number y.number e ∙ is y.number z.number f);
  add_same = λ a b c d e f. let p = is a.number b.number e in let q =
      is c.number d.number f in yes _ _ (add-mod a.number c.number 7
      ∙ ap (λ n. (n + c.number % 7) % 7) p ∙ ap (λ n. (b.number % 7 + n) % 7) q
      ∙ sym (add-mod b.number d.number 7));
  mul_same = λ a b c d e f.
      let p = is a.number b.number e in
      let q = is c.number d.number f in
      yes _ _ (sym (mul-mod_left a.number c.number 7) ∙ ap (λ n. (n * c.number) % 7) p
      ∙ mul-mod_left b.number c.number 7 ∙ sym (mul-mod_right b.number c.number 7)
      ∙ ap (λ n. (b.number * n) % 7) q ∙ mul-mod_right b.number d.number 7);
  neg_same = λ a b e. let p = is a.number b.number e in yes _ _
      (sym (mul-mod_right 6 a.number 7) ∙ ap (λ n. (6 * n) % 7) p ∙ mul-mod_right 6 b.number 7);
  add_assoc = λ a b c. yes _ _ (ap (λ n. n % 7) (omega arith));
  add_comm = λ a b. yes _ _ (ap (λ n. n % 7) (omega arith));
  add_zero = λ a. yes _ _ (ap (λ n. n % 7) (omega arith));
  add_neg = λ a. yes (a.number + 6 * a.number) 0 (omega arith);
  mul_assoc = λ a b c. yes _ _ (ap (λ n. n % 7) (omega arith));
  mul_comm = λ a b. yes _ _ (ap (λ n. n % 7) (omega arith));
  mul_one = λ a. yes _ _ (ap (λ n. n % 7) (omega arith));
  distrib = λ a b c. yes _ _ (ap (λ n. n % 7) (omega arith));
}

pub residue7_same : (x y : Residue7) → x.number % 7 ≡ y.number % 7
    → class residue7_laws x ≡ class residue7_laws y
residue7_same x y e = (class_decides residue7_laws x y).0 (yes x.number y.number e)
