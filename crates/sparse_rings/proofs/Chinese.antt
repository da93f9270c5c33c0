-- Coprime moduli: an inverse of one modulo the other, and the number that two residues determine.
use Rattle.std.proofs.Common.{◌≡◌, ℕ, zero, suc, ◌+◌, ◌*◌, ◌/◌, ◌%◌, ◌<◌, ◌≤◌, sym, ap, ◌∙◌, subst}
use Rattle.std.proofs.Common.{arith, inl, inr}
use Rattle.std.specs.Int.{IsGcd, ◌∣◌}
use Rattle.std.proofs.Math.Nat.{mod-lt, mod-mod, mod-eq_of_lt, add-mod, mod-add-div}
use Rattle.std.proofs.Math.Nat.{add-mul-mod_self_left, dvd-mod_iff, eq-one_of_dvd-one}
use Rattle.std.proofs.Math.Nat.{div-lt_iff_lt-mul}
use Rattle.std.proofs.lemmas.Nat.{mul-add-lt}
use Rattle.std.proofs.lemmas.Nat.Gcd.{dvd_refl, dvd-zero, IsGcd-swap}
use Rattle.sparse_algebra.specs.Algebra.{CommRing}
use Rattle.sparse_algebra.specs.Residues.{Residue, residue, residues, same_class, same_residue}
use Rattle.sparse_algebra.specs.Residues.{residue_itself}
use Rattle.sparse_algebra.specs.Residues.{mul-mod_left, mul-mod_right}
use Rattle.sparse_algebra.specs.Moduli.{modulus, modulus_pos, mod_ring, mod_class}
use Rattle.sparse_algebra.proofs.Cases.{lt_or_ge}
use Rattle.sparse_algebra.proofs.ModClasses.{mod_same, mod_class_of, mod_class_add, mod_class_mul}
use Rattle.sparse_algebra.proofs.RingLemmas.{neg_unique, add_swap, cancel}
use Rattle.sparse_algebra.proofs.Products.{mul_neg, mul_swap, unit_cancels}
use Rattle.sparse_rings.specs.ChineseRemainders.{AreCoprime, both_ring, residue_pair}
use Rattle.sparse_rings.specs.InnerPairs.{neg_neg, same_pair}

module _ (R : CommRing) where
  -- if u + w p = 0 and u + w r = 1, then w (r - p) = 1
  difference_inverts : (u w p r : R.Carrier) → R.add u (R.mul w p) ≡ R.zero
      → R.add u (R.mul w r) ≡ R.one → R.mul w (R.add r (R.neg p)) ≡ R.one
  difference_inverts u w p r none one =
      R.laws.distrib w r (R.neg p)
      ∙ ap (R.add (R.mul w r)) (mul_neg R w p ∙ ap R.neg (neg_unique R u (R.mul w p) none)
      ∙ neg_neg R u)
      ∙ R.laws.add_comm (R.mul w r) u ∙ one

  -- if m t = 1, then a + m ((b - a) t) = b
  pub difference_added_back : (a b m t : R.Carrier) → R.mul m t ≡ R.one
      → R.add a (R.mul m (R.mul (R.add b (R.neg a)) t)) ≡ b
  difference_added_back a b m t e =
      let d = R.add b (R.neg a) in
      ap (R.add a) (mul_swap R m d t ∙ ap (R.mul d) e ∙ R.laws.mul_one d)
      ∙ add_swap R a b (R.neg a) ∙ ap (R.add b) (R.laws.add_neg a) ∙ R.laws.add_zero b

module _ (n : ℕ) (some : 0 < n) where
  residue-add : (x y : ℕ)
      → residue n some (x + y) ≡ (residues n some).add (residue n some x) (residue n some y)
  residue-add x y = same_class n some (x + y) (x % n + y % n) (add-mod x y n)

  residue-mul : (x y : ℕ)
      → residue n some (x * y) ≡ (residues n some).mul (residue n some x) (residue n some y)
  residue-mul x y = same_class n some (x * y) ((x % n) * (y % n))
      (sym (mul-mod_left x (y % n) n ∙ mul-mod_right x y n))

  -- x % m + m (x / m) = x, as residues
  residue-split : (m x : ℕ) → (residues n some).add (residue n some (x % m))
      ((residues n some).mul (residue n some m) (residue n some (x / m))) ≡ residue n some x
  residue-split m x =
      ap ((residues n some).add (residue n some (x % m))) (sym (residue-mul m (x / m)))
      ∙ sym (residue-add (x % m) (m * (x / m))) ∙ ap (residue n some) (mod-add-div x m)

  residue-multiple : (y : ℕ) → residue n some (n * y) ≡ (residues n some).zero
  residue-multiple y = same_class n some (n * y) 0
      (ap (λ k. k % n) (omega arith) ∙ add-mul-mod_self_left 0 n y)

-- ---- Euclid's algorithm: if m and n are coprime, m has an inverse modulo n

coprime-zero : (n m : ℕ) → m ≤ 0 → IsGcd n m 1 → n ≡ 1
coprime-zero n m le gcd =
    let none : 0 ≡ m = omega arith in
    let P : ℕ → Type 0 = λ k. n ∣ k in
    eq-one_of_dvd-one (gcd.2 n (dvd_refl n) (subst P none (dvd-zero n)))

only_residue : (n : ℕ) → n ≡ 1 → (a b : Residue n) → a ≡ b
only_residue n e a b = let f = a.below in let g = b.below in same_residue a b (omega arith)

abbrev Inverse : (m n : ℕ) → 0 < n → Type 0
Inverse m n some =
    (t : Residue n) × ((residues n some).mul (residue n some m) t ≡ (residues n some).one)

inverse_of_none : (m n : ℕ) (some : 0 < n) → m ≤ 0 → IsGcd n m 1 → Inverse m n some
inverse_of_none m n some le gcd =
    let R = residues n some in
    (R.zero, only_residue n (coprime-zero n m le gcd) (R.mul (residue n some m) R.zero) R.one)

-- from an inverse of n modulo m to one of m modulo n
inverse_back : (m n : ℕ) (pos : 0 < m) (some : 0 < n) → Inverse (n % m) m pos → Inverse m n some
inverse_back m n pos some inverse =
    let R = residues n some in
    let class = residue n some in
    let y = inverse.0.number in
    let p = n * y / m in
    let rest : 1 % m ≡ (n * y) % m = sym (ap (λ r. r.number) inverse.1)
    ∙ ap (λ k. (k * y) % m) (mod-mod n m) ∙ mul-mod_left n y m in
    let none : R.add (class (1 % m)) (R.mul (class m) (class p)) ≡ R.zero =
    ap (λ k. R.add (class k) (R.mul (class m) (class p))) rest
    ∙ residue-split n some m (n * y) ∙ residue-multiple n some y in (
      R.add (class (1 / m)) (R.neg (class p)),
      difference_inverts R (class (1 % m)) (class m) (class p) (class (1 / m)) none
          (residue-split n some m 1),
    )

pub coprime-rest : (m n : ℕ) → IsGcd n m 1 → IsGcd m (n % m) 1
coprime-rest m n gcd = (
  gcd.1,
  (dvd-mod_iff 1 gcd.1).1 gcd.0,
  λ d p q. gcd.2 d ((dvd-mod_iff d p).0 q) p,
)

inverse_of : (fuel m n : ℕ) (some : 0 < n) → m ≤ fuel → IsGcd n m 1 → Inverse m n some
inverse_of zero m n some le gcd = inverse_of_none m n some le gcd
inverse_of (suc fuel) m n some le gcd =
    elim (lt_or_ge 0 m) [
      | inl pos ↦
          let small = mod-lt n pos in
          inverse_back m n pos some
          (inverse_of fuel (n % m) m pos (omega arith) (coprime-rest m n gcd))
      | inr none ↦ inverse_of_none m n some none gcd
    ]

-- ---- the number that two residues determine

module _ (M N : ℕ) where
  pub coprime-inverse : AreCoprime M N
      → (t : Residue (modulus N))
      × ((mod_ring N).mul (mod_class N (modulus M)) t ≡ (mod_ring N).one)
  coprime-inverse gcd = inverse_of (modulus M) (modulus M) (modulus N) (modulus_pos N)
      (omega arith) (IsGcd-swap (modulus M) (modulus N) 1 gcd)

  module _ (t : Residue (modulus N))
      (inverse : (mod_ring N).mul (mod_class N (modulus M)) t ≡ (mod_ring N).one) where
    pub same_from_residues : (x y : ℕ)
        → x < modulus M * modulus N
        → y < modulus M * modulus N
        → x % modulus M ≡ y % modulus M
        → mod_class N x ≡ mod_class N y
        → x ≡ y
    same_from_residues x y f g first second =
        let m = modulus M in
        let n = modulus N in
        let R = mod_ring N in
        let some = modulus_pos N in
        let u = mod_class N (x % m) in
        let w = mod_class N m in
        let k = x / m in
        let l = y / m in
        let sums : R.add u (R.mul w (mod_class N k)) ≡ R.add u (R.mul w (mod_class N l)) =
        residue-split n some m x ∙ second ∙ sym (residue-split n some m y)
        ∙ ap (λ r. R.add (mod_class N r) (R.mul w (mod_class N l))) (sym first) in
        let products : R.mul w (mod_class N k) ≡ R.mul w (mod_class N l) =
        cancel R (R.mul w (mod_class N k)) (R.mul w (mod_class N l)) u
        (R.laws.add_comm (R.mul w (mod_class N k)) u ∙ sums
        ∙ R.laws.add_comm u (R.mul w (mod_class N l))) in
        let quotients : k % n ≡ l % n =
        ap (λ r. r.number) (unit_cancels R w t (mod_class N k) (mod_class N l) inverse products) in
        let k_below : k < n = (div-lt_iff_lt-mul (modulus_pos M)).1 (omega arith) in
        let l_below : l < n = (div-lt_iff_lt-mul (modulus_pos M)).1 (omega arith) in
        let same : k ≡ l = sym (mod-eq_of_lt k_below) ∙ quotients ∙ mod-eq_of_lt l_below in
        sym (mod-add-div x m) ∙ (λ i. first i + m * same i) ∙ mod-add-div y m

    -- a + m q has the residue of b modulo N, if q = (b - a) / m modulo N
    pub combined-second : (a b q : ℕ)
        → mod_class N q ≡ (mod_ring N).mul
        ((mod_ring N).add (mod_class N b) ((mod_ring N).neg (mod_class N a))) t
        → mod_class N (a + modulus M * q) ≡ mod_class N b
    combined-second a b q e =
        let R = mod_ring N in
        mod_class_add N a (modulus M * q)
        ∙ ap (R.add (mod_class N a)) (mod_class_mul N (modulus M) q
        ∙ ap (R.mul (mod_class N (modulus M))) e)
        ∙ difference_added_back R (mod_class N a) (mod_class N b) (mod_class N (modulus M)) t inverse

  pub combined-first : (a q : ℕ) → mod_class M (a + modulus M * q) ≡ mod_class M a
  combined-first a q = mod_same M (a + modulus M * q) a (add-mul-mod_self_left a (modulus M) q)

  pub combined-below : (a q : ℕ) → a < modulus M → q < modulus N
      → a + modulus M * q < modulus M * modulus N
  combined-below a q f g = omega (arith, mul-add-lt q (modulus M) a (modulus N) g f)

  -- ---- for coprime moduli, each pair of residues is that of exactly one residue

  pub chinese-one_to_one : AreCoprime M N → (c d : (both_ring M N).Carrier)
      → residue_pair M N c ≡ residue_pair M N d → c ≡ d
  chinese-one_to_one coprime c d e =
      let t = coprime-inverse coprime in
      same_residue c d (same_from_residues t.0 t.1 c.number d.number c.below d.below
      (ap (λ p. p.0.number) e) (ap (λ p. p.1) e))

  pub chinese-onto : AreCoprime M N → (p : Residue (modulus M) × Residue (modulus N))
      → (c : (both_ring M N).Carrier) × (residue_pair M N c ≡ p)
  chinese-onto coprime p =
      let R = mod_ring N in
      let t = coprime-inverse coprime in
      let a = p.0.number in
      let b = p.1.number in
      let q = R.mul (R.add (mod_class N b) (R.neg (mod_class N a))) t.0 in (
        record {
          number = a + modulus M * q.number;
          below = combined-below a q.number p.0.below q.below;
        },
        same_pair _ _
            (combined-first a q.number ∙ residue_itself (modulus M) (modulus_pos M) p.0)
            (combined-second t.0 t.1 a b q.number (residue_itself (modulus N) (modulus_pos N) q)
            ∙ residue_itself (modulus N) (modulus_pos N) p.1),
      )

-- ---- the steps of `combine`, where m is the first modulus

module _ (M N m w j : ℕ) (is : m ≡ modulus M) (rest : w ≡ m % modulus N)
    (unit : (mod_ring N).mul (mod_class N w) (mod_class N j) ≡ (mod_ring N).one) where
  pub combine-inverse : (mod_ring N).mul (mod_class N (modulus M)) (mod_class N j)
      ≡ (mod_ring N).one
  combine-inverse = ap (λ c. (mod_ring N).mul c (mod_class N j))
      (ap (mod_class N) (sym is) ∙ sym (mod_class_of N m w rest)) ∙ unit

  pub combine-second : (a b s n d q : ℕ) → s ≡ a % modulus N
      → mod_class N n ≡ (mod_ring N).neg (mod_class N s)
      → mod_class N d ≡ (mod_ring N).add (mod_class N b) (mod_class N n)
      → mod_class N q ≡ (mod_ring N).mul (mod_class N d) (mod_class N j)
      → mod_class N (a + m * q) ≡ mod_class N b
  combine-second a b s n d q es en ed eq =
      let R = mod_ring N in
      let difference : mod_class N d ≡ R.add (mod_class N b) (R.neg (mod_class N a)) =
      ed ∙ ap (R.add (mod_class N b)) (en ∙ ap R.neg (mod_class_of N a s es)) in
      ap (λ k. mod_class N (a + k * q)) is
      ∙ combined-second M N (mod_class N j) combine-inverse a b q
      (eq ∙ ap (λ c. R.mul c (mod_class N j)) difference)
