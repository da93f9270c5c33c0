use Rattle.std.proofs.Common.{◌≡◌, ℕ, ◌+◌, ◌*◌, ◌%◌, ◌<◌, sym, ap, ◌∙◌, refl, subst}
use Rattle.std.proofs.Math.Nat.{mod-eq_of_lt}
use Rattle.std.proofs.lemmas.Bool.{false≢true}
use Rattle.std.proofs.lemmas.Nat.Gcd.{IsGcd-from_mod}
use Rattle.std.specs.Int.{IsGcd}
use Rattle.sparse_algebra.specs.ModNumbers.{mod_number}
use Rattle.sparse_algebra.specs.Moduli.{modulus, mod_class}
use Rattle.sparse_algebra.proofs.ModClasses.{mod_same}
use Rattle.sparse_rings.proofs.Chinese.{coprime-rest, combined-first, combined-below}
use Rattle.sparse_rings.proofs.Chinese.{same_from_residues, combine-inverse, combine-second}
use Rattle.sparse_rings.proofs.combine.Pair+Mod+M+Mod+N.combine.Goals as goal

pub returns-in_err-inverse-clause-exact : goal.returns-in_err-inverse-clause-exact
returns-in_err-inverse-clause-exact g c =
    let n = modulus g.row.N in
    let P : ℕ → Type 0 = λ k. IsGcd n k 1 in
    let rest : mod_number c.new.result ≡ modulus g.row.M % n = c.new.ensures
    ∙ ap (λ k. k % n) c.first_modulus-modulus.ensures in
    rw c.from_residual.ensures (
      λ some. absurd (false≢true some),
      λ gcd. c.in_err-inverse.ensures.coprime.1
          (subst P (sym rest) (coprime-rest n (modulus g.row.M) gcd)),
    )

pub returns-clause-exact : goal.returns-clause-exact
returns-clause-exact g c =
    let n = modulus g.row.N in
    let P : ℕ → Type 0 = λ k. IsGcd n k 1 in
    let rest : mod_number c.new.result ≡ modulus g.row.M % n = c.new.ensures
    ∙ ap (λ k. k % n) c.first_modulus-modulus.ensures in (
      λ _. IsGcd-from_mod (modulus g.row.M) n 1
          (subst P rest (c.in_ok-inverse.ensures.coprime.0 refl)),
      λ _. refl,
    )

pub returns-clause-below : goal.returns-clause-below
returns-clause-below g c =
    let a = c.get-number.result in
    let q = c.get-quotient.result in
    let m = modulus g.row.M in
    let P : ℕ → Type 0 = λ k. a + k * q < m * modulus g.row.N in
    subst P (sym c.first_modulus-modulus.ensures)
    (combined-below g.row.M g.row.N a q c.get-number.ensures.below c.get-quotient.ensures.below)

pub returns-clause-first : goal.returns-clause-first
returns-clause-first g c =
    let a = c.get-number.result in
    let q = c.get-quotient.result in
    let m = modulus g.row.M in
    ap (λ k. (a + k * q) % m) c.first_modulus-modulus.ensures
    ∙ ap (λ r. r.number) (combined-first g.row.M g.row.N a q)
    ∙ mod-eq_of_lt c.get-number.ensures.below ∙ c.get-number.ensures.number

pub returns-clause-second : goal.returns-clause-second
returns-clause-second g c =
    let N = g.row.N in
    let b = c.args.self.second in
    ap (λ r. r.number) (combine-second g.row.M N c.first_modulus-modulus.result
    (mod_number c.new.result) (mod_number c.in_ok-inverse.inverse)
    c.first_modulus-modulus.ensures c.new.ensures c.in_ok-inverse.ensures.inverse
    c.get-number.result (mod_number b) (mod_number c.new-2.result) (mod_number c.neg.result)
    (mod_number c.add-difference.result) c.get-quotient.result
    c.new-2.ensures c.neg.ensures c.add-difference.ensures
    (ap (mod_class N) c.get-quotient.ensures.number ∙ c.mul.ensures))
    ∙ mod-eq_of_lt b.below

pub returns-clause-unique : goal.returns-clause-unique
returns-clause-unique g c =
    let N = g.row.N in
    let j = mod_number c.in_ok-inverse.inverse in
    let number = c.get-number.result + c.first_modulus-modulus.result * c.get-quotient.result in
    λ y below first second. same_from_residues g.row.M N (mod_class N j)
    (combine-inverse g.row.M N c.first_modulus-modulus.result (mod_number c.new.result) j
    c.first_modulus-modulus.ensures c.new.ensures c.in_ok-inverse.ensures.inverse)
    y number below (returns-clause-below g c) (first ∙ sym (returns-clause-first g c))
    (mod_same N y number (second ∙ sym (returns-clause-second g c)))
