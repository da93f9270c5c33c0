use Rattle.std.proofs.Common.{◌≡◌, ℤ, pos, true, false, ◌%◌, unsigned_abs, ap, subst, ◌∙◌}
use Rattle.std.proofs.lemmas.Int.{to_z-of_z}
use Rattle.std.specs.Int.{w64}
use Rattle.std.specs.Int.Signed.{lt_z}
use Rattle.sparse_algebra.specs.Moduli.{modulus}
use Rattle.sparse_algebra.proofs.Integers.{element_of-from_zero, element_of-below_zero}
use Rattle.c_arrays.proofs.number.ModNumber.from_number.Goals as goal

pub returns-then-number-lt0 : goal.returns-then-number-lt0
returns-then-number-lt0 g c =
    let exact = to_z-of_z w64 c.args.number c.ranges.number in
    c.neg.ensures ∙ element_of-below_zero g.row.M c.args.number c.new-size.result.number
    (subst (λ (z : ℤ). lt_z z (pos 0) ≡ true) exact c.if-number-lt0.true)
    (c.new-size.ensures ∙ ap (λ n. n % modulus g.row.M)
    (c.unsigned_abs.ensures.value ∙ ap unsigned_abs exact))

pub returns-else-number-lt0 : goal.returns-else-number-lt0
returns-else-number-lt0 g c =
    let exact = to_z-of_z w64 c.args.number c.ranges.number in
    element_of-from_zero g.row.M c.args.number c.new-size.result.number
    (subst (λ (z : ℤ). lt_z z (pos 0) ≡ false) exact c.if-number-lt0.false)
    (c.new-size.ensures ∙ ap (λ n. n % modulus g.row.M)
    (c.unsigned_abs.ensures.value ∙ ap unsigned_abs exact))
