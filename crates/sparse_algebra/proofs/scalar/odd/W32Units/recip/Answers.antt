use Rattle.std.proofs.Common.{◌≡◌, ◌%◌, ap, sym, ◌∙◌, refl, arith}
use Rattle.std.specs.Int.{w32, cast_unsigned}
use Rattle.sparse_algebra.specs.Numbers.{w32_number}
use Rattle.sparse_algebra.proofs.OddNumbers.{unsigned_of_get, even_has_no_inverse, odd_inverse}
use Rattle.sparse_algebra.proofs.scalar.odd.W32Units.recip.Goals as goal

pub returns-then-cast_unsigned-eq0-clause-exact : goal.returns-then-cast_unsigned-eq0-clause-exact
returns-then-cast_unsigned-eq0-clause-exact c =
    let x = c.args.self.number in
    let bits = unsigned_of_get w32 c.cast_unsigned.result c.get.result x c.args.self.in_range
    c.get.ensures c.cast_unsigned.ensures in (
      λ none. cc,
      λ some. absurd (even_has_no_inverse w32 w32_number x
          (sym (ap (λ n. n % 2) bits) ∙ c.if-cast_unsigned-eq0.true) some),
    )

pub returns-clause-inverse : goal.returns-clause-inverse
returns-clause-inverse c =
    let x = c.args.self.number in
    let bits = unsigned_of_get w32 c.cast_unsigned.result c.get.result x c.args.self.in_range
    c.get.ensures c.cast_unsigned.ensures in
    let odd : cast_unsigned w32 x % 2 ≡ 1 = omega (arith, bits, c.if-cast_unsigned-eq0.false) in
    odd_inverse w32 5 x c.newton_inverse.result.number refl odd c.newton_inverse.ensures

pub returns-clause-exact : goal.returns-clause-exact
returns-clause-exact c = (λ _. (c.newton_inverse.result, returns-clause-inverse c), λ _. refl)
