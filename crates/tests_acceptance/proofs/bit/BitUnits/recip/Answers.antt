use Rattle.std.proofs.Common.{ap, true, refl}
use Rattle.tests_acceptance.specs.Bit.{bit_mul}
use Rattle.tests_acceptance.proofs.bit.BitUnits.recip.Goals as goal

-- one is its own inverse
pub returns-then-self-clause-exact : goal.returns-then-self-clause-exact
returns-then-self-clause-exact c = (
  λ _. (record { set = true }, ap (λ s. bit_mul s true) c.if-self.true),
  λ _. refl,
)
