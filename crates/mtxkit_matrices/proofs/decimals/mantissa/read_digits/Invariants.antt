use Rattle.mtxkit_matrices.specs.InnerDigits.{AreRead}
use Rattle.mtxkit_matrices.proofs.decimals.mantissa.read_digits.Given as goal

abbrev pub invariant-loop-byte : goal.invariant-loop-byte
invariant-loop-byte l = AreRead l.mantissa l.byte-index l.part l.zeros
