use Rattle.std.proofs.Common.{◌≡◌, ℕ}
use Rattle.std.specs.Int.{IsGcd}
use Rattle.sparse_algebra.specs.Moduli.{modulus, mod_ring, mod_class}
use Rattle.sparse_algebra.proofs.scalar.residues.ModUnits.recip.Given as goal

abbrev pub invariant-loop-low : goal.invariant-loop-low
invariant-loop-low g l =
    let m = g.row.M in
    let x = mod_class m l.fn.self.number in
    record {
      high_is : mod_class m l.high ≡ (mod_ring m).mul x (mod_class m l.high_coefficient.number);
      low_is : mod_class m l.low ≡ (mod_ring m).mul x (mod_class m l.low_coefficient.number);
      gcd : (d : ℕ) → IsGcd l.high l.low d → IsGcd (modulus m) l.fn.self.number d;
    }

abbrev pub decreases-loop-low : goal.decreases-loop-low
decreases-loop-low g l = l.low
