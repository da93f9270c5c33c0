use Rattle.std.proofs.Common.{◌≤◌, ◌+◌, length}
use Rattle.mtxkit_matrices.specs.InnerRewriting.{IsTextWritten}
use Rattle.mtxkit_matrices.proofs.decimals.text.scaled_text.Given as goal

abbrev pub invariant-loop-rest : goal.invariant-loop-rest
invariant-loop-rest l = record {
  written : IsTextWritten l.scale l.text l.stage l.number l.rest l.written.items;
  number : l.number + length l.rest ≤ length l.text + 1;
}

abbrev pub decreases-loop-rest : goal.decreases-loop-rest
decreases-loop-rest l = length l.rest
