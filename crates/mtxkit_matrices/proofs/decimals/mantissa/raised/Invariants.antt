use Rattle.std.proofs.Common.{◌≡◌, ◌*◌, ◌^◌, ◌<◌}
use Rattle.mtxkit_matrices.proofs.decimals.mantissa.raised.Given as goal

abbrev pub invariant-loop : goal.invariant-loop
invariant-loop l = record {
  value : l.raised ≡ l.number * 10 ^ l.counter;
  fits : l.raised < 2 ^ 128;
}
