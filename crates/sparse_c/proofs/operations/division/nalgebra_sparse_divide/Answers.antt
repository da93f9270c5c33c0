use Rattle.std.proofs.Common.{◌≡◌, sym, rules, to_z, of_z}
use Rattle.std.proofs.lemmas.Int.{to_z-of_z}
use Rattle.std.specs.Int.{w32, w64}
use Rattle.sparse_algebra.specs.WrappingValues.{w64_value}
use Rattle.sparse_c.proofs.Quotients.{seen_quotient}
use Rattle.sparse_c.specs.Scalars.{scalars}
use Rattle.c_arrays.specs.Arrays.{ring64}
use Rattle.sparse_c.proofs.operations.division.nalgebra_sparse_divide.Goals as goal

pub returns : goal.returns
returns c =
    let same : to_z w32 (of_z w32 c.run.result) ≡ c.run.result = search rules in
    let ensured = seen_quotient (scalars ring64 w64_value (λ _. Unit))
    (sym (to_z-of_z w64 c.args.divisor c.ranges.divisor)) same c.run.ensures.answer in
    record { answered = search rules }
