use Rattle.std.proofs.Common.{◌≡◌, sym, rules, to_z, of_z}
use Rattle.std.proofs.lemmas.Int.{to_z-of_z}
use Rattle.std.specs.Int.{w32, w64}
use Rattle.sparse_c.proofs.Quotients.{seen_quotient}
use Rattle.sparse_c.specs.Scalars.{modulo}
use Rattle.sparse_c.proofs.operations.division.nalgebra_sparse_divide_mod.Goals as goal

pub returns-clause-answered : goal.returns-clause-answered
returns-clause-answered c =
    let same : to_z w32 (of_z w32 c.by_modulus.result) ≡ c.by_modulus.result = search rules in
    let ensured = seen_quotient (modulo c.args.modulus)
    (sym (to_z-of_z w64 c.args.divisor c.ranges.divisor)) same c.by_modulus.ensures.does.answer in
    search rules
