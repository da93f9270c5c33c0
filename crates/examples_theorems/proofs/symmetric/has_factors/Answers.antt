use Rattle.nalgebra_sparse.specs.ModNumbers.{mod_value}
use Rattle.nalgebra_sparse.specs.Moduli.{mod_ring, modulus_pos}
use Rattle.examples_theorems.proofs.SymmetricSystems.{factors_exist}
use Rattle.examples_theorems.proofs.symmetric.has_factors.Goals as goal

pub returns-in-Ok-clause-factors : goal.returns-in-Ok-clause-factors
returns-in-Ok-clause-factors g c = λ _.
    let found = c.in-Ok.ensures in
    factors_exist (mod_ring g.row.P) mod_value (record { number = 0; below = modulus_pos g.row.P })
    c.args.a.now c.in-Ok._ldl found.rows found.count found.unit_diagonal found.pivots
    found.equation

pub returns-in-Singular-clause-none : goal.returns-in-Singular-clause-none
returns-in-Singular-clause-none g c = λ _.
    c.in-Err.ensures.singular (let kind = c.kind-kind.ensures in let is = c.in-Singular.is in cc)
