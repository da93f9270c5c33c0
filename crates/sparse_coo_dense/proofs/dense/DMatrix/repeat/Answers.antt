use Rattle.std.proofs.lemmas.Grind.{common_steps}
use Rattle.std.proofs.Common.{◌∙◌, ap, arith}
use Rattle.std.specs.Prelude.{replicate}
use Rattle.sparse_coo_dense.proofs.DenseLemmas.{repeated_values}
use Rattle.sparse_coo_dense.proofs.dense.DMatrix.repeat.Goals as goal

pub returns : goal.returns
returns g c = repeated_values c.args.nrows c.args.ncols c.args.value _
    (c.in_ok-copies_of.ensures ∙ ap (λ n. replicate n c.args.value) c.in-Some.ensures.1)

-- ---- written by tools/answer-goals

pub invariant_of-result : goal.invariant_of-result
invariant_of-result g c = grind (arith, common_steps)
