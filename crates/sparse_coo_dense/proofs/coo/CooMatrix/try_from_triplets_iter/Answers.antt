use Rattle.std.proofs.Common.{ap, inr, ◌∙◌}
use Rattle.std.proofs.lemmas.Result.{IfOk-weaker, IfErr-weaker}
use Rattle.sparse_coo_dense.specs.Coo.{coo_of}
use Rattle.sparse_coo_dense.proofs.TripletRuns.{zip-split, fault_outside, inside_at_ok}
use Rattle.sparse_coo_dense.proofs.coo.CooMatrix.try_from_triplets_iter.Goals as goal

pub returns-clause-ok : goal.returns-clause-ok
returns-clause-ok g c =
    let (run, from, whole, (rows, cols, values)) = c.in_ok-row_indices.ensures in
    IfOk-weaker c.try_from_triplets.result _ _
    (λ m same. (
      run,
      from,
      whole,
      same ∙ ap (coo_of c.args.nrows c.args.ncols)
          (zip-split _ _ _ run.items rows cols values),
    )) c.try_from_triplets.ensures.ok

pub returns-clause-inside : goal.returns-clause-inside
returns-clause-inside g c = inside_at_ok _ _ _ _ _ c.try_from_triplets.result
    c.try_from_triplets.ensures.ok c.try_from_triplets.ensures.valid

pub returns-clause-kinds : goal.returns-clause-kinds
returns-clause-kinds g c =
    let (run, from, whole, (rows, cols, values)) = c.in_ok-row_indices.ensures in
    IfErr-weaker c.try_from_triplets.result _ _
    (λ e fault. inr (fault_outside c.args.nrows c.args.ncols _ _ _ run.items e rows cols values
    fault).0) c.try_from_triplets.ensures.fault

pub returns-clause-outside : goal.returns-clause-outside
returns-clause-outside g c =
    let (run, from, whole, (rows, cols, values)) = c.in_ok-row_indices.ensures in
    IfErr-weaker c.try_from_triplets.result _ _
    (λ e fault _. (
      run,
      from,
      whole,
      (fault_outside c.args.nrows c.args.ncols _ _ _ run.items e rows cols values
          fault).1,
    )) c.try_from_triplets.ensures.fault
