use Rattle.reference_models.proofs.expressions.size.Goals as goal

pub returns-clause-within : goal.returns-clause-within
returns-clause-within g c =
    c.within_law.ensures.triplets c.args.list.now.nrows c.args.list.now.ncols
    c.args.list.now.triplets c.col_indices.ensures.inside
