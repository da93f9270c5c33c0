use Rattle.sparse_io.proofs.files.load_read.Goals as goal

pub returns-in-Ok-clause-refused : goal.returns-in-Ok-clause-refused
returns-in-Ok-clause-refused g c =
    rw c.in-Ok.is
    (rw c.as_str.ensures.value at c.load_coo_from_matrix_market_str.ensures.refused)
