use Rattle.sparse_algebra.specs.Numbers.{w64_number}
use Rattle.c_arrays.proofs.Listing.{HoldsList-put}
use Rattle.c_arrays.proofs.lists.write_list.Goals as goal

pub returns-clause-written : goal.returns-clause-written
returns-clause-written c = λ _. HoldsList-put w64_number c.args.list.now c.put_items.new.target
    c.put_items-2.new.target c.put_numbers.new.target c.nnz-triplets.result c.row_indices.result.now
    c.col_indices.result.now c.values.result.now c.row_indices.ensures.rows
    c.col_indices.ensures.cols c.values.ensures c.put_items.ensures.written
    c.put_items-2.ensures.written c.put_numbers.ensures.written c.nnz-triplets.ensures
