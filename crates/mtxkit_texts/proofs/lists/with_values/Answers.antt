use Rattle.std.proofs.Common.{map, ap, sym, ◌∙◌}
use Rattle.std.proofs.lemmas.Bool.{false≢true}
use Rattle.sparse_coo_dense.specs.Coo.{Coo}
use Rattle.sparse_coo_dense.proofs.TripletLists.{values_back}
use Rattle.mtxkit_texts.proofs.Revalued.{parts-revalued}
use Rattle.mtxkit_texts.proofs.lists.with_values.Goals as goal

pub unreachable-requires : goal.unreachable-requires
unreachable-requires g c =
    absurd (false≢true (c.in-Err.ensures.accepted
    (rw (
      c.nrows.ensures,
      c.ncols.ensures,
      c.in_ok-rows.ensures.items,
      c.row_indices.ensures.rows,
      c.in_ok-cols.ensures.items,
      c.col_indices.ensures.cols,
    ) (parts-revalued c.args.list.now c.args.values.items c.requires
    c.row_indices.ensures.inside))))

pub returns-clause-values : goal.returns-clause-values
returns-clause-values g c =
    ap (λ (m : Coo g.row.T.Denot). map (λ t. t.2) m.triplets) c.in-Ok.ensures.ok
    ∙ sym (values_back c.in-Ok.ensures.valid)
