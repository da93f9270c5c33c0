use Rattle.std.proofs.lemmas.Grind.{common_steps}
use Rattle.std.proofs.Common.{ap, arith}
use Rattle.sparse_coo_dense.specs.Coo.{coo_of}
use Rattle.sparse_coo_dense.proofs.TripletLists.{triplets-push}
use Rattle.sparse_coo_dense.proofs.coo.append.CooAppender.push.Goals as goal

pub returns-clause-pushed : goal.returns-clause-pushed
returns-clause-pushed g c =
    let m = c.self.inside in
    let parts = c.self.invariant.0 in
    let more = triplets-push m.row_indices.items m.col_indices.items m.values.items c.args.i
    c.args.j c.args.v parts.row_count parts.col_count in
    rw (
      ← c.self.view_is,
      c.push_reserved.ensures.items,
      c.push_reserved-2.ensures.items,
      c.push_reserved-3.ensures.items,
    )
    (ap (coo_of m.nrows m.ncols) more)

-- ---- written by tools/answer-goals

pub invariant_of-self : goal.invariant_of-self
invariant_of-self g c = grind (arith, common_steps)
