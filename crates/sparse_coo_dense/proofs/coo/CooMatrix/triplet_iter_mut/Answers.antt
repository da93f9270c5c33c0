use Rattle.std.proofs.lemmas.Grind.{common_steps}
use Rattle.std.proofs.Common.{refl, arith}
use Rattle.sparse_coo_dense.specs.Coo.{zip_triplets}
use Rattle.sparse_coo_dense.proofs.TripletLists.{parts_inside, rows_back, cols_back, values_back}
use Rattle.sparse_coo_dense.proofs.coo.CooMatrix.triplet_iter_mut.Goals as goal

pub returns : goal.returns
returns g c =
    let m = c.self.inside in
    let parts = c.self.invariant in (
      (
        refl,
        λ w. rw (
          ← c.self.view_is,
          ← rows_back parts,
          ← cols_back parts,
          ← values_back parts,
          m.values.ok.0,
        ) refl,
      ),
      record {
        writes_back = tt;
        all = rw (
          ← c.self.view_is,
          c.deref.ensures.value,
          c.deref-2.ensures.value,
          c.deref_mut.ensures.value,
        )
            (refl {a = zip_triplets m.row_indices.items m.col_indices.items m.values.items});
        inside = rw (← c.self.view_is) (parts_inside parts);
      },
    )

-- ---- written by tools/answer-goals

pub invariant_of-self-lent : goal.invariant_of-self-lent
invariant_of-self-lent g c = grind (arith, common_steps)
