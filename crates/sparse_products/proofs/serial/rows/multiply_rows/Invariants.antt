use Rattle.std.proofs.Common.{◌≡◌, ℕ, get_or, vec_len}
use Rattle.sparse_products.specs.InnerIndexSets.{IsEmptyIndexSet}
use Rattle.sparse_products.proofs.ProductRows.{IsMultipliedBelow}
use Rattle.sparse_products.proofs.serial.rows.multiply_rows.Given as goal

abbrev pub invariant-loop-i : goal.invariant-loop-i
invariant-loop-i g l =
    let R = g.T.Ring.ring in
    let f = g.T.Ring.value in
    record {
      empty : IsEmptyIndexSet l.matrices.b.now.pattern.minor_dim l.set;
      width : vec_len l.row ≡ l.matrices.b.now.pattern.minor_dim;
      zero : (j : ℕ) → f (get_or l.row.items j g.T.Zero.zero_value) ≡ R.zero;
      built : IsMultipliedBelow R f l.matrices.a.now l.matrices.b.now l.i l.rows.offsets.items
          l.rows.indices.items l.rows.values.items;
    }
