use Rattle.std.proofs.Common.{refl, arith, ◌∙◌, ◌≡◌, ◌+◌, ◌*◌, ◌<◌}
use Rattle.std.proofs.Math.Nat.{add-mul}
use Rattle.std.proofs.lemmas.Nat.{mul-add-lt}
use Rattle.sparse_coo_dense.proofs.BlockLemmas.{none_pushed, one_pushed, column_pushed, all_pushed}
use Rattle.sparse_coo_dense.proofs.coo.push_matrix.push_block.Given.{Over}
use Rattle.sparse_coo_dense.proofs.coo.push_matrix.push_block.Goals.{In-loop-i}
use Rattle.sparse_coo_dense.proofs.coo.push_matrix.push_block.Goals as goal

-- the offset of row i of column j is in bounds
place : (g : Over) (c : In-loop-i g)
    → c.loop-j.j * c.args.matrix.now.nrows + c.loop-i.i < c.args.matrix.now.nrows
    * c.args.matrix.now.ncols
place g c =
    mul-add-lt c.loop-j.j c.args.matrix.now.nrows c.loop-i.i c.args.matrix.now.ncols
    (omega (arith, c.ncols-j-end.ensures)) (omega (arith, c.column-value-items.ensures.rows))

pub loop-j-init : goal.loop-j-init
loop-j-init g c = record {
  pushed = none_pushed c.requires.row_count c.requires.col_count;
  row_len = omega arith;
  col_len = omega arith;
  len = omega arith;
  row_room = refl;
  col_room = refl;
  room = refl;
}

pub loop-i-init : goal.loop-i-init
loop-i-init g c = record {
  pushed = c.loop-j.invariant.pushed;
  row_len = omega arith;
  col_len = omega arith;
  len = omega arith;
  row_room = refl;
  col_room = refl;
  room = refl;
}

pub loop-i-preserved : goal.loop-i-preserved
loop-i-preserved g c =
    let kept = c.loop-i.invariant in
    let inside : c.loop-i.i < c.args.matrix.now.nrows =
    omega (arith, c.column-value-items.ensures.rows) in
    let column : c.loop-j.j < c.args.matrix.now.ncols = omega (arith, c.ncols-j-end.ensures) in
    let value = c.value-item.is
    ∙ c.column-value-items.ensures.values c.loop-i.i c.value-item.result inside in
    record {
      pushed = rw (
        c.push_reserved.ensures.items,
        c.push_reserved-in-loop-i.ensures.items,
        c.push_reserved-in-loop-i-2.ensures.items,
      )
          (one_pushed c.requires.full inside column value kept.pushed);
      row_len = omega arith;
      col_len = omega arith;
      len = omega arith;
      row_room = omega arith;
      col_room = omega arith;
      room = omega arith;
    }

pub loop-j-preserved : goal.loop-j-preserved
loop-j-preserved g c =
    let d = c.args.matrix.now in
    let kept = c.loop-i.invariant in
    let whole : c.loop-i.i ≡ d.nrows = omega (arith, c.column-value-items.ensures.rows) in
    let next : (c.loop-j.j + 1) * d.nrows ≡ c.loop-j.j * d.nrows + d.nrows =
    omega (arith, add-mul c.loop-j.j 1 d.nrows) in
    record {
      pushed = column_pushed (rw whole at kept.pushed);
      row_len = omega arith;
      col_len = omega arith;
      len = omega arith;
      row_room = omega arith;
      col_room = omega arith;
      room = omega arith;
    }

pub returns-clause-triplets : goal.returns-clause-triplets
returns-clause-triplets g c =
    let whole : c.loop-j.j ≡ c.args.matrix.now.ncols = omega (arith, c.ncols-j-end.ensures) in
    all_pushed (rw whole at c.loop-j.invariant.pushed)

pub returns-clause-parts : goal.returns-clause-parts
returns-clause-parts g c = c.loop-j.invariant.pushed.parts

pub overflow_add-r : goal.overflow_add-r
overflow_add-r g c = omega (arith, c.column-value-items.ensures.rows)

pub overflow_add-c : goal.overflow_add-c
overflow_add-c g c = omega (arith, c.ncols-j-end.ensures)

pub push_reserved-requires : goal.push_reserved-requires
push_reserved-requires g c = omega (arith, place g (goal.at.push_reserved-requires g c).In-loop-i)

pub push_reserved-requires-in-loop-i : goal.push_reserved-requires-in-loop-i
push_reserved-requires-in-loop-i g c = omega
    (arith, place g (goal.at.push_reserved-requires-in-loop-i g c).In-loop-i)

pub push_reserved-requires-in-loop-i-2 : goal.push_reserved-requires-in-loop-i-2
push_reserved-requires-in-loop-i-2 g c = omega
    (arith, place g (goal.at.push_reserved-requires-in-loop-i-2 g c).In-loop-i)
