use Rattle.std.proofs.Common.{arith, ◌≡◌, ◌+◌, ◌*◌, ◌<◌, length}
use Rattle.std.proofs.lemmas.Grind.{common_steps}
use Rattle.std.proofs.Math.Nat.{mul_comm}
use Rattle.std.proofs.lemmas.Nat.{mul-add-lt}
use Rattle.sparse_coo_dense.proofs.DenseLemmas.{none_filled, filled_more, column_filled}
use Rattle.sparse_coo_dense.proofs.DenseLemmas.{all_filled, no_values}
use Rattle.sparse_coo_dense.proofs.dense.column_by_column.Given.{Over}
use Rattle.sparse_coo_dense.proofs.dense.column_by_column.Goals.{In-loop-i}
use Rattle.sparse_coo_dense.proofs.dense.column_by_column.Goals as goal

-- the offset of row i and column j in row-major order is in bounds
within : (g : Over) (c : In-loop-i g)
    → c.loop-i.i * c.args.ncols + c.loop-j.j < length c.args.rows.now
within g c = omega (
  arith,
  mul-add-lt c.loop-i.i c.args.ncols c.loop-j.j c.args.nrows c.loop-i-test.true c.loop-j-test.true,
  mul_comm c.args.ncols c.args.nrows,
)

pub loop-i-preserved : goal.loop-i-preserved
loop-i-preserved g c = rw c.in_ok-push.ensures.items
    (filled_more c.loop-i.invariant c.loop-i-test.true c.index-rows-i.is
    (within g (goal.at.loop-i-preserved g c).In-loop-i))

pub returns-then-is_empty : goal.returns-then-is_empty
returns-then-is_empty g c =
    let none : c.args.nrows * c.args.ncols ≡ 0 = grind (arith, common_steps) in
    rw c.in_ok-columns.ensures.items (no_values c.args.nrows c.args.ncols _ none)

pub loop-j-init : goal.loop-j-init
loop-j-init g c = rw c.in_ok-columns.ensures.items none_filled

pub loop-i-init : goal.loop-i-init
loop-i-init g c = c.loop-j.invariant

pub overflow_mul-i : goal.overflow_mul-i
overflow_mul-i g c = omega (arith, within g (goal.at.overflow_mul-i g c).In-loop-i)

pub overflow_add-i : goal.overflow_add-i
overflow_add-i g c = omega (arith, within g (goal.at.overflow_add-i g c).In-loop-i)

pub bounds-rows-i : goal.bounds-rows-i
bounds-rows-i g c = omega (arith, within g (goal.at.bounds-rows-i g c).In-loop-i)

pub loop-j-preserved : goal.loop-j-preserved
loop-j-preserved g c =
    let whole : c.loop-i.i ≡ c.args.nrows = omega arith in
    column_filled (rw whole at c.loop-i.invariant)

pub returns : goal.returns
returns g c =
    let whole : c.loop-j.j ≡ c.args.ncols = omega arith in
    all_filled (rw whole at c.loop-j.invariant)
