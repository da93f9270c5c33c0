use Rattle.std.proofs.Common.{rules, arith}
use Rattle.std.proofs.lemmas.Nat.{mul-add-lt}
use Rattle.sparse_coo_dense.proofs.DenseLemmas.{set_values}
use Rattle.sparse_coo_dense.specs.Dense.{dense_of}
use Rattle.sparse_coo_dense.proofs.dense.DMatrix.set.Goals as goal

pub returns-clause-values : goal.returns-clause-values
returns-clause-values g c =
    let m = c.self.inside in
    rw (← c.self.view_is) (set_values (dense_of m.nrows m.ncols m.values.items) c.args.i c.args.j
    c.args.value c.self.invariant (rw (← c.self.view_is) at c.requires.row)
    (rw (← c.self.view_is) at c.requires.col))

pub overflow_mul-j : goal.overflow_mul-j
overflow_mul-j g c =
    let m = c.self.inside in
    let place = mul-add-lt c.args.j m.nrows c.args.i m.ncols
    (rw (← c.self.view_is) at c.requires.col) (rw (← c.self.view_is) at c.requires.row) in
    omega (arith, place, c.self.invariant)

pub overflow_add-j : goal.overflow_add-j
overflow_add-j g c =
    let m = c.self.inside in
    let place = mul-add-lt c.args.j m.nrows c.args.i m.ncols
    (rw (← c.self.view_is) at c.requires.col) (rw (← c.self.view_is) at c.requires.row) in
    omega (arith, place, c.self.invariant)

pub index_mut-requires : goal.index_mut-requires
index_mut-requires g c =
    let m = c.self.inside in
    let place = mul-add-lt c.args.j m.nrows c.args.i m.ncols
    (rw (← c.self.view_is) at c.requires.col) (rw (← c.self.view_is) at c.requires.row) in
    omega (arith, place, c.self.invariant)

-- ---- written by tools/answer-goals

pub returns-clause-exact : goal.returns-clause-exact
returns-clause-exact g c = search rules
