use Rattle.std.proofs.lemmas.Grind.{common_steps}
use Rattle.std.proofs.Common.{rules, arith}
use Rattle.sparse_coo_dense.proofs.DenseLemmas.{columns_within, columns_read}
use Rattle.sparse_coo_dense.proofs.dense.DMatrix.columns_mut.Goals as goal

pub overflow_mul-start : goal.overflow_mul-start
overflow_mul-start g c =
    let m = c.self.inside in
    let within = columns_within m.nrows c.args.first c.args.count m.ncols
    (rw (← c.self.view_is) at c.requires) in
    omega (arith, within, c.self.invariant)

pub overflow_mul-count : goal.overflow_mul-count
overflow_mul-count g c =
    let m = c.self.inside in
    let within = columns_within m.nrows c.args.first c.args.count m.ncols
    (rw (← c.self.view_is) at c.requires) in
    omega (arith, within, c.self.invariant)

pub overflow_add-start : goal.overflow_add-start
overflow_add-start g c =
    let m = c.self.inside in
    let within = columns_within m.nrows c.args.first c.args.count m.ncols
    (rw (← c.self.view_is) at c.requires) in
    omega (arith, within, c.self.invariant)

pub slice_mut-requires-clause-start_le_end : goal.slice_mut-requires-clause-start_le_end
slice_mut-requires-clause-start_le_end g c = omega arith

pub slice_mut-requires-clause-in_bounds : goal.slice_mut-requires-clause-in_bounds
slice_mut-requires-clause-in_bounds g c =
    let m = c.self.inside in
    let within = columns_within m.nrows c.args.first c.args.count m.ncols
    (rw (← c.self.view_is) at c.requires) in
    omega (arith, within, c.self.invariant)

pub returns : goal.returns
returns g c =
    let m = c.self.inside in
    let within = columns_within m.nrows c.args.first c.args.count m.ncols
    (rw (← c.self.view_is) at c.requires) in (
      search rules,
      record {
        writes_back = tt;
        exact = rw (← c.self.view_is) c.slice_mut.ensures.value;
        rows = search rules;
        values = λ i j z row col. rw (← c.self.view_is, c.slice_mut.ensures.value)
            (columns_read m.values.items m.nrows c.args.first c.args.count i j z
            (rw (← c.self.view_is) at row) col (omega (arith, within, c.self.invariant)));
      },
    )

-- ---- written by tools/answer-goals

pub invariant_of-self-lent : goal.invariant_of-self-lent
invariant_of-self-lent g c = grind (arith, common_steps)
