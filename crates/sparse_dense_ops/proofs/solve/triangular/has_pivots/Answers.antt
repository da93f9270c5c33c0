use Rattle.std.proofs.Common.{inl, inr, ap, sym, subst, arith}
use Rattle.sparse_algebra.proofs.Cases.{lt_add_one_cases}
use Rattle.sparse_pattern.specs.Raw.{Raw}
use Rattle.sparse_compressed.specs.PlainOfLanes.{plain_of_cols}
use Rattle.sparse_dense_ops.specs.Solutions.{HasPivot}
use Rattle.sparse_dense_ops.proofs.solve.triangular.has_pivots.Goals as goal

pub loop-k-preserved : goal.loop-k-preserved
loop-k-preserved g c = λ k lt. elim (lt_add_one_cases k c.loop-k.k lt) [
  | inl before ↦ c.loop-k.invariant k before
  | inr here ↦
      let column = c.in-Some.ensures.some in
      subst (HasPivot g.T.Ring.ring g.T.Ring.value
      (plain_of_cols g.T.Ring.ring g.T.Ring.value c.args.l.now)) (sym here)
      (column.stored, (c.in-Some._column.inverse, column.inverts))
]

pub returns-clause-cases : goal.returns-clause-cases
returns-clause-cases g c = λ k lt. c.loop-k.invariant k
    (omega (
      arith,
      lt,
      c.loop-k-test.false,
      c.requires.square,
      c.major_dim-count.ensures,
      ap (λ (d : Raw). d.major_dim) c.pattern.ensures.pattern,
    ))
