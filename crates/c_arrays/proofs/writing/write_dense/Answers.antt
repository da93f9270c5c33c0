use Rattle.std.proofs.Common.{◌≡◌, length, map, take, ap, sym, subst, ◌∙◌, arith}
use Rattle.sparse_algebra.specs.Integers.{element_of}
use Rattle.c_arrays.proofs.Holding.{HoldsDense-put}
use Rattle.c_arrays.proofs.writing.write_dense.Goals as goal

pub returns-clause-written : goal.returns-clause-written
returns-clause-written g c =
    let R = g.T.Ring.ring in
    let f = g.T.Ring.value in
    let vs = c.put_scalars.new.target in
    let d = c.args.matrix.now in
    let is = c.as_slice-source.ensures.values in
    λ _. HoldsDense-put R f d (ap length (sym is) ∙ c.as_slice-source.ensures.count) vs
    (omega (arith, ap length is))
    (subst (λ xs. map (element_of R) (take (length xs) vs) ≡ map f xs) is
    c.put_scalars.ensures.written)
