use Rattle.std.proofs.Common.{ap, sym, ◌∙◌}
use Rattle.c_handles.proofs.HeldFactors.{SolvesInPlace-factors}
use Rattle.c_handles.specs.Factored.{size_in}
use Rattle.c_handles.proofs.factoring.solve_factored.Goals as goal

pub returns-clause-solved : goal.returns-clause-solved
returns-clause-solved c =
    let size = c.size.ensures ∙ ap size_in (c.deref.ensures ∙ sym c.deref-2.ensures) in
    let b = c.in_ok-x.ensures in
    let x = c.in_ok-solve_mut.ensures in
    SolvesInPlace-factors c.args.handle.now.value _ c.deref-2.result.now c.in_ok-factors.ensures.value
    c.deref-2.ensures c.in_ok-x.x c.solve_mut.new.b c.size.result c.args.cols c.args.values.now
    c.put_dense.new.values size b.rows b.cols b.sized b.plain x.rows x.cols x.solved
    c.put_dense.ensures
