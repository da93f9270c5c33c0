use Rattle.std.proofs.Common.{◌≡◌, rules, refl, to_z, of_z}
use Rattle.std.specs.Int.{w32}
use Rattle.sparse_c.specs.Systems.{IsSolved}
use Rattle.sparse_c.proofs.ValidOperands.{equation_sound}
use Rattle.sparse_c.proofs.Solving.{numbers_answered}
use Rattle.sparse_c.proofs.systems.SystemCallNumbers.run.Goals as goal

pub returns : goal.returns
returns g c =
    let status = c.finish_dense.result in
    let same : to_z w32 (of_z w32 status) ≡ status = search rules in
    let R = g.T.Ring.ring in
    let f = g.T.Ring.value in
    let s = c.args.self in
    let ensured = c.solution.ensures in
    let ended = c.finish_dense.ensures in
    numbers_answered c.solution.result s.size s.cols ensured.rows ensured.cols R f (IsSolved R f s)
    ensured.solved _ _ status _ same refl ensured.sound ensured.fault
    (equation_sound R f s.equation s.matrix s.size s.cols s.b.now) ended.written ended.shown
    ended.rest ended.untouched ended.refused
