use Rattle.std.proofs.Common.{take, map}
use Rattle.sparse_expr.specs.InnerRun.{numbers_of}
use Rattle.sparse_expr.specs.PostfixWords.{texts}
use Rattle.sparse_expr.specs.Run.{AllMean}
use Rattle.sparse_expr.proofs.calculator.load_all.Given as goal

abbrev pub invariant-loop-index : goal.invariant-loop-index
invariant-loop-index l = AllMean (take l.index (texts l.sources)) (map numbers_of l.inputs.items)
