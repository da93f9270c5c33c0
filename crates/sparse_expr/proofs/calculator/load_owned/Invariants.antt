use Rattle.std.proofs.Common.{map, string_bytes}
use Rattle.std.specs.Vec.Iter.{into_iter_items}
use Rattle.sparse_expr.specs.InnerRun.{numbers_of, IsLoadedBefore}
use Rattle.sparse_expr.proofs.calculator.load_owned.Given as goal

abbrev pub invariant-loop-text : goal.invariant-loop-text
invariant-loop-text l = IsLoadedBefore (map string_bytes l.fn.sources.items)
    (map string_bytes (into_iter_items l.text-iterator)) (map numbers_of l.inputs.items)
