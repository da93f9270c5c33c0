use Rattle.std.proofs.Common.{map, take, string_bytes}
use Rattle.mtxkit_eval.specs.Evaluated.{AllMeanWhole}
use Rattle.mtxkit_eval.proofs.texts.load_all.Given as goal

abbrev pub invariant-loop-index : goal.invariant-loop-index
invariant-loop-index l = AllMeanWhole (map string_bytes (take l.index l.texts)) l.matrices.items
