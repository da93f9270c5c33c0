use Rattle.std.proofs.Common.{◌-◌, length, vec_len}
use Rattle.reference_models.proofs.Closures.{all_pairs_below, bound_of, IsPartOfFill}
use Rattle.reference_models.proofs.fill.fill_by_pairs.Given as goal

abbrev pub invariant-loop-pair : goal.invariant-loop-pair
invariant-loop-pair l = IsPartOfFill l.triangle l.pattern l.set.items

abbrev pub decreases-loop-pair : goal.decreases-loop-pair
decreases-loop-pair l = length (all_pairs_below (bound_of l.pattern)) - vec_len l.set
