use Rattle.std.proofs.Common.{◌≡◌, drop, max}
use Rattle.mtxkit_matrices.specs.LargestCounts.{largest}
use Rattle.mtxkit_matrices.proofs.pictures.picture.Picture.largest_count.Given as goal

abbrev pub invariant-loop-count : goal.invariant-loop-count
invariant-loop-count l = max l.most (largest (drop l.count-index l.self.counts)) ≡ largest l.self.counts
