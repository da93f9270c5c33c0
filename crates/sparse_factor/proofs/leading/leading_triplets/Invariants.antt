use Rattle.sparse_factor.specs.InnerLeadingBlocks.{IsLeadingWithout}
use Rattle.sparse_factor.proofs.leading.leading_triplets.Given as goal

abbrev pub invariant-loop-row : goal.invariant-loop-row
invariant-loop-row g l = IsLeadingWithout l.size l.a.triplets l.row-iterator l.list
