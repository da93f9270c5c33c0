use Rattle.std.proofs.Common.{length}
use Rattle.sparse_faults.specs.InnerFirstFaults.{ArePassed}
use Rattle.sparse_faults.proofs.locations.first_fault.Given as goal

abbrev pub invariant-loop-found : goal.invariant-loop-found
invariant-loop-found l = ArePassed l.search l.text l.first l.count l.number l.rest

abbrev pub decreases-loop-found : goal.decreases-loop-found
decreases-loop-found l = length l.rest
