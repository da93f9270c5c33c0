use Rattle.std.proofs.Common.{◌≡◌, ℕ, List, ◌++◌, length}
use Rattle.std.specs.Io.KnownBytes.{Appends}
use Rattle.sparse_io.proofs.sinks.write_all_to.Given as goal

abbrev pub invariant-loop-rest : goal.invariant-loop-rest
invariant-loop-rest g l =
    (g.W.Sink.failures l.sink ≡ g.W.Sink.failures l.initial.sink)
    × ((done : List ℕ) × (l.bytes ≡ done ++ l.rest) × Appends (g.W.Sink.accepted l.initial.sink)
    (g.W.Sink.accepted l.sink) done)

abbrev pub decreases-loop-rest : goal.decreases-loop-rest
decreases-loop-rest g l = length l.rest
