use Rattle.std.proofs.Common.{rules}
use Rattle.sparse_compressed.specs.Compressed.{transposed}
use Rattle.sparse_compressed.specs.Filter.{Answers}
use Rattle.sparse_compressed.proofs.Kept.{IsKept-map, filter_from_kept}
use Rattle.sparse_csr_csc.proofs.csc.CscMatrix.filter.Goals as goal

pub returns-clause-kept : goal.returns-clause-kept
returns-clause-kept g c = rw (← c.cs.ensures.core)
    (IsKept-map _ (Answers g.P.Fn c.args.predicate) transposed
    (λ t b a. record { shown = a.shown; shows = a.shows; says = record { met = search rules } }) _ _
    c.in_ok-filter.ensures.kept)

pub returns-clause-tested : goal.returns-clause-tested
returns-clause-tested g c = λ test says. filter_from_kept _ test says _ _ (returns-clause-kept g c)
