use Rattle.std.proofs.Common.{rules, subst}
use Rattle.sparse_pattern.specs.Raw.{IsValid}
use Rattle.sparse_pattern.proofs.SameEntries.{raw_eq-HasSameEntries}
use Rattle.sparse_pattern.proofs.pattern.SparsityPatternPartialEq.eq.Goals as goal

pub returns-then-eq-clause-value : goal.returns-then-eq-clause-value
returns-then-eq-clause-value c = search rules

pub returns-then-eq-clause-entries : goal.returns-then-eq-clause-entries
returns-then-eq-clause-entries c =
    raw_eq-HasSameEntries _ _ (subst IsValid c.self.view_is c.self.invariant)
    (subst IsValid c.other.view_is c.other.invariant) _ (returns-then-eq-clause-value c)

pub returns-else-eq-clause-value : goal.returns-else-eq-clause-value
returns-else-eq-clause-value c = search rules

pub returns-else-eq-clause-entries : goal.returns-else-eq-clause-entries
returns-else-eq-clause-entries c =
    raw_eq-HasSameEntries _ _ (subst IsValid c.self.view_is c.self.invariant)
    (subst IsValid c.other.view_is c.other.invariant) _ (returns-else-eq-clause-value c)
