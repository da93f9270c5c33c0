use Rattle.std.proofs.Common.{arith, subst}
use Rattle.std.proofs.lemmas.Grind.{common_steps}
use Rattle.sparse_pattern.specs.Raw.{IsValid}
use Rattle.sparse_pattern.proofs.LaneOrder.{length-entries, Contains-entries_of}
use Rattle.sparse_pattern.proofs.EntryOrder.{entries_rise}
use Rattle.sparse_pattern.proofs.pattern.SparsityPattern.entries.Goals as goal

pub returns-clause-all : goal.returns-clause-all
returns-clause-all c = grind (arith, common_steps)

pub returns-clause-count : goal.returns-clause-count
returns-clause-count c = rw (returns-clause-all c)
    (length-entries c.args.self.now (subst IsValid c.self.view_is c.self.invariant))

pub returns-clause-entries : goal.returns-clause-entries
returns-clause-entries c i j = rw (returns-clause-all c)
    (Contains-entries_of c.args.self.now (subst IsValid c.self.view_is c.self.invariant) i j)

pub returns-clause-rising : goal.returns-clause-rising
returns-clause-rising c = rw (returns-clause-all c)
    (entries_rise c.args.self.now (subst IsValid c.self.view_is c.self.invariant))
