use Rattle.std.proofs.Common.{refl, true, sym, ◌∙◌}
use Rattle.sparse_faults.proofs.LineWords.{index_is, within_pair}
use Rattle.sparse_faults.proofs.bounds.bounds_fault.Goals as goal

pub returns-in-Two : goal.returns-in-Two
returns-in-Two c =
    let n = rw c.in-Two.is at c.requires in
    rw c.in-Two.is
    (c.beyond_pair.ensures ∙ sym (within_pair c.args.size.rows c.args.size.cols _ _ _ _ _
    (index_is n.0 refl) (index_is n.1 refl)))

pub returns-in-Three : goal.returns-in-Three
returns-in-Three c =
    let n = rw c.in-Three.is at c.requires in
    rw c.in-Three.is
    (c.beyond.ensures ∙ sym (within_pair c.args.size.rows c.args.size.cols _ _ _ true true
    (index_is n.0 n.3) (index_is n.1 n.4)))

pub returns-in-Four : goal.returns-in-Four
returns-in-Four c =
    let n = rw c.in-Four.is at c.requires in
    rw c.in-Four.is
    (c.beyond-in-Four.ensures ∙ sym (within_pair c.args.size.rows c.args.size.cols _ _ _ true true
    (index_is n.0 n.4) (index_is n.1 n.5)))
