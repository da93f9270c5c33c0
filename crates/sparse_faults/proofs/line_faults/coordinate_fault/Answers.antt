use Rattle.std.proofs.Common.{refl, sym, ◌∙◌}
use Rattle.sparse_faults.proofs.LineTriplets.{pattern_line, integer_line, real_line, complex_line}
use Rattle.sparse_faults.proofs.LineWords.{index_is}
use Rattle.sparse_faults.proofs.line_faults.coordinate_fault.Goals as goal

pub returns-in-Pattern-Two : goal.returns-in-Pattern-Two
returns-in-Pattern-Two c =
    let n = rw c.in-Pattern-Two.is-1 at c.requires.numbers in
    rw c.in-Pattern-Two.is-1
    (c.place_fault.ensures ∙ sym (pattern_line c.args.values c.args.header _ _ _ _
    (index_is n.0 refl) (index_is n.1 refl) c.requires.format c.in-Pattern-Two.is-0
    c.requires.allowed))

pub returns-in-Integer-Three : goal.returns-in-Integer-Three
returns-in-Integer-Three c =
    let n = rw c.in-Integer-Three.is-1 at c.requires.numbers in
    rw c.in-Integer-Three.is-1
    (c.entry_fault.ensures ∙ sym (integer_line c.args.values c.args.header _ _
    (index_is n.0 n.3) (index_is n.1 n.4) c.requires.format _ c.in-Integer-Three.is-0))

pub returns-in-Real-Three : goal.returns-in-Real-Three
returns-in-Real-Three c =
    let n = rw c.in-Real-Three.is-1 at c.requires.numbers in
    rw c.in-Real-Three.is-1
    (sym (real_line c.args.values c.args.header _ _ (index_is n.0 n.3) (index_is n.1 n.4)
    c.requires.format _ c.in-Real-Three.is-0))

pub returns-in-Complex-Four : goal.returns-in-Complex-Four
returns-in-Complex-Four c =
    let n = rw c.in-Complex-Four.is-1 at c.requires.numbers in
    rw c.in-Complex-Four.is-1
    (sym (complex_line c.args.values c.args.header _ _ (index_is n.0 n.4) (index_is n.1 n.5)
    c.requires.format _ _ c.in-Complex-Four.is-0))
