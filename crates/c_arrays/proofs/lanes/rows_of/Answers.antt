use Rattle.std.proofs.Common.{ap, ◌∙◌}
use Rattle.sparse_compressed.specs.Compressed.{arrays_of}
use Rattle.sparse_compressed.specs.PlainOfLanes.{plain_of_rows}
use Rattle.sparse_pattern.specs.Raw.{raw_of}
use Rattle.sparse_algebra.specs.Integers.{element_of}
use Rattle.c_arrays.proofs.Meanings.{rows-meant}
use Rattle.c_arrays.proofs.lanes.rows_of.Goals as goal

pub returns-clause-plain : goal.returns-clause-plain
returns-clause-plain g c =
    let R = g.T.Ring.ring in
    let f = g.T.Ring.value in
    let os = c.in_ok-offsets.ensures.items_if_clones_equal (λ x y e. e) in
    let is = c.in_ok-indices.ensures.items_if_clones_equal (λ x y e. e) in
    let rows = c.args.shape.0 in
    let cols = c.args.shape.1 in
    let values = c.in_ok-values.values.items in
    ap (plain_of_rows R f) (c.in_ok-try_from_csr_data.ensures.ok
    ∙ (λ k. arrays_of rows cols (os k) (is k) values))
    ∙ rows-meant R f (element_of R) (raw_of rows cols c.args.offsets.now c.args.indices.now) values
    c.args.values.now c.in_ok-values.ensures
