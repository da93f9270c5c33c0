use Rattle.std.proofs.Common.{map, ap, ◌∙◌}
use Rattle.sparse_algebra.specs.Integers.{element_of}
use Rattle.sparse_compressed.specs.Compressed.{compressed_of}
use Rattle.sparse_compressed.specs.PlainOfLanes.{plain_of_rows}
use Rattle.c_arrays.proofs.Meanings.{rows-meant}
use Rattle.c_arrays.specs.Arrays.{plain_by_rows}
use Rattle.c_handles.proofs.ring_matrix.numbers_of.Goals as goal

pub returns : goal.returns
returns g c =
    let R = g.T.Ring.ring in
    let f = g.T.Ring.value in
    let parts = c.into_pattern_and_values-pattern.ensures in
    ap (plain_by_rows R) c.from_pattern_and_values_unchecked.ensures.is
    ∙ rows-meant R (element_of R) f c.into_pattern_and_values-pattern.result.0
    c.in_ok-numbers.numbers.items c.into_pattern_and_values-pattern.result.1.items
    (c.in_ok-numbers.ensures.values ∙ ap (map f) c.deref.ensures.value)
    ∙ (λ k. plain_of_rows R f (compressed_of (parts.pattern k) (parts.values k)))
