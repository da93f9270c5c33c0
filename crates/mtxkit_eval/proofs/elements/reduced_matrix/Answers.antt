use Rattle.std.proofs.Common.{map, ap, ◌∙◌}
use Rattle.sparse_algebra.specs.Integers.{element_of}
use Rattle.sparse_algebra.specs.Whole.{whole_ring}
use Rattle.sparse_algebra.specs.WrappingValues.{w128_number}
use Rattle.sparse_compressed.specs.Compressed.{compressed_of, zip_values}
use Rattle.sparse_pattern.specs.Raw.{entries_of}
use Rattle.mtxkit_eval.specs.Values.{exact_of, image_in}
use Rattle.mtxkit_eval.proofs.IntegerImages.{image-IsRingMap}
use Rattle.sparse_algebra.proofs.RingMapLemmas.{map-triplets}
use Rattle.mtxkit_eval.proofs.SameTriplets.{same-triplets}
use Rattle.mtxkit_eval.proofs.elements.reduced_matrix.Goals as goal

pub returns-clause-images : goal.returns-clause-images
returns-clause-images g c =
    let R = g.T.Ring.ring in
    let value = g.T.Ring.value in
    let m = c.args.matrix in
    let integers = c.in_ok-integers.integers.items in
    let parts = c.into_pattern_and_values-pattern.ensures in
    let places = entries_of m.pattern in
    ap (λ x. image_in R (exact_of x))
    (c.in-Ok.ensures.ok ∙ ap (λ p. compressed_of p integers) parts.pattern)
    ∙ map-triplets whole_ring R (element_of R) (image-IsRingMap R) w128_number m.pattern.major_dim
    m.pattern.minor_dim (zip_values places integers)
    ∙ same-triplets R (λ v. element_of R (w128_number v)) value m.pattern.major_dim
    m.pattern.minor_dim places integers m.values
    (c.in_ok-integers.ensures.images ∙ ap (map value) (c.deref.ensures.value ∙ parts.values))
