-- The matrix of the numbers, and that of the derivatives, of a matrix of dual numbers.
use Rattle.sparse_algebra.specs.Algebra.{CommRing}
use Rattle.sparse_algebra.specs.Plain.{Plain}
use Rattle.sparse_algebra.specs.RingMaps.{plain_map}
use Rattle.sparse_rings.specs.DualRing.{dual_ring}

module _ (R : CommRing) where
  abbrev pub plain_numbers : Plain (dual_ring R) → Plain R
  plain_numbers a = plain_map {S = R} (λ x. x.0) a

  -- the same places, with the derivative of each value
  abbrev pub plain_derivatives : Plain (dual_ring R) → Plain R
  plain_derivatives a = plain_map {S = R} (λ x. x.1) a
