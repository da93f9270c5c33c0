-- The types that values of texts are read as.
use Rattle.std.specs.Int.{w64, w128}
use Rattle.sparse_parser.specs.Scalars.{Scalar}
use Rattle.sparse_market_scalar.specs.ScalarTypes.{pattern_scalar, signed_scalar, wrapping_scalar}
use Rattle.sparse_faults.specs.declared.value_type.ValueType.{ValueType}
use Rattle.sparse_faults.specs.declared.value_type.ValueType.TheVariants.{Wide, Wrapping, Nothing}

-- the scalar type that values are read as
abbrev pub scalar_as : ValueType → Scalar
scalar_as Wide = signed_scalar w128
scalar_as Wrapping = wrapping_scalar w64
scalar_as Nothing = pattern_scalar
