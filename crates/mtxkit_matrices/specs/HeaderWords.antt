-- The words of headers.
use Rattle.std.specs.Prelude.{ℕ, List, codes}
use Rattle.sparse_parser.specs.declared.header.Field.{Field}
use Rattle.sparse_parser.specs.declared.header.Field.TheVariants.{Real, Complex, Integer, Pattern}
use Rattle.sparse_parser.specs.declared.header.Format.{Format}
use Rattle.sparse_parser.specs.declared.header.Format.TheVariants.{Coordinate, Array}
use Rattle.sparse_parser.specs.declared.header.Symmetry.{Symmetry}
use Rattle.sparse_parser.specs.declared.header.Symmetry.TheVariants.{General, Symmetric}
use Rattle.sparse_parser.specs.declared.header.Symmetry.TheVariants.{SkewSymmetric, Hermitian}

abbrev pub format_name : Format → List ℕ
format_name Coordinate = codes "coordinate"
format_name Array = codes "array"

abbrev pub field_name : Field → List ℕ
field_name Real = codes "real"
field_name Complex = codes "complex"
field_name Integer = codes "integer"
field_name Pattern = codes "pattern"

abbrev pub symmetry_name : Symmetry → List ℕ
symmetry_name General = codes "general"
symmetry_name Symmetric = codes "symmetric"
symmetry_name SkewSymmetric = codes "skew-symmetric"
symmetry_name Hermitian = codes "hermitian"
