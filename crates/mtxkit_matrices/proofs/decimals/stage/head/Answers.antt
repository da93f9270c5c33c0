use Rattle.std.proofs.Common.{refl}
use Rattle.sparse_parser.specs.declared.header.Format.TheVariants.{Coordinate, Array}
use Rattle.sparse_parser.specs.declared.header.Symmetry.TheVariants.{General, Symmetric}
use Rattle.sparse_parser.specs.declared.header.Symmetry.TheVariants.{SkewSymmetric}
use Rattle.sparse_parser.specs.Header.{says, format_of, field_of, symmetry_of, fields_of, header_of}
use Rattle.sparse_parser.specs.InnerReading.{words_of}
use Rattle.mtxkit_matrices.proofs.HeaderLines.{head_at}
use Rattle.mtxkit_matrices.proofs.decimals.stage.head.Goals as goal

pub returns-in-Coordinate-General : goal.returns-in-Coordinate-General
unfolding words_of header_of says format_of field_of symmetry_of fields_of
returns-in-Coordinate-General c =
    head_at Coordinate General _ refl refl refl refl c.in-Coordinate-General.is-0
    c.in-Coordinate-General.is-1

pub returns-in-Coordinate-Symmetric : goal.returns-in-Coordinate-Symmetric
unfolding words_of header_of says format_of field_of symmetry_of fields_of
returns-in-Coordinate-Symmetric c =
    head_at Coordinate Symmetric _ refl refl refl refl c.in-Coordinate-Symmetric.is-0
    c.in-Coordinate-Symmetric.is-1

pub returns-in-Coordinate-SkewSymmetric : goal.returns-in-Coordinate-SkewSymmetric
unfolding words_of header_of says format_of field_of symmetry_of fields_of
returns-in-Coordinate-SkewSymmetric c =
    head_at Coordinate SkewSymmetric _ refl refl refl refl c.in-Coordinate-SkewSymmetric.is-0
    c.in-Coordinate-SkewSymmetric.is-1

pub returns-in-Array-General : goal.returns-in-Array-General
unfolding words_of header_of says format_of field_of symmetry_of fields_of
returns-in-Array-General c =
    head_at Array General _ refl refl refl refl c.in-Array-General.is-0
    c.in-Array-General.is-1

pub returns-in-Array-Symmetric : goal.returns-in-Array-Symmetric
unfolding words_of header_of says format_of field_of symmetry_of fields_of
returns-in-Array-Symmetric c =
    head_at Array Symmetric _ refl refl refl refl c.in-Array-Symmetric.is-0
    c.in-Array-Symmetric.is-1

pub returns-in-Array-SkewSymmetric : goal.returns-in-Array-SkewSymmetric
unfolding words_of header_of says format_of field_of symmetry_of fields_of
returns-in-Array-SkewSymmetric c =
    head_at Array SkewSymmetric _ refl refl refl refl c.in-Array-SkewSymmetric.is-0
    c.in-Array-SkewSymmetric.is-1
