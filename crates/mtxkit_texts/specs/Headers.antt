-- The headers of texts.
use Rattle.std.specs.Prelude.{ℕ, List, Option, Some, None, Bool, true, false}
use Rattle.sparse_parser.specs.Bytes.{after, leading}
use Rattle.sparse_parser.specs.Header.{header_of}
use Rattle.sparse_parser.specs.InnerBytes.{is_space, is_within_line}
use Rattle.sparse_parser.specs.InnerReading.{words_of}
use Rattle.sparse_parser.specs.declared.header.Field.{Field}
use Rattle.sparse_parser.specs.declared.header.Field.TheVariants.{Real, Complex, Integer, Pattern}
use Rattle.sparse_parser.specs.declared.header.Header.{Header}
use Rattle.sparse_parser.specs.declared.header.Symmetry.{Symmetry}
use Rattle.sparse_parser.specs.declared.header.Symmetry.TheVariants.{General, Symmetric}
use Rattle.sparse_parser.specs.declared.header.Symmetry.TheVariants.{SkewSymmetric, Hermitian}

-- the header of a text: its first line that is not blank, if that is a header
abbrev pub header_in : List ℕ → Option Header
header_in text = header_of (words_of (leading is_within_line (after is_space text)))

-- the symmetry implies further entries
abbrev pub is_mirrored : Symmetry → Bool
is_mirrored General = false
is_mirrored Symmetric = true
is_mirrored SkewSymmetric = true
is_mirrored Hermitian = true

-- `mtxkit` reads the values of the field: integers, or none
abbrev pub is_supported_field : Field → Bool
is_supported_field Real = false
is_supported_field Complex = false
is_supported_field Integer = true
is_supported_field Pattern = true

-- the header names a field whose values `mtxkit` reads, or there is no header
abbrev pub is_supported : Option Header → Bool
is_supported None = true
is_supported (Some h) = is_supported_field h.field

-- the field is `pattern`
abbrev pub is_pattern_field : Field → Bool
is_pattern_field Real = false
is_pattern_field Complex = false
is_pattern_field Integer = false
is_pattern_field Pattern = true

-- there is a header, and it names the field `pattern`
abbrev pub is_pattern : Option Header → Bool
is_pattern None = false
is_pattern (Some h) = is_pattern_field h.field
