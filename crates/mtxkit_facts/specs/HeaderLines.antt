-- The lines of `mtxkit info` for the header and the sizes of a text.
use Rattle.std.specs.Prelude.{ℕ, List, [], ◌++◌, codes, Option, Some, None}
use Rattle.sparse_parser.specs.declared.header.Header.{Header}
use Rattle.mtxkit_matrices.specs.FactLines.{line, count_line}
use Rattle.mtxkit_matrices.specs.HeaderWords.{format_name, field_name, symmetry_name}

-- ---- the header

abbrev pub header_lines : Option Header → List ℕ
header_lines None = []
header_lines (Some h) = line (codes "format") (format_name h.format)
    ++ (line (codes "field") (field_name h.field)
    ++ line (codes "symmetry") (symmetry_name h.symmetry))

-- ---- the sizes

abbrev pub size_lines : ℕ → ℕ → ℕ → List ℕ
size_lines nrows ncols entries = count_line (codes "rows") nrows
    ++ (count_line (codes "columns") ncols ++ count_line (codes "entries") entries)
