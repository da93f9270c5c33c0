-- The text of a pattern.
use Rattle.std.specs.Prelude.{ℕ, ◌+◌, List, [], ◌∷◌, ◌++◌, codes, length}
use Rattle.std.specs.List.{flat_map}
use Rattle.std.specs.Fmt.{decimal}
use Rattle.sparse_io.specs.Written.{heading_with, size_line}
use Rattle.sparse_io.specs.declared.banner.Banner.TheVariants.{MixedCase}
use Rattle.sparse_pattern.specs.Raw.{Raw, entries_of}

-- a row and a column, counted from 1, and a line end, without a blank before it
unfoldable pub entry_line : ℕ × ℕ → List ℕ
entry_line p = decimal (p.0 + 1) ++ (32 ∷ (decimal (p.1 + 1) ++ (10 ∷ [])))

-- the header, the comment below it, and the size line
abbrev pub pattern_head : Raw → List ℕ
pattern_head d = heading_with MixedCase (codes "pattern")
    ++ size_line d.major_dim d.minor_dim (length d.indices)

-- the text of a pattern, row by row
abbrev pub pattern_text : Raw → List ℕ
pattern_text d = pattern_head d ++ flat_map entry_line (entries_of d)
